-- `read_full`: what a read put behind the bytes before it is what the input lost.
use Rattle.std.proofs.Common.{◌≡◌, ℕ, ◌+◌, ◌≤◌, List, ◌++◌, rules, length, take, drop, sym, ap, ◌∙◌, subst, le_refl, drop_at, length-take-le}
use Rattle.std.proofs.lemmas.Slice.{take-put_mid_below}
use Rattle.std.specs.Io.KnownBytes.{Consumes}
use Rattle.std.proofs.KnownBytes.{Consumes-trans}
use borrow.Rule.Slice.PartMut.{put_mid, post_of}
use lib.Seq.{take-add, take-append-le}
use Rattle.lines.proofs.input.read_full.Goals as goal

-- of a list in which a part was put at a place, the first elements, where they end in that part
taken : (n m k : ℕ) (text part : List ℕ) → n ≤ length text → m ≤ length part → take (n + m) (put_mid n k text part) ≡ take n text ++ take m part
taken n m k text part within fits =
    let after = post_of n k text in
    let behind = ap (take m) (drop_at (take n text) (part ++ after) n (length-take-le n text within)) ∙ take-append-le m part after fits in
    let whole = put_mid n k text part in
    take-add n m whole ∙ ap (λ s. s ++ take m (drop n whole)) (take-put_mid_below n k text part n (le_refl n) within) ∙ ap (λ s. take n text ++ s) behind

pub loop-n-preserved : goal.loop-n-preserved
loop-n-preserved g c =
    let was = c.loop-n.invariant in
    let read = c.in-Ok.ensures in
    let bytes = taken c.loop-n.n c.in-Ok.more _ c.loop-n.text c.read.new.buf was.0 read.bound.0 in
    (search rules, subst (Consumes _ _) (sym bytes) (Consumes-trans _ _ _ _ _ was.1 read.bytes.0))
