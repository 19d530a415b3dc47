-- The table of refusals (document 01, 'Numbers of refusal') as the lines that are printed.
use Rattle.std.specs.Prelude.{◌≡◌, refl, List, [], ◌∷◌, map}
use Prim.Native.String.{String}
use Rattle.text.specs.Bytes.{bytes}
use Rattle.lines.specs.declared.Refusal.{Refusal}
use Rattle.lines.specs.declared.Refusal.TheVariants as refusal
use Rattle.lines.specs.Refusals.{refused_line}
use Rattle.promises.specs.Case.{computing}

pub record RefusalRow : Type 0 where
  pub refused : Refusal
  pub line : String

abbrev table : List RefusalRow
table =
    record { refused = refusal.Form 3; line = "refused=1,3\n" }
    ∷ record { refused = refusal.Range 0; line = "refused=2,0\n" }
    ∷ record { refused = refusal.Pair 65535; line = "refused=3,65535\n" }
    ∷ record { refused = refusal.NoStrategy 8; line = "refused=4,8\n" }
    ∷ record { refused = refusal.Unsettled 1000; line = "refused=5,1000\n" }
    ∷ record { refused = refusal.Running; line = "refused=6,0\n" }
    ∷ record { refused = refusal.Idle; line = "refused=7,0\n" }
    ∷ record { refused = refusal.OutsideOffer; line = "refused=8,0\n" }
    ∷ record { refused = refusal.OutsideTimes; line = "refused=9,0\n" }
    ∷ record { refused = refusal.Over; line = "refused=10,0\n" }
    ∷ record { refused = refusal.EmptyOffer; line = "refused=11,0\n" }
    ∷ record { refused = refusal.NoRoom; line = "refused=12,0\n" }
    ∷ []

pub table-right : map (λ (t : RefusalRow). refused_line t.refused) table ≡ map (λ (t : RefusalRow). bytes t.line) table
unfolding computing
table-right = refl
