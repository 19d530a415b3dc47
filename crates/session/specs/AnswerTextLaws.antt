-- The laws of answers, printed.
-- A line is stored part by part: a key, window, job and time (`turn_text-stored`), an offer's two ends (`offer_line-stored`).

use Rattle.std.specs.Prelude.{ℕ, ◌≡◌, List, [], ◌∷◌, ◌++◌, ℤ, pos}
use Rattle.std.proofs.Common.{append_assoc}
use Rattle.text.specs.Bytes.{bytes}
use Rattle.text.specs.Lines.{LF, comma}
use Rattle.text.specs.Numbers.{decimal}
use Rattle.text.specs.NumberLaws.{decimal-pos}
use Rattle.text.specs.Lent.{Stored}
use Rattle.text.specs.LentLaws.{stored-append}
use Rattle.runs.specs.declared.Offer.{Offer}
use Rattle.session.specs.AnswerText.{turn_text, offer_line}

module _ {out out' out'' out''' : List ℕ} {at at' at'' at''' : ℕ} where
  pub turn_text-stored : {o : List ℕ} {k : ℕ} (key : List ℕ) (j i : ℕ) (t : ℤ) → Stored o k key out at
      → Stored out at (decimal (pos j) ++ (comma ∷ [])) out' at' → Stored out' at' (decimal (pos i) ++ (comma ∷ [])) out'' at''
      → Stored out'' at'' (decimal t ++ (LF ∷ [])) out''' at'''
      → Stored o k (key ++ turn_text j i t) out''' at'''
  turn_text-stored key j i t f p q r =
      let e : (decimal (pos j) ++ (comma ∷ [])) ++ ((decimal (pos i) ++ (comma ∷ [])) ++ (decimal t ++ (LF ∷ []))) ≡ turn_text j i t =
      simp (append_assoc, decimal-pos) in
      stored-append f (rw e at (stored-append p (stored-append q r)))

  pub offer_line-stored : (o : Offer)
      → Stored out at (bytes "offer=") out' at' → Stored out' at' (decimal o.from.0 ++ (comma ∷ [])) out'' at''
      → Stored out'' at'' (decimal o.to.0 ++ (LF ∷ [])) out''' at'''
      → Stored out at (offer_line o) out''' at'''
  offer_line-stored o p q r =
      let e : (decimal o.from.0 ++ (comma ∷ [])) ++ (decimal o.to.0 ++ (LF ∷ [])) ≡ decimal o.from.0 ++
      (comma ∷ (decimal o.to.0 ++ (LF ∷ []))) = simp append_assoc in
      stored-append p (rw e at (stored-append q r))
