-- What is known from a line `refused=N,D`: it has one number and one value, whatever follows it (`refused_line-same`, `refused_line-one`).
use Rattle.std.specs.Prelude.{ℕ, ◌≡◌, refl, false, List, [], ◌∷◌, ◌++◌, drop}
use Rattle.std.proofs.Common.{sym, ap, ◌∙◌, append_assoc, append-nil}
use Rattle.text.specs.Bytes.{bytes}
use Rattle.text.specs.Lines.{LF, comma, before, after}
use Rattle.text.specs.Numbers.{is_digit, digits, digits_value}
use Rattle.text.specs.LineLaws.{before_back, after-back}
use Rattle.text.specs.DigitLaws.{digits-all, digits-free, digits-back}
use Rattle.lines.specs.declared.Refusal.{Refusal}
use Rattle.lines.specs.Refusals.{number, value, refused_line}

-- what follows `refused=`, with what follows the line
abbrev after_refused : Refusal → List ℕ → List ℕ
after_refused x s = digits (number x) ++ (comma ∷ (digits (value x) ++ (LF ∷ s)))

refused_line-then : (x : Refusal) (s : List ℕ) → refused_line x ++ s ≡ bytes "refused=" ++ after_refused x s
unfolding refused_line
refused_line-then x s = simp append_assoc

digits_same : (m n : ℕ) → digits m ≡ digits n → m ≡ n
digits_same m n e = sym (digits-back m) ∙ ap (digits_value 0) e ∙ digits-back n

-- digits end at the first byte that is none
digits-until : (b : ℕ) → is_digit b ≡ false → (m n : ℕ) (s t : List ℕ) → digits m ++ (b ∷ s) ≡ digits n ++ (b ∷ t) → (m ≡ n) × (s ≡ t)
digits-until b none m n s t e =
    let f = digits-free b (digits m) none (digits-all m) in
    let g = digits-free b (digits n) none (digits-all n) in (
      digits_same m n (sym (before_back b (digits m) s f) ∙ ap (before b) e ∙ before_back b (digits n) t g),
      sym (after-back b (digits m) s f) ∙ ap (after b) e ∙ after-back b (digits n) t g,
    )

pub record SameLine (x y : Refusal) : Type 0 where
  pub number : number x ≡ number y
  pub value : value x ≡ value y

pub refused_line-same : (x y : Refusal) (s : List ℕ) → refused_line x ++ s ≡ refused_line y → SameLine x y
unfolding bytes
refused_line-same x y s e =
    let e₁ : bytes "refused=" ++ after_refused x s ≡ bytes "refused=" ++ after_refused y [] =
    sym (refused_line-then x s) ∙ e ∙ sym (append-nil (refused_line y)) ∙ refused_line-then y [] in
    let a = digits-until comma refl (number x) (number y) _ _ (ap (drop 8) e₁) in
    let b = digits-until LF refl (value x) (value y) s [] a.1 in
    record { number = a.0; value = b.0 }

pub refused_line-one : (x y : Refusal) → refused_line x ≡ refused_line y → SameLine x y
refused_line-one x y e = refused_line-same x y [] (append-nil (refused_line x) ∙ e)
