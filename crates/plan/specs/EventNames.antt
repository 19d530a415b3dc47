-- The names of events (document 01, 'Plan text': 'An event is a window letter (t this, n next), a kind (s start, f finish) and one job
-- digit, as `nf2`').
use Rattle.std.specs.Prelude.{ℕ, ◌+◌, ◌*◌, ◌-◌, Bool, true, false, cond, ◌&&◌, List, [], ◌∷◌, eqb, Option, Some, None}
use Rattle.text.specs.Numbers.{is_digit, zero_digit, digits}
use Rattle.plan.specs.declared.Letter.{Letter}
use Rattle.plan.specs.declared.Letter.TheVariants.{This, Next}
use Rattle.plan.specs.declared.Kind.{Kind}
use Rattle.plan.specs.declared.Kind.TheVariants.{Start, Finish}
use Rattle.plan.specs.declared.EventName.{EventName}

-- ---- written

abbrev pub letter_byte : Letter → ℕ
letter_byte This = 116
letter_byte Next = 110

abbrev pub kind_byte : Kind → ℕ
kind_byte Start = 115
kind_byte Finish = 102

abbrev pub name_bytes : EventName → List ℕ
name_bytes e = letter_byte e.letter ∷ kind_byte e.kind ∷ digits e.job

-- ---- read

abbrev pub letter_of : ℕ → Option Letter
letter_of b = cond (eqb b 116) (Some This) (cond (eqb b 110) (Some Next) None)

abbrev pub kind_of : ℕ → Option Kind
kind_of b = cond (eqb b 115) (Some Start) (cond (eqb b 102) (Some Finish) None)

-- 'one job digit'
abbrev pub job_of : List ℕ → Option ℕ
job_of [] = None
job_of (b ∷ []) = cond (is_digit b) (Some (b - zero_digit)) None
job_of (b ∷ c ∷ s) = None

abbrev pub name_of : Option Letter → Option Kind → Option ℕ → Option EventName
name_of None k i = None
name_of (Some l) None i = None
name_of (Some l) (Some k) None = None
name_of (Some l) (Some k) (Some i) = Some (record { letter = l; kind = k; job = i })

unfoldable pub event_name : List ℕ → Option EventName
event_name [] = None
event_name (a ∷ []) = None
event_name (a ∷ b ∷ s) = name_of (letter_of a) (kind_of b) (job_of s)

-- ---- compared

abbrev pub same_letter : Letter → Letter → Bool
same_letter This This = true
same_letter This Next = false
same_letter Next This = false
same_letter Next Next = true

abbrev pub same_kind : Kind → Kind → Bool
same_kind Start Start = true
same_kind Start Finish = false
same_kind Finish Start = false
same_kind Finish Finish = true

-- the same event, its window letter included
unfoldable pub same_event : EventName → EventName → Bool
same_event d e = same_letter d.letter e.letter && same_kind d.kind e.kind && eqb d.job e.job

abbrev pub is_next : Letter → Bool
is_next This = false
is_next Next = true

-- ---- numbered

abbrev pub letter_number : Letter → ℕ
letter_number This = 0
letter_number Next = 1

abbrev pub kind_number : Kind → ℕ
kind_number Start = 0
kind_number Finish = 1

-- a number that no other event has
abbrev pub event_number : EventName → ℕ
event_number e = e.job * 4 + letter_number e.letter * 2 + kind_number e.kind
