-- The rules of `Rules`, spelled out: a rule set lists bare names, so each shape has its own. Every row is `reads` or `shows` of `ShapeLaws` at the shapes
-- that its name draws: `le·a-b·c+d` reads a hypothesis (a - b) ≤ℤ (c + d), `to-le·a-b·c+d` shows such a goal, and ‹ › are brackets.
-- `≤ℤ` and `≡` have at most two operations in all, `<ℤ` and a test one, a number that is to fit a width two, and one that is read back one.
-- In each set more operations stand before fewer, and a difference before a sum: `omega` takes the first rule that fits, a - b is a + negℤ b, and so it
-- fits the rule for sums too, which leaves negℤ b an unknown.

use Rattle.std.specs.Prelude.{Bool}
use Rattle.whole.specs.Shape.{Shape, any, ◌⊕◌, ◌⊖◌, le, lt, eq, eq-true, eq-false, lt-is, le_is, Reads, Shows, Fitting, ReadsBack}
use Rattle.whole.specs.ShapeLaws.{reads, shows, fitting, reads-back}

-- ---- the shapes

abbrev a+b : Shape
a+b = any ⊕ any

abbrev a-b : Shape
a-b = any ⊖ any

abbrev a+b+c : Shape
a+b+c = any ⊕ any ⊕ any

abbrev a+b-c : Shape
a+b-c = any ⊕ any ⊖ any

abbrev a-b+c : Shape
a-b+c = any ⊖ any ⊕ any

abbrev a-b-c : Shape
a-b-c = any ⊖ any ⊖ any

abbrev a+‹b+c› : Shape
a+‹b+c› = any ⊕ (any ⊕ any)

abbrev a+‹b-c› : Shape
a+‹b-c› = any ⊕ (any ⊖ any)

abbrev a-‹b+c› : Shape
a-‹b+c› = any ⊖ (any ⊕ any)

abbrev a-‹b-c› : Shape
a-‹b-c› = any ⊖ (any ⊖ any)

-- ---- each side as a whole

pub le·a·b : Reads le any any
le·a·b = reads le any any

pub to-le·a·b : Shows le any any
to-le·a·b = shows le any any

pub lt·a·b : Reads lt any any
lt·a·b = reads lt any any

pub to-lt·a·b : Shows lt any any
to-lt·a·b = shows lt any any

pub eq·a·b : Reads eq any any
eq·a·b = reads eq any any

pub to-eq·a·b : Shows eq any any
to-eq·a·b = shows eq any any

pub lt-is·a·b : (t : Bool) → Reads (lt-is t) any any
lt-is·a·b t = reads (lt-is t) any any

pub to-lt-is·a·b : (t : Bool) → Shows (lt-is t) any any
to-lt-is·a·b t = shows (lt-is t) any any

pub le-is·a·b : (t : Bool) → Reads (le_is t) any any
le-is·a·b t = reads (le_is t) any any

pub to-le-is·a·b : (t : Bool) → Shows (le_is t) any any
to-le-is·a·b t = shows (le_is t) any any

pub eq-true·a·b : Reads eq-true any any
eq-true·a·b = reads eq-true any any

pub to-eq-true·a·b : Shows eq-true any any
to-eq-true·a·b = shows eq-true any any

pub eq-false·a·b : Reads eq-false any any
eq-false·a·b = reads eq-false any any

pub to-eq-false·a·b : Shows eq-false any any
to-eq-false·a·b = shows eq-false any any

pub fits·a : Fitting any
fits·a = fitting any

pub back·a : ReadsBack any
back·a = reads-back any

pub ruleset sides = (
  le·a·b,
  to-le·a·b,
  lt·a·b,
  to-lt·a·b,
  eq·a·b,
  to-eq·a·b,
  lt-is·a·b,
  to-lt-is·a·b,
  le-is·a·b,
  to-le-is·a·b,
  eq-true·a·b,
  to-eq-true·a·b,
  eq-false·a·b,
  to-eq-false·a·b,
  fits·a,
  back·a,
)

-- ---- ≤ℤ

pub le·a·b-c-d : Reads le any a-b-c
le·a·b-c-d = reads le any a-b-c

pub to-le·a·b-c-d : Shows le any a-b-c
to-le·a·b-c-d = shows le any a-b-c

pub le·a·b-‹c-d› : Reads le any a-‹b-c›
le·a·b-‹c-d› = reads le any a-‹b-c›

pub to-le·a·b-‹c-d› : Shows le any a-‹b-c›
to-le·a·b-‹c-d› = shows le any a-‹b-c›

pub le·a-b·c-d : Reads le a-b a-b
le·a-b·c-d = reads le a-b a-b

pub to-le·a-b·c-d : Shows le a-b a-b
to-le·a-b·c-d = shows le a-b a-b

pub le·a-b-c·d : Reads le a-b-c any
le·a-b-c·d = reads le a-b-c any

pub to-le·a-b-c·d : Shows le a-b-c any
to-le·a-b-c·d = shows le a-b-c any

pub le·a-‹b-c›·d : Reads le a-‹b-c› any
le·a-‹b-c›·d = reads le a-‹b-c› any

pub to-le·a-‹b-c›·d : Shows le a-‹b-c› any
to-le·a-‹b-c›·d = shows le a-‹b-c› any

pub le·a·b+c-d : Reads le any a+b-c
le·a·b+c-d = reads le any a+b-c

pub to-le·a·b+c-d : Shows le any a+b-c
to-le·a·b+c-d = shows le any a+b-c

pub le·a·b-c+d : Reads le any a-b+c
le·a·b-c+d = reads le any a-b+c

pub to-le·a·b-c+d : Shows le any a-b+c
to-le·a·b-c+d = shows le any a-b+c

pub le·a·b+‹c-d› : Reads le any a+‹b-c›
le·a·b+‹c-d› = reads le any a+‹b-c›

pub to-le·a·b+‹c-d› : Shows le any a+‹b-c›
to-le·a·b+‹c-d› = shows le any a+‹b-c›

pub le·a·b-‹c+d› : Reads le any a-‹b+c›
le·a·b-‹c+d› = reads le any a-‹b+c›

pub to-le·a·b-‹c+d› : Shows le any a-‹b+c›
to-le·a·b-‹c+d› = shows le any a-‹b+c›

pub le·a+b·c-d : Reads le a+b a-b
le·a+b·c-d = reads le a+b a-b

pub to-le·a+b·c-d : Shows le a+b a-b
to-le·a+b·c-d = shows le a+b a-b

pub le·a-b·c+d : Reads le a-b a+b
le·a-b·c+d = reads le a-b a+b

pub to-le·a-b·c+d : Shows le a-b a+b
to-le·a-b·c+d = shows le a-b a+b

pub le·a+b-c·d : Reads le a+b-c any
le·a+b-c·d = reads le a+b-c any

pub to-le·a+b-c·d : Shows le a+b-c any
to-le·a+b-c·d = shows le a+b-c any

pub le·a-b+c·d : Reads le a-b+c any
le·a-b+c·d = reads le a-b+c any

pub to-le·a-b+c·d : Shows le a-b+c any
to-le·a-b+c·d = shows le a-b+c any

pub le·a+‹b-c›·d : Reads le a+‹b-c› any
le·a+‹b-c›·d = reads le a+‹b-c› any

pub to-le·a+‹b-c›·d : Shows le a+‹b-c› any
to-le·a+‹b-c›·d = shows le a+‹b-c› any

pub le·a-‹b+c›·d : Reads le a-‹b+c› any
le·a-‹b+c›·d = reads le a-‹b+c› any

pub to-le·a-‹b+c›·d : Shows le a-‹b+c› any
to-le·a-‹b+c›·d = shows le a-‹b+c› any

pub le·a·b+c+d : Reads le any a+b+c
le·a·b+c+d = reads le any a+b+c

pub to-le·a·b+c+d : Shows le any a+b+c
to-le·a·b+c+d = shows le any a+b+c

pub le·a·b+‹c+d› : Reads le any a+‹b+c›
le·a·b+‹c+d› = reads le any a+‹b+c›

pub to-le·a·b+‹c+d› : Shows le any a+‹b+c›
to-le·a·b+‹c+d› = shows le any a+‹b+c›

pub le·a+b·c+d : Reads le a+b a+b
le·a+b·c+d = reads le a+b a+b

pub to-le·a+b·c+d : Shows le a+b a+b
to-le·a+b·c+d = shows le a+b a+b

pub le·a+b+c·d : Reads le a+b+c any
le·a+b+c·d = reads le a+b+c any

pub to-le·a+b+c·d : Shows le a+b+c any
to-le·a+b+c·d = shows le a+b+c any

pub le·a+‹b+c›·d : Reads le a+‹b+c› any
le·a+‹b+c›·d = reads le a+‹b+c› any

pub to-le·a+‹b+c›·d : Shows le a+‹b+c› any
to-le·a+‹b+c›·d = shows le a+‹b+c› any

pub le·a·b-c : Reads le any a-b
le·a·b-c = reads le any a-b

pub to-le·a·b-c : Shows le any a-b
to-le·a·b-c = shows le any a-b

pub le·a-b·c : Reads le a-b any
le·a-b·c = reads le a-b any

pub to-le·a-b·c : Shows le a-b any
to-le·a-b·c = shows le a-b any

pub le·a·b+c : Reads le any a+b
le·a·b+c = reads le any a+b

pub to-le·a·b+c : Shows le any a+b
to-le·a·b+c = shows le any a+b

pub le·a+b·c : Reads le a+b any
le·a+b·c = reads le a+b any

pub to-le·a+b·c : Shows le a+b any
to-le·a+b·c = shows le a+b any

pub ruleset le-shapes = (
  le·a·b-c-d,
  le·a·b-‹c-d›,
  le·a-b·c-d,
  le·a-b-c·d,
  le·a-‹b-c›·d,
  le·a·b+c-d,
  le·a·b-c+d,
  le·a·b+‹c-d›,
  le·a·b-‹c+d›,
  le·a+b·c-d,
  le·a-b·c+d,
  le·a+b-c·d,
  le·a-b+c·d,
  le·a+‹b-c›·d,
  le·a-‹b+c›·d,
  le·a·b+c+d,
  le·a·b+‹c+d›,
  le·a+b·c+d,
  le·a+b+c·d,
  le·a+‹b+c›·d,
  le·a·b-c,
  le·a-b·c,
  le·a·b+c,
  le·a+b·c,
  to-le·a·b-c-d,
  to-le·a·b-‹c-d›,
  to-le·a-b·c-d,
  to-le·a-b-c·d,
  to-le·a-‹b-c›·d,
  to-le·a·b+c-d,
  to-le·a·b-c+d,
  to-le·a·b+‹c-d›,
  to-le·a·b-‹c+d›,
  to-le·a+b·c-d,
  to-le·a-b·c+d,
  to-le·a+b-c·d,
  to-le·a-b+c·d,
  to-le·a+‹b-c›·d,
  to-le·a-‹b+c›·d,
  to-le·a·b+c+d,
  to-le·a·b+‹c+d›,
  to-le·a+b·c+d,
  to-le·a+b+c·d,
  to-le·a+‹b+c›·d,
  to-le·a·b-c,
  to-le·a-b·c,
  to-le·a·b+c,
  to-le·a+b·c,
)

-- ---- <ℤ

pub lt·a·b-c : Reads lt any a-b
lt·a·b-c = reads lt any a-b

pub to-lt·a·b-c : Shows lt any a-b
to-lt·a·b-c = shows lt any a-b

pub lt·a-b·c : Reads lt a-b any
lt·a-b·c = reads lt a-b any

pub to-lt·a-b·c : Shows lt a-b any
to-lt·a-b·c = shows lt a-b any

pub lt·a·b+c : Reads lt any a+b
lt·a·b+c = reads lt any a+b

pub to-lt·a·b+c : Shows lt any a+b
to-lt·a·b+c = shows lt any a+b

pub lt·a+b·c : Reads lt a+b any
lt·a+b·c = reads lt a+b any

pub to-lt·a+b·c : Shows lt a+b any
to-lt·a+b·c = shows lt a+b any

pub ruleset lt-shapes = (lt·a·b-c, lt·a-b·c, lt·a·b+c, lt·a+b·c, to-lt·a·b-c, to-lt·a-b·c, to-lt·a·b+c, to-lt·a+b·c)

-- ---- ≡

pub eq·a·b-c-d : Reads eq any a-b-c
eq·a·b-c-d = reads eq any a-b-c

pub to-eq·a·b-c-d : Shows eq any a-b-c
to-eq·a·b-c-d = shows eq any a-b-c

pub eq·a·b-‹c-d› : Reads eq any a-‹b-c›
eq·a·b-‹c-d› = reads eq any a-‹b-c›

pub to-eq·a·b-‹c-d› : Shows eq any a-‹b-c›
to-eq·a·b-‹c-d› = shows eq any a-‹b-c›

pub eq·a-b·c-d : Reads eq a-b a-b
eq·a-b·c-d = reads eq a-b a-b

pub to-eq·a-b·c-d : Shows eq a-b a-b
to-eq·a-b·c-d = shows eq a-b a-b

pub eq·a-b-c·d : Reads eq a-b-c any
eq·a-b-c·d = reads eq a-b-c any

pub to-eq·a-b-c·d : Shows eq a-b-c any
to-eq·a-b-c·d = shows eq a-b-c any

pub eq·a-‹b-c›·d : Reads eq a-‹b-c› any
eq·a-‹b-c›·d = reads eq a-‹b-c› any

pub to-eq·a-‹b-c›·d : Shows eq a-‹b-c› any
to-eq·a-‹b-c›·d = shows eq a-‹b-c› any

pub eq·a·b+c-d : Reads eq any a+b-c
eq·a·b+c-d = reads eq any a+b-c

pub to-eq·a·b+c-d : Shows eq any a+b-c
to-eq·a·b+c-d = shows eq any a+b-c

pub eq·a·b-c+d : Reads eq any a-b+c
eq·a·b-c+d = reads eq any a-b+c

pub to-eq·a·b-c+d : Shows eq any a-b+c
to-eq·a·b-c+d = shows eq any a-b+c

pub eq·a·b+‹c-d› : Reads eq any a+‹b-c›
eq·a·b+‹c-d› = reads eq any a+‹b-c›

pub to-eq·a·b+‹c-d› : Shows eq any a+‹b-c›
to-eq·a·b+‹c-d› = shows eq any a+‹b-c›

pub eq·a·b-‹c+d› : Reads eq any a-‹b+c›
eq·a·b-‹c+d› = reads eq any a-‹b+c›

pub to-eq·a·b-‹c+d› : Shows eq any a-‹b+c›
to-eq·a·b-‹c+d› = shows eq any a-‹b+c›

pub eq·a+b·c-d : Reads eq a+b a-b
eq·a+b·c-d = reads eq a+b a-b

pub to-eq·a+b·c-d : Shows eq a+b a-b
to-eq·a+b·c-d = shows eq a+b a-b

pub eq·a-b·c+d : Reads eq a-b a+b
eq·a-b·c+d = reads eq a-b a+b

pub to-eq·a-b·c+d : Shows eq a-b a+b
to-eq·a-b·c+d = shows eq a-b a+b

pub eq·a+b-c·d : Reads eq a+b-c any
eq·a+b-c·d = reads eq a+b-c any

pub to-eq·a+b-c·d : Shows eq a+b-c any
to-eq·a+b-c·d = shows eq a+b-c any

pub eq·a-b+c·d : Reads eq a-b+c any
eq·a-b+c·d = reads eq a-b+c any

pub to-eq·a-b+c·d : Shows eq a-b+c any
to-eq·a-b+c·d = shows eq a-b+c any

pub eq·a+‹b-c›·d : Reads eq a+‹b-c› any
eq·a+‹b-c›·d = reads eq a+‹b-c› any

pub to-eq·a+‹b-c›·d : Shows eq a+‹b-c› any
to-eq·a+‹b-c›·d = shows eq a+‹b-c› any

pub eq·a-‹b+c›·d : Reads eq a-‹b+c› any
eq·a-‹b+c›·d = reads eq a-‹b+c› any

pub to-eq·a-‹b+c›·d : Shows eq a-‹b+c› any
to-eq·a-‹b+c›·d = shows eq a-‹b+c› any

pub eq·a·b+c+d : Reads eq any a+b+c
eq·a·b+c+d = reads eq any a+b+c

pub to-eq·a·b+c+d : Shows eq any a+b+c
to-eq·a·b+c+d = shows eq any a+b+c

pub eq·a·b+‹c+d› : Reads eq any a+‹b+c›
eq·a·b+‹c+d› = reads eq any a+‹b+c›

pub to-eq·a·b+‹c+d› : Shows eq any a+‹b+c›
to-eq·a·b+‹c+d› = shows eq any a+‹b+c›

pub eq·a+b·c+d : Reads eq a+b a+b
eq·a+b·c+d = reads eq a+b a+b

pub to-eq·a+b·c+d : Shows eq a+b a+b
to-eq·a+b·c+d = shows eq a+b a+b

pub eq·a+b+c·d : Reads eq a+b+c any
eq·a+b+c·d = reads eq a+b+c any

pub to-eq·a+b+c·d : Shows eq a+b+c any
to-eq·a+b+c·d = shows eq a+b+c any

pub eq·a+‹b+c›·d : Reads eq a+‹b+c› any
eq·a+‹b+c›·d = reads eq a+‹b+c› any

pub to-eq·a+‹b+c›·d : Shows eq a+‹b+c› any
to-eq·a+‹b+c›·d = shows eq a+‹b+c› any

pub eq·a·b-c : Reads eq any a-b
eq·a·b-c = reads eq any a-b

pub to-eq·a·b-c : Shows eq any a-b
to-eq·a·b-c = shows eq any a-b

pub eq·a-b·c : Reads eq a-b any
eq·a-b·c = reads eq a-b any

pub to-eq·a-b·c : Shows eq a-b any
to-eq·a-b·c = shows eq a-b any

pub eq·a·b+c : Reads eq any a+b
eq·a·b+c = reads eq any a+b

pub to-eq·a·b+c : Shows eq any a+b
to-eq·a·b+c = shows eq any a+b

pub eq·a+b·c : Reads eq a+b any
eq·a+b·c = reads eq a+b any

pub to-eq·a+b·c : Shows eq a+b any
to-eq·a+b·c = shows eq a+b any

pub ruleset eq-shapes = (
  eq·a·b-c-d,
  eq·a·b-‹c-d›,
  eq·a-b·c-d,
  eq·a-b-c·d,
  eq·a-‹b-c›·d,
  eq·a·b+c-d,
  eq·a·b-c+d,
  eq·a·b+‹c-d›,
  eq·a·b-‹c+d›,
  eq·a+b·c-d,
  eq·a-b·c+d,
  eq·a+b-c·d,
  eq·a-b+c·d,
  eq·a+‹b-c›·d,
  eq·a-‹b+c›·d,
  eq·a·b+c+d,
  eq·a·b+‹c+d›,
  eq·a+b·c+d,
  eq·a+b+c·d,
  eq·a+‹b+c›·d,
  eq·a·b-c,
  eq·a-b·c,
  eq·a·b+c,
  eq·a+b·c,
  to-eq·a·b-c-d,
  to-eq·a·b-‹c-d›,
  to-eq·a-b·c-d,
  to-eq·a-b-c·d,
  to-eq·a-‹b-c›·d,
  to-eq·a·b+c-d,
  to-eq·a·b-c+d,
  to-eq·a·b+‹c-d›,
  to-eq·a·b-‹c+d›,
  to-eq·a+b·c-d,
  to-eq·a-b·c+d,
  to-eq·a+b-c·d,
  to-eq·a-b+c·d,
  to-eq·a+‹b-c›·d,
  to-eq·a-‹b+c›·d,
  to-eq·a·b+c+d,
  to-eq·a·b+‹c+d›,
  to-eq·a+b·c+d,
  to-eq·a+b+c·d,
  to-eq·a+‹b+c›·d,
  to-eq·a·b-c,
  to-eq·a-b·c,
  to-eq·a·b+c,
  to-eq·a+b·c,
)

-- ---- lt_z

pub lt-is·a·b-c : (t : Bool) → Reads (lt-is t) any a-b
lt-is·a·b-c t = reads (lt-is t) any a-b

pub to-lt-is·a·b-c : (t : Bool) → Shows (lt-is t) any a-b
to-lt-is·a·b-c t = shows (lt-is t) any a-b

pub lt-is·a-b·c : (t : Bool) → Reads (lt-is t) a-b any
lt-is·a-b·c t = reads (lt-is t) a-b any

pub to-lt-is·a-b·c : (t : Bool) → Shows (lt-is t) a-b any
to-lt-is·a-b·c t = shows (lt-is t) a-b any

pub lt-is·a·b+c : (t : Bool) → Reads (lt-is t) any a+b
lt-is·a·b+c t = reads (lt-is t) any a+b

pub to-lt-is·a·b+c : (t : Bool) → Shows (lt-is t) any a+b
to-lt-is·a·b+c t = shows (lt-is t) any a+b

pub lt-is·a+b·c : (t : Bool) → Reads (lt-is t) a+b any
lt-is·a+b·c t = reads (lt-is t) a+b any

pub to-lt-is·a+b·c : (t : Bool) → Shows (lt-is t) a+b any
to-lt-is·a+b·c t = shows (lt-is t) a+b any

pub ruleset lt-is-shapes = (lt-is·a·b-c, lt-is·a-b·c, lt-is·a·b+c, lt-is·a+b·c, to-lt-is·a·b-c, to-lt-is·a-b·c, to-lt-is·a·b+c, to-lt-is·a+b·c)

-- ---- le_z

pub le-is·a·b-c : (t : Bool) → Reads (le_is t) any a-b
le-is·a·b-c t = reads (le_is t) any a-b

pub to-le-is·a·b-c : (t : Bool) → Shows (le_is t) any a-b
to-le-is·a·b-c t = shows (le_is t) any a-b

pub le-is·a-b·c : (t : Bool) → Reads (le_is t) a-b any
le-is·a-b·c t = reads (le_is t) a-b any

pub to-le-is·a-b·c : (t : Bool) → Shows (le_is t) a-b any
to-le-is·a-b·c t = shows (le_is t) a-b any

pub le-is·a·b+c : (t : Bool) → Reads (le_is t) any a+b
le-is·a·b+c t = reads (le_is t) any a+b

pub to-le-is·a·b+c : (t : Bool) → Shows (le_is t) any a+b
to-le-is·a·b+c t = shows (le_is t) any a+b

pub le-is·a+b·c : (t : Bool) → Reads (le_is t) a+b any
le-is·a+b·c t = reads (le_is t) a+b any

pub to-le-is·a+b·c : (t : Bool) → Shows (le_is t) a+b any
to-le-is·a+b·c t = shows (le_is t) a+b any

pub ruleset le-is-shapes = (le-is·a·b-c, le-is·a-b·c, le-is·a·b+c, le-is·a+b·c, to-le-is·a·b-c, to-le-is·a-b·c, to-le-is·a·b+c, to-le-is·a+b·c)

-- ---- the machine, at any width

pub fits·a-b-c : Fitting a-b-c
fits·a-b-c = fitting a-b-c

pub fits·a-‹b-c› : Fitting a-‹b-c›
fits·a-‹b-c› = fitting a-‹b-c›

pub fits·a+b-c : Fitting a+b-c
fits·a+b-c = fitting a+b-c

pub fits·a-b+c : Fitting a-b+c
fits·a-b+c = fitting a-b+c

pub fits·a+‹b-c› : Fitting a+‹b-c›
fits·a+‹b-c› = fitting a+‹b-c›

pub fits·a-‹b+c› : Fitting a-‹b+c›
fits·a-‹b+c› = fitting a-‹b+c›

pub fits·a+b+c : Fitting a+b+c
fits·a+b+c = fitting a+b+c

pub fits·a+‹b+c› : Fitting a+‹b+c›
fits·a+‹b+c› = fitting a+‹b+c›

pub fits·a-b : Fitting a-b
fits·a-b = fitting a-b

pub fits·a+b : Fitting a+b
fits·a+b = fitting a+b

pub back·a-b : ReadsBack a-b
back·a-b = reads-back a-b

pub back·a+b : ReadsBack a+b
back·a+b = reads-back a+b

pub ruleset machine-shapes = (
  fits·a-b-c,
  fits·a-‹b-c›,
  fits·a+b-c,
  fits·a-b+c,
  fits·a+‹b-c›,
  fits·a-‹b+c›,
  fits·a+b+c,
  fits·a+‹b+c›,
  fits·a-b,
  fits·a+b,
  back·a-b,
  back·a+b,
)
