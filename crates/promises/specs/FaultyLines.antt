-- The refusal of a text with its faulty line as a part of that text, as closed cases (document 01, 'Numbers of refusal': 'A reader of the refusal also gets
-- back the faulty line as a part of the text, without its LF; for D = 0 and for 4 and 5 that part is empty').
use Rattle.std.specs.Prelude.{ℕ, ◌≡◌, refl, List, [], ◌∷◌, map}
use Prim.Native.String.{String}
use Rattle.text.specs.Bytes.{bytes}
use Rattle.lines.specs.Reading.{Reading, refused_number, refused_value, faulty_part}
use Rattle.rounds.specs.TextVerdict.{or_refused, verdict_after, settled_alone}
use Rattle.session.specs.SessionRead.{steps_within, session_read}
use Rattle.promises.specs.Case.{computing}

-- N, D and the faulty line; 0, 0 and nothing where nothing is refused
pub record RefusalFound : Type 0 where
  pub number : ℕ
  pub value : ℕ
  pub line : List ℕ

abbrev found : ℕ → ℕ → String → RefusalFound
found n d l = record { number = n; value = d; line = bytes l }

abbrev no_refusal : RefusalFound
no_refusal = found 0 0 ""

-- what a reading says of its refusal
abbrev found_in : {A : Type 0} → Reading A → RefusalFound
found_in r = record { number = refused_number r; value = refused_value r; line = faulty_part r }

-- a text, and what refuses it where it is to be a plan and nothing else, and where it is to be a session
pub record Faulty : Type 0 where
  pub text : String
  pub alone : RefusalFound
  pub session : RefusalFound

abbrev pub faulty_lines : List Faulty
faulty_lines =
    -- the first line, and not what follows it
    record { text = "window=0\nrounds=100\n"; alone = found 2 1 "window=0"; session = found 2 1 "window=0" }
    -- the second, and not what stands before it
    ∷ record { text = "window=10\nrounds=1001\nlast=1000\n"; alone = found 2 2 "rounds=1001"; session = found 2 2 "rounds=1001" }
    -- the last, without an LF
    ∷ record { text = "window=10\nrounds="; alone = found 1 2 "rounds="; session = found 1 2 "rounds=" }
    -- 'A line that is missing .. as a part it is empty'
    ∷ record { text = "window=10\n"; alone = found 1 2 ""; session = found 1 2 "" }
    ∷ record { text = ""; alone = found 1 1 ""; session = found 1 1 "" }
    -- an empty line
    ∷ record { text = "\nwindow=10\n"; alone = found 1 1 ""; session = found 1 1 "" }
    -- a wrong pair
    ∷ record { text = "window=10\nrounds=100\nlast=1000\njobs=1\nmin=2\nmax=4\nrelease=0\ndeadline=10\nbounds=2\nbound=ts1,ts1,1\nbound=ts1,ns1,-8\n"; alone = found 3 10 "bound=ts1,ts1,1"; session = found 3 10 "bound=ts1,ts1,1" }
    -- nothing is refused
    ∷ record { text = "window=10\nrounds=100\nlast=1000\njobs=1\nmin=2\nmax=4\nrelease=0\ndeadline=10\nbounds=1\nbound=ns1,ts1,12\n"; alone = no_refusal; session = no_refusal }
    -- a line too many for a plan, which is a session's step; a step refused by 8 ends nothing
    ∷ record { text = "window=10\nrounds=100\nlast=1000\njobs=1\nmin=2\nmax=4\nrelease=0\ndeadline=10\nbounds=1\nbound=ns1,ts1,12\nask=offer\nstart=30\n"; alone = found 1 11 "ask=offer"; session = no_refusal }
    -- a step that lacks its form, and one out of range
    ∷ record { text = "window=10\nrounds=100\nlast=1000\njobs=1\nmin=2\nmax=4\nrelease=0\ndeadline=10\nbounds=1\nbound=ns1,ts1,12\nask=offer\nstart=03\nfinish=7\n"; alone = found 1 11 "ask=offer"; session = found 1 12 "start=03" }
    ∷ record { text = "window=10\nrounds=100\nlast=1000\njobs=1\nmin=2\nmax=4\nrelease=0\ndeadline=10\nbounds=1\nbound=ns1,ts1,12\nstart=auto\nfinish=100000000000000001\nask=offer\n"; alone = found 1 11 "start=auto"; session = found 2 12 "finish=100000000000000001" }
    -- a step without its LF
    ∷ record { text = "window=10\nrounds=100\nlast=1000\njobs=1\nmin=2\nmax=4\nrelease=0\ndeadline=10\nbounds=1\nbound=ns1,ts1,12\nask=offer"; alone = found 1 11 "ask=offer"; session = found 1 11 "ask=offer" }
    -- P7, refused by 4, with nothing after it and with a line that is not looked at
    ∷ record { text = "window=10\nrounds=100\nlast=1000\njobs=1\nmin=2\nmax=11\nrelease=0\ndeadline=10\nbounds=0\n"; alone = found 4 1 ""; session = found 4 1 "" }
    ∷ record { text = "window=10\nrounds=100\nlast=1000\njobs=1\nmin=2\nmax=11\nrelease=0\ndeadline=10\nbounds=0\nno step\n"; alone = found 1 10 "no step"; session = found 4 1 "" }
    -- P5, refused by 5
    ∷ record { text = "window=10\nrounds=6\nlast=1000\njobs=1\nmin=2\nmax=4\nrelease=0\ndeadline=10\nbounds=1\nbound=ns1,ts1,9\nno step\n"; alone = found 1 11 "no step"; session = found 5 6 "" }
    ∷ []

pub alone-right : map (λ (f : Faulty). found_in (settled_alone (bytes f.text))) faulty_lines ≡ map (λ (f : Faulty). f.alone) faulty_lines
unfolding computing faulty_part or_refused verdict_after
alone-right = refl

pub session-right : map (λ (f : Faulty). found_in (session_read (bytes f.text))) faulty_lines ≡ map (λ (f : Faulty). f.session) faulty_lines
unfolding computing faulty_part or_refused verdict_after steps_within
session-right = refl
