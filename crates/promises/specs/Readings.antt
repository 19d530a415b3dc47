-- The readings of document 01 where it leaves room, as closed cases: numbers and lines, pairs, and sessions.
use Rattle.std.specs.Prelude.{refl, List, [], ◌∷◌}
use Rattle.promises.specs.Case.{Case, Calendar, Dispatch, Right, computing}

abbrev pub numbers : List Case
numbers =
    -- 1: one grammar on all lines, so that a negative window is well formed and out of range
    record {
      program = Calendar;
      input = "window=-5\nrounds=100\nlast=1000\njobs=1\nmin=2\nmax=4\nrelease=0\ndeadline=10\nbounds=2\nbound=ns1,ts1,12\nbound=ts1,ns1,-8\n";
      output = "refused=2,1\n";
    }
    ∷  -- 1: `-0`
    record {
      program = Calendar;
      input = "window=-0\nrounds=100\nlast=1000\njobs=1\nmin=2\nmax=4\nrelease=0\ndeadline=10\nbounds=2\nbound=ns1,ts1,12\nbound=ts1,ns1,-8\n";
      output = "refused=1,1\n";
    }
    ∷  -- 1: `-`
    record {
      program = Calendar;
      input = "window=-\nrounds=100\nlast=1000\njobs=1\nmin=2\nmax=4\nrelease=0\ndeadline=10\nbounds=2\nbound=ns1,ts1,12\nbound=ts1,ns1,-8\n";
      output = "refused=1,1\n";
    }
    ∷  -- 1: a plus
    record {
      program = Calendar;
      input = "window=+5\nrounds=100\nlast=1000\njobs=1\nmin=2\nmax=4\nrelease=0\ndeadline=10\nbounds=2\nbound=ns1,ts1,12\nbound=ts1,ns1,-8\n";
      output = "refused=1,1\n";
    }
    ∷  -- 1: a leading zero
    record {
      program = Calendar;
      input = "window=05\nrounds=100\nlast=1000\njobs=1\nmin=2\nmax=4\nrelease=0\ndeadline=10\nbounds=2\nbound=ns1,ts1,12\nbound=ts1,ns1,-8\n";
      output = "refused=1,1\n";
    }
    ∷  -- 1: an empty value
    record {
      program = Calendar;
      input = "window=\nrounds=100\nlast=1000\njobs=1\nmin=2\nmax=4\nrelease=0\ndeadline=10\nbounds=2\nbound=ns1,ts1,12\nbound=ts1,ns1,-8\n";
      output = "refused=1,1\n";
    }
    ∷  -- 1: sixty digits are well formed
    record {
      program = Calendar;
      input = "window=123456789012345678901234567890123456789012345678901234567890\nrounds=100\nlast=1000\njobs=1\nmin=2\nmax=4\nrelease=0\ndeadline=10\nbounds=2\nbound=ns1,ts1,12\nbound=ts1,ns1,-8\n";
      output = "refused=2,1\n";
    }
    ∷  -- 1: zero is out of the range of `window=`
    record {
      program = Calendar;
      input = "window=0\nrounds=100\nlast=1000\njobs=1\nmin=2\nmax=4\nrelease=0\ndeadline=10\nbounds=2\nbound=ns1,ts1,12\nbound=ts1,ns1,-8\n";
      output = "refused=2,1\n";
    }
    ∷  -- one past the limit of `window=`
    record {
      program = Calendar;
      input = "window=86400001\nrounds=100\nlast=1000\njobs=1\nmin=2\nmax=4\nrelease=0\ndeadline=10\nbounds=2\nbound=ns1,ts1,12\nbound=ts1,ns1,-8\n";
      output = "refused=2,1\n";
    }
    ∷  -- a fault in min <= max is on the max line
    record {
      program = Calendar;
      input = "window=10\nrounds=100\nlast=1000\njobs=1\nmin=5\nmax=4\nrelease=0\ndeadline=10\nbounds=2\nbound=ns1,ts1,12\nbound=ts1,ns1,-8\n";
      output = "refused=2,6\n";
    }
    ∷  -- a release above its deadline is no fault of form
    record {
      program = Calendar;
      input = "window=10\nrounds=100\nlast=1000\njobs=1\nmin=2\nmax=4\nrelease=11\ndeadline=10\nbounds=2\nbound=ns1,ts1,12\nbound=ts1,ns1,-8\n";
      output = "refused=4,1\n";
    }
    ∷  -- one past the limit of `rounds=`
    record {
      program = Calendar;
      input = "window=10\nrounds=1001\nlast=1000\njobs=1\nmin=2\nmax=4\nrelease=0\ndeadline=10\nbounds=2\nbound=ns1,ts1,12\nbound=ts1,ns1,-8\n";
      output = "refused=2,2\n";
    }
    ∷  -- one past the limit of `last=`
    record {
      program = Calendar;
      input = "window=10\nrounds=100\nlast=1000000001\njobs=1\nmin=2\nmax=4\nrelease=0\ndeadline=10\nbounds=2\nbound=ns1,ts1,12\nbound=ts1,ns1,-8\n";
      output = "refused=2,3\n";
    }
    ∷  -- ten jobs
    record {
      program = Calendar;
      input = "window=10\nrounds=100\nlast=1000\njobs=10\nmin=2\nmax=4\nrelease=0\ndeadline=10\nbounds=2\nbound=ns1,ts1,12\nbound=ts1,ns1,-8\n";
      output = "refused=2,4\n";
    }
    ∷  -- each number up to `deadline=` at its limit, nine jobs among them: no fault before the second job's lines, which are missing
    record {
      program = Calendar;
      input = "window=86400000\nrounds=1000\nlast=1000000000\njobs=9\nmin=86400000\nmax=86400000\nrelease=172800000\ndeadline=172800000\n";
      output = "refused=1,9\n";
    }
    ∷  -- 64 bounds and c at its greatest: no fault before the second bound line, which is missing
    record {
      program = Calendar;
      input = "window=10\nrounds=100\nlast=1000\njobs=1\nmin=2\nmax=4\nrelease=0\ndeadline=10\nbounds=64\nbound=ns1,ts1,1000000000\n";
      output = "refused=1,11\n";
    }
    ∷  -- 65 bounds
    record {
      program = Calendar;
      input = "window=10\nrounds=100\nlast=1000\njobs=1\nmin=2\nmax=4\nrelease=0\ndeadline=10\nbounds=65\nbound=ns1,ts1,1000000000\n";
      output = "refused=2,9\n";
    }
    ∷  -- one past the limit of c
    record {
      program = Calendar;
      input = "window=10\nrounds=100\nlast=1000\njobs=1\nmin=2\nmax=4\nrelease=0\ndeadline=10\nbounds=1\nbound=ns1,ts1,1000000001\n";
      output = "refused=2,10\n";
    }
    ∷  -- c at its least
    record {
      program = Calendar;
      input = "window=10\nrounds=100\nlast=1000\njobs=1\nmin=2\nmax=4\nrelease=0\ndeadline=10\nbounds=1\nbound=ns1,ts1,-1000000000\n";
      output = "refused=4,2\n";
    }
    ∷ []

pub numbers-right : Right numbers
unfolding computing
numbers-right = refl

abbrev pub line_cases : List Case
line_cases =
    -- 2: a last line without LF lacks the form, whatever stands in it
    record {
      program = Calendar;
      input = "window=0";
      output = "refused=1,1\n";
    }
    ∷  -- 2: the same on the last bound line
    record {
      program = Calendar;
      input = "window=10\nrounds=100\nlast=1000\njobs=1\nmin=2\nmax=4\nrelease=0\ndeadline=10\nbounds=2\nbound=ns1,ts1,12\nbound=ts1,ns1,-8";
      output = "refused=1,11\n";
    }
    ∷  -- a missing line
    record {
      program = Calendar;
      input = "window=10\n";
      output = "refused=1,2\n";
    }
    ∷  -- 3: an empty line
    record {
      program = Calendar;
      input = "\nwindow=10\nrounds=100\nlast=1000\njobs=1\nmin=2\nmax=4\nrelease=0\ndeadline=10\nbounds=2\nbound=ns1,ts1,12\nbound=ts1,ns1,-8\n";
      output = "refused=1,1\n";
    }
    ∷  -- 3: CR before LF
    record {
      program = Calendar;
      input = "window=10\r\nrounds=100\nlast=1000\njobs=1\nmin=2\nmax=4\nrelease=0\ndeadline=10\nbounds=2\nbound=ns1,ts1,12\nbound=ts1,ns1,-8\n";
      output = "refused=1,1\n";
    }
    ∷  -- 3: a space
    record {
      program = Calendar;
      input = "window= 10\nrounds=100\nlast=1000\njobs=1\nmin=2\nmax=4\nrelease=0\ndeadline=10\nbounds=2\nbound=ns1,ts1,12\nbound=ts1,ns1,-8\n";
      output = "refused=1,1\n";
    }
    ∷  -- 3: NUL
    record {
      program = Calendar;
      input = "window=10\0\nrounds=100\nlast=1000\njobs=1\nmin=2\nmax=4\nrelease=0\ndeadline=10\nbounds=2\nbound=ns1,ts1,12\nbound=ts1,ns1,-8\n";
      output = "refused=1,1\n";
    }
    ∷  -- 3: upper case
    record {
      program = Calendar;
      input = "Window=10\nrounds=100\nlast=1000\njobs=1\nmin=2\nmax=4\nrelease=0\ndeadline=10\nbounds=2\nbound=ns1,ts1,12\nbound=ts1,ns1,-8\n";
      output = "refused=1,1\n";
    }
    ∷  -- 4: a plan alone has nothing after its last line, and that comes before the verdict
    record {
      program = Calendar;
      input = "window=10\nrounds=100\nlast=1000\njobs=1\nmin=2\nmax=11\nrelease=0\ndeadline=10\nbounds=2\nbound=ns1,ts1,12\nbound=ts1,ns1,-8\nx";
      output = "refused=1,12\n";
    }
    ∷  -- 4: in a session it is the first step, after the verdict
    record {
      program = Dispatch;
      input = "window=10\nrounds=100\nlast=1000\njobs=1\nmin=2\nmax=11\nrelease=0\ndeadline=10\nbounds=2\nbound=ns1,ts1,12\nbound=ts1,ns1,-8\nx";
      output = "refused=4,1\n";
    }
    ∷  -- 4: the same, of a plan that settles
    record {
      program = Dispatch;
      input = "window=10\nrounds=100\nlast=1000\njobs=1\nmin=2\nmax=4\nrelease=0\ndeadline=10\nbounds=2\nbound=ns1,ts1,12\nbound=ts1,ns1,-8\nx\n";
      output = "refused=1,12\n";
    }
    ∷  -- 8: too many bounds are said
    record {
      program = Calendar;
      input = "window=10\nrounds=100\nlast=1000\njobs=1\nmin=2\nmax=4\nrelease=0\ndeadline=10\nbounds=3\nbound=ns1,ts1,12\nbound=ts1,ns1,-8\n";
      output = "refused=1,12\n";
    }
    ∷  -- 8: too few bounds are said
    record {
      program = Calendar;
      input = "window=10\nrounds=100\nlast=1000\njobs=1\nmin=2\nmax=4\nrelease=0\ndeadline=10\nbounds=1\nbound=ns1,ts1,12\nbound=ts1,ns1,-8\n";
      output = "refused=1,11\n";
    }
    ∷ []

pub lines-right : Right line_cases
unfolding computing
lines-right = refl

abbrev pub pairs : List Case
pairs =
    -- 6: job digit 0 comes before the pair
    record {
      program = Calendar;
      input = "window=10\nrounds=100\nlast=1000\njobs=1\nmin=2\nmax=4\nrelease=0\ndeadline=10\nbounds=1\nbound=ts0,ts0,1\n";
      output = "refused=2,10\n";
    }
    ∷  -- 6: a job digit above `jobs`
    record {
      program = Calendar;
      input = "window=10\nrounds=100\nlast=1000\njobs=1\nmin=2\nmax=4\nrelease=0\ndeadline=10\nbounds=1\nbound=ns2,ts1,1\n";
      output = "refused=2,10\n";
    }
    ∷  -- 6: two digits lack the form
    record {
      program = Calendar;
      input = "window=10\nrounds=100\nlast=1000\njobs=1\nmin=2\nmax=4\nrelease=0\ndeadline=10\nbounds=1\nbound=ts10,ts1,1\n";
      output = "refused=1,10\n";
    }
    ∷  -- 6: p is no window letter of a plan
    record {
      program = Calendar;
      input = "window=10\nrounds=100\nlast=1000\njobs=1\nmin=2\nmax=4\nrelease=0\ndeadline=10\nbounds=1\nbound=ps1,ts1,1\n";
      output = "refused=1,10\n";
    }
    ∷  -- 6: the form of the whole line comes first
    record {
      program = Calendar;
      input = "window=10\nrounds=100\nlast=1000\njobs=1\nmin=2\nmax=4\nrelease=0\ndeadline=10\nbounds=1\nbound=ts0,ts1,x\n";
      output = "refused=1,10\n";
    }
    ∷  -- 6: c out of range comes before the pair
    record {
      program = Calendar;
      input = "window=10\nrounds=100\nlast=1000\njobs=1\nmin=2\nmax=4\nrelease=0\ndeadline=10\nbounds=1\nbound=ts1,ts1,1000000001\n";
      output = "refused=2,10\n";
    }
    ∷  -- 7: the same event twice
    record {
      program = Calendar;
      input = "window=10\nrounds=100\nlast=1000\njobs=1\nmin=2\nmax=4\nrelease=0\ndeadline=10\nbounds=1\nbound=ts1,ts1,1\n";
      output = "refused=3,10\n";
    }
    ∷  -- 7: both n
    record {
      program = Calendar;
      input = "window=10\nrounds=100\nlast=1000\njobs=1\nmin=2\nmax=4\nrelease=0\ndeadline=10\nbounds=1\nbound=ns1,nf1,1\n";
      output = "refused=3,10\n";
    }
    ∷  -- 7: a pair again, with another c
    record {
      program = Calendar;
      input = "window=10\nrounds=100\nlast=1000\njobs=1\nmin=2\nmax=4\nrelease=0\ndeadline=10\nbounds=2\nbound=ns1,ts1,12\nbound=ns1,ts1,11\n";
      output = "refused=3,11\n";
    }
    ∷  -- 7: the same event in two windows is a pair
    record {
      program = Calendar;
      input = "window=10\nrounds=100\nlast=1000\njobs=1\nmin=2\nmax=4\nrelease=0\ndeadline=10\nbounds=1\nbound=ns1,ts1,12\n";
      output = "settled=1\njob=1\nlow=0\nhigh=6\natmost=ps1,12\n";
    }
    ∷  -- A,B and B,A are two pairs
    record {
      program = Calendar;
      input = "window=10\nrounds=100\nlast=1000\njobs=1\nmin=2\nmax=4\nrelease=0\ndeadline=10\nbounds=2\nbound=ns1,ts1,12\nbound=ts1,ns1,-8\n";
      output = "settled=1\njob=1\nlow=0\nhigh=6\natleast=ps1,8\natmost=ps1,12\n";
    }
    ∷  -- a fourth part
    record {
      program = Calendar;
      input = "window=10\nrounds=100\nlast=1000\njobs=1\nmin=2\nmax=4\nrelease=0\ndeadline=10\nbounds=1\nbound=ns1,ts1,12,1\n";
      output = "refused=1,10\n";
    }
    ∷ []

pub pairs-right : Right pairs
unfolding computing
pairs-right = refl

abbrev pub sessions : List Case
sessions =
    -- 14: no steps, no output
    record {
      program = Dispatch;
      input = "window=10\nrounds=100\nlast=1000\njobs=1\nmin=2\nmax=4\nrelease=0\ndeadline=10\nbounds=2\nbound=ns1,ts1,12\nbound=ts1,ns1,-8\n";
      output = "";
    }
    ∷  -- 15: the answers before a faulty step stand
    record {
      program = Dispatch;
      input = "window=10\nrounds=100\nlast=1000\njobs=1\nmin=2\nmax=4\nrelease=0\ndeadline=10\nbounds=2\nbound=ns1,ts1,12\nbound=ts1,ns1,-8\nask=offer\nstart=-1\nask=offer\n";
      output = "offer=0,6\nrefused=2,13\n";
    }
    ∷  -- 15: a step that lacks its form ends the session
    record {
      program = Dispatch;
      input = "window=10\nrounds=100\nlast=1000\njobs=1\nmin=2\nmax=4\nrelease=0\ndeadline=10\nbounds=2\nbound=ns1,ts1,12\nbound=ts1,ns1,-8\nask=offer\nask=offers\nask=offer\n";
      output = "offer=0,6\nrefused=1,13\n";
    }
    ∷  -- 15: a step's own 2 comes before 6
    record {
      program = Dispatch;
      input = "window=10\nrounds=100\nlast=1000\njobs=1\nmin=2\nmax=4\nrelease=0\ndeadline=10\nbounds=2\nbound=ns1,ts1,12\nbound=ts1,ns1,-8\nstart=0\nstart=100000000000000001\n";
      output = "started=1,1,0\nrefused=2,13\n";
    }
    ∷  -- 15: the greatest T is in range
    record {
      program = Dispatch;
      input = "window=10\nrounds=100\nlast=1000\njobs=1\nmin=2\nmax=4\nrelease=0\ndeadline=10\nbounds=2\nbound=ns1,ts1,12\nbound=ts1,ns1,-8\nstart=100000000000000000\n";
      output = "refused=8,0\n";
    }
    ∷  -- 15: a step without LF
    record {
      program = Dispatch;
      input = "window=10\nrounds=100\nlast=1000\njobs=1\nmin=2\nmax=4\nrelease=0\ndeadline=10\nbounds=2\nbound=ns1,ts1,12\nbound=ts1,ns1,-8\nask=offer";
      output = "refused=1,12\n";
    }
    ∷  -- 17: after the end ask and start give 10 for any T, and finish 7
    record {
      program = Dispatch;
      input = "window=10\nrounds=100\nlast=1\njobs=1\nmin=2\nmax=4\nrelease=0\ndeadline=10\nbounds=2\nbound=ns1,ts1,12\nbound=ts1,ns1,-8\nstart=0\nask=offer\nfinish=2\nask=offer\nstart=77\nstart=auto\nfinish=5\n";
      output = "started=1,1,0\nrefused=6,0\nfinal=1,1,2\nrefused=10,0\nrefused=10,0\nrefused=10,0\nrefused=7,0\n";
    }
    ∷  -- finish while none runs, start while one runs
    record {
      program = Dispatch;
      input = "window=10\nrounds=100\nlast=1000\njobs=1\nmin=2\nmax=4\nrelease=0\ndeadline=10\nbounds=2\nbound=ns1,ts1,12\nbound=ts1,ns1,-8\nfinish=1\nstart=auto\nstart=auto\nfinish=1\nfinish=5\nfinish=4\n";
      output = "refused=7,0\nstarted=1,1,0\nrefused=6,0\nrefused=9,0\nrefused=9,0\nfinal=1,1,4\n";
    }
    ∷  -- refusals of two jobs go on
    record {
      program = Dispatch;
      input = "window=30\nrounds=100\nlast=1000\njobs=2\nmin=5\nmax=8\nrelease=0\ndeadline=30\nmin=0\nmax=0\nrelease=0\ndeadline=30\nbounds=1\nbound=ts2,ts1,8\nstart=23\nstart=22\nfinish=30\nask=offer\nstart=29\nstart=30\nfinish=30\nask=offer\n";
      output = "refused=8,0\nstarted=1,1,22\nfinal=1,1,30\noffer=30,30\nrefused=8,0\nstarted=1,2,30\nfinal=1,2,30\noffer=30,52\n";
    }
    ∷ []

pub sessions-right : Right sessions
unfolding computing
sessions-right = refl
