-- The examples of document 01, P1 to P14 and the empty text, and Example 1 of document 002, as one list with one theorem.
use Rattle.std.specs.Prelude.{refl, List, [], ◌∷◌}
use Rattle.promises.specs.Case.{Case, Calendar, Dispatch, Right, computing}

abbrev pub examples : List Case
examples =
    -- P1
    record {
      program = Calendar;
      input = "window=10\nrounds=100\nlast=1000\njobs=1\nmin=2\nmax=4\nrelease=0\ndeadline=10\nbounds=2\nbound=ns1,ts1,12\nbound=ts1,ns1,-8\n";
      output = "settled=1\njob=1\nlow=0\nhigh=6\natleast=ps1,8\natmost=ps1,12\n";
    }
    ∷  -- P2
    record {
      program = Dispatch;
      input = "window=10\nrounds=100\nlast=1000\njobs=1\nmin=2\nmax=4\nrelease=0\ndeadline=10\nbounds=2\nbound=ns1,ts1,12\nbound=ts1,ns1,-8\nask=offer\nstart=3\nfinish=7\nask=offer\nstart=16\nstart=auto\nfinish=16\nfinish=13\nask=offer\n";
      output = "offer=0,6\nstarted=1,1,3\nfinal=1,1,7\noffer=11,15\nrefused=8,0\nstarted=2,1,11\nrefused=9,0\nfinal=2,1,13\noffer=20,23\n";
    }
    ∷  -- P3
    record {
      program = Calendar;
      input = "window=10\nrounds=100\nlast=1000\njobs=1\nmin=2\nmax=4\nrelease=0\ndeadline=10\nbounds=1\nbound=ns1,ts1,9\n";
      output = "refused=4,8\n";
    }
    ∷  -- P4
    record {
      program = Calendar;
      input = "window=10\nrounds=7\nlast=1000\njobs=1\nmin=2\nmax=4\nrelease=0\ndeadline=10\nbounds=1\nbound=ns1,ts1,9\n";
      output = "refused=4,8\n";
    }
    ∷  -- P5
    record {
      program = Calendar;
      input = "window=10\nrounds=6\nlast=1000\njobs=1\nmin=2\nmax=4\nrelease=0\ndeadline=10\nbounds=1\nbound=ns1,ts1,9\n";
      output = "refused=5,6\n";
    }
    ∷  -- P6
    record {
      program = Calendar;
      input = "window=10\nrounds=100\nlast=1000\njobs=1\nmin=2\nmax=10\nrelease=0\ndeadline=10\nbounds=2\nbound=ns1,ts1,12\nbound=ts1,ns1,-8\n";
      output = "settled=1\njob=1\nlow=0\nhigh=0\n";
    }
    ∷  -- P7
    record {
      program = Calendar;
      input = "window=10\nrounds=100\nlast=1000\njobs=1\nmin=2\nmax=11\nrelease=0\ndeadline=10\nbounds=2\nbound=ns1,ts1,12\nbound=ts1,ns1,-8\n";
      output = "refused=4,1\n";
    }
    ∷  -- P8
    record {
      program = Calendar;
      input = "window=10\nrounds=100\nlast=1000\njobs=1\nmin=2\nmax=4\nrelease=0\ndeadline=10\nbounds=2\nbound=ns1,ts1,5\nbound=ts1,ns1,-10\n";
      output = "refused=4,2\n";
    }
    ∷  -- P9
    record {
      program = Calendar;
      input = "window=10\nrounds=100\nlast=1000\njobs=1\nmin=2\nmax=4\nrelease=0\ndeadline=10\nbounds=1\nbound=tf1,ts1,4\n";
      output = "settled=1\njob=1\nlow=0\nhigh=6\n";
    }
    ∷  -- P10
    record {
      program = Calendar;
      input = "window=10\nrounds=100\nlast=1000\njobs=1\nmin=2\nmax=4\nrelease=0\ndeadline=10\nbounds=1\nbound=tf1,ts1,3\n";
      output = "refused=4,1\n";
    }
    ∷  -- P11
    record {
      program = Calendar;
      input = "window=10\nrounds=100\nlast=1000\njobs=1\nmin=2\nmax=4\nrelease=0\ndeadline=10\nbounds=1\nbound=ts1,tf1,-2\n";
      output = "settled=1\njob=1\nlow=0\nhigh=6\n";
    }
    ∷  -- P12
    record {
      program = Calendar;
      input = "window=10\nrounds=100\nlast=1000\njobs=1\nmin=2\nmax=4\nrelease=0\ndeadline=10\nbounds=1\nbound=ts1,tf1,-3\n";
      output = "refused=4,1\n";
    }
    ∷  -- P13
    record {
      program = Calendar;
      input = "window=30\nrounds=100\nlast=1000\njobs=2\nmin=5\nmax=8\nrelease=0\ndeadline=30\nmin=0\nmax=0\nrelease=0\ndeadline=30\nbounds=1\nbound=ts2,ts1,6\n";
      output = "refused=4,1\n";
    }
    ∷  -- P14
    record {
      program = Calendar;
      input = "window=30\nrounds=100\nlast=1000\njobs=2\nmin=5\nmax=8\nrelease=0\ndeadline=30\nmin=0\nmax=0\nrelease=0\ndeadline=30\nbounds=1\nbound=ts2,ts1,8\n";
      output = "settled=1\njob=1\nlow=0\nhigh=22\njob=2\nlow=0\nhigh=30\natleast=tf1,0\natmost=ts1,8\n";
    }
    ∷  -- the empty text
    record {
      program = Calendar;
      input = "";
      output = "refused=1,1\n";
    }
    ∷  -- the empty text
    record {
      program = Dispatch;
      input = "";
      output = "refused=1,1\n";
    }
    ∷  -- document 002, Example 1
    record {
      program = Calendar;
      input = "window=20\nrounds=100\nlast=1000\njobs=2\nmin=5\nmax=8\nrelease=0\ndeadline=20\nmin=8\nmax=10\nrelease=0\ndeadline=20\nbounds=5\nbound=ts2,tf1,5\nbound=tf1,nf1,-15\nbound=nf1,tf1,25\nbound=tf2,nf2,-18\nbound=nf2,tf2,22\n";
      output = "settled=2\njob=1\nlow=0\nhigh=2\natleast=pf1,10\natmost=pf1,17\natmost=pf2,4\njob=2\nlow=8\nhigh=10\natleast=pf2,10\natleast=tf1,0\natmost=pf2,12\n";
    }
    ∷ []

pub examples-right : Right examples
unfolding computing
examples-right = refl
