-- Plans that tell right from nearly right: each has another verdict under a definition that is off by little.
use Rattle.std.specs.Prelude.{refl, List, [], ◌∷◌}
use Rattle.promises.specs.Case.{Case, Calendar, Right, computing}

abbrev pub nearly_right : List Case
nearly_right =
    -- two rounds, although the strategies stop changing in the first
    record {
      program = Calendar;
      input = "window=6\nrounds=1000\nlast=1000\njobs=2\nmin=3\nmax=3\nrelease=0\ndeadline=6\nmin=0\nmax=1\nrelease=0\ndeadline=6\nbounds=1\nbound=nf2,ts2,9\n";
      output = "settled=2\njob=1\nlow=0\nhigh=2\natmost=ps2,5\njob=2\nlow=1\nhigh=5\natleast=tf1,0\natmost=ps2,8\n";
    }
    ∷  -- one round, and two where only w > latest - earliest is left out
    record {
      program = Calendar;
      input = "window=4\nrounds=1000\nlast=1000\njobs=2\nmin=2\nmax=3\nrelease=0\ndeadline=7\nmin=0\nmax=0\nrelease=4\ndeadline=5\nbounds=1\nbound=nf2,tf1,6\n";
      output = "settled=1\njob=1\nlow=0\nhigh=2\natleast=pf2,0\natmost=pf1,3\njob=2\nlow=4\nhigh=5\natleast=tf1,0\natmost=pf1,6\n";
    }
    ∷  -- one round, and two where nothing is left out
    record {
      program = Calendar;
      input = "window=4\nrounds=1000\nlast=1000\njobs=2\nmin=0\nmax=0\nrelease=0\ndeadline=4\nmin=2\nmax=3\nrelease=0\ndeadline=4\nbounds=1\nbound=ns2,ts1,7\n";
      output = "settled=1\njob=1\nlow=0\nhigh=1\njob=2\nlow=0\nhigh=1\natleast=tf1,0\n";
    }
    ∷  -- K = 2
    record {
      program = Calendar;
      input = "window=1\nrounds=1000\nlast=1000\njobs=1\nmin=1\nmax=3\nrelease=0\ndeadline=3\nbounds=0\n";
      output = "refused=4,2\n";
    }
    ∷  -- the same in one round
    record {
      program = Calendar;
      input = "window=1\nrounds=1\nlast=1000\njobs=1\nmin=1\nmax=3\nrelease=0\ndeadline=3\nbounds=0\n";
      output = "refused=5,1\n";
    }
    ∷  -- K = 5
    record {
      program = Calendar;
      input = "window=3\nrounds=1000\nlast=1000\njobs=1\nmin=0\nmax=0\nrelease=0\ndeadline=3\nbounds=1\nbound=ns1,ts1,2\n";
      output = "refused=4,5\n";
    }
    ∷  -- the same already in four rounds
    record {
      program = Calendar;
      input = "window=3\nrounds=4\nlast=1000\njobs=1\nmin=0\nmax=0\nrelease=0\ndeadline=3\nbounds=1\nbound=ns1,ts1,2\n";
      output = "refused=4,5\n";
    }
    ∷  -- no round repeats the one before it, although the first repeats every bound to and from the origin
    record {
      program = Calendar;
      input = "window=7\nrounds=1\nlast=1000\njobs=2\nmin=1\nmax=2\nrelease=1\ndeadline=7\nmin=1\nmax=4\nrelease=3\ndeadline=9\nbounds=1\nbound=ns1,ts1,7\n";
      output = "refused=5,1\n";
    }
    ∷ []

pub nearly_right-right : Right nearly_right
unfolding computing
nearly_right-right = refl
