-- The ranges of a plan's numbers, both ends included (document 01, 'Plan text', the table), and the sizes of its arrays.
use Rattle.std.specs.Prelude.{ℕ, ◌+◌, ◌*◌, ℤ, pos, neg_ℤ}

-- '`window=` | 1..86,400,000'
abbrev pub longest_window : ℤ
longest_window = pos 86400000

-- '`rounds=` | 1..1,000'
abbrev pub most_rounds : ℕ
most_rounds = 1000

-- '`last=` windows in a run | 1..1,000,000,000'
abbrev pub most_windows : ℕ
most_windows = 1000000000

-- '`jobs=` | 1..9'
abbrev pub most_jobs : ℕ
most_jobs = 9

-- '`min=`, `max=` | 0..86,400,000'
abbrev pub longest_running : ℤ
longest_running = pos 86400000

-- '`release=`, `deadline=` | 0..172,800,000'
abbrev pub latest_deadline : ℤ
latest_deadline = pos 172800000

-- '`bounds=` | 0..64'
abbrev pub most_bounds : ℕ
most_bounds = 64

-- the lines of a plan: the first four, four for each job, the count of the bounds, and the bounds
abbrev pub most_lines : ℕ
most_lines = 4 + 4 * most_jobs + 1 + most_bounds

-- the longest key of a line that is a key and a number, `deadline=`
abbrev pub longest_key : ℕ
longest_key = 9

-- 'c from -1,000,000,000 to 1,000,000,000'
abbrev pub greatest_c : ℤ
greatest_c = pos 1000000000

abbrev pub least_c : ℤ
least_c = neg_ℤ greatest_c
