-- The ranges in which a time is carried from a window's own clock to the run's: those of a plan's window and of a run's windows (document
-- 01, 'Plan text'), and of a calendar's low and high ('Numbers of refusal'). Every number on the way then fits an i64.
use Rattle.std.specs.Prelude.{ℕ, ◌+◌, ◌≤◌, ℤ, pos, neg_ℤ, ◌≤ℤ◌}

-- the longest window, '`window=` | 1..86,400,000'; this crate stands beside `plan`, and what it takes is no less than what a plan may have
abbrev pub longest_length : ℕ
longest_length = 86400000

-- the last window, '`last=` windows in a run | 1..1,000,000,000'
abbrev pub last_window : ℕ
last_window = 1000000000

-- how far a time may be from its window's beginning: as a calendar's low and high, 'from -1,000,000,000 to 1,000,000,000'
abbrev pub farthest : ℤ
farthest = pos 1000000000

-- a window's length, and the number of a window of a run or of the one past its last
pub record WindowInRange (window : ℤ) (j : ℕ) : Type 0 where
  pub least : pos 0 ≤ℤ window
  pub greatest : window ≤ℤ pos longest_length
  pub first : 1 ≤ j
  pub last : j ≤ last_window + 1

-- a time that is near its window's beginning
pub record NearBeginning (t : ℤ) : Type 0 where
  pub least : neg_ℤ farthest ≤ℤ t
  pub greatest : t ≤ℤ farthest
