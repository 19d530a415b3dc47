-- No two answers meet the promise of the entry, and no two slices: each promise is an equation, and `only` of the crate `text` says the rest.
use Rattle.std.specs.Prelude.{ℕ, ◌≡◌, List, ℤ}
use Rattle.text.specs.Unique.{only}
use Rattle.agent.specs.Entry.{entry_answer, entry_bytes}

pub entry-unique : (s out : List ℕ) {r q : ℤ} → r ≡ entry_answer s out → q ≡ entry_answer s out → r ≡ q
entry-unique s out = only

pub entry-bytes-unique : (s out : List ℕ) {o p : List ℕ} → o ≡ entry_bytes s out → p ≡ entry_bytes s out → o ≡ p
entry-bytes-unique s out = only
