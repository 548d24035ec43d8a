-- A reader or a writer whose failures are counted.
use Rattle.std.specs.Prelude.{ℕ, ◌+◌, ◌-◌, ◌^◌, ◌<◌, ◌≤◌, ◌⊎◌, ◌==◌, ◌&&◌, Bool, true, false, List, length, nat_lt, if◌then◌else◌, Result}
use Rattle.std.specs.Prelude.{Ok, Err}

-- what a contract sees of a `Counted`: the reader or writer inside, and how many of its calls failed
pub record CountedState (T : Type 0) : Type 0 where
  pub inner : T
  pub failures : ℕ

-- the count after one more call: where the call failed it rises by one, and stays at `u64::MAX`
abbrev pub next_count : Bool → ℕ → ℕ
next_count true n = if nat_lt n (2 ^ 64 - 1) then n + 1 else n
next_count false n = n

-- a write fails by an error, or by taking none of some bytes
abbrev pub is_failed_write : {E : Type 0} → Result ℕ E → List ℕ → Bool
is_failed_write (Ok n) bytes = (n == 0) && nat_lt 0 (length bytes)
is_failed_write (Err e) bytes = true

-- the count rose from old to new, where a count at `u64::MAX` is taken as risen
abbrev pub HasRisen : ℕ → ℕ → Type 0
HasRisen old new = (old < new) ⊎ (2 ^ 64 - 1 ≤ new)
