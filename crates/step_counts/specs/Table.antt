-- What the code keeps of the steps of one rank in one superstep: how many were made at each address. The definitions of counts do not rest
-- on this.
use Rattle.std.specs.Prelude.{◌≡◌, ℕ, ◌^◌, ◌<◌, ◌≤◌, ◌==◌, nat_lt, List, length, slice_index, Option, Some, None, if◌then◌else◌}

pub record TableState : Type 0 where
  -- how many bytes the memory has
  pub memory : ℕ
  -- a count for each address up to some one of the memory; those behind it have none
  pub cells : List ℕ
  -- no address before `low`, and none from `high` on, has a count
  pub low : ℕ
  pub high : ℕ
  -- the address past the memory at which a step was made, if one was. Such a step is a fault, and the last one of its node
  pub outside : Option ℕ

-- the count of an address past the memory
abbrev pub told_outside : Option ℕ → ℕ → ℕ
told_outside None address = 0
told_outside (Some there) address = if there == address then 1 else 0

-- the count of an address
abbrev pub told : TableState → ℕ → ℕ
told t address = if nat_lt address t.memory then slice_index t.cells address else told_outside t.outside address

-- no step is counted
pub record IsEmpty (t : TableState) : Type 0 where
  pub none : (address : ℕ) → told t address ≡ 0
  pub outside : t.outside ≡ None

pub record IsTable (t : TableState) : Type 0 where
  pub few : t.memory ≤ 2 ^ 32
  pub within : length t.cells ≤ t.memory
  pub low : t.low ≤ t.memory
  pub high : t.high ≤ length t.cells
  pub below : (k : ℕ) → k < t.low → slice_index t.cells k ≡ 0
  pub above : (k : ℕ) → t.high ≤ k → slice_index t.cells k ≡ 0
  pub outside : (address : ℕ) → t.outside ≡ Some address → (t.memory ≤ address) × (address < 2 ^ 32)
