-- A message that was sent, without its allocator.
use Rattle.std.specs.Prelude.{ℕ, ◌^◌, ◌≤◌, List, length}

-- the sender's rank, the tag and the payload
pub record Message : Type 0 where
  pub sender : ℕ
  pub tag : List ℕ
  pub payload : List ℕ

-- own limit: a tag and a payload have at most 2^30 bytes each
pub record IsShort (m : Message) : Type 0 where
  pub tag : length m.tag ≤ 2 ^ 30
  pub payload : length m.payload ≤ 2 ^ 30
