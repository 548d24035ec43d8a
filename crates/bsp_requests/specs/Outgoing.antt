-- What a send says, without its allocator.
use Rattle.std.specs.Prelude.{ℕ, List}

-- the target's rank, and the message's tag and payload (BSPlib's `bsp_send`)
pub record Outgoing : Type 0 where
  pub target : ℕ
  pub tag : List ℕ
  pub payload : List ℕ
