-- What a put says, without its allocator.
use Rattle.std.specs.Prelude.{ℕ, List}

-- the target's rank, the registration and the offset in its area, and the bytes (BSPlib's `bsp_put`)
pub record Put : Type 0 where
  pub target : ℕ
  pub slot : ℕ
  pub offset : ℕ
  pub bytes : List ℕ
