-- The magnitude by `rooted` encloses the exact root, so its rounding is that of the root.
use Rattle.rv_float_modes.specs.Operations.{exact_root}
use Rattle.rv_float_modes.proofs.finite.root.Goals as goal

pub returns : goal.returns
returns c f x s h = c.rounded.ensures f (exact_root x) s (c.rooted.ensures.root f x h)
