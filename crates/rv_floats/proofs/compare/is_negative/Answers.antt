-- A NaN has no sign.
use Rattle.std.proofs.Common.{sym, ◌∙◌}
use Rattle.rv_floats.proofs.Signs.{negative_nan}
use Rattle.rv_floats.proofs.compare.is_negative.Goals as goal
use lib.Ieee.{of_bits}

pub returns-then-is_nan : goal.returns-then-is_nan
returns-then-is_nan g c =
    negative_nan (of_bits g.P.Pattern.format (g.P.Pattern.bits c.args.a)) (sym c.is_nan.ensures.value ∙ c.if-is_nan.true)
