-- A second operand that is a NaN equals nothing.
use Rattle.std.proofs.Common.{sym, ◌∙◌}
use Rattle.rv_floats.proofs.Numbers.{none_equals_nan}
use Rattle.rv_floats.proofs.compare.is_equal.Goals as goal
use lib.Ieee.{of_bits}

pub returns-then-is_nan : goal.returns-then-is_nan
returns-then-is_nan g c =
    let f = g.P.Pattern.format in
    let bits = g.P.Pattern.bits in
    sym (none_equals_nan (of_bits f (bits c.args.a)) (of_bits f (bits c.args.b)) (sym c.is_nan.ensures.value ∙ c.if-is_nan.true))
