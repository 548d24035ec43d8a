-- What is no NaN has the pattern of a number.
use Rattle.std.proofs.Common.{sym, ap, ◌∙◌}
use Rattle.rv_floats.proofs.Numbers.{pattern_of_number}
use Rattle.rv_floats.proofs.single.U32Pattern.is_nan.Goals as goal
use lib.Ieee.{binary32, is_nan}

pub returns-clause-number : goal.returns-clause-number
returns-clause-number c none =
    pattern_of_number binary32 c.args.self (ap is_nan (sym c.f32_from_bits_with_nan.ensures) ∙ sym c.is_nan.ensures.value ∙ none)
