-- The rounded value is one of the format, so that its pattern stands for it.
use Rattle.std.proofs.Common.{rules, T, ◌∙◌, ap}
use Rattle.rv_floats.specs.Conversions.{rounded_whole}
use Rattle.rv_floats.proofs.double.U64Pattern.rounded_whole.Goals as goal
use lib.Ieee.{binary64, fits, of_bits}
use lib.Ieee.Bits.{of_bits-to_bits}

pub returns : goal.returns
returns c =
    let in_format : T (fits binary64 c.rounded.result) = search rules in
    ap (of_bits binary64) c.f64_to_bits_with_nan.ensures
    ∙ of_bits-to_bits binary64 _ in_format
    ∙ c.rounded.ensures
    ∙ ap (rounded_whole c.args.mode binary64) c.f64_from_bits_with_nan.ensures
