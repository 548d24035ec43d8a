-- The rounded value is one of the format, so that its pattern stands for it.
use Rattle.std.proofs.Common.{rules, T, ◌∙◌, ap}
use Rattle.rv_floats.specs.Conversions.{rounded_whole}
use Rattle.rv_floats.proofs.single.U32Pattern.rounded_whole.Goals as goal
use lib.Ieee.{binary32, fits, of_bits}
use lib.Ieee.Bits.{of_bits-to_bits}

pub returns : goal.returns
returns c =
    let in_format : T (fits binary32 c.rounded.result) = search rules in
    ap (of_bits binary32) c.f32_to_bits_with_nan.ensures
    ∙ of_bits-to_bits binary32 _ in_format
    ∙ c.rounded.ensures
    ∙ ap (rounded_whole c.args.mode binary32) c.f32_from_bits_with_nan.ensures
