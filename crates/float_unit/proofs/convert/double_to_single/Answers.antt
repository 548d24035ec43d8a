-- In the modes other than to the nearest, ties to even, the single made of a double has a pattern below 2^32.
use Rattle.std.proofs.Common.{◌^◌, ◌<◌, subst, sym}
use Rattle.rv_float_modes.specs.declared.rounded.Rounded.{Rounded}
use Rattle.rv_float_modes.proofs.Narrow.{narrowed_narrow}
use Rattle.float_unit.proofs.convert.double_to_single.Goals as goal

pub returns-in_default-clause-narrow : goal.returns-in_default-clause-narrow
returns-in_default-clause-narrow c =
    subst (λ (r : Rounded). r.bits < 2 ^ 32) (sym c.d_to_s_in.ensures) (narrowed_narrow c.args.mode c.args.a)
