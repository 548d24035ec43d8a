-- The patterns of results are no wider than their format.
use Rattle.std.proofs.Common.{◌*◌, ◌<◌, subst, sym}
use Rattle.rv_float_modes.specs.declared.rounded.Rounded.{Rounded}
use Rattle.rv_float_modes.proofs.Narrow.{sqrt_narrow}
use Rattle.float_unit.proofs.operations.square_root_in.Goals as goal
use lib.Ieee.{top}

pub returns-in_default-clause-narrow : goal.returns-in_default-clause-narrow
returns-in_default-clause-narrow g c =
    subst (λ (r : Rounded). r.bits < 2 * top g.P.Pattern.format) (sym c.sqrt_in.ensures)
    (sqrt_narrow g.P.Pattern.format c.args.mode (g.P.Pattern.bits c.args.a))
