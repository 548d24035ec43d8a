-- The patterns of results are no wider than their format.
use Rattle.std.proofs.Common.{◌*◌, ◌<◌, subst, sym}
use Rattle.rv_float_modes.specs.declared.rounded.Rounded.{Rounded}
use Rattle.rv_float_modes.proofs.Narrow.{add_narrow, div_narrow, mul_narrow, sub_narrow}
use Rattle.float_unit.proofs.operations.arithmetic_otherwise.Goals as goal
use lib.Ieee.{top}

pub returns-in-Add-clause-narrow : goal.returns-in-Add-clause-narrow
returns-in-Add-clause-narrow g c =
    subst (λ (r : Rounded). r.bits < 2 * top g.P.Pattern.format) (sym c.add_in.ensures)
    (add_narrow g.P.Pattern.format c.args.mode (g.P.Pattern.bits c.args.a) (g.P.Pattern.bits c.args.b))

pub returns-in-Sub-clause-narrow : goal.returns-in-Sub-clause-narrow
returns-in-Sub-clause-narrow g c =
    subst (λ (r : Rounded). r.bits < 2 * top g.P.Pattern.format) (sym c.sub_in.ensures)
    (sub_narrow g.P.Pattern.format c.args.mode (g.P.Pattern.bits c.args.a) (g.P.Pattern.bits c.args.b))

pub returns-in-Mul-clause-narrow : goal.returns-in-Mul-clause-narrow
returns-in-Mul-clause-narrow g c =
    subst (λ (r : Rounded). r.bits < 2 * top g.P.Pattern.format) (sym c.mul_in.ensures)
    (mul_narrow g.P.Pattern.format c.args.mode (g.P.Pattern.bits c.args.a) (g.P.Pattern.bits c.args.b))

pub returns-in-Div-clause-narrow : goal.returns-in-Div-clause-narrow
returns-in-Div-clause-narrow g c =
    subst (λ (r : Rounded). r.bits < 2 * top g.P.Pattern.format) (sym c.div_in.ensures)
    (div_narrow g.P.Pattern.format c.args.mode (g.P.Pattern.bits c.args.a) (g.P.Pattern.bits c.args.b))
