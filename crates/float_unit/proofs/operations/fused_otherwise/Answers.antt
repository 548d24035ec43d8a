-- The patterns of results are no wider than their format.
use Rattle.std.proofs.Common.{◌*◌, ◌<◌, subst, sym}
use Rattle.rv_float_modes.specs.declared.rounded.Rounded.{Rounded}
use Rattle.rv_float_modes.proofs.Narrow.{multiply_add_narrow, multiply_subtract_narrow, negated_multiply_add_narrow}
use Rattle.rv_float_modes.proofs.Narrow.{negated_multiply_subtract_narrow}
use Rattle.float_unit.proofs.operations.fused_otherwise.Goals as goal
use lib.Ieee.{top}

pub returns-in-Madd-clause-narrow : goal.returns-in-Madd-clause-narrow
returns-in-Madd-clause-narrow g c =
    subst (λ (r : Rounded). r.bits < 2 * top g.P.Pattern.format) (sym c.multiply_add_in.ensures)
    (multiply_add_narrow g.P.Pattern.format c.args.mode (g.P.Pattern.bits c.args.a) (g.P.Pattern.bits c.args.b) (g.P.Pattern.bits c.args.c))

pub returns-in-Msub-clause-narrow : goal.returns-in-Msub-clause-narrow
returns-in-Msub-clause-narrow g c =
    subst (λ (r : Rounded). r.bits < 2 * top g.P.Pattern.format) (sym c.multiply_subtract_in.ensures)
    (multiply_subtract_narrow g.P.Pattern.format c.args.mode (g.P.Pattern.bits c.args.a) (g.P.Pattern.bits c.args.b)
    (g.P.Pattern.bits c.args.c))

pub returns-in-Nmsub-clause-narrow : goal.returns-in-Nmsub-clause-narrow
returns-in-Nmsub-clause-narrow g c =
    subst (λ (r : Rounded). r.bits < 2 * top g.P.Pattern.format) (sym c.negated_multiply_subtract_in.ensures)
    (negated_multiply_subtract_narrow g.P.Pattern.format c.args.mode (g.P.Pattern.bits c.args.a) (g.P.Pattern.bits c.args.b)
    (g.P.Pattern.bits c.args.c))

pub returns-in-Nmadd-clause-narrow : goal.returns-in-Nmadd-clause-narrow
returns-in-Nmadd-clause-narrow g c =
    subst (λ (r : Rounded). r.bits < 2 * top g.P.Pattern.format) (sym c.negated_multiply_add_in.ensures)
    (negated_multiply_add_narrow g.P.Pattern.format c.args.mode (g.P.Pattern.bits c.args.a) (g.P.Pattern.bits c.args.b)
    (g.P.Pattern.bits c.args.c))
