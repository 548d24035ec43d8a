-- An instruction that neither loads nor stores has just the effect that the unit has of it.
use Rattle.std.proofs.Common.{◌∙◌}
use Rattle.node_core.proofs.Floats.{on_unit-operation}
use Rattle.node_core.proofs.hart.Hart.execute_on_unit.Goals as goal

pub returns-in_default-clause-ok : goal.returns-in_default-clause-ok
returns-in_default-clause-ok g c =
    on_unit-operation c.args.self.now.hart.unit c.args.instr.now c.args.size c.args.self.now.hart c.in_default.not-Load
    c.in_default.not-Store
    ∙ c.operate.ensures.hart
