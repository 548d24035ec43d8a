-- A register other than x0 gets the value, as in the definition.
use Rattle.std.proofs.Common.{arith}
use Rattle.std.proofs.lemmas.Grind.{common_steps}
use Rattle.node_core.proofs.hart.Hart.set_reg.Goals as goal

pub returns-then-rd-ne0 : goal.returns-then-rd-ne0
returns-then-rd-ne0 g c = grind (arith, common_steps, c.if-rd-ne0.true)
