-- The points are those of the set.
use Rattle.std.proofs.Common.{◌≡◌, subst}
use Rattle.std.specs.Prelude.{IfOk}
use Rattle.bsp_debug.specs.Debugger.{DebuggerState}
use Rattle.bsp_debug.specs.Points.{AreInOrder}
use Rattle.bsp_debug.proofs.debugger.Debugger.points.Goals as goal

pub returns-clause-value : goal.returns-clause-value
returns-clause-value g c =
    subst (λ (d : DebuggerState). IfOk c.to_vec.result (λ points. points.items ≡ d.points)) c.self.view_is c.to_vec.ensures.value

pub returns-clause-order : goal.returns-clause-order
returns-clause-order g c = subst (λ (d : DebuggerState). AreInOrder d.points) c.self.view_is c.to_vec.ensures.order
