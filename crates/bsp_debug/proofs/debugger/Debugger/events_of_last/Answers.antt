-- The events are those that the trace has taken down, which are the last ones of the debugger's state.
use Rattle.std.proofs.Common.{◌∙◌, ap}
use Rattle.bsp_debug.specs.Debugger.{DebuggerState}
use Rattle.bsp_debug.proofs.debugger.Debugger.events_of_last.Goals as goal

pub returns : goal.returns
returns g c = c.made.ensures.value ∙ ap (λ (d : DebuggerState). d.last) c.self.view_is
