-- With no event made, the machine is the one with which the trace begins.
use Rattle.std.proofs.Common.{sym}
use Rattle.machine_core.proofs.Steps.{after-nil}
use Rattle.bsp_debug.proofs.trace.Trace.begin.Goals as goal

pub invariant_of-self : goal.invariant_of-self
invariant_of-self g c = rw (c.of.ensures, c.clear.ensures.items) (record { machine = sym (after-nil c.args.machine); few = tt })
