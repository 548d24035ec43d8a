-- With its events forgotten, the trace begins with the machine as it is, which keeps to its invariant.
use Rattle.std.proofs.Common.{sym}
use Rattle.machine_core.proofs.Steps.{after-nil}
use Rattle.bsp_debug.proofs.trace.Trace.forget.Goals as goal

pub invariant_of-self : goal.invariant_of-self
invariant_of-self g c =
    rw (c.of.ensures, c.clear.ensures.items) (record { machine = sym (after-nil c.self.inside.machine); few = tt })

pub returns-clause-trace : goal.returns-clause-trace
returns-clause-trace g c = invariant_of-self g c
