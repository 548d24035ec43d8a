-- A new trace has no events, so its machine is the one with which it begins.
use Rattle.std.proofs.Common.{sym}
use Rattle.machine_core.proofs.Steps.{after-nil}
use Rattle.bsp_debug.proofs.trace.Trace.new.Goals as goal

pub invariant_of-result : goal.invariant_of-result
invariant_of-result g c =
    rw (c.of.ensures, c.new.ensures.items) (record { machine = sym (after-nil c.args.machine); few = tt })
