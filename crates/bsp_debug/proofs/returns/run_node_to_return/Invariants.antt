-- The steps made so far lead to the machine as it is, and since the first of them the node has not arrived.
use Rattle.std.proofs.Common.{◌≡◌, ◌<◌, false}
use Rattle.bsp_debug.specs.Returns.{has_arrived, GoesOn}
use Rattle.bsp_debug.specs.Trace.{after_steps}
use Rattle.bsp_debug.proofs.returns.run_node_to_return.Given as goal

abbrev pub invariant-loop-made : goal.invariant-loop-made
invariant-loop-made g l = record {
  on : GoesOn l.points l.initial.machine l.rank l.addr l.sp l._made;
  is : l.machine ≡ after_steps l.initial.machine l.rank l._made;
  passes : 0 < l._made → has_arrived l.points l.rank l.addr l.sp l.machine ≡ false;
}
