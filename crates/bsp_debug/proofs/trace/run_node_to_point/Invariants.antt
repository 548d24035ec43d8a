-- The steps made so far lead to the machine as it is, are no more than asked for, and have come to no point.
use Rattle.std.proofs.Common.{◌≡◌, ◌<◌, ◌≤◌, None}
use Rattle.bsp_debug.specs.Trace.{after_steps, point_at, RunsOn}
use Rattle.bsp_debug.proofs.trace.run_node_to_point.Given as goal

abbrev pub invariant-loop-made : goal.invariant-loop-made
invariant-loop-made g l = record {
  on : RunsOn l.points l.initial.machine l.rank l._made;
  is : l.machine ≡ after_steps l.initial.machine l.rank l._made;
  few : l._made ≤ l.most;
  passes : 0 < l._made → point_at l.points l.machine l.rank ≡ None;
}
