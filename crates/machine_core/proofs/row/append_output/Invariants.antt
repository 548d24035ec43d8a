-- The output has what the nodes so far wrote behind what it had.
use Rattle.std.proofs.Common.{◌≡◌, ◌++◌, take}
use Rattle.bsp_exchange.specs.Exchange.{states}
use Rattle.machine_core.specs.Turn.{written}
use Rattle.machine_core.proofs.row.append_output.Given as goal

abbrev pub invariant-loop-node : goal.invariant-loop-node
invariant-loop-node g l = l.output.items ≡ l.initial.output.items ++ written (states (take l.node-index l.nodes))
