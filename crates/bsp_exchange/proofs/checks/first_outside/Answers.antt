-- A node without a fault is passed over, the first one with a fault has the fault of all, and past the last node there is none.
use Rattle.std.proofs.Common.{sym, ◌∙◌}
use Rattle.bsp_exchange.specs.Exchange.{states}
use Rattle.bsp_exchange.proofs.Finds.{fault_here, no_fault_here, no_node_left}
use Rattle.bsp_exchange.proofs.checks.first_outside.Goals as goal

pub returns-then-is_some : goal.returns-then-is_some
returns-then-is_some g c =
    sym (fault_here (states c.args.nodes.now) c.args.nodes.now c.loop-node.node-index c.node-item.result c.first_outside_of-fault.result
    c.loop-node-test.true c.node-item.is c.first_outside_of-fault.ensures (sym c.is_some.ensures ∙ c.if-is_some.true))
    ∙ c.loop-node.invariant

pub loop-node-preserved : goal.loop-node-preserved
loop-node-preserved g c =
    sym (no_fault_here (states c.args.nodes.now) c.args.nodes.now c.loop-node.node-index c.node-item.result c.first_outside_of-fault.result
    c.loop-node-test.true c.node-item.is c.first_outside_of-fault.ensures (sym c.is_some.ensures ∙ c.if-is_some.false))
    ∙ c.loop-node.invariant

pub returns : goal.returns
returns g c =
    sym (no_node_left (states c.args.nodes.now) c.args.nodes.now c.loop-node.node-index c.loop-node-test.false) ∙ c.loop-node.invariant
