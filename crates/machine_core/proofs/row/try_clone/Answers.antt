-- One copy more has the state of the node copied; past the last place the row's states are those of all nodes.
use Rattle.std.proofs.Common.{ap, ◌∙◌, arith}
use Rattle.std.proofs.lemmas.List.{take_all}
use Rattle.node_core.specs.Node.{PreparedNode}
use Rattle.bsp_exchange.specs.Exchange.{states}
use Rattle.machine_core.proofs.States.{states-more}
use Rattle.machine_core.proofs.row.try_clone.Goals as goal

pub loop-node-preserved : goal.loop-node-preserved
loop-node-preserved g c =
    states-more c.args.nodes.now c.loop-node.row.items c.push.new.self.items c.loop-node.node-index c.node-item.result
    c.in_ok-try_clone.field-0 (omega arith) c.node-item.is
    c.loop-node.invariant c.in_ok-push.ensures.items (ap (λ (p : PreparedNode). p.node) c.in_ok-try_clone.ensures)

pub returns : goal.returns
returns g c = c.loop-node.invariant ∙ ap states (take_all c.loop-node.node-index c.args.nodes.now c.loop-node-test.false)
