-- The next node joins the open group, or begins one.
use Rattle.std.proofs.Common.{string_bytes}
use Rattle.std.proofs.lemmas.Result.{IfOk-weaker}
use Rattle.debug_lines.specs.KeptViews.{group_value}
use Rattle.debug_lines.proofs.Groups.{first-told, more, more-none, none-told}
use Rattle.debug_lines.proofs.kept.add_groups.Goals as goal

pub returns-in_default : goal.returns-in_default
returns-in_default g c = none-told c.args.nodes.now (string_bytes c.args.text.now) (c.in_default.ensures {u = tt}).cases

pub loop-node-init : goal.loop-node-init
loop-node-init g c =
    first-told c.args.nodes.now c.in-Some.others.now c.in-Some.node.now (group_value c.in_ok-group.group) (string_bytes c.args.text.now)
    (c.in-Some.ensures {u = tt}).cases.0 (c.in_ok-group.ensures {u = tt})

pub loop-node-preserved : goal.loop-node-preserved
loop-node-preserved g c =
    more c.in-Some.others.now c.loop-node.node-index c.node-item.result (group_value c.loop-node.group) _ (string_bytes c.loop-node.text) _
    _
    c.loop-node-test.true c.node-item.is (c.in_ok-add_next.ensures {u = tt}) c.loop-node.invariant

pub returns : goal.returns
returns g c =
    IfOk-weaker c.add_group.result _ _
    (λ u written. more-none c.in-Some.others.now c.loop-node.node-index (group_value c.loop-node.group) (string_bytes c.loop-node.text) _ _
    c.loop-node-test.false written c.loop-node.invariant) c.add_group.ensures
