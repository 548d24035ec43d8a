-- Steps that are made one after another are one number of steps, and each time some are made of those left.
use Rattle.std.proofs.Common.{◌+◌, sym, arith}
use Rattle.node_core.proofs.Steps.{local_steps-zero}
use Rattle.worker_pool.proofs.Works.{steps_then}
use Rattle.worker_pool.proofs.part.begin_node.Goals as goal

pub loop-left-init : goal.loop-left-init
loop-left-init g c = record { few = omega arith; stepped = (0, sym (local_steps-zero c.args.input.now c.args.node.now.node)) }

pub loop-left-preserved : goal.loop-left-preserved
loop-left-preserved g c =
    let before = c.loop-left.invariant.stepped in
    record {
      few = omega (arith, c.saturating_sub-left.ensures, c.loop-left.invariant.few);
      stepped = (
        before.0 + c.in_ok-made.made,
        steps_then c.args.input.now before.0 c.in_ok-made.made c.args.node.now.node c.loop-left.node.node
            c.some_steps.new.node.node before.1 c.in_ok-made.ensures.ok.1,
      );
    }

pub returns-in_err-made : goal.returns-in_err-made
returns-in_err-made g c =
    let before = c.loop-left.invariant.stepped in
    let more = c.in_err-made.ensures.err in
    record {
      stepped = (
        before.0 + more.0,
        steps_then c.args.input.now before.0 more.0 c.args.node.now.node c.loop-left.node.node c.some_steps.new.node.node
            before.1 more.1,
      );
    }
