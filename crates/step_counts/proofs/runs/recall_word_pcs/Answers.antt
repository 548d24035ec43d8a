-- Each pc that was read is a word, and all of them were read.
use Rattle.std.proofs.Common.{arith}
use Rattle.step_counts.proofs.Words.{words-read}
use Rattle.step_counts.proofs.runs.recall_word_pcs.Goals as goal

pub returns : goal.returns
returns g c =
    words-read c.nodes-node-items.result.now c.args.machine.now.nodes c.loop-node.node-index (omega (arith, c.loop-node-test.false))
    c.nodes-node-items.ensures c.loop-node.invariant
