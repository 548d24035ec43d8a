-- The text and the messages that are left make all lines; written out, since the search would try other ways first.
use Rattle.std.proofs.Common.{arith}
use Rattle.std.proofs.lemmas.Grind.{common_steps}
use Rattle.debug_lines.proofs.reply.queue_lines.Goals as goal

pub returns : goal.returns
returns g c = grind (arith, common_steps)

pub loop-message-preserved : goal.loop-message-preserved
loop-message-preserved g c = grind (arith, common_steps)

pub loop-message-init : goal.loop-message-init
loop-message-init g c = grind (arith, common_steps)
