-- The messages so far are the first ones of the queue.
use Rattle.std.proofs.Common.{◌≡◌, take}
use Rattle.bsp_debug.proofs.reads.queue_of.Given as goal

abbrev pub invariant-loop-i : goal.invariant-loop-i
invariant-loop-i g l = l.messages.items ≡ take l.i l.node.node.hart.communication.queue
