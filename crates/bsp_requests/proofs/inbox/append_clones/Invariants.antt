-- The clones so far are the messages that were passed, behind what was there before.
use Rattle.std.proofs.Common.{◌≡◌, ◌++◌, take}
use Rattle.bsp_requests.proofs.inbox.append_clones.Given as goal

abbrev pub invariant-loop-message : goal.invariant-loop-message
invariant-loop-message g l = l.clones.items ≡ l.initial.clones.items ++ take l.message-index l.messages
