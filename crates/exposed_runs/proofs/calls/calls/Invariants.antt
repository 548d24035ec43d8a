-- The calls of the notes before this one are there.
use Rattle.std.proofs.Common.{◌≡◌, take}
use Rattle.bsp_exchange.specs.Exchange.{states}
use Rattle.exposed_runs.specs.Calls.{calls}
use Rattle.exposed_runs.proofs.calls.calls.Given as goal

abbrev pub invariant-loop-note : goal.invariant-loop-note
invariant-loop-note g l = l.all.items ≡ calls (states l.nodes) (take l.note-index l.notes)
