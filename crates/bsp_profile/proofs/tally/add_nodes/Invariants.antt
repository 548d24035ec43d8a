-- Each cell has what the requests of the nodes before this one add to it.
use Rattle.std.proofs.Common.{◌≡◌, ◌<◌, ℕ, length, slice_index, take}
use Rattle.std.specs.Prelude.{sum_by}
use Rattle.bsp_exchange.specs.Exchange.{states}
use Rattle.bsp_profile.specs.Tally.{added_by}
use Rattle.bsp_profile.proofs.tally.add_nodes.Given as goal

abbrev pub invariant-loop-node : goal.invariant-loop-node
invariant-loop-node g l =
    (k : ℕ) → k < length l.initial.cells
    → slice_index l.cells k ≡ sum_by (added_by l.count k) (states (take l.node-index l.nodes))
