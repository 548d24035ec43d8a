-- The memory has the bytes of an image of the segments laid so far, and its shared pages are zeros.
use Rattle.std.proofs.Common.{◌≡◌, take}
use Rattle.node_memory.specs.Image.{image_bytes}
use Rattle.node_memory.specs.Pages.{SharesZeros}
use Rattle.node_memory.specs.Table.{IsPageOfZeros}
use Rattle.node_memory.proofs.ImageBytes.{image_of}
use Rattle.node_memory.proofs.memory.Memory.new.Given as goal

abbrev pub invariant-loop-segment : goal.invariant-loop-segment
invariant-loop-segment g l =
    (l.laid.bytes ≡ image_bytes (image_of l.image.entry (take l.segment-index l.image.segments)) l.size) × SharesZeros l.laid
    × IsPageOfZeros l.zeros
