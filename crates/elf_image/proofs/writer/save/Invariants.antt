-- The headers so far are written, and the next segment's bytes have their offset; then the bytes of the segments so far follow.
use Rattle.std.proofs.Common.{◌≡◌, ◌++◌, length, take}
use Rattle.std.specs.List.{flat_map, enumerate_from}
use Rattle.node_memory.specs.Image.{Segment}
use Rattle.elf_image.specs.Spelling.{spelled_file_header, spelled_entry, bytes_offset}
use Rattle.elf_image.proofs.writer.save.Given as goal

abbrev pub invariant-loop-segment : goal.invariant-loop-segment
invariant-loop-segment g l = record {
  written : l.out.items ≡ spelled_file_header l.image.entry (length l.image.segments)
      ++ flat_map (spelled_entry l.image) (enumerate_from 0 (take l.segment-index l.image.segments));
  next : l.offset ≡ bytes_offset l.image l.segment-index;
}

abbrev pub invariant-loop-segment-2 : goal.invariant-loop-segment-2
invariant-loop-segment-2 g l =
    l.out.items ≡ spelled_file_header l.image.entry (length l.image.segments)
    ++ flat_map (spelled_entry l.image) (enumerate_from 0 l.image.segments)
    ++ flat_map (λ (s : Segment). s.bytes) (take l.segment-index l.image.segments)
