-- The segments so far are those of the PT_LOAD headers among the entries so far.
use Rattle.std.proofs.Common.{◌≡◌, map, take, filter}
use Rattle.elf_image.specs.Headers.{program_headers, is_load}
use Rattle.elf_image.specs.Presents.{segment_of}
use Rattle.elf_image.proofs.loader.image_of.Given as goal

abbrev pub invariant-loop-i : goal.invariant-loop-i
invariant-loop-i g l =
    l.segments.items ≡ map (segment_of l.file) (filter is_load (take l.i (program_headers l.file)))
