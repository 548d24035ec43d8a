-- The numbers so far are written, two bytes each.
use Rattle.std.proofs.Common.{◌≡◌, ◌++◌, take}
use Rattle.std.specs.List.{flat_map}
use Rattle.elf_image.specs.Spelling.{half}
use Rattle.elf_image.proofs.writer.put_halves.Given as goal

abbrev pub invariant-loop-number : goal.invariant-loop-number
invariant-loop-number g l = l.out.items ≡ l.initial.out.items ++ flat_map half (take l.number-index l.numbers)
