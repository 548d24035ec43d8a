-- The numbers so far are written, four bytes each.
use Rattle.std.proofs.Common.{◌≡◌, ◌++◌, take}
use Rattle.std.specs.List.{flat_map}
use Rattle.elf_image.specs.Spelling.{word}
use Rattle.elf_image.proofs.writer.put_words.Given as goal

abbrev pub invariant-loop-number : goal.invariant-loop-number
invariant-loop-number g l = l.out.items ≡ l.initial.out.items ++ flat_map word (take l.number-index l.numbers)
