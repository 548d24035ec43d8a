-- The tests come in the order of the definition; written out, so that a wrong test is refused without another search.
use Rattle.std.proofs.Common.{rules}
use Rattle.elf_image.proofs.file.check_program_header.Goals as goal

pub returns-then-not-is_load : goal.returns-then-not-is_load
returns-then-not-is_load c = search rules

pub returns : goal.returns
returns c = search rules
