-- The eight words that are appended are the program header, as its unfolded definition has them.
use Rattle.std.proofs.Common.{rules}
use Rattle.elf_image.specs.Spelling.{spelled_program_header}
use Rattle.elf_image.proofs.writer.put_program_header.Goals as goal

pub returns : goal.returns
unfolding spelled_program_header
returns g c = search rules
