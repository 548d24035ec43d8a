-- No rule of the definitions gives want of memory as the fault of a line, so it is none of a text.
use Rattle.asm_syntax.proofs.Facts as Facts
use Rattle.rv_asm.proofs.NeverMemory.{never_memory}
use Rattle.rv_asm.proofs.laws.want_of_memory_is_no_fault.Goals as goal

pub returns : goal.returns
returns c = λ extensions. never_memory extensions (Facts.never_memory extensions)
