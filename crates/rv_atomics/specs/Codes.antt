-- The instruction of A of a code (RISC-V Unprivileged ISA 20191213, section 1.5 "Base Instruction-Length Encoding"). None of them is
-- compressed (section 16.8 "RVC Instruction Set Listings").
use Rattle.std.specs.Prelude.{Option, None}
use Rattle.rv_tables.specs.declared.code.Code.{Code}
use Rattle.rv_tables.specs.declared.code.Code.TheVariants.{Half, Word}
use Rattle.rv_atomics.specs.declared.instr.AtomicInstr.{AtomicInstr}
use Rattle.rv_atomics.specs.Rows.{atomic_instruction_of}

abbrev pub atomic_decoded : Code → Option AtomicInstr
atomic_decoded (Half half) = None
atomic_decoded (Word word) = atomic_instruction_of word
