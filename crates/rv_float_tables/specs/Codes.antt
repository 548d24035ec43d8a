-- The instruction of floating point of a code (RISC-V Unprivileged ISA 20191213, section 1.5 "Base Instruction-Length Encoding").
use Rattle.std.specs.Prelude.{Option}
use Rattle.rv_tables.specs.declared.code.Code.{Code}
use Rattle.rv_tables.specs.declared.code.Code.TheVariants.{Half, Word}
use Rattle.rv_float_tables.specs.declared.instr.FloatInstr.{FloatInstr}
use Rattle.rv_float_tables.specs.Compressed.{float_expansion_of}
use Rattle.rv_float_tables.specs.Rows.{float_instruction_of}

abbrev pub float_decoded : Code → Option FloatInstr
float_decoded (Half half) = float_expansion_of half
float_decoded (Word word) = float_instruction_of word
