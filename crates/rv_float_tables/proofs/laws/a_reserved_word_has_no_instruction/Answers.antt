-- A word that meets a row but is reserved has no instruction, since the row gives none and no other row is met.
use Rattle.rv_float_tables.proofs.Spelling.{float_instruction_of-reserved}
use Rattle.rv_float_tables.proofs.laws.a_reserved_word_has_no_instruction.Goals as goal

pub returns : goal.returns
returns c = float_instruction_of-reserved
