-- The row's value, the registers and the immediate's bits make the only word of an S-type row with these operands.
use Rattle.std.proofs.Common.{rules}
use Rattle.rv_tables.proofs.Masks.{under_707F}
use Rattle.rv_tables.proofs.words.s_word.Goals as goal

pub returns : goal.returns
returns c = record { encodable = search rules; word = search (rules, under_707F) }
