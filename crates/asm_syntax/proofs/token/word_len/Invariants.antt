-- The bytes that were passed and the bytes of words behind them make the length of the word.
use Rattle.std.proofs.Common.{◌≡◌, ◌+◌, drop}
use Rattle.std.specs.List.{prefix_len}
use Rattle.asm_syntax.specs.Bytes.{is_word_byte}
use Rattle.asm_syntax.proofs.token.word_len.Given as goal

abbrev pub invariant-loop-at : goal.invariant-loop-at
invariant-loop-at l = l.at + prefix_len is_word_byte (drop l.at l.line) ≡ prefix_len is_word_byte l.line
