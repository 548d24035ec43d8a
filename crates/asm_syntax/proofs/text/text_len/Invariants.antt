-- The bytes that were passed and those that the rest of the string has make the length of the string.
use Rattle.std.proofs.Common.{length}
use Rattle.std.specs.Option.{option_map}
use Rattle.asm_syntax.specs.Tokens.{text_from}
use Rattle.asm_syntax.proofs.TextBytes.{HasLen}
use Rattle.asm_syntax.proofs.text.text_len.Given as goal

abbrev pub invariant-loop-rest : goal.invariant-loop-rest
invariant-loop-rest l = HasLen (length l.line) l.rest (option_map (λ t. t.len) (text_from l.line))

abbrev pub decreases-loop-rest : goal.decreases-loop-rest
decreases-loop-rest l = length l.rest
