-- The token is the string's content with the bytes that spell it, and there is none where the string has no end.
use Rattle.asm_syntax.proofs.TextBytes.{text_token, no_text_token}
use Rattle.asm_syntax.proofs.token.text_head.Goals as goal

pub returns-in-Some-clause-value : goal.returns-in-Some-clause-value
returns-in-Some-clause-value c = text_token c.args.rest.now c.in-Some.len c.in-Some.ensures.len

pub returns-in-None-clause-value : goal.returns-in-None-clause-value
returns-in-None-clause-value c = no_text_token c.args.rest.now c.in-None.ensures.len
