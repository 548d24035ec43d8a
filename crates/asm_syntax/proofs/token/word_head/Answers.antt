-- The token is that of the whole word, and there is none where the word is no name and no number.
use Rattle.std.proofs.Common.{◌+◌, ap, ◌∙◌, drop}
use Rattle.std.specs.List.{prefix_len}
use Rattle.std.specs.Option.{option_map_or}
use Rattle.asm_syntax.specs.Bytes.{is_word_byte}
use Rattle.asm_syntax.specs.Tokens.{token, nothing}
use Rattle.asm_syntax.specs.TokenViews.{token_value}
use Rattle.asm_syntax.proofs.TokenSteps.{word_parts}
use Rattle.asm_syntax.proofs.token.word_head.Goals as goal

pub returns-in-Some-clause-value : goal.returns-in-Some-clause-value
returns-in-Some-clause-value c =
    let rest = drop 1 c.args.line.now in
    let parts = word_parts is_word_byte c.args.line.now c.word_len-len.result c.requires.not_empty c.requires.word c.word_len-len.ensures in
    let found = rw (parts.0, parts.1) at c.in-Some.ensures in
    ap (token (token_value c.in-Some.token)) parts.2 ∙ ap (λ o. option_map_or (λ t. token t (prefix_len is_word_byte rest + 1)) o nothing)
    found

pub returns-in-None-clause-value : goal.returns-in-None-clause-value
returns-in-None-clause-value c =
    let rest = drop 1 c.args.line.now in
    let parts = word_parts is_word_byte c.args.line.now c.word_len-len.result c.requires.not_empty c.requires.word c.word_len-len.ensures in
    let absent = rw (parts.0, parts.1) at c.in-None.ensures in
    ap (λ o. option_map_or (λ t. token t (prefix_len is_word_byte rest + 1)) o nothing) absent
