-- A byte that is plain, or an escape of two bytes, is passed; the `"` ends the string, and any other byte makes it none.
use Rattle.std.proofs.Common.{◌≡◌, None, false, get_or, arith, rules, sym, ◌∙◌}
use Rattle.std.proofs.lemmas.Bool.Decides.{nat_tests}
use Rattle.asm_syntax.specs.Bytes.{is_quote, is_backslash}
use Rattle.asm_syntax.proofs.TextBytes.{HasLen-init, HasLen-itself, HasLen-escape, HasLen-no_escape}
use Rattle.asm_syntax.proofs.text.text_len.Goals as goal

pub loop-rest-init : goal.loop-rest-init
loop-rest-init c = HasLen-init c.args.line.now

pub loop-rest-preserved : goal.loop-rest-preserved
loop-rest-preserved c =
    let quote : is_quote (get_or c.loop-rest.rest.now 0 0) ≡ false = grind (arith, nat_tests) in
    let backslash : is_backslash (get_or c.loop-rest.rest.now 0 0) ≡ false = grind (arith, nat_tests) in
    HasLen-itself _ 0 c.loop-rest.rest.now _ c.in-len1-up.len_at_least quote backslash (sym c.is_plain.ensures ∙ c.if-is_plain.true)
    c.loop-rest.invariant

pub loop-rest-preserved-in_ok-rest-in-92 : goal.loop-rest-preserved-in_ok-rest-in-92
loop-rest-preserved-in_ok-rest-in-92 c =
    HasLen-escape _ 0 c.loop-rest.rest.now _ _ c.in-len1-up.len_at_least c.in-92.is c.in_ok-rest-in-92.ensures.string
    c.in_ok-rest-in-92.ensures.shorter c.loop-rest.invariant

pub returns-in_err-rest-in-92-clause-len : goal.returns-in_err-rest-in-92-clause-len
returns-in_err-rest-in-92-clause-len c =
    let none : c.from_residual.result ≡ None = search rules in
    none ∙ HasLen-no_escape _ 0 c.loop-rest.rest.now _ c.in-len1-up.len_at_least c.in-92.is c.in_err-rest-in-92.ensures.string
    c.loop-rest.invariant
