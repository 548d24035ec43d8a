-- The fault is that of the first of the three operands that is wrong, and else that of a number out of range.
use mir.Syntax.{w64}
use mir.Val.{to_z, of_z}
use Rattle.std.proofs.Common.{◌≡◌, Err, sym, ap, ◌∙◌, rules}
use Rattle.asm_syntax.specs.Faults.{if_ok}
use Rattle.asm_syntax.specs.Operands.{number_in}
use Rattle.asm_syntax.specs.Ranges.{from_to, is_within}
use Rattle.asm_syntax.proofs.Judged.{three_judged, three_none}
use Rattle.asm_syntax.proofs.shapes.two_registers_number.Goals as goal

pub returns-in_err-rd-clause-value : goal.returns-in_err-rd-clause-value
returns-in_err-rd-clause-value c =
    let none = sym c.both_registers.ensures ∙ c.in_err-rd.was in
    let fault : c.from_residual.result ≡ Err c.in_err-rd.field-0.0 = search rules in
    fault ∙ three_none number_in (λ o. is_within (from_to c.args.low c.args.high) o.2) _ _ _ c.in-len3.len_at_least c.in-len3.len_below none

pub returns-in_err-number-clause-value : goal.returns-in_err-number-clause-value
returns-in_err-number-clause-value c =
    let are = sym c.both_registers.ensures ∙ c.in_ok-rd.was in
    let low : to_z w64 (of_z w64 c.args.low) ≡ c.args.low = search rules in
    let high : to_z w64 (of_z w64 c.args.high) ≡ c.args.high = search rules in
    let fault : c.from_residual-in_err-number.result ≡ Err c.in_err-number.field-0.0 = search rules in
    fault ∙ (ap (if_ok (λ y. (c.in_ok-rd.rd, c.in_ok-rd.rs1, y))) (sym c.in_err-number.was)
    ∙ three_judged number_in (is_within (from_to c.args.low c.args.high)) _ _ _ _ _ c.in-len3.len_at_least c.in-len3.len_below are
    (rw (low, high) at c.number_within.ensures.value))

pub returns-clause-value : goal.returns-clause-value
returns-clause-value c =
    let are = sym c.both_registers.ensures ∙ c.in_ok-rd.was in
    let low : to_z w64 (of_z w64 c.args.low) ≡ c.args.low = search rules in
    let high : to_z w64 (of_z w64 c.args.high) ≡ c.args.high = search rules in
    let number : to_z w64 (of_z w64 c.in_ok-number.number) ≡ c.in_ok-number.number = search rules in
    rw number
    (ap (if_ok (λ y. (c.in_ok-rd.rd, c.in_ok-rd.rs1, y))) (sym c.in_ok-number.was)
    ∙ three_judged number_in (is_within (from_to c.args.low c.args.high)) _ _ _ _ _ c.in-len3.len_at_least c.in-len3.len_below are
    (rw (low, high) at c.number_within.ensures.value))
