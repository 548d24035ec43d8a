-- The fault is that of the first of the three operands that is wrong, and else that of an offset that is not 0.
use Rattle.std.proofs.Common.{◌≡◌, Err, sym, ap, ◌∙◌, rules}
use Rattle.asm_syntax.specs.Faults.{if_ok}
use Rattle.asm_syntax.specs.Operands.{address_in}
use Rattle.asm_syntax.specs.Ranges.{up_to, is_within}
use Rattle.asm_syntax.specs.TokenViews.{address_value, registers_address_value}
use Rattle.asm_syntax.proofs.Judged.{three_judged, three_none}
use Rattle.asm_syntax.proofs.shapes.two_registers_base.Goals as goal

pub returns-in_err-rd : goal.returns-in_err-rd
returns-in_err-rd c =
    let none = sym c.both_registers.ensures ∙ c.in_err-rd.was in
    let fault : c.from_residual.result ≡ Err c.in_err-rd.field-0.0 = search rules in
    ap (if_ok registers_address_value) fault ∙ three_none address_in (λ o. is_within (up_to 0) o.2.offset) _ _ _ c.in-len3.len_at_least
    c.in-len3.len_below none

pub returns-in_err-address : goal.returns-in_err-address
returns-in_err-address c =
    let are = sym c.both_registers.ensures ∙ c.in_ok-rd.was in
    let fault : c.from_residual-in_err-address.result ≡ Err c.in_err-address.field-0.0 = search rules in
    ap (if_ok registers_address_value) fault
    ∙ (ap (λ r. if_ok (λ y. (c.in_ok-rd.rd, c.in_ok-rd.rs2, y)) (if_ok address_value r)) (sym c.in_err-address.was)
    ∙ three_judged address_in (λ a. is_within (up_to 0) a.offset) _ _ _ _ _ c.in-len3.len_at_least c.in-len3.len_below are
    c.base_address.ensures)

pub returns : goal.returns
returns c =
    let are = sym c.both_registers.ensures ∙ c.in_ok-rd.was in
    ap (λ r. if_ok (λ y. (c.in_ok-rd.rd, c.in_ok-rd.rs2, y)) (if_ok address_value r)) (sym c.in_ok-address.was)
    ∙ three_judged address_in (λ a. is_within (up_to 0) a.offset) _ _ _ _ _ c.in-len3.len_at_least c.in-len3.len_below are
    c.base_address.ensures
