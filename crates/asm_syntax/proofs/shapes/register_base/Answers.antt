-- The fault is that of the first of the two operands that is wrong, and else that of an offset that is not 0.
use Rattle.std.proofs.Common.{◌≡◌, Err, sym, ap, ◌∙◌, rules}
use Rattle.asm_syntax.specs.Faults.{if_ok}
use Rattle.asm_syntax.specs.Operands.{address_in}
use Rattle.asm_syntax.specs.Ranges.{up_to, is_within}
use Rattle.asm_syntax.specs.TokenViews.{address_value, register_address_value}
use Rattle.asm_syntax.proofs.Judged.{two_judged, two_none}
use Rattle.asm_syntax.proofs.shapes.register_base.Goals as goal

pub returns-in_err-register : goal.returns-in_err-register
returns-in_err-register c =
    let none = sym c.register.ensures ∙ c.in_err-register.was in
    let fault : c.from_residual.result ≡ Err c.in_err-register.field-0.0 = search rules in
    ap (if_ok register_address_value) fault ∙ two_none address_in (λ o. is_within (up_to 0) o.1.offset) _ _ _ c.in-len2.len_at_least
    c.in-len2.len_below none

pub returns-in_err-address : goal.returns-in_err-address
returns-in_err-address c =
    let is = sym c.register.ensures ∙ c.in_ok-register.was in
    let fault : c.from_residual-in_err-address.result ≡ Err c.in_err-address.field-0.0 = search rules in
    ap (if_ok register_address_value) fault
    ∙ (ap (λ r. if_ok (λ y. (c.in_ok-register.register, y)) (if_ok address_value r)) (sym c.in_err-address.was)
    ∙ two_judged address_in (λ a. is_within (up_to 0) a.offset) _ _ _ _ c.in-len2.len_at_least c.in-len2.len_below is
    c.base_address.ensures)

pub returns : goal.returns
returns c =
    let is = sym c.register.ensures ∙ c.in_ok-register.was in
    ap (λ r. if_ok (λ y. (c.in_ok-register.register, y)) (if_ok address_value r)) (sym c.in_ok-address.was)
    ∙ two_judged address_in (λ a. is_within (up_to 0) a.offset) _ _ _ _ c.in-len2.len_at_least c.in-len2.len_below is
    c.base_address.ensures
