-- The fault is that of the first of the two operands that is wrong, and else that of a target out of range.
use Rattle.std.proofs.Common.{◌≡◌, Err, sym, ap, ◌∙◌, rules}
use Rattle.asm_syntax.specs.Faults.{if_ok}
use Rattle.asm_syntax.specs.Operands.{target_in, fits_target}
use Rattle.asm_syntax.specs.Views.{target_value, register_target_value}
use Rattle.asm_syntax.proofs.Judged.{two_judged, two_none}
use Rattle.asm_syntax.proofs.shapes.register_target.Goals as goal

pub returns-in_err-register : goal.returns-in_err-register
returns-in_err-register c =
    let none = sym c.register.ensures ∙ c.in_err-register.was in
    let fault : c.from_residual.result ≡ Err c.in_err-register.field-0.0 = search rules in
    ap (if_ok register_target_value) fault ∙ two_none target_in (λ o. fits_target o.1) _ _ _ c.in-len2.len_at_least c.in-len2.len_below none

pub returns-in_err-target : goal.returns-in_err-target
returns-in_err-target c =
    let is = sym c.register.ensures ∙ c.in_ok-register.was in
    let fault : c.from_residual-in_err-target.result ≡ Err c.in_err-target.field-0.0 = search rules in
    ap (if_ok register_target_value) fault
    ∙ (ap (λ r. if_ok (λ y. (c.in_ok-register.register, y)) (if_ok target_value r)) (sym c.in_err-target.was)
    ∙ two_judged target_in fits_target _ _ _ _ c.in-len2.len_at_least c.in-len2.len_below is c.target.ensures)

pub returns : goal.returns
returns c =
    let is = sym c.register.ensures ∙ c.in_ok-register.was in
    ap (λ r. if_ok (λ y. (c.in_ok-register.register, y)) (if_ok target_value r)) (sym c.in_ok-target.was)
    ∙ two_judged target_in fits_target _ _ _ _ c.in-len2.len_at_least c.in-len2.len_below is c.target.ensures
