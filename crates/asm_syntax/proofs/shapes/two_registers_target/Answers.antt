-- The fault is that of the first of the three operands that is wrong, and else that of a target out of range.
use Rattle.std.proofs.Common.{◌≡◌, Err, sym, ap, ◌∙◌, rules}
use Rattle.asm_syntax.specs.Faults.{if_ok}
use Rattle.asm_syntax.specs.Operands.{target_in, fits_target}
use Rattle.asm_syntax.specs.Views.{target_value, registers_target_value}
use Rattle.asm_syntax.proofs.Judged.{three_judged, three_none}
use Rattle.asm_syntax.proofs.shapes.two_registers_target.Goals as goal

pub returns-in_err-rs1 : goal.returns-in_err-rs1
returns-in_err-rs1 c =
    let none = sym c.both_registers.ensures ∙ c.in_err-rs1.was in
    let fault : c.from_residual.result ≡ Err c.in_err-rs1.field-0.0 = search rules in
    ap (if_ok registers_target_value) fault ∙ three_none target_in (λ o. fits_target o.2) _ _ _ c.in-len3.len_at_least c.in-len3.len_below
    none

pub returns-in_err-target : goal.returns-in_err-target
returns-in_err-target c =
    let are = sym c.both_registers.ensures ∙ c.in_ok-rs1.was in
    let fault : c.from_residual-in_err-target.result ≡ Err c.in_err-target.field-0.0 = search rules in
    ap (if_ok registers_target_value) fault
    ∙ (ap (λ r. if_ok (λ y. (c.in_ok-rs1.rs1, c.in_ok-rs1.rs2, y)) (if_ok target_value r)) (sym c.in_err-target.was)
    ∙ three_judged target_in fits_target _ _ _ _ _ c.in-len3.len_at_least c.in-len3.len_below are c.target.ensures)

pub returns : goal.returns
returns c =
    let are = sym c.both_registers.ensures ∙ c.in_ok-rs1.was in
    ap (λ r. if_ok (λ y. (c.in_ok-rs1.rs1, c.in_ok-rs1.rs2, y)) (if_ok target_value r)) (sym c.in_ok-target.was)
    ∙ three_judged target_in fits_target _ _ _ _ _ c.in-len3.len_at_least c.in-len3.len_below are c.target.ensures
