-- The first two registers are read together, and then the third one; an operand that is no register is the fault.
use Rattle.std.proofs.Common.{◌≡◌, true, Err, sym, ap, ◌∙◌, rules}
use Rattle.asm_syntax.specs.Faults.{if_ok}
use Rattle.asm_syntax.specs.Operands.{register_in}
use Rattle.asm_syntax.proofs.Judged.{three_judged, three_none}
use Rattle.asm_syntax.proofs.shapes.three_registers.Goals as goal

pub returns-in_err-rs2 : goal.returns-in_err-rs2
returns-in_err-rs2 c =
    let are = sym c.both_registers.ensures ∙ c.in_ok-rd.was in
    let fault : c.from_residual-in_err-rs2.result ≡ Err c.in_err-rs2.field-0.0 = search rules in
    fault ∙ (ap (if_ok (λ y. (c.in_ok-rd.rd, c.in_ok-rd.rs1, y))) (sym c.in_err-rs2.was)
    ∙ three_judged register_in (λ _. true) _ _ _ _ _ c.in-len3.len_at_least c.in-len3.len_below are c.register.ensures)

pub returns : goal.returns
returns c =
    let are = sym c.both_registers.ensures ∙ c.in_ok-rd.was in
    ap (if_ok (λ y. (c.in_ok-rd.rd, c.in_ok-rd.rs1, y))) (sym c.in_ok-rs2.was)
    ∙ three_judged register_in (λ _. true) _ _ _ _ _ c.in-len3.len_at_least c.in-len3.len_below are c.register.ensures

pub returns-in_err-rd : goal.returns-in_err-rd
returns-in_err-rd c =
    let none = sym c.both_registers.ensures ∙ c.in_err-rd.was in
    let fault : c.from_residual.result ≡ Err c.in_err-rd.field-0.0 = search rules in
    fault ∙ three_none register_in (λ _. true) _ _ _ c.in-len3.len_at_least c.in-len3.len_below none
