-- A line whose labels are new defines them at its address; its fault is a misplaced number, a label twice, or an end past the limit.
use Rattle.std.proofs.Common.{Some, is_some, sym, ◌∙◌, ap, ⊎_elim}
use Rattle.std.proofs.lemmas.Result.{err_from_is_err_and}
use Rattle.asm_syntax.specs.Views.{line_value}
use Rattle.rv_asm.specs.Labels.{symbols}
use Rattle.rv_asm.proofs.Judging.{duplicate_fault, large_fault}
use Rattle.rv_asm.proofs.first_pass.define.Goals as goal

pub returns-in_err-define_all-clause-err : goal.returns-in_err-define_all-clause-err
returns-in_err-define_all-clause-err g c =
    let p = err_from_is_err_and c.from_residual.result c.from_residual.ensures.1 in
    rw (p.1, p.2)
    (⊎_elim (λ memory. λ other. absurd (other memory))
    (λ fault. λ _. duplicate_fault c.args.address (λ q. is_some (symbols c.args.labels.now q)) (line_value c.args.line.now)
    (sym c.misses_number.ensures ∙ c.if-misses_number.false) (rw c.as_slice.ensures at fault.1) ∙ ap Some (sym fault.0))
    c.in_err-define_all.ensures.err)

pub returns-clause-err : goal.returns-clause-err
returns-clause-err g c =
    rw c.ok_or.ensures.value
    (large_fault c.args.address (λ q. is_some (symbols c.args.labels.now q)) (line_value c.args.line.now) c.line_end.result
    (sym c.misses_number.ensures ∙ c.if-misses_number.false)
    (rw c.as_slice.ensures at c.in_ok-define_all.ensures.distinct)
    c.line_end.ensures)
