-- A refusal of memory or of the pool is an error of the job's threads; all that is told is what the run appends to nothing.
use Rattle.std.proofs.Common.{◌++◌, ◌∙◌, ℕ, List, ap, rules}
use Rattle.std.proofs.lemmas.Result.{err_from_is_err_and}
use Rattle.bsp_session.proofs.Jobs.{IsErrorOfThreads-of_pool}
use Rattle.bsp_session.proofs.contested.run_told.Goals as goal

pub returns-in_err-told-clause-end : goal.returns-in_err-told-clause-end
returns-in_err-told-clause-end g c =
    let p = err_from_is_err_and c.from_residual.result c.from_residual.ensures.1 in
    record { is = search rules; over = search rules; err = rw (p.1, p.2) tt }

pub returns-in_err-run-clause-end : goal.returns-in_err-run-clause-end
returns-in_err-run-clause-end g c =
    let p = err_from_is_err_and c.from_residual-in_err-run.result c.from_residual-in_err-run.ensures.1 in
    record {
      is = search rules;
      over = search rules;
      err = rw (p.1, p.2) (IsErrorOfThreads-of_pool c.args.job.now c.args.machine.now c.run.new.machine c.run.result _
          c.requires c.run.ensures.machine.refusals c.in_err-run.was);
    }

pub returns-clause-told : goal.returns-clause-told
returns-clause-told g c =
    let lines = c.in_ok-run.ensures.told in
    (lines.0, lines.1, lines.2 ∙ ap (λ (bs : List ℕ). bs ++ lines.0) c.in_ok-told.ensures)
