-- A refusal of memory or of the pool is an error of the job's threads; the profile is what the run appends to nothing.
use Rattle.std.proofs.Common.{◌++◌, ◌∙◌, ℕ, List, ap, rules}
use Rattle.std.proofs.lemmas.Result.{err_from_is_err_and}
use Rattle.bsp_profile.specs.Lines.{lines_of}
use Rattle.bsp_session.proofs.Jobs.{IsErrorOfThreads-of_pool}
use Rattle.bsp_session.proofs.profiles.run_profiled.Goals as goal

pub returns-in_err-profile-clause-end : goal.returns-in_err-profile-clause-end
returns-in_err-profile-clause-end g c =
    let p = err_from_is_err_and c.from_residual.result c.from_residual.ensures.1 in
    record { is = search rules; over = search rules; err = rw (p.1, p.2) tt }

pub returns-in_err-run-clause-end : goal.returns-in_err-run-clause-end
returns-in_err-run-clause-end g c =
    let p = err_from_is_err_and c.from_residual-in_err-run.result c.from_residual-in_err-run.ensures.1 in
    record {
      is = search rules;
      over = search rules;
      err = rw (p.1, p.2) (IsErrorOfThreads-of_pool c.args.job.now c.args.machine.now c.run.new.machine c.run.result _
          c.requires c.run.ensures.machine.refusals c.in_err-run.was);
    }

pub returns-clause-profile : goal.returns-clause-profile
returns-clause-profile g c = c.in_ok-run.ensures.profile ∙ ap (λ (bs : List ℕ). bs ++ lines_of c.args.machine.now) c.in_ok-profile.ensures
