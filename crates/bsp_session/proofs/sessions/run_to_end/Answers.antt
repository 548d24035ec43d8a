-- A refusal of the pool is an error of the job's threads.
use Rattle.std.proofs.Common.{rules}
use Rattle.std.proofs.lemmas.Result.{err_from_is_err_and}
use Rattle.bsp_session.proofs.Jobs.{IsErrorOfThreads-of_pool}
use Rattle.bsp_session.proofs.sessions.run_to_end.Goals as goal

pub returns-in_err-run_sparing : goal.returns-in_err-run_sparing
returns-in_err-run_sparing g c =
    let p = err_from_is_err_and c.from_residual.result c.from_residual.ensures.1 in
    record {
      is = search rules;
      over = search rules;
      err = rw (p.1, p.2) (IsErrorOfThreads-of_pool c.args.job.now c.args.machine.now c.run_sparing.new.machine c.run_sparing.result _
          c.requires c.run_sparing.ensures.refusals c.in_err-run_sparing.was);
    }
