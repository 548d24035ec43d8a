-- Numbers out of range and an outcome leave the machine as it is; else its local parts are made, as far as nothing was refused.
use Rattle.std.proofs.Common.{sym, ap, ◌∙◌, rules}
use Rattle.std.specs.Prelude.{is_some}
use Rattle.std.proofs.lemmas.Result.{err_from_is_err_and}
use Rattle.worker_pool.proofs.Phases.{no_events, phases_over, HaveCome-over}
use Rattle.worker_pool.proofs.pool.run_phase_with.Goals as goal

pub returns-in_err-check_numbers : goal.returns-in_err-check_numbers
returns-in_err-check_numbers g c =
    let p = err_from_is_err_and c.from_residual.result c.from_residual.ensures.1 in
    record {
      refusals = record { bad_workers = search rules; bad_slice = search rules; unchanged = search rules; no_worker = search rules };
      ok = search rules;
      err = rw p.1 (no_events c.args.machine.now);
      over = search rules;
      stopped = search rules;
    }

pub returns-then-is_some : goal.returns-then-is_some
returns-then-is_some g c =
    let over = ap is_some (sym c.outcome.ensures.value) ∙ sym c.is_some.ensures ∙ c.if-is_some.true in
    record {
      refusals = record { bad_workers = search rules; bad_slice = search rules; unchanged = search rules; no_worker = search rules };
      ok = phases_over c.args.machine.now c.outcome.ensures.sound over;
      err = search rules;
      over = search rules;
      stopped = λ within. HaveCome-over c.args.machine.now c.outcome.ensures.sound over;
    }

pub returns : goal.returns
returns g c =
    record {
      refusals = record { bad_workers = search rules; bad_slice = search rules; unchanged = search rules; no_worker = search rules };
      ok = search rules;
      err = search rules;
      over = search rules;
      stopped = λ within. search rules;
    }
