-- The options are those of any machine with the values of `run`; where one is missing, the matches cannot give the options.
use Rattle.std.proofs.Common.{codes}
use Rattle.clap.specs.Words.{found_of}
use Rattle.bspemu.proofs.Getters.{flag_of_getter, no_flag_of_getter, no_number_of_getter, number_of_getter}
use Rattle.bspemu.proofs.options.options_of_run.Goals as goal

pub returns-clause-some : goal.returns-clause-some
returns-clause-some c =
    let found = found_of c.args.run.now in
    let rest = c.in_ok-options_of_machine.ensures.rest in
    record {
      machine = c.in_ok-options_of_machine.ensures.some;
      workers = rw rest.0 (number_of_getter 32 _ found (codes "workers") c.in_ok-workers.ensures.none c.in_ok-workers.ensures.value);
      slice = rw rest.1 (number_of_getter 64 _ found (codes "slice") c.in_ok-slice.ensures.none c.in_ok-slice.ensures.value);
      report = rw rest.2 (flag_of_getter _ found (codes "report") c.in_ok-report.ensures.none c.in_ok-report.ensures.value);
      output_mode = c.in_ok-output_mode_of_run.ensures.some;
    }

pub returns-in_err-workers-clause-none : goal.returns-in_err-workers-clause-none
returns-in_err-workers-clause-none c =
    rw c.from_residual.ensures
    (λ o gives. no_number_of_getter 32 o.machine.job.workers (found_of c.args.run.now) (codes "workers") c.in_err-workers.ensures.value
    gives.workers)

pub returns-in_err-slice-clause-none : goal.returns-in_err-slice-clause-none
returns-in_err-slice-clause-none c =
    rw c.from_residual-in_err-slice.ensures
    (λ o gives. no_number_of_getter 64 o.machine.job.slice (found_of c.args.run.now) (codes "slice") c.in_err-slice.ensures.value
    gives.slice)

pub returns-in_err-report-clause-none : goal.returns-in_err-report-clause-none
returns-in_err-report-clause-none c =
    rw c.from_residual-in_err-report.ensures
    (λ o gives. no_flag_of_getter o.machine.job.report (found_of c.args.run.now) (codes "report") c.in_err-report.ensures.value
    gives.report)

pub returns-in_err-options_of_machine-clause-none : goal.returns-in_err-options_of_machine-clause-none
returns-in_err-options_of_machine-clause-none c =
    rw c.from_residual-in_err-options_of_machine.ensures (λ o gives. c.in_err-options_of_machine.ensures.none o.machine gives.machine)

pub returns-in_err-output_mode_of_run-clause-none : goal.returns-in_err-output_mode_of_run-clause-none
returns-in_err-output_mode_of_run-clause-none c =
    rw c.from_residual-in_err-output_mode_of_run.ensures (λ o gives. c.in_err-output_mode_of_run.ensures.none o.output_mode
    gives.output_mode)
