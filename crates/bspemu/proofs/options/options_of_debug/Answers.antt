-- The options are those of any machine with the two flags of `debug`; a getter that fails contradicts clap's rules.
use Rattle.std.proofs.Common.{codes}
use Rattle.clap.specs.Words.{found_of}
use Rattle.bspemu.proofs.Getters.{flag_of_getter, no_flag_of_getter}
use Rattle.bspemu.proofs.options.options_of_debug.Goals as goal

pub returns-clause-some : goal.returns-clause-some
returns-clause-some c = record {
  machine = c.in_ok-options_of_machine.ensures.some;
  workers = c.in_ok-options_of_machine.ensures.rest.0;
  slice = c.in_ok-options_of_machine.ensures.rest.1;
  report = c.in_ok-options_of_machine.ensures.rest.2;
  interactive =
      flag_of_getter _ (found_of c.args.debug.now) (codes "interactive") c.in_ok-interactive.ensures.none c.in_ok-interactive.ensures.value;
  framed = flag_of_getter _ (found_of c.args.debug.now) (codes "framed") c.in_ok-framed.ensures.none c.in_ok-framed.ensures.value;
}

pub returns-in_err-interactive-clause-none : goal.returns-in_err-interactive-clause-none
returns-in_err-interactive-clause-none c =
    rw c.from_residual.ensures
    (λ o gives. no_flag_of_getter o.interactive (found_of c.args.debug.now) (codes "interactive") c.in_err-interactive.ensures.value
    gives.interactive)

pub returns-in_err-framed-clause-none : goal.returns-in_err-framed-clause-none
returns-in_err-framed-clause-none c =
    rw c.from_residual-in_err-framed.ensures
    (λ o gives. no_flag_of_getter o.framed (found_of c.args.debug.now) (codes "framed") c.in_err-framed.ensures.value gives.framed)

pub returns-in_err-options_of_machine-clause-none : goal.returns-in_err-options_of_machine-clause-none
returns-in_err-options_of_machine-clause-none c =
    rw c.from_residual-in_err-options_of_machine.ensures (λ o gives. c.in_err-options_of_machine.ensures.none o.machine gives.machine)
