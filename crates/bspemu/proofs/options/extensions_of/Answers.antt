-- The extensions are the flags that the matches have; a flag that is missing contradicts the shape of the command.
use Rattle.std.proofs.Common.{codes}
use Rattle.clap.specs.Words.{found_of}
use Rattle.bspemu.proofs.Getters.{flag_of_getter, no_flag_of_getter}
use Rattle.bspemu.proofs.options.extensions_of.Goals as goal

pub returns-clause-some : goal.returns-clause-some
returns-clause-some c =
    let found = found_of c.args.found.now in
    record {
      float = flag_of_getter _ found (codes "float") c.in_ok-get_one.ensures.none c.in_ok-get_one.ensures.value;
      atomic = flag_of_getter _ found (codes "atomic") c.in_ok-get_one-2.ensures.none c.in_ok-get_one-2.ensures.value;
    }

pub returns-in_err-get_one-clause-none : goal.returns-in_err-get_one-clause-none
returns-in_err-get_one-clause-none c =
    rw c.from_residual.ensures
    (λ x gives. no_flag_of_getter x.float (found_of c.args.found.now) (codes "float") c.in_err-get_one.ensures.value gives.float)

pub returns-in_err-get_one-2-clause-none : goal.returns-in_err-get_one-2-clause-none
returns-in_err-get_one-2-clause-none c =
    rw c.from_residual-in_err-get_one-2.ensures
    (λ x gives. no_flag_of_getter x.atomic (found_of c.args.found.now) (codes "atomic") c.in_err-get_one-2.ensures.value gives.atomic)
