-- Settings are the numbers, the clock and the three flags that were read; where one is missing, the matches cannot give settings.
use Rattle.std.proofs.Common.{codes}
use Rattle.clap.specs.Words.{found_of}
use Rattle.bspemu.proofs.Getters.{flag_of_getter, no_flag_of_getter, no_number_of_getter, number_of_getter}
use Rattle.bspemu.proofs.options.settings_of_machine.Goals as goal

pub returns-clause-some : goal.returns-clause-some
returns-clause-some c =
    let found = found_of c.args.found.now in
    record {
      nodes = number_of_getter 32 _ found (codes "nodes") c.in_ok-get_one.ensures.none c.in_ok-get_one.ensures.value;
      memory = number_of_getter 32 _ found (codes "memory") c.in_ok-get_one-2.ensures.none c.in_ok-get_one-2.ensures.value;
      limit = number_of_getter 64 _ found (codes "limit") c.in_ok-get_one-3.ensures.none c.in_ok-get_one-3.ensures.value;
      clock = c.in_ok-clock_of.ensures.some;
      float = flag_of_getter _ found (codes "float") c.in_ok-get_one-4.ensures.none c.in_ok-get_one-4.ensures.value;
      atomic = flag_of_getter _ found (codes "atomic") c.in_ok-get_one-5.ensures.none c.in_ok-get_one-5.ensures.value;
      large = flag_of_getter _ found (codes "large") c.in_ok-get_one-6.ensures.none c.in_ok-get_one-6.ensures.value;
    }

pub returns-in_err-get_one-clause-none : goal.returns-in_err-get_one-clause-none
returns-in_err-get_one-clause-none c =
    rw c.from_residual.ensures
    (λ s gives. no_number_of_getter 32 s.nodes (found_of c.args.found.now) (codes "nodes") c.in_err-get_one.ensures.value gives.nodes)

pub returns-in_err-get_one-2-clause-none : goal.returns-in_err-get_one-2-clause-none
returns-in_err-get_one-2-clause-none c =
    rw c.from_residual-in_err-get_one-2.ensures
    (λ s gives. no_number_of_getter 32 s.memory (found_of c.args.found.now) (codes "memory") c.in_err-get_one-2.ensures.value gives.memory)

pub returns-in_err-get_one-3-clause-none : goal.returns-in_err-get_one-3-clause-none
returns-in_err-get_one-3-clause-none c =
    rw c.from_residual-in_err-get_one-3.ensures
    (λ s gives. no_number_of_getter 64 s.limit (found_of c.args.found.now) (codes "limit") c.in_err-get_one-3.ensures.value gives.limit)

pub returns-in_err-clock_of-clause-none : goal.returns-in_err-clock_of-clause-none
returns-in_err-clock_of-clause-none c =
    rw c.from_residual-in_err-clock_of.ensures (λ s gives. c.in_err-clock_of.ensures.none s.clock gives.clock)

pub returns-in_err-get_one-4-clause-none : goal.returns-in_err-get_one-4-clause-none
returns-in_err-get_one-4-clause-none c =
    rw c.from_residual-in_err-get_one-4.ensures
    (λ s gives. no_flag_of_getter s.float (found_of c.args.found.now) (codes "float") c.in_err-get_one-4.ensures.value gives.float)

pub returns-in_err-get_one-5-clause-none : goal.returns-in_err-get_one-5-clause-none
returns-in_err-get_one-5-clause-none c =
    rw c.from_residual-in_err-get_one-5.ensures
    (λ s gives. no_flag_of_getter s.atomic (found_of c.args.found.now) (codes "atomic") c.in_err-get_one-5.ensures.value gives.atomic)

pub returns-in_err-get_one-6-clause-none : goal.returns-in_err-get_one-6-clause-none
returns-in_err-get_one-6-clause-none c =
    rw c.from_residual-in_err-get_one-6.ensures
    (λ s gives. no_flag_of_getter s.large (found_of c.args.found.now) (codes "large") c.in_err-get_one-6.ensures.value gives.large)
