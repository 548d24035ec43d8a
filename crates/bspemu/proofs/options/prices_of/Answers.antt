-- Prices are the two numbers and the version that were read; where one is missing, the matches cannot give prices.
use Rattle.std.proofs.Common.{codes}
use Rattle.clap.specs.Words.{found_of}
use Rattle.bspemu.proofs.Getters.{no_number_of_getter, number_of_getter}
use Rattle.bspemu.proofs.options.prices_of.Goals as goal

pub returns-clause-some : goal.returns-clause-some
returns-clause-some c =
    let found = found_of c.args.found.now in
    record {
      g = number_of_getter 32 _ found (codes "g") c.in_ok-get_one.ensures.none c.in_ok-get_one.ensures.value;
      l = number_of_getter 32 _ found (codes "l") c.in_ok-get_one-2.ensures.none c.in_ok-get_one-2.ensures.value;
      ledger = c.in_ok-ledger_of.ensures.some;
    }

pub returns-in_err-ledger_of-clause-none : goal.returns-in_err-ledger_of-clause-none
returns-in_err-ledger_of-clause-none c =
    rw c.from_residual.ensures (λ p gives. c.in_err-ledger_of.ensures.none p.ledger gives.ledger)

pub returns-in_err-get_one-clause-none : goal.returns-in_err-get_one-clause-none
returns-in_err-get_one-clause-none c =
    rw c.from_residual-in_err-get_one.ensures
    (λ p gives. no_number_of_getter 32 p.g (found_of c.args.found.now) (codes "g") c.in_err-get_one.ensures.value gives.g)

pub returns-in_err-get_one-2-clause-none : goal.returns-in_err-get_one-2-clause-none
returns-in_err-get_one-2-clause-none c =
    rw c.from_residual-in_err-get_one-2.ensures
    (λ p gives. no_number_of_getter 32 p.l (found_of c.args.found.now) (codes "l") c.in_err-get_one-2.ensures.value gives.l)
