-- The version of the ledger is that of the number that was read, and none is answered only if the number is no version.
use Rattle.std.proofs.Common.{codes}
use Rattle.clap.specs.Words.{found_of, rows_of}
use Rattle.bspemu.specs.Options.{number_of_ledger}
use Rattle.bspemu.proofs.Getters.{ledger_of_number, no_ledger_of_number, no_number_of_getter, number_of_getter}
use Rattle.bspemu.proofs.options.ledger_of.Goals as goal

pub returns-clause-some : goal.returns-clause-some
returns-clause-some c =
    let found = found_of c.args.found.now in
    ledger_of_number (rows_of found) _ c.ledger_numbered.result
    (number_of_getter 32 _ found (codes "ledger") c.in_ok-get_one.ensures.none c.in_ok-get_one.ensures.value) c.ledger_numbered.ensures.some

pub returns-clause-none : goal.returns-clause-none
returns-clause-none c =
    let found = found_of c.args.found.now in
    no_ledger_of_number (rows_of found) _ c.ledger_numbered.result
    (number_of_getter 32 _ found (codes "ledger") c.in_ok-get_one.ensures.none c.in_ok-get_one.ensures.value) c.ledger_numbered.ensures.none

pub returns-in_err-get_one-clause-none : goal.returns-in_err-get_one-clause-none
returns-in_err-get_one-clause-none c =
    rw c.from_residual.ensures
    (λ version gives. no_number_of_getter 32 (number_of_ledger version) (found_of c.args.found.now) (codes "ledger")
    c.in_err-get_one.ensures.value gives)
