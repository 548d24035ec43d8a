-- A clock is given if the flag is; its prices are those of the costs. A getter that fails contradicts clap's rules.
use Rattle.std.proofs.Common.{Bool, codes, subst}
use Rattle.clap.specs.Words.{found_of, one_of, rows_of}
use Rattle.bspemu.specs.Options.{GivesFlag}
use Rattle.bspemu.proofs.Getters.{flag_of_getter, no_clock_for_flag, no_clock_for_prices, no_flag_of_getter}
use Rattle.bspemu.proofs.options.clock_of.Goals as goal

pub returns-in_ok-prices_of-clause-some : goal.returns-in_ok-prices_of-clause-some
returns-in_ok-prices_of-clause-some c =
    let found = found_of c.args.found.now in
    let flag = flag_of_getter _ found (codes "clock") c.in_ok-is_on.ensures.none c.in_ok-is_on.ensures.value in
    (subst (λ (b : Bool). GivesFlag (one_of (codes "clock") (rows_of found)) b) c.if-is_on.true flag, c.in_ok-prices_of.ensures.some)

pub returns-else-is_on-clause-some : goal.returns-else-is_on-clause-some
returns-else-is_on-clause-some c =
    let found = found_of c.args.found.now in
    let flag = flag_of_getter _ found (codes "clock") c.in_ok-is_on.ensures.none c.in_ok-is_on.ensures.value in
    subst (λ (b : Bool). GivesFlag (one_of (codes "clock") (rows_of found)) b) c.if-is_on.false flag

pub returns-in_err-is_on-clause-none : goal.returns-in_err-is_on-clause-none
returns-in_err-is_on-clause-none c =
    let found = found_of c.args.found.now in
    rw c.from_residual.ensures
    (no_clock_for_flag (rows_of found) (λ b flag. no_flag_of_getter b found (codes "clock") c.in_err-is_on.ensures.value flag))

pub returns-in_err-prices_of-clause-none : goal.returns-in_err-prices_of-clause-none
returns-in_err-prices_of-clause-none c =
    let found = found_of c.args.found.now in
    let flag = flag_of_getter _ found (codes "clock") c.in_ok-is_on.ensures.none c.in_ok-is_on.ensures.value in
    rw c.from_residual-in_err-prices_of.ensures
    (no_clock_for_prices (rows_of found) (subst (λ (b : Bool). GivesFlag (one_of (codes "clock") (rows_of found)) b) c.if-is_on.true flag)
    c.in_err-prices_of.ensures.none)
