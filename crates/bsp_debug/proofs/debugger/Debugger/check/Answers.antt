-- That a command is of no node comes before that the machine is over, and before that the node has no unit.
use Rattle.std.proofs.Common.{◌≡◌, ◌∙◌, Result, Ok, Err, refl, ap₂}
use Rattle.std.specs.Option.{option_or}
use Rattle.std.specs.Result.{result_and, result_err}
use Rattle.bsp_debug.specs.declared.error.DebugError.{DebugError}
use Rattle.bsp_debug.proofs.debugger.Debugger.check.Goals as goal

first : (r s : Result (Unit {0}) DebugError) → result_err (result_and r s) ≡ option_or (result_err r) (result_err s)
first (Err e) s = refl
first (Ok u) s = refl

pub returns-in-Step : goal.returns-in-Step
returns-in-Step g c =
    rw (c.in-Step.is, c.and.ensures)
    (first c.check_rank.result c.check_open.result ∙ ap₂ option_or c.check_rank.ensures c.check_open.ensures)

pub returns-in-Fregs : goal.returns-in-Fregs
returns-in-Fregs g c =
    rw (c.in-Fregs.is, c.and-in-Fregs.ensures)
    (first c.check_rank-in-Fregs.result c.check_unit.result ∙ ap₂ option_or c.check_rank-in-Fregs.ensures c.check_unit.ensures)
