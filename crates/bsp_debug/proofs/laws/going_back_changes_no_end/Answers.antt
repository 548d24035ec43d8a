-- A machine that is reached from a sound one has its end, and so have the debugger's machine and each state that it keeps.
use Rattle.std.specs.Prelude.{IfSome}
use Rattle.std.proofs.lemmas.List.Elements.{All-weaker}
use Rattle.bsp_debug.specs.Reached.{EndsAs}
use Rattle.bsp_debug.proofs.Keeps.{IsReachedIfKept, ends-schedule, kept-ends, reached-ends}
use Rattle.bsp_debug.proofs.laws.going_back_changes_no_end.Goals as goal

pub returns-clause-same : goal.returns-clause-same
returns-clause-same c first m sound r = (reached-ends first m sound r).same

pub returns-clause-every_schedule : goal.returns-clause-every_schedule
returns-clause-every_schedule c first m schedule sound r over = ends-schedule first m schedule sound r over

pub returns-clause-debugger : goal.returns-clause-debugger
returns-clause-debugger c d r = reached-ends d.first d.machine r.first r.machine

pub returns-clause-kept : goal.returns-clause-kept
returns-clause-kept c d r =
    All-weaker (IsReachedIfKept d.first) (λ state. IfSome state (λ m. EndsAs d.first m)) (λ state is. kept-ends d.first r.first state is)
    d.kept r.kept
