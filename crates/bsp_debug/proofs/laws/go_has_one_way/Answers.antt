-- Two ways of `go` walk equally many events to the first stop, so that their events and their stops are the same.
use Rattle.std.proofs.Common.{◌≡◌, ◌+◌, Some, sym, ap, ◌∙◌}
use Rattle.machine_core.specs.Walk.{walk}
use Rattle.bsp_debug.specs.Stops.{stop_after}
use Rattle.bsp_debug.proofs.Again.{same-before}
use Rattle.bsp_debug.proofs.laws.go_has_one_way.Goals as goal

pub returns-clause-events : goal.returns-clause-events
returns-clause-events c points m one other stop end goes goes' =
    goes.made ∙ ap (λ k. walk (k + 1) m) (same-before points m one other stop end goes goes') ∙ sym goes'.made

pub returns-clause-stop : goal.returns-clause-stop
returns-clause-stop c points m one other stop end goes goes' =
    let same : Some stop ≡ Some end =
    sym goes.stops ∙ ap (λ k. stop_after points k m) (same-before points m one other stop end goes goes') ∙ goes'.stops in
    cc
