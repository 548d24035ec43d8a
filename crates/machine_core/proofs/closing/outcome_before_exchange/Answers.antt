-- The lowest stopped node makes the outcome, or else the lowest that ended, beside the lowest that waits; without these there is none.
use Rattle.std.proofs.Common.{ℕ, Some, None, sym, ap₂, ◌∙◌}
use Rattle.std.proofs.lemmas.Bool.{true≢false}
use Rattle.node_core.specs.declared.state.State.{State}
use Rattle.machine_core.specs.declared.outcome.Outcome.TheVariants.{NodeStopped, Desync}
use Rattle.machine_core.specs.Turn.{was_stopped, has_ended, is_waiting}
use Rattle.machine_core.proofs.Closings.{lowest-is, outcome-stopped, outcome-desync, outcome-ended}
use Rattle.machine_core.proofs.closing.outcome_before_exchange.Goals as goal

pub returns-in-Some-clause-some : goal.returns-in-Some-clause-some
returns-in-Some-clause-some g c =
    let ps = c.args.nodes.now in
    let stopped = c.in-Some.stopped.now in
    let found = lowest-is ps was_stopped (Some stopped) c.in-Some.ensures in
    outcome-stopped ps stopped.node found
    ∙ sym (ap₂ (λ (rank : ℕ) (state : State). Some (NodeStopped rank state)) c.rank.ensures c.state.ensures)

pub returns-in-Some-clause-stopped : goal.returns-in-Some-clause-stopped
returns-in-Some-clause-stopped g c = λ none. absurd (true≢false none)

pub returns-in-Some-clause-ended : goal.returns-in-Some-clause-ended
returns-in-Some-clause-ended g c = λ none. absurd (true≢false none)

pub returns-in_err-ended-clause-some : goal.returns-in_err-ended-clause-some
returns-in_err-ended-clause-some g c = rw c.from_residual.ensures tt

pub returns-in_err-ended-clause-stopped : goal.returns-in_err-ended-clause-stopped
returns-in_err-ended-clause-stopped g c = λ _. lowest-is c.args.nodes.now was_stopped None c.in_default.ensures

pub returns-in_err-ended-clause-ended : goal.returns-in_err-ended-clause-ended
returns-in_err-ended-clause-ended g c = λ _. lowest-is c.args.nodes.now has_ended None c.in_err-ended.ensures

pub returns-in-Some-lowest_waiting-clause-some : goal.returns-in-Some-lowest_waiting-clause-some
returns-in-Some-lowest_waiting-clause-some g c =
    let ps = c.args.nodes.now in
    let ended = c.in_ok-ended.ended.now in
    let waiting = c.in-Some-lowest_waiting.waiting.now in
    outcome-desync ps ended.node waiting.node
    (lowest-is ps was_stopped None c.in_default.ensures)
    (lowest-is ps has_ended (Some ended) c.in_ok-ended.ensures)
    (lowest-is ps is_waiting (Some waiting) c.in-Some-lowest_waiting.ensures)
    ∙ sym (ap₂ (λ (e w : ℕ). Some (Desync e w)) c.rank-in-Some-lowest_waiting.ensures c.rank-in-Some-lowest_waiting-2.ensures)

pub returns-in-Some-lowest_waiting-clause-stopped : goal.returns-in-Some-lowest_waiting-clause-stopped
returns-in-Some-lowest_waiting-clause-stopped g c = λ none. absurd (true≢false none)

pub returns-in-Some-lowest_waiting-clause-ended : goal.returns-in-Some-lowest_waiting-clause-ended
returns-in-Some-lowest_waiting-clause-ended g c = λ none. absurd (true≢false none)

pub returns-in-None-clause-some : goal.returns-in-None-clause-some
returns-in-None-clause-some g c =
    let ps = c.args.nodes.now in
    let ended = c.in_ok-ended.ended.now in
    outcome-ended ps ended.node
    (lowest-is ps was_stopped None c.in_default.ensures)
    (lowest-is ps has_ended (Some ended) c.in_ok-ended.ensures)
    (lowest-is ps is_waiting None c.in-None.ensures)

pub returns-in-None-clause-stopped : goal.returns-in-None-clause-stopped
returns-in-None-clause-stopped g c = λ none. absurd (true≢false none)

pub returns-in-None-clause-ended : goal.returns-in-None-clause-ended
returns-in-None-clause-ended g c = λ none. absurd (true≢false none)
