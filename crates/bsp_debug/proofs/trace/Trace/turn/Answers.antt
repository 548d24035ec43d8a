-- A turn is taken down where it is made; without room for its entry nothing changes, and one that is not enabled is not made.
use Rattle.std.proofs.Common.{◌≡◌, true, sym, ap, ◌∙◌}
use Rattle.std.proofs.lemmas.Result.{err_from_is_err_and}
use Rattle.machine_core.specs.declared.event.Event.TheVariants.{Turn}
use Rattle.machine_core.specs.Events.{is_enabled}
use Rattle.bsp_debug.specs.Trace.{Traced}
use Rattle.bsp_debug.proofs.Entries.{IsTrace-turn}
use Rattle.bsp_debug.proofs.trace.Trace.turn.Goals as goal

pub invariant_of-self : goal.invariant_of-self
invariant_of-self g c = rw (c.in_err-reserve.ensures.items) c.self.invariant

pub returns-in_err-reserve-clause-err : goal.returns-in_err-reserve-clause-err
returns-in_err-reserve-clause-err g c =
    let p = err_from_is_err_and c.from_residual.result c.from_residual.ensures.1 in
    rw p.1 (rw (c.in_err-reserve.ensures.items) c.self.view_is)

pub returns-in_err-reserve-clause-refuses : goal.returns-in_err-reserve-clause-refuses
returns-in_err-reserve-clause-refuses g c =
    let p = err_from_is_err_and c.from_residual.result c.from_residual.ensures.1 in
    let can : is_enabled c.self.inside.machine Turn ≡ true = sym c.can_turn.ensures ∙ c.if-not-can_turn.false in
    rw p.1 (ap (λ (t : Traced). is_enabled t.machine Turn) (sym c.self.view_is) ∙ can)

pub invariant_of-self-in_err-turn : goal.invariant_of-self-in_err-turn
invariant_of-self-in_err-turn g c = rw (c.in_err-turn.ensures.err, c.in_ok-reserve.ensures.items) c.self.invariant

pub returns-in_err-turn-clause-err : goal.returns-in_err-turn-clause-err
returns-in_err-turn-clause-err g c =
    let p = err_from_is_err_and c.from_residual-in_err-turn.result c.from_residual-in_err-turn.ensures.1 in
    rw p.1 (rw (c.in_err-turn.ensures.err, c.in_ok-reserve.ensures.items) c.self.view_is)

pub returns-in_err-turn-clause-refuses : goal.returns-in_err-turn-clause-refuses
returns-in_err-turn-clause-refuses g c =
    let p = err_from_is_err_and c.from_residual-in_err-turn.result c.from_residual-in_err-turn.ensures.1 in
    let can : is_enabled c.self.inside.machine Turn ≡ true = sym c.can_turn.ensures ∙ c.if-not-can_turn.false in
    rw p.1 (ap (λ (t : Traced). is_enabled t.machine Turn) (sym c.self.view_is) ∙ can)

pub invariant_of-self-2 : goal.invariant_of-self-2
invariant_of-self-2 g c =
    let t : Traced = record { start = c.self.inside.start.value; machine = c.self.inside.machine; made = c.self.inside.made.items } in
    rw (c.in_ok-turn.ensures.ok, c.push_reserved.ensures.items, c.in_ok-reserve.ensures.items) (IsTrace-turn t c.self.invariant)

pub returns-clause-value : goal.returns-clause-value
returns-clause-value g c =
    let can : is_enabled c.self.inside.machine Turn ≡ true = sym c.can_turn.ensures ∙ c.if-not-can_turn.false in
    sym can ∙ ap (λ (t : Traced). is_enabled t.machine Turn) c.self.view_is

pub returns-in_err-reserve-clause-trace : goal.returns-in_err-reserve-clause-trace
returns-in_err-reserve-clause-trace g c = invariant_of-self g c

pub returns-in_err-turn-clause-trace : goal.returns-in_err-turn-clause-trace
returns-in_err-turn-clause-trace g c = invariant_of-self-in_err-turn g c

pub returns-clause-trace : goal.returns-clause-trace
returns-clause-trace g c = invariant_of-self-2 g c
