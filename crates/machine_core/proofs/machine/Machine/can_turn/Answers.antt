-- The two tests of the code are those by which the definition enables the turn.
use Rattle.std.proofs.Common.{◌≡◌, Bool, true, false, not, ◌&&◌, Option, Some, None, List, refl, sym, ap, ap₂, ◌∙◌}
use Rattle.std.specs.Prelude.{is_some, is_none}
use Rattle.std.proofs.lemmas.Bool.{true≢false}
use Rattle.node_core.specs.Node.{PreparedNode}
use Rattle.bsp_exchange.specs.Exchange.{states}
use Rattle.machine_core.specs.declared.event.Event.TheVariants.{Turn}
use Rattle.machine_core.specs.Events.{is_enabled, some_runs}
use Rattle.machine_core.specs.Machine.{MachineState}
use Rattle.machine_core.proofs.machine.Machine.can_turn.Goals as goal

none_where : {T : Type 0} (o : Option T) (still : Bool) → is_some o ≡ not still → still ≡ is_none o
none_where None true is = refl
none_where None false is = absurd (true≢false (sym is))
none_where (Some x) true is = absurd (true≢false is)
none_where (Some x) false is = refl

-- the turn is enabled where there is no outcome and no node runs
enabled_where : (m : MachineState) (still busy : Bool) → is_some m.outcome ≡ not still → busy ≡ some_runs m.nodes
    → (still && not busy) ≡ is_enabled m Turn
enabled_where m still busy is same = ap₂ (λ (a b : Bool). a && not b) (none_where m.outcome still is) same

pub returns-then-is_none : goal.returns-then-is_none
returns-then-is_none g c =
    let m = c.args.self.now in
    enabled_where m true c.some_runs.result
    (ap (λ (x : MachineState). is_some x.outcome) (sym c.self.view_is) ∙ c.is_none.ensures ∙ ap not c.if-is_none.true)
    (c.some_runs.ensures ∙ ap (λ (ps : List PreparedNode). some_runs (states ps)) c.deref.ensures.value
    ∙ ap (λ (x : MachineState). some_runs x.nodes) c.self.view_is)

pub returns-else-is_none : goal.returns-else-is_none
returns-else-is_none g c =
    let m = c.args.self.now in
    c.if-is_none.false
    ∙ enabled_where m false (some_runs m.nodes)
    (ap (λ (x : MachineState). is_some x.outcome) (sym c.self.view_is) ∙ c.is_none.ensures ∙ ap not c.if-is_none.false) refl
