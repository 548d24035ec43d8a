-- What work on its row makes of a machine.
use Rattle.std.proofs.Common.{◌≡◌, ◌≤◌, ℕ, false, List, [], ◌∷◌, ◌++◌, length, Bool, refl, sym, ap, subst, ◌∙◌, arith}
use Rattle.std.specs.Prelude.{IsSome, IsFalse}
use Rattle.std.proofs.lemmas.Bool.{false≢true}
use Rattle.std.proofs.lemmas.List.Elements.{All-nil, All-cons, All-head, All-tail, length_all_zip}
use Rattle.node_core.specs.Node.{NodeState, is_running}
use Rattle.machine_core.specs.declared.event.Event.{Event}
use Rattle.machine_core.specs.declared.event.Event.TheVariants.{Turn}
use Rattle.machine_core.specs.Events.{HaveStepped, some_runs, event, after}
use Rattle.machine_core.specs.Machine.{MachineState}
use Rattle.machine_core.specs.Sound.{IsSoundMachine}
use Rattle.machine_core.specs.Turn.{with_phases}
use Rattle.machine_core.proofs.Lent.{row_is_events}
use Rattle.machine_core.proofs.Onward.{onward_after}
use Rattle.machine_core.proofs.Phases.{map-phase-stopped}
use Rattle.machine_core.proofs.Resume.{phases-after}
use Rattle.machine_core.proofs.Steps.{after-nil, after-cons, after-others}
use Rattle.machine_core.proofs.Supersteps.{IsOnPhase-phases}
use Rattle.machine_core.specs.Walk.{walk}
use Rattle.worker_pool.specs.Phases.{LeadsTo, LeadsWithoutTurn}
use Rattle.worker_pool.specs.Work.{HasCome, HaveCome, HasStopped, HaveStopped, IsWorked}

-- nodes that have stopped are none that runs
none_runs : (nodes : List NodeState) → HaveStopped nodes → some_runs nodes ≡ false
none_runs [] stopped = refl
none_runs (n ∷ rest) stopped =
    let here : is_running n.state ≡ false = All-head HasStopped n rest stopped in
    let there : some_runs rest ≡ false = none_runs rest (All-tail HasStopped n rest stopped) in
    grind arith

-- a machine whose row was worked on, `computing` being the machine meanwhile
module _ (m computing new : MachineState) (input : List ℕ) (old row : List NodeState) (lacks_memory : Bool) (lent : computing ≡ m)
    (same : old ≡ m.nodes) (read : input ≡ computing.input) (back : new ≡ record computing { nodes = row })
    (worked : IsWorked input old row lacks_memory) where
  inputs : input ≡ m.input
  inputs = read ∙ ap (λ (x : MachineState). x.input) lent

  backs : new ≡ record m { nodes = row }
  backs = back ∙ ap (λ (x : MachineState). record x { nodes = row }) lent

  pub worked_events : LeadsWithoutTurn m new
  worked_events =
      let each : HaveStepped m.input m.nodes row =
      subst (λ (i : List ℕ). HaveStepped i m.nodes row) inputs
      (subst (λ (ns : List NodeState). HaveStepped input ns row) same worked.stepped) in
      let events = row_is_events m row each in
      (events.0, events.1, backs ∙ sym events.2)

  -- nodes that have stopped on their way are at the end of their local parts
  pub worked_phases : IsSoundMachine m → IsFalse lacks_memory → new ≡ with_phases m
  worked_phases sound fine =
      let reached = worked_events in
      let none : some_runs new.nodes ≡ false = ap (λ (x : MachineState). some_runs x.nodes) backs ∙ none_runs row (worked.ok fine) in
      let there : with_phases new ≡ new =
      ap (λ (ns : List NodeState). record new { nodes = ns }) (map-phase-stopped new.input new.nodes none) in
      sym there ∙ ap with_phases reached.2 ∙ phases-after m reached.0 sound reached.1

  pub worked_come : HaveCome new.input new.nodes
  worked_come =
      let whole : HaveCome m.input row = subst (λ (i : List ℕ). HaveCome i row) inputs worked.come in
      subst (λ (x : MachineState). HaveCome x.input x.nodes) (sym backs) whole

-- nodes none of which runs have stopped
HaveCome-stopped : (input : List ℕ) (nodes : List NodeState) → some_runs nodes ≡ false → HaveCome input nodes
HaveCome-stopped input [] stopped = All-nil (HasCome input)
HaveCome-stopped input (n ∷ rest) stopped =
    let here : is_running n.state ≡ false = grind arith in
    let there : some_runs rest ≡ false = grind arith in
    All-cons (HasCome input) n rest (λ runs. absurd (false≢true (sym here ∙ runs))) (HaveCome-stopped input rest there)

-- after the outcome no node runs
pub HaveCome-over : (m : MachineState) → IsSoundMachine m → IsSome m.outcome → HaveCome m.input m.nodes
HaveCome-over m sound over = HaveCome-stopped m.input m.nodes (sound.outcome over)

pub no_events : (m : MachineState) → LeadsWithoutTurn m m
no_events m = ([], tt, sym (after-nil m))

-- after the outcome no node has a local part left
pub phases_over : (m : MachineState) → IsSoundMachine m → IsSome m.outcome → m ≡ with_phases m
phases_over m sound over =
    sym (ap (λ (ns : List NodeState). record m { nodes = ns }) (map-phase-stopped m.input m.nodes (sound.outcome over)))

after-append : (m : MachineState) (first second : List Event) → after m (first ++ second) ≡ after (after m first) second
after-append m [] second = ap (λ (x : MachineState). after x second) (sym (after-nil m))
after-append m (e ∷ first) second =
    after-cons m e (first ++ second) ∙ after-append (event m e) first second
    ∙ ap (λ (x : MachineState). after x second) (sym (after-cons m e first))

pub LeadsTo-on : (old m new : MachineState) → LeadsTo old m → LeadsWithoutTurn m new → LeadsTo old new
LeadsTo-on old m new first second =
    (first.0 ++ second.0, second.2 ∙ ap (λ (x : MachineState). after x second.0) first.1 ∙ sym (after-append old first.0 second.0))

pub LeadsTo-turn : (old m new : MachineState) → LeadsTo old m → new ≡ event m Turn → LeadsTo old new
LeadsTo-turn old m new so_far turned = (
  so_far.0 ++ Turn ∷ [],
  turned ∙ ap (λ (x : MachineState). event x Turn) so_far.1
      ∙ sym (after-append old so_far.0 (Turn ∷ []) ∙ after-cons (after old so_far.0) Turn [] ∙ after-nil (event (after old so_far.0) Turn)),
)

-- without a turn there is no outcome that was not there
pub LeadsWithoutTurn-outcome : (old new : MachineState) → LeadsWithoutTurn old new → new.outcome ≡ old.outcome
LeadsWithoutTurn-outcome old new reached =
    ap (λ (x : MachineState). x.outcome) reached.2 ∙ ap (λ (x : MachineState). x.outcome) (after-others old reached.0 reached.1)

-- events leave as many nodes as there were
pub LeadsTo-length : (old new : MachineState) → LeadsTo old new → length new.nodes ≡ length old.nodes
LeadsTo-length old new so_far =
    let onward = onward_after old so_far.0 in
    ap (λ (x : MachineState). length x.nodes) so_far.1
    ∙ sym (length_all_zip (λ (o n : NodeState). o.ticks ≤ n.ticks) old.nodes (after old so_far.0).nodes onward.ticks)

-- local parts that are made whole are some events
pub phases_reached : (m : MachineState) → IsSoundMachine m → LeadsWithoutTurn m (with_phases m)
phases_reached m sound = let on = IsOnPhase-phases m sound in (walk on.made m, on.steps, on.is)
