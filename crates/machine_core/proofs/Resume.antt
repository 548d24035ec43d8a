-- Local parts that were broken off.
use Rattle.std.proofs.Common.{◌≡◌, Bool, true, false, List, [], ◌∷◌, refl, ap, ◌∙◌}
use Rattle.std.specs.Prelude.{is_some}
use Rattle.node_core.specs.Node.{NodeState, IsNode, phase}
use Rattle.machine_core.specs.declared.event.Event.{Event}
use Rattle.machine_core.specs.declared.event.Event.TheVariants.{Step, Turn}
use Rattle.machine_core.specs.Machine.{MachineState}
use Rattle.machine_core.specs.Turn.{with_phases}
use Rattle.machine_core.specs.Events.{some_runs, event, after, makes_turn, MakeNoTurn}
use Rattle.machine_core.specs.Sound.{IsSoundMachine}
use Rattle.machine_core.proofs.Phases.{phase-local_step, map-phase-stopped, some_runs-phases}
use Rattle.machine_core.proofs.Rows.{map-stepped}
use Rattle.machine_core.proofs.Sound.{IsNode-each, IsSoundMachine-phases, IsSoundMachine-event}
use Rattle.machine_core.proofs.Steps.{after-nil, after-cons, event-step, event-disabled}

pub phases-stopped : (m : MachineState) → IsSoundMachine m → some_runs (with_phases m).nodes ≡ false
phases-stopped m sound = some_runs-phases m.input m.nodes (IsNode-each m sound)

pub phases-sound : (m : MachineState) → IsSoundMachine m → IsSoundMachine (with_phases m)
phases-sound m sound = by (is_some m.outcome) refl
  where
    by : (over : Bool) → is_some m.outcome ≡ over → IsSoundMachine (with_phases m)
    by true is =
        rw (ap (λ (nodes : List NodeState). record m { nodes = nodes }) (map-phase-stopped m.input m.nodes (sound.outcome is))) sound
    by false is = IsSoundMachine-phases m sound is

phases-event : (m : MachineState) (e : Event) → IsSoundMachine m → makes_turn m e ≡ false → with_phases (event m e) ≡ with_phases m
phases-event m (Step rank) sound turns =
    ap with_phases (event-step m rank)
    ∙ ap (λ (nodes : List NodeState). record m { nodes = nodes })
    (map-stepped m.input (phase m.input) IsNode (phase-local_step m.input) rank m.nodes (IsNode-each m sound))
phases-event m Turn sound turns = ap with_phases (event-disabled m Turn turns)

pub phases-after : (m : MachineState) (events : List Event) → IsSoundMachine m → MakeNoTurn m events
    → with_phases (after m events) ≡ with_phases m
phases-after m [] sound none = ap with_phases (after-nil m)
phases-after m (e ∷ events) sound none =
    ap with_phases (after-cons m e events)
    ∙ phases-after (event m e) events (IsSoundMachine-event m e sound) none.1
    ∙ phases-event m e sound none.0
