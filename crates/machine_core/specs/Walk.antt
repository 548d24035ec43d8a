-- The walk: the events of a run that steps the lowest rank as long as it runs, then the next one, and makes the turn once none runs
-- (own rule: one order of the nodes' local work among those that BSP, Valiant 1990, leaves open).
use Rattle.std.specs.Prelude.{◌≡◌, ℕ, zero, suc, List, [], ◌∷◌, if◌then◌else◌, Option, Some, None, is_some}
use Rattle.std.specs.Option.{option_map_or}
use Rattle.node_core.specs.Node.{NodeState, is_running}
use Rattle.machine_core.specs.declared.event.Event.{Event}
use Rattle.machine_core.specs.declared.event.Event.TheVariants.{Step, Turn}
use Rattle.machine_core.specs.Machine.{MachineState}
use Rattle.machine_core.specs.Turn.{lowest}
use Rattle.machine_core.specs.Events.{event, after, MakeNoTurn}

-- the next event: a step of the lowest rank that runs, or else the turn; none where there is an outcome
abbrev pub next_event : MachineState → Option Event
next_event m =
    if is_some m.outcome then None
    else Some (option_map_or (λ (n : NodeState). Step n.hart.rank) (lowest is_running m.nodes) Turn)

-- the first k events, or fewer where the outcome comes before
unfoldable pub walk : ℕ → MachineState → List Event
walk zero m = []
walk (suc k) m = option_map_or (λ e. e ∷ walk k (event m e)) (next_event m) []

-- a machine after the first k events of its walk
abbrev pub walked : ℕ → MachineState → MachineState
walked k m = after m (walk k m)

-- some first events of a machine's walk, none of them a turn, lead to another: a part of the nodes' local work
pub record IsOnPhase (old new : MachineState) : Type 0 where
  pub made : ℕ
  pub is : new ≡ walked made old
  pub steps : MakeNoTurn old (walk made old)
