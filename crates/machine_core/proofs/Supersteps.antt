-- Supersteps along the walk.
use Rattle.std.proofs.Common.{◌≡◌, ℕ, zero, suc, ◌+◌, ◌-◌, ◌<◌, ◌≤◌, true, false, cond, List, [], ◌∷◌, length, Option, Some, None, refl}
use Rattle.std.proofs.Common.{sym, ap, ◌∙◌, arith, add-one}
use Rattle.std.specs.Prelude.{is_some, if◌then◌else◌}
use Rattle.std.specs.Option.{option_map_or}
use Rattle.std.proofs.lemmas.List.{length_push}
use Rattle.node_core.specs.Node.{NodeState, is_running}
use Rattle.machine_core.specs.declared.event.Event.TheVariants.{Step, Turn}
use Rattle.machine_core.specs.declared.outcome.Outcome.{Outcome}
use Rattle.machine_core.specs.declared.settings.Settings.{Settings}
use Rattle.machine_core.specs.Machine.{MachineState}
use Rattle.machine_core.specs.Turn.{outcome_of, lowest, cost_row, recorded, decided, turned, with_phases, superstep}
use Rattle.machine_core.specs.Events.{some_runs, is_enabled, event, after}
use Rattle.machine_core.specs.Sound.{IsSoundMachine}
use Rattle.machine_core.specs.Walk.{next_event, walked, IsOnPhase}
use Rattle.machine_core.proofs.Ends.{exchanges-le-limit, settings-superstep}
use Rattle.machine_core.proofs.Phased.{IsPhasing, IsPhasing-start, IsPhasing-more, IsPhasing-done}
use Rattle.machine_core.proofs.Resume.{phases-stopped}
use Rattle.machine_core.proofs.Runs.{steps_of, after-often}
use Rattle.machine_core.proofs.Sound.{length-nodes, superstep-open}
use Rattle.machine_core.proofs.Steps.{event-enabled}
use Rattle.machine_core.proofs.Walks.{walked-zero, walked-some, walked-add}

-- the machine after the local parts of the ranks below `done`
record Phased (m : MachineState) (done : ℕ) : Type 0 where
  pub now : MachineState
  pub phasing : IsPhasing m now done
  pub settings : now.settings ≡ m.settings

phased : (m : MachineState) (done : ℕ) → IsSoundMachine m → Phased m done
phased m zero sound = record { now = m; phasing = IsPhasing-start m sound; settings = refl }
phased m (suc done) sound =
    let before = phased m done sound in
    let next = after before.now (steps_of done before.now.settings.limit) in
    record {
      now = next;
      phasing = rw (← add-one done) (IsPhasing-more m before.now next done before.phasing refl);
      settings = ap (λ (x : MachineState). x.settings) (after-often before.now.settings.limit before.now done) ∙ before.settings;
    }

-- the local parts of a superstep are the next events of the walk
pub IsOnPhase-phases : (m : MachineState) → IsSoundMachine m → IsOnPhase m (with_phases m)
IsOnPhase-phases m sound =
    let all = phased m m.settings.nodes sound in
    let long : length all.now.nodes ≤ m.settings.nodes = rw (length-nodes all.now all.phasing.sound, all.settings) (omega arith) in
    rw (← IsPhasing-done m all.now m.settings.nodes sound long all.phasing) all.phasing.on

pub none_is_lowest : (nodes : List NodeState) → some_runs nodes ≡ false → lowest is_running nodes ≡ None
none_is_lowest [] stopped = refl
none_is_lowest (n ∷ rest) stopped =
    let here : is_running n.state ≡ false = grind arith in
    let there : some_runs rest ≡ false = grind arith in
    ap (λ b. cond b (Some n) (lowest is_running rest)) here ∙ none_is_lowest rest there

module _ (m : MachineState) (sound : IsSoundMachine m) (open_yet : is_some m.outcome ≡ false) where
  pub turn-enabled : is_enabled (with_phases m) Turn ≡ true
  turn-enabled = rw (open_yet, phases-stopped m sound) refl

  -- and then the turn
  next_event-turn : next_event (with_phases m) ≡ Some Turn
  next_event-turn =
      ap (λ b. if b then None else Some
      (option_map_or (λ (n : NodeState). Step n.hart.rank) (lowest is_running (with_phases m).nodes) Turn)) open_yet
      ∙ ap (λ (o : Option NodeState). Some (option_map_or (λ (n : NodeState). Step n.hart.rank) o Turn))
      (none_is_lowest (with_phases m).nodes (phases-stopped m sound))

  pub superstep-made : (new : MachineState) → new ≡ event (with_phases m) Turn → new ≡ superstep m
  superstep-made new made = made ∙ event-enabled (with_phases m) Turn turn-enabled ∙ sym (superstep-open m open_yet)

  rows-turned : (p : MachineState) → length (turned p).ledger ≡ length p.ledger + 1
  unfolding turned
  rows-turned p = by (outcome_of p.nodes)
    where
      by : (o : Option Outcome) → length (decided o (recorded p)).ledger ≡ length p.ledger + 1
      by None = length_push p.ledger (cost_row p)
      by (Some outcome) = length_push p.ledger (cost_row p)

  rows-superstep : length (superstep m).ledger ≡ length m.ledger + 1
  rows-superstep = ap (λ (x : MachineState). length x.ledger) (superstep-open m open_yet) ∙ rows-turned (with_phases m)

  rows-open : length m.ledger ≤ m.settings.limit
  rows-open =
      let rows : length m.ledger ≡ m.exchanges + 0 = rw open_yet at sound.ledger in
      omega (arith, rows, exchanges-le-limit m sound)

  -- fewer rows are left to be written
  pub rows_left : (new : MachineState) → new ≡ superstep m
      → new.settings.limit + 1 - length new.ledger < m.settings.limit + 1 - length m.ledger
  rows_left new made =
      let limit : new.settings.limit ≡ m.settings.limit =
      ap (λ (x : MachineState). x.settings.limit) made ∙ ap (λ (s : Settings). s.limit) (settings-superstep m) in
      let rows : length new.ledger ≡ length m.ledger + 1 = ap (λ (x : MachineState). length x.ledger) made ∙ rows-superstep in
      omega (arith, limit, rows, rows-open)

-- a machine that some events of the walk of `old` lead to
abbrev pub IsWalked : MachineState → MachineState → Type 0
IsWalked old new = (k : ℕ) × (new ≡ walked k old)

pub IsWalked-on : (old m new : MachineState) → IsWalked old m → IsOnPhase m new → IsWalked old new
IsWalked-on old m new so_far on = (so_far.0 + on.made, on.is ∙ ap (walked on.made) so_far.1 ∙ walked-add so_far.0 on.made old)

pub IsWalked-superstep : (old m new : MachineState) → IsSoundMachine m → is_some m.outcome ≡ false → IsWalked old m
    → new ≡ event (with_phases m) Turn → IsWalked old new
IsWalked-superstep old m new sound open_yet so_far made =
    let phases = IsWalked-on old m (with_phases m) so_far (IsOnPhase-phases m sound) in
    let turn = walked-some 0 (with_phases m) Turn (next_event-turn m sound open_yet) ∙ walked-zero (event (with_phases m) Turn) in
    (phases.0 + 1, made ∙ sym turn ∙ ap (walked 1) phases.1 ∙ walked-add phases.0 1 old)
