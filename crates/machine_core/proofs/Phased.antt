-- The local parts of a superstep, rank by rank.
use Rattle.std.proofs.Common.{◌≡◌, ℕ, ◌+◌, ◌<◌, ◌≤◌, inl, inr, true, false, List, length, Option, Some, None, refl, sym, ap, ◌∙◌, arith}
use Rattle.std.specs.Prelude.{slice_get, is_some, IsSomeAnd}
use Rattle.std.specs.Option.{option_map_or}
use Rattle.std.proofs.lemmas.Bool.{false≢true, cases_order}
use Rattle.node_core.specs.Node.{NodeState, MayRefuseStep, is_running}
use Rattle.machine_core.specs.declared.event.Event.TheVariants.{Step}
use Rattle.machine_core.specs.Machine.{MachineState}
use Rattle.machine_core.specs.Turn.{lowest, with_phases}
use Rattle.machine_core.specs.Events.{runs, is_enabled, after, MayRefuseEvent}
use Rattle.machine_core.specs.Sound.{IsSoundMachine}
use Rattle.machine_core.specs.Walk.{walk, IsOnPhase}
use Rattle.machine_core.proofs.Options.{none_from}
use Rattle.machine_core.proofs.Phases.{map-phase-stopped}
use Rattle.machine_core.proofs.Resume.{phases-after}
use Rattle.machine_core.proofs.Runs.{steps_of}
use Rattle.machine_core.proofs.Sound.{enabled_open, IsSoundMachine-after}
use Rattle.machine_core.proofs.Walks.{IsOnPhase-refl, IsOnPhase-trans, IsOnPhase-steps, enabled-others, stopped-after, none_runs}
use Rattle.machine_core.proofs.Walks.{lowest_running}

-- the nodes of the ranks below `done` have made their local parts, and the others no step
pub record IsPhasing (old new : MachineState) (done : ℕ) : Type 0 where
  pub sound : IsSoundMachine new
  pub on : IsOnPhase old new
  pub stopped : (rank : ℕ) → rank < done → is_enabled new (Step rank) ≡ false

pub IsPhasing-start : (m : MachineState) → IsSoundMachine m → IsPhasing m m 0
IsPhasing-start m sound = record { sound = sound; on = IsOnPhase-refl m m refl; stopped = λ rank below. absurd (omega arith) }

module _ (old m new : MachineState) (rank : ℕ) (so_far : IsPhasing old m rank) where
  pub IsPhasing-more : new ≡ after m (steps_of rank m.settings.limit) → IsPhasing old new (rank + 1)
  IsPhasing-more made =
      let sound = so_far.sound in
      let on =
      IsOnPhase-trans old m (after m (steps_of rank m.settings.limit)) so_far.on
      (IsOnPhase-steps m.settings.limit m rank sound so_far.stopped) in
      record {
        sound = rw made (IsSoundMachine-after m (steps_of rank m.settings.limit) sound);
        on = rw made on;
        stopped = λ j below. rw made (elim (cases_order j rank) [
          | inl same ↦ rw same (stopped-after m rank sound)
          | inr other ↦ elim other [
            | inl before ↦ enabled-others m.settings.limit m rank j (λ same. omega (arith, same, before)) ∙ so_far.stopped j before
            | inr past ↦ absurd (omega (arith, below, past))
          ]
        ]);
      }

  pub IsOnPhase-part : (k : ℕ) → new ≡ after m (steps_of rank k) → IsOnPhase old new
  IsOnPhase-part k made =
      rw made (IsOnPhase-trans old m (after m (steps_of rank k)) so_far.on (IsOnPhase-steps k m rank so_far.sound so_far.stopped))

  pub IsSoundMachine-part : (k : ℕ) → new ≡ after m (steps_of rank k) → IsSoundMachine new
  IsSoundMachine-part k made = rw made (IsSoundMachine-after m (steps_of rank k) so_far.sound)

  pub stopped-part : (k : ℕ) → new ≡ after m (steps_of rank k) → (j : ℕ) → j < rank → is_enabled new (Step j) ≡ false
  stopped-part k made j below = rw made (enabled-others k m rank j (λ same. omega (arith, same, below)) ∙ so_far.stopped j below)

-- a step that may be refused is one of a node that runs
pub enabled_from : (m : MachineState) (rank : ℕ) → MayRefuseEvent m (Step rank) → is_enabled m (Step rank) ≡ true
enabled_from m rank = by (slice_get m.nodes rank)
  where
    by : (o : Option NodeState) → IsSomeAnd o (λ n. MayRefuseStep m.input n) → option_map_or runs o false ≡ true
    by None may = absurd may
    by (Some n) may = ap is_running may.runs

pub outcome_from : (m : MachineState) (rank : ℕ) → IsSoundMachine m → MayRefuseEvent m (Step rank) → m.outcome ≡ None
outcome_from m rank sound may =
    let open_yet = enabled_open m (Step rank) sound (enabled_from m rank may) in
    none_from m.outcome (λ o is. false≢true (sym open_yet ∙ ap is_some is))

pub lowest_from : (m : MachineState) (rank : ℕ) → ((j : ℕ) → j < rank → is_enabled m (Step j) ≡ false) → MayRefuseEvent m (Step rank)
    → IsSomeAnd (lowest is_running m.nodes) (λ n. MayRefuseStep m.input n)
lowest_from m rank before may =
    let found = lowest_running m.nodes rank (enabled_from m rank may) before in
    rw found.1 (rw found.2 at may)

-- once each rank is done, the local parts are over
pub IsPhasing-done : (old m : MachineState) (done : ℕ) → IsSoundMachine old → length m.nodes ≤ done → IsPhasing old m done
    → m ≡ with_phases old
IsPhasing-done old m done sound all phasing =
    let stopped = none_runs m.nodes (λ j below. phasing.stopped j (omega arith)) in
    sym (ap (λ (nodes : List NodeState). record m { nodes = nodes }) (map-phase-stopped m.input m.nodes stopped))
    ∙ ap with_phases phasing.on.is ∙ phases-after old (walk phasing.on.made old) sound phasing.on.steps
