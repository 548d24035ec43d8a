-- The lines of a run up to a machine, and those of what is left of it.
use Rattle.std.proofs.Common.{◌≡◌, ℕ, false, List, [], ◌++◌, refl, sym, ap, subst, ◌∙◌, append_assoc, append-nil, Option, None}
use Rattle.std.specs.Prelude.{IsSome, is_some}
use Rattle.std.proofs.lemmas.Bool.{false≢true}
use Rattle.machine_core.specs.declared.outcome.Outcome.{Outcome}
use Rattle.machine_core.specs.Machine.{MachineState}
use Rattle.machine_core.specs.Sound.{IsSoundMachine}
use Rattle.machine_core.specs.Turn.{superstep, turned, with_phases}
use Rattle.machine_core.proofs.Options.{none_from}
use Rattle.machine_core.proofs.Resume.{phases-after}
use Rattle.machine_core.proofs.Sound.{superstep-open}
use Rattle.worker_pool.specs.Phases.{LeadsWithoutTurn}
use Rattle.worker_pool.proofs.Phases.{LeadsWithoutTurn-outcome}
use Rattle.contested_runs.specs.Runs.{AreLines, AreLinesUpTo, AreTurnLines, over, more}

-- a text grew by the lines of a run from one machine up to another
abbrev pub TellsUpTo : MachineState → MachineState → List ℕ → List ℕ → Type 0
TellsUpTo start now old new = (made : List ℕ) × AreLinesUpTo start now made × (new ≡ old ++ made)

pub tells-nothing : (start : MachineState) (text : List ℕ) → TellsUpTo start start text text
tells-nothing start text = ([], λ rest lines. lines, sym (append-nil text))

-- the lines of the next superstep were appended
pub tells-superstep : (start m next : MachineState) (first old new : List ℕ) → is_some m.outcome ≡ false → next ≡ superstep m
    → ((lines : List ℕ) × AreTurnLines (with_phases m) lines × (new ≡ old ++ lines)) → TellsUpTo start m first old
    → TellsUpTo start next first new
tells-superstep start m next first old new open_yet made added so_far =
    let none = none_from m.outcome (λ o is. false≢true (sym open_yet ∙ ap is_some is)) in
    let lines = added.0 in (
      so_far.0 ++ lines,
      λ rest left. subst (AreLines start) (sym (append_assoc so_far.0 lines rest))
          (so_far.1 (lines ++ rest)
          (more m lines rest (lines ++ rest) none added.1 (subst (λ (x : MachineState). AreLines x rest) made left) refl)),
      added.2 ∙ ap (λ (bs : List ℕ). bs ++ lines) so_far.2 ∙ append_assoc first so_far.0 lines,
    )

-- nothing is left after the outcome
pub tells-all : (start m : MachineState) (first text : List ℕ) → IsSome m.outcome → TellsUpTo start m first text
    → (lines : List ℕ) × AreLines start lines × (text ≡ first ++ lines)
tells-all start m first text ended told = (told.0, subst (AreLines start) (append-nil told.0) (told.1 [] (over m [] ended refl)), told.2)

-- local parts that are made in part leave the lines that they left
left-here : (m n : MachineState) (rest : List ℕ) → IsSoundMachine m → LeadsWithoutTurn m n → AreLines n rest → AreLines m rest
left-here m n rest sound reached (over _ _ ended is) =
    over m rest (ap (λ (o : Option Outcome). is_some o) (sym (LeadsWithoutTurn-outcome m n reached)) ∙ ended) is
left-here m n rest sound reached (more _ lines later _ none turn left is) =
    more m lines later rest none_yet (subst (λ (p : MachineState). AreTurnLines p lines) phases turn)
    (subst (λ (s : MachineState). AreLines s later) next left) is
  where
    phases : with_phases n ≡ with_phases m
    phases = ap with_phases reached.2 ∙ phases-after m reached.0 sound reached.1

    none_yet : m.outcome ≡ None
    none_yet = sym (LeadsWithoutTurn-outcome m n reached) ∙ none

    next : superstep n ≡ superstep m
    next = superstep-open n (ap is_some none) ∙ ap turned phases ∙ sym (superstep-open m (ap is_some none_yet))

pub tells-phase : (start m n : MachineState) (first text : List ℕ) → IsSoundMachine m → LeadsWithoutTurn m n → TellsUpTo start m first text
    → TellsUpTo start n first text
tells-phase start m n first text sound reached told = (told.0, λ rest left. told.1 rest (left-here m n rest sound reached left), told.2)
