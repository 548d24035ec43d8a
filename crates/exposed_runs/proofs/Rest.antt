-- The lines of a run up to a machine, and those of what is left of it.
use Rattle.std.proofs.Common.{◌≡◌, ℕ, false, List, [], ◌++◌, refl, sym, ap, subst, ◌∙◌, append_assoc, append-nil}
use Rattle.std.specs.Prelude.{IsSome, is_some}
use Rattle.std.proofs.lemmas.Bool.{false≢true}
use Rattle.machine_core.specs.Machine.{MachineState}
use Rattle.machine_core.specs.Turn.{superstep}
use Rattle.machine_core.proofs.Options.{none_from}
use Rattle.exposed_runs.specs.Runs.{AreLines, AreLinesUpTo, AreSuperstepLines, over, more}

-- a text grew by the lines of a run from one machine up to another
abbrev pub TellsUpTo : MachineState → MachineState → List ℕ → List ℕ → Type 0
TellsUpTo start now old new = (made : List ℕ) × AreLinesUpTo start now made × (new ≡ old ++ made)

pub tells-nothing : (start : MachineState) (text : List ℕ) → TellsUpTo start start text text
tells-nothing start text = ([], λ rest lines. lines, sym (append-nil text))

-- the lines of the next superstep were appended
pub tells-superstep : (start m next : MachineState) (first old new : List ℕ) → is_some m.outcome ≡ false → next ≡ superstep m
    → ((lines : List ℕ) × AreSuperstepLines m lines × (new ≡ old ++ lines)) → TellsUpTo start m first old
    → TellsUpTo start next first new
tells-superstep start m next first old new open_yet made added so_far =
    let none = none_from m.outcome (λ o is. false≢true (sym open_yet ∙ ap is_some is)) in
    let lines = added.0 in (
      so_far.0 ++ lines,
      λ rest left. subst (AreLines start) (sym (append_assoc so_far.0 lines rest))
          (so_far.1 (lines ++ rest)
          (more m lines rest (lines ++ rest) none added.1 (subst (λ (x : MachineState). AreLines x rest) made left) refl)),
      added.2 ∙ ap (λ (bs : List ℕ). bs ++ lines) so_far.2 ∙ append_assoc first so_far.0 lines,
    )

-- nothing is left after the outcome
pub tells-all : (start m : MachineState) (first text : List ℕ) → IsSome m.outcome → TellsUpTo start m first text
    → (lines : List ℕ) × AreLines start lines × (text ≡ first ++ lines)
tells-all start m first text ended told = (told.0, subst (AreLines start) (append-nil told.0) (told.1 [] (over m [] ended refl)), told.2)
