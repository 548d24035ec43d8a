-- The lines that are left of a run.
use Rattle.std.proofs.Common.{◌≡◌, ℕ, zero, suc, ◌+◌, Bool, true, false, Option, List}
use Rattle.std.proofs.Common.{[], ◌++◌, refl, sym, ap, ap₂, subst, ◌∙◌, add-one, append_assoc}
use Rattle.std.specs.Prelude.{if◌then◌else◌, is_some, IsSome}
use Rattle.std.specs.Fn.{iterate}
use Rattle.machine_core.specs.declared.event.Event.TheVariants.{Turn}
use Rattle.machine_core.specs.declared.outcome.Outcome.{Outcome}
use Rattle.machine_core.specs.declared.settings.Settings.{Settings}
use Rattle.machine_core.specs.Events.{is_enabled}
use Rattle.machine_core.specs.Machine.{MachineState}
use Rattle.machine_core.specs.Sound.{IsSoundMachine}
use Rattle.machine_core.specs.Turn.{turned, with_phases, superstep, end_of}
use Rattle.machine_core.proofs.Ends.{end_of-over, settings-superstep}
use Rattle.machine_core.proofs.Resume.{phases-after, phases-stopped}
use Rattle.machine_core.proofs.Sound.{IsSoundMachine-after, superstep-open}
use Rattle.machine_core.proofs.Supersteps.{IsOnPhase-phases}
use Rattle.machine_core.specs.Walk.{walk}
use Rattle.worker_pool.specs.Phases.{LeadsWithoutTurn}
use Rattle.worker_pool.proofs.Phases.{LeadsWithoutTurn-outcome}
use Rattle.bsp_profile.specs.Lines.{lines_of, lines_within, superstep_lines}

-- a machine with its outcome has none
within_over : (k : ℕ) (m : MachineState) → is_some m.outcome ≡ true → lines_within k m ≡ []
unfolding lines_within
within_over zero m over = refl
within_over (suc k) m over = ap (λ b. if b then [] else superstep_lines (with_phases m) ++ lines_within k (superstep m)) over

-- one without it has those of its superstep first
within_open : (k : ℕ) (m : MachineState) → is_some m.outcome ≡ false
    → lines_within (suc k) m ≡ superstep_lines (with_phases m) ++ lines_within k (superstep m)
unfolding lines_within
within_open k m open_yet = ap (λ b. if b then [] else superstep_lines (with_phases m) ++ lines_within k (superstep m)) open_yet

-- more supersteps than a machine makes have no more lines
within_enough : (k : ℕ) (m : MachineState) → IsSome (iterate superstep k m).outcome → lines_within k m ≡ lines_within (suc k) m
within_enough zero m over = within_over zero m over ∙ sym (within_over (suc zero) m over)
within_enough (suc k) m over = by (is_some m.outcome) refl (within_enough k (superstep m) over)
  where
    by : (b : Bool) → is_some m.outcome ≡ b → lines_within k (superstep m) ≡ lines_within (suc k) (superstep m)
        → lines_within (suc k) m ≡ lines_within (suc (suc k)) m
    by true is rest = within_over (suc k) m is ∙ sym (within_over (suc (suc k)) m is)
    by false is rest = within_open k m is ∙ ap (λ ls. superstep_lines (with_phases m) ++ ls) rest ∙ sym (within_open (suc k) m is)

pub lines_over : (m : MachineState) → is_some m.outcome ≡ true → lines_of m ≡ []
unfolding lines_of
lines_over m over = within_over (m.settings.limit + 1) m over

ends_within : (m : MachineState) → IsSoundMachine m → IsSome (iterate superstep m.settings.limit (superstep m)).outcome
unfolding end_of
ends_within m sound = subst (λ (k : ℕ). IsSome (iterate superstep k m).outcome) (add-one m.settings.limit) (end_of-over m sound)

pub lines_next : (m : MachineState) → IsSoundMachine m → is_some m.outcome ≡ false
    → lines_of m ≡ superstep_lines (with_phases m) ++ lines_of (superstep m)
unfolding lines_of
lines_next m sound open_yet =
    ap (λ (k : ℕ). lines_within k m) (add-one m.settings.limit)
    ∙ within_open m.settings.limit m open_yet
    ∙ ap (λ ls. superstep_lines (with_phases m) ++ ls)
    (within_enough m.settings.limit (superstep m) (ends_within m sound)
    ∙ ap (λ (k : ℕ). lines_within k (superstep m)) (sym (add-one m.settings.limit))
    ∙ ap (λ (s : Settings). lines_within (s.limit + 1) (superstep m)) (sym (settings-superstep m)))

-- local parts that are made in part leave the lines that they left
pub lines_phase : (m n : MachineState) → IsSoundMachine m → LeadsWithoutTurn m n → lines_of n ≡ lines_of m
lines_phase m n sound reached = by (is_some m.outcome) refl
  where
    phases : with_phases n ≡ with_phases m
    phases = ap with_phases reached.2 ∙ phases-after m reached.0 sound reached.1

    same : is_some n.outcome ≡ is_some m.outcome
    same = ap (λ (o : Option Outcome). is_some o) (LeadsWithoutTurn-outcome m n reached)

    sound_still : IsSoundMachine n
    sound_still = subst IsSoundMachine (sym reached.2) (IsSoundMachine-after m reached.0 sound)

    by : (b : Bool) → is_some m.outcome ≡ b → lines_of n ≡ lines_of m
    by true is = lines_over n (same ∙ is) ∙ sym (lines_over m is)
    by false is =
        lines_next n sound_still (same ∙ is)
        ∙ ap₂ (λ (p s : MachineState). superstep_lines p ++ lines_of s) phases
        (superstep-open n (same ∙ is) ∙ ap turned phases ∙ sym (superstep-open m is))
        ∙ sym (lines_next m sound is)

-- lines of a superstep that were appended, with those that are left
pub lines_appended : (m p : MachineState) (before after_it first : List ℕ) (all : List ℕ) → IsSoundMachine m → is_some m.outcome ≡ false
    → p ≡ with_phases m
    → after_it ≡ before ++ superstep_lines p → before ++ lines_of m ≡ first ++ all → after_it ++ lines_of (superstep m) ≡ first ++ all
lines_appended m p before after_it first all sound open_yet phased more so_far =
    ap (λ bs. bs ++ lines_of (superstep m)) (more ∙ ap (λ (x : MachineState). before ++ superstep_lines x) phased)
    ∙ append_assoc before (superstep_lines (with_phases m)) (lines_of (superstep m))
    ∙ ap (λ bs. before ++ bs) (sym (lines_next m sound open_yet))
    ∙ so_far
