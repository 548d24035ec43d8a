-- The lines that are left of a run.
use Rattle.std.proofs.Common.{◌≡◌, ℕ, zero, suc, ◌+◌, Bool, true, false, List, [], ◌++◌, refl, sym, ap, subst, ◌∙◌, add-one, append_assoc}
use Rattle.std.specs.Prelude.{if◌then◌else◌, is_some, IsSome}
use Rattle.std.specs.Fn.{iterate}
use Rattle.machine_core.specs.declared.settings.Settings.{Settings}
use Rattle.machine_core.specs.Machine.{MachineState}
use Rattle.machine_core.specs.Sound.{IsSoundMachine}
use Rattle.machine_core.specs.Turn.{superstep, end_of}
use Rattle.machine_core.proofs.Ends.{end_of-over, settings-superstep}
use Rattle.step_counts.specs.Counts.{lines_of, lines_within, superstep_lines}

-- a machine with its outcome has none
within_over : (k : ℕ) (m : MachineState) → is_some m.outcome ≡ true → lines_within k m ≡ []
unfolding lines_within
within_over zero m over = refl
within_over (suc k) m over = ap (λ b. if b then [] else superstep_lines m ++ lines_within k (superstep m)) over

-- one without it has those of its superstep first
within_open : (k : ℕ) (m : MachineState) → is_some m.outcome ≡ false
    → lines_within (suc k) m ≡ superstep_lines m ++ lines_within k (superstep m)
unfolding lines_within
within_open k m open_yet = ap (λ b. if b then [] else superstep_lines m ++ lines_within k (superstep m)) open_yet

-- more supersteps than a machine makes have no more lines
within_enough : (k : ℕ) (m : MachineState) → IsSome (iterate superstep k m).outcome → lines_within k m ≡ lines_within (suc k) m
within_enough zero m over = within_over zero m over ∙ sym (within_over (suc zero) m over)
within_enough (suc k) m over = by (is_some m.outcome) refl (within_enough k (superstep m) over)
  where
    by : (b : Bool) → is_some m.outcome ≡ b → lines_within k (superstep m) ≡ lines_within (suc k) (superstep m)
        → lines_within (suc k) m ≡ lines_within (suc (suc k)) m
    by true is rest = within_over (suc k) m is ∙ sym (within_over (suc (suc k)) m is)
    by false is rest = within_open k m is ∙ ap (λ ls. superstep_lines m ++ ls) rest ∙ sym (within_open (suc k) m is)

pub lines_over : (m : MachineState) → is_some m.outcome ≡ true → lines_of m ≡ []
unfolding lines_of
lines_over m over = within_over (m.settings.limit + 1) m over

ends_within : (m : MachineState) → IsSoundMachine m → IsSome (iterate superstep m.settings.limit (superstep m)).outcome
unfolding end_of
ends_within m sound = subst (λ (k : ℕ). IsSome (iterate superstep k m).outcome) (add-one m.settings.limit) (end_of-over m sound)

pub lines_next : (m : MachineState) → IsSoundMachine m → is_some m.outcome ≡ false
    → lines_of m ≡ superstep_lines m ++ lines_of (superstep m)
unfolding lines_of
lines_next m sound open_yet =
    ap (λ (k : ℕ). lines_within k m) (add-one m.settings.limit)
    ∙ within_open m.settings.limit m open_yet
    ∙ ap (λ ls. superstep_lines m ++ ls)
    (within_enough m.settings.limit (superstep m) (ends_within m sound)
    ∙ ap (λ (k : ℕ). lines_within k (superstep m)) (sym (add-one m.settings.limit))
    ∙ ap (λ (s : Settings). lines_within (s.limit + 1) (superstep m)) (sym (settings-superstep m)))

-- lines of a superstep that were appended, with those that are left
pub lines_appended : (m next : MachineState) (now new all : List ℕ) → IsSoundMachine m → is_some m.outcome ≡ false → next ≡ superstep m
    → new ≡ now ++ superstep_lines m → now ++ lines_of m ≡ all → new ++ lines_of next ≡ all
lines_appended m next now new all sound open_yet made more so_far =
    ap (λ (x : MachineState). new ++ lines_of x) made
    ∙ ap (λ bs. bs ++ lines_of (superstep m)) more
    ∙ append_assoc now (superstep_lines m) (lines_of (superstep m))
    ∙ ap (λ bs. now ++ bs) (sym (lines_next m sound open_yet))
    ∙ so_far
