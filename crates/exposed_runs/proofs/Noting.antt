-- The steps of a rank, and what is noted of them.
use Rattle.std.proofs.Common.{◌≡◌, ℕ, zero, suc, ◌+◌, ◌-◌, ◌<◌, ◌≤◌, Bool, true, false, List, [], ◌∷◌, ◌++◌, Option, Some, None, refl}
use Rattle.std.proofs.Common.{sym, ap, ap₂, subst, ◌∙◌, arith, append-nil, append_assoc, suc-add, zero-add}
use Rattle.std.specs.Prelude.{nat_lt, slice_get, option_map, if◌then◌else◌}
use Rattle.std.specs.Option.{option_map_or}
use Rattle.std.proofs.lemmas.Bool.{false≢true}
use Rattle.std.proofs.lemmas.Bool.Decides.{nat_tests}
use Rattle.std.proofs.lemmas.Option.{none-some, slice_get_within, get_or_from_slice_get}
use Rattle.node_core.specs.Node.{NodeState, IsNode, is_running, local_step}
use Rattle.node_core.proofs.Sound.{IsLater-local_step, local_step-ticks}
use Rattle.node_core.proofs.Steps.{local_step-stopped}
use Rattle.machine_core.specs.declared.event.Event.TheVariants.{Step}
use Rattle.machine_core.specs.Machine.{MachineState}
use Rattle.machine_core.specs.Events.{runs, is_enabled, event, after}
use Rattle.machine_core.specs.Sound.{IsNodeOf, IsSoundMachine}
use Rattle.machine_core.proofs.Rows.{slice_get-stepped}
use Rattle.machine_core.proofs.Runs.{steps_of}
use Rattle.machine_core.proofs.Sound.{IsSoundMachine-after}
use Rattle.machine_core.proofs.Steps.{after-nil, after-cons, event-disabled, event-step}
use Rattle.exposed_runs.specs.declared.note.Note.{Note}
use Rattle.exposed_runs.specs.Notes.{count, note_of, noted, next_notes, notes_of}
use Rattle.exposed_runs.specs.Parts.{noted_at, notes_at}

some-same : {X : Type 0} (x y : X) → Some x ≡ Some y → x ≡ y
some-same x y same = cc

-- ---- the notes of a node

-- no request was made where there are as many as before
no-less : (k : ℕ) → nat_lt k k ≡ false
no-less k = grind (arith, nat_tests)

pub is-less : (issue made k : ℕ) → k ≡ issue → k < made → nat_lt issue made ≡ true
is-less issue made k same below = grind (arith, nat_tests, same, below)

pub is-no-less : (issue made k : ℕ) → k ≡ issue → made ≤ k → nat_lt issue made ≡ false
is-no-less issue made k same past = grind (arith, nat_tests, same, past)

noted-same : (n : NodeState) → noted n n ≡ []
noted-same n = ap (λ b. if b then note_of n ∷ [] else []) (no-less (count n))

notes-stopped : (input : List ℕ) (k : ℕ) (n : NodeState) → is_running n.state ≡ false → next_notes input k n ≡ []
unfolding next_notes
notes-stopped input zero n stopped = refl
notes-stopped input (suc k) n stopped =
    ap (λ (x : NodeState). noted n x ++ next_notes input k x) (local_step-stopped input n stopped)
    ∙ ap (λ ns. ns ++ next_notes input k n) (noted-same n)
    ∙ notes-stopped input k n stopped

notes-suc : (input : List ℕ) (k : ℕ) (n : NodeState)
    → next_notes input (suc k) n ≡ noted n (local_step input n) ++ next_notes input k (local_step input n)
unfolding next_notes
notes-suc input k n = refl

-- those of the next step of a node that runs, and then those of the steps that are left
notes-running : (input : List ℕ) (n : NodeState) → IsNode n → is_running n.state ≡ true
    → notes_of input n ≡ noted n (local_step input n) ++ notes_of input (local_step input n)
notes-running input n sound going =
    let ticks = local_step-ticks input n going in
    let limit = (IsLater-local_step input n).limit in
    let before = sound.has_ticks_left going in
    let all : n.limit - n.ticks ≡ suc (n.limit - (n.ticks + 1)) = omega (arith, before) in
    let left : n.limit - (n.ticks + 1) ≡ (local_step input n).limit - (local_step input n).ticks = omega (arith, ticks, limit) in
    ap (λ k. next_notes input k n) all
    ∙ notes-suc input (n.limit - (n.ticks + 1)) n
    ∙ ap (λ k. noted n (local_step input n) ++ next_notes input k (local_step input n)) left

-- ---- the next step of a rank

-- the node of which a note is
pub noted-node : (o : Option NodeState) (note : Note) → option_map note_of o ≡ Some note
    → (n : NodeState) × (o ≡ Some n) × (note ≡ note_of n)
noted-node None note is = absurd (none-some note is)
noted-node (Some n) note is = (n, refl, some-same note (note_of n) (sym is))

pub no-node : (o : Option NodeState) → option_map note_of o ≡ None → o ≡ None
no-node None is = refl
no-node (Some n) is = absurd (none-some (note_of n) (sym is))

stepped-at : (m : MachineState) (rank : ℕ) → slice_get (event m (Step rank)).nodes rank ≡ option_map (local_step m.input) (slice_get m.nodes rank)
stepped-at m rank =
    ap (λ (x : MachineState). slice_get x.nodes rank) (event-step m rank) ∙ slice_get-stepped m.input rank m.nodes

same-input : (m : MachineState) (rank : ℕ) → (event m (Step rank)).input ≡ m.input
same-input m rank = ap (λ (x : MachineState). x.input) (event-step m rank)

module _ (m : MachineState) (rank : ℕ) where
  none-found : slice_get m.nodes rank ≡ None → noted_at m rank ≡ []
  none-found none = ap (λ (o : Option NodeState). option_map_or (λ (n : NodeState). noted n (local_step m.input n)) o []) none

  -- nothing happens where there is no node
  pub absent : slice_get m.nodes rank ≡ None → m ≡ event m (Step rank)
  absent none = sym (event-disabled m (Step rank) (ap (λ (o : Option NodeState). option_map_or runs o false) none))

  pub absent-notes : (ns : List Note) → slice_get m.nodes rank ≡ None → ns ≡ ns ++ noted_at m rank
  absent-notes ns none = sym (ap (λ xs. ns ++ xs) (none-found none) ∙ append-nil ns)

  -- what is noted of the step, by how many requests there are after it
  pub present-notes : (n : NodeState) (next : MachineState) (made : ℕ) (b : Bool) → slice_get m.nodes rank ≡ Some n
      → next ≡ event m (Step rank) → made ≡ option_map_or count (slice_get next.nodes rank) 0 → nat_lt (count n) made ≡ b
      → noted_at m rank ≡ (if b then note_of n ∷ [] else [])
  present-notes n next made b found is requests less =
      let there : slice_get next.nodes rank ≡ Some (local_step m.input n) =
      ap (λ (x : MachineState). slice_get x.nodes rank) is ∙ stepped-at m rank ∙ ap (option_map (local_step m.input)) found in
      let after_step : made ≡ count (local_step m.input n) =
      requests ∙ ap (λ (o : Option NodeState). option_map_or count o 0) there in
      ap (λ (o : Option NodeState). option_map_or (λ (x : NodeState). noted x (local_step m.input x)) o []) found
      ∙ ap (λ k. if nat_lt (count n) k then note_of n ∷ [] else []) (sym after_step)
      ∙ ap (λ t. if t then note_of n ∷ [] else []) less

-- ---- all steps of a rank

node-of : (m : MachineState) (rank : ℕ) (n : NodeState) → IsSoundMachine m → slice_get m.nodes rank ≡ Some n → IsNodeOf m.settings n
node-of m rank n sound found =
    let within = slice_get_within m.nodes rank n found in
    let is = get_or_from_slice_get m.nodes rank n n found in
    rw is at (sound.nodes rank n within)

-- how many ticks a rank has left
abbrev pub left_at : MachineState → ℕ → ℕ
left_at m rank = option_map_or (λ (n : NodeState). n.limit - n.ticks) (slice_get m.nodes rank) 0

none-left : (m : MachineState) (rank : ℕ) → is_enabled m (Step rank) ≡ false → notes_at m rank ≡ []
none-left m rank off = by (slice_get m.nodes rank) off
  where
    by : (o : Option NodeState) → option_map_or runs o false ≡ false → option_map_or (λ (n : NodeState). notes_of m.input n) o [] ≡ []
    by None off = refl
    by (Some n) off = notes-stopped m.input (n.limit - n.ticks) n off

module _ (m : MachineState) (rank : ℕ) (sound : IsSoundMachine m) (on : is_enabled m (Step rank) ≡ true) where
  notes-next : notes_at m rank ≡ noted_at m rank ++ notes_at (event m (Step rank)) rank
  notes-next = by (slice_get m.nodes rank) refl on ∙ ap (λ ns. noted_at m rank ++ ns) (sym next)
    where
      all : List ℕ → Option NodeState → List Note
      all input o = option_map_or (λ (n : NodeState). notes_of input n) o []

      next : notes_at (event m (Step rank)) rank ≡ all m.input (option_map (local_step m.input) (slice_get m.nodes rank))
      next = ap₂ (λ (i : List ℕ) (o : Option NodeState). all i o) (same-input m rank) (stepped-at m rank)

      by : (o : Option NodeState) → slice_get m.nodes rank ≡ o → option_map_or runs o false ≡ true
          → all m.input o ≡ option_map_or (λ (n : NodeState). noted n (local_step m.input n)) o [] ++ all m.input (option_map (local_step m.input) o)
      by None is going = absurd (false≢true going)
      by (Some n) is going = notes-running m.input n (node-of m rank n sound is).sound.node going

  pub fewer-left : left_at (event m (Step rank)) rank < left_at m rank
  fewer-left = rw (stepped-at m rank) (by (slice_get m.nodes rank) refl on)
    where
      left : Option NodeState → ℕ
      left o = option_map_or (λ (n : NodeState). n.limit - n.ticks) o 0

      by : (o : Option NodeState) → slice_get m.nodes rank ≡ o → option_map_or runs o false ≡ true → left (option_map (local_step m.input) o) < left o
      by None is going = absurd (false≢true going)
      by (Some n) is going =
          let node = (node-of m rank n sound is).sound.node in
          let ticks = local_step-ticks m.input n going in
          let limit = (IsLater-local_step m.input n).limit in
          let before = node.has_ticks_left going in
          omega (arith, ticks, limit, before)

-- j steps, and then k
after-more : (j k : ℕ) (m : MachineState) (rank : ℕ) → after (after m (steps_of rank j)) (steps_of rank k) ≡ after m (steps_of rank (j + k))
after-more zero k m rank =
    ap (λ (x : MachineState). after x (steps_of rank k)) (after-nil m) ∙ ap (λ n. after m (steps_of rank n)) (sym (zero-add k))
after-more (suc j) k m rank =
    ap (λ (x : MachineState). after x (steps_of rank k)) (after-cons m (Step rank) (steps_of rank j))
    ∙ after-more j k (event m (Step rank)) rank
    ∙ sym (after-cons m (Step rank) (steps_of rank (j + k)))
    ∙ ap (λ n. after m (steps_of rank n)) (sym (suc-add j k))

-- no step, and one
pub no-step : (m : MachineState) (rank : ℕ) → m ≡ after m (steps_of rank 0)
no-step m rank = sym (after-nil m)

pub one-step : (m next : MachineState) (rank : ℕ) → next ≡ event m (Step rank) → next ≡ after m (steps_of rank 1)
one-step m next rank is = is ∙ sym (after-cons m (Step rank) [] ∙ after-nil (event m (Step rank)))

-- some steps of a rank were made, and the notes of those that are left, behind what was noted, are all of them
pub record Noting (old new : MachineState) (rank : ℕ) (before now : List Note) : Type 0 where
  pub steps : ℕ
  pub is : new ≡ after old (steps_of rank steps)
  pub notes : now ++ notes_at new rank ≡ before ++ notes_at old rank

pub Noting-start : (m : MachineState) (rank : ℕ) (notes : List Note) → Noting m m rank notes notes
Noting-start m rank notes = record { steps = 0; is = no-step m rank; notes = refl }

module _ (old m : MachineState) (rank : ℕ) (before now : List Note) (sound : IsSoundMachine old) (so_far : Noting old m rank before now) where
  pub still-sound : IsSoundMachine m
  still-sound = rw so_far.is (IsSoundMachine-after old (steps_of rank so_far.steps) sound)

  pub Noting-made : (k : ℕ) (next : MachineState) → next ≡ after m (steps_of rank k) → (n : ℕ) × (next ≡ after old (steps_of rank n))
  Noting-made k next made =
      (so_far.steps + k, made ∙ ap (λ (x : MachineState). after x (steps_of rank k)) so_far.is ∙ after-more so_far.steps k old rank)

  pub Noting-more : (next : MachineState) (new : List Note) → is_enabled m (Step rank) ≡ true → next ≡ event m (Step rank)
      → new ≡ now ++ noted_at m rank → Noting old next rank before new
  Noting-more next new on made more =
      let all = Noting-made 1 next (one-step m next rank made) in
      record {
        steps = all.0;
        is = all.1;
        notes =
            ap (λ ns. ns ++ notes_at next rank) more
            ∙ append_assoc now (noted_at m rank) (notes_at next rank)
            ∙ ap (λ (x : MachineState). now ++ (noted_at m rank ++ notes_at x rank)) made
            ∙ ap (λ ns. now ++ ns) (sym (notes-next m rank still-sound on))
            ∙ so_far.notes;
      }

  pub Noting-done : is_enabled m (Step rank) ≡ false → now ≡ before ++ notes_at old rank
  Noting-done off = sym (append-nil now) ∙ ap (λ ns. now ++ ns) (sym (none-left m rank off)) ∙ so_far.notes
