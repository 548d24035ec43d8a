-- The local parts of a superstep, rank by rank, and their notes.
use Rattle.std.proofs.Common.{◌≡◌, ℕ, zero, suc, ◌+◌, ◌<◌, ◌≤◌, false, List, length, take, ◌++◌, [], ◌∷◌, Option, Some, inl, inr, refl}
use Rattle.std.proofs.Common.{sym, ap, ap₂, ◌∙◌, arith, append-nil, append_assoc}
use Rattle.std.specs.Prelude.{slice_get, flat_map, get_or}
use Rattle.std.specs.Option.{option_map_or}
use Rattle.std.proofs.lemmas.Bool.{cases_order}
use Rattle.std.proofs.lemmas.Grind.{flat_map-append}
use Rattle.std.proofs.lemmas.List.{take_all, take_more}
use Rattle.std.proofs.lemmas.Option.{slice_get_within, get_or_from_slice_get}
use Rattle.node_core.specs.Node.{NodeState}
use Rattle.machine_core.specs.declared.event.Event.TheVariants.{Step}
use Rattle.machine_core.specs.Machine.{MachineState}
use Rattle.machine_core.specs.Events.{is_enabled, after, stepped, stepped_often}
use Rattle.machine_core.specs.Sound.{IsSoundMachine}
use Rattle.machine_core.specs.Turn.{with_phases}
use Rattle.machine_core.proofs.Phased.{IsPhasing, IsPhasing-start, IsPhasing-done, IsOnPhase-part, IsSoundMachine-part, stopped-part}
use Rattle.machine_core.proofs.Rows.{slice_get-stepped_other}
use Rattle.machine_core.proofs.Runs.{steps_of, after-often}
use Rattle.machine_core.proofs.Sound.{length-nodes}
use Rattle.exposed_runs.specs.declared.note.Note.{Note}
use Rattle.exposed_runs.specs.Notes.{all_notes, notes_of}
use Rattle.exposed_runs.specs.Parts.{notes_at}

often-other : (input : List ℕ) (k rank other : ℕ) (nodes : List NodeState) → (other ≡ rank → ⊥)
    → slice_get (stepped_often input other k nodes) rank ≡ slice_get nodes rank
often-other input zero rank other nodes differs = refl
often-other input (suc k) rank other nodes differs =
    often-other input k rank other (stepped input other nodes) differs ∙ slice_get-stepped_other input rank other nodes differs

-- a node at each place of a row
there-is : (nodes : List NodeState) (rank : ℕ) → rank < length nodes → (n : NodeState) × (slice_get nodes rank ≡ Some n)
there-is [] rank within = absurd (omega (arith, within))
there-is (n ∷ rest) zero within = (n, refl)
there-is (n ∷ rest) (suc rank) within = there-is rest rank (omega (arith, within))

-- the ranks below `done` have made their local parts, of which there are notes, and the others no step
pub record Parting (old new : MachineState) (done : ℕ) (now : List Note) : Type 0 where
  pub phasing : IsPhasing old new done
  pub settings : new.settings ≡ old.settings
  pub input : new.input ≡ old.input
  pub later : (rank : ℕ) → done ≤ rank → slice_get new.nodes rank ≡ slice_get old.nodes rank
  pub notes : now ≡ flat_map (notes_of old.input) (take done old.nodes)

pub Parting-start : (m : MachineState) → IsSoundMachine m → Parting m m 0 []
Parting-start m sound = record {
  phasing = IsPhasing-start m sound;
  settings = refl;
  input = refl;
  later = λ rank from. refl;
  notes = refl;
}

module _ (old m new : MachineState) (rank : ℕ) (before now : List Note) (sound : IsSoundMachine old) (so_far : Parting old m rank before) where
  -- the notes of the next rank, behind those of the ranks before it
  notes-more : rank < length old.nodes → now ≡ before ++ notes_at m rank → now ≡ flat_map (notes_of old.input) (take (rank + 1) old.nodes)
  notes-more within more =
      let at = there-is old.nodes rank within in
      let n = at.0 in
      let here : notes_at m rank ≡ notes_of old.input n =
      ap₂ (λ (i : List ℕ) (o : Option NodeState). option_map_or (λ (x : NodeState). notes_of i x) o []) so_far.input
      (so_far.later rank (omega arith) ∙ at.1) in
      let whole : take (rank + 1) old.nodes ≡ take rank old.nodes ++ n ∷ [] =
      take_more old.nodes rank n within
      ∙ ap (λ (x : NodeState). take rank old.nodes ++ x ∷ []) (get_or_from_slice_get old.nodes rank n n at.1) in
      more
      ∙ ap₂ (λ (xs ys : List Note). xs ++ ys) so_far.notes here
      ∙ ap (λ ys. flat_map (notes_of old.input) (take rank old.nodes) ++ ys) (sym (append-nil (notes_of old.input n)))
      ∙ sym (flat_map-append (notes_of old.input) (take rank old.nodes) (n ∷ []))
      ∙ ap (flat_map (notes_of old.input)) (sym whole)

  pub Parting-more : (k : ℕ) → rank < length old.nodes → new ≡ after m (steps_of rank k) → is_enabled new (Step rank) ≡ false
      → now ≡ before ++ notes_at m rank → Parting old new (rank + 1) now
  Parting-more k within made off more =
      let often = made ∙ after-often k m rank in
      record {
        phasing = record {
          sound = IsSoundMachine-part old m new rank so_far.phasing k made;
          on = IsOnPhase-part old m new rank so_far.phasing k made;
          stopped = λ j below. elim (cases_order j rank) [
            | inl same ↦ rw same off
            | inr other ↦ elim other [
              | inl earlier ↦ stopped-part old m new rank so_far.phasing k made j earlier
              | inr past ↦ absurd (omega (arith, below, past))
            ]
          ];
        };
        settings = ap (λ (x : MachineState). x.settings) often ∙ so_far.settings;
        input = ap (λ (x : MachineState). x.input) often ∙ so_far.input;
        later = λ other from.
            ap (λ (x : MachineState). slice_get x.nodes other) often
            ∙ often-other m.input k other rank m.nodes (λ same. omega (arith, from, same))
            ∙ so_far.later other (omega (arith, from));
        notes = notes-more within more;
      }

module _ (old m : MachineState) (done : ℕ) (notes : List Note) (sound : IsSoundMachine old) (parting : Parting old m done notes) where
  pub Parting-done : old.settings.nodes ≤ done → m ≡ with_phases old
  Parting-done past =
      let all = length-nodes m parting.phasing.sound in
      let same : m.settings.nodes ≡ old.settings.nodes = ap (λ s. s.nodes) parting.settings in
      IsPhasing-done old m done sound (omega (arith, past, all, same)) parting.phasing

  pub Parting-notes : old.settings.nodes ≤ done → notes ≡ all_notes old
  unfolding all_notes
  Parting-notes past =
      parting.notes
      ∙ ap (flat_map (notes_of old.input)) (take_all done old.nodes (omega (arith, past, length-nodes old sound)))
