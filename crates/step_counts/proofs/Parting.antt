-- The local parts of a superstep, rank by rank, and their lines.
use Rattle.std.proofs.Common.{◌≡◌, ℕ, zero, suc, ◌+◌, ◌<◌, ◌≤◌, ◌^◌, false, List, length, take, ◌++◌, [], ◌∷◌, Option, Some, inl, inr, refl}
use Rattle.std.proofs.Common.{sym, ap, ap₂, ◌∙◌, arith}
use Rattle.std.specs.Prelude.{slice_get, flat_map}
use Rattle.std.specs.Option.{option_map_or}
use Rattle.std.proofs.lemmas.Bool.{cases_order}
use Rattle.std.proofs.lemmas.List.{take_all}
use Rattle.node_core.specs.Node.{NodeState}
use Rattle.machine_core.specs.declared.event.Event.TheVariants.{Step}
use Rattle.machine_core.specs.Machine.{MachineState}
use Rattle.machine_core.specs.Events.{is_enabled, after, stepped, stepped_often}
use Rattle.machine_core.specs.Sound.{IsSoundMachine}
use Rattle.machine_core.specs.Turn.{with_phases}
use Rattle.machine_core.proofs.Phased.{IsPhasing, IsPhasing-start, IsPhasing-done, IsOnPhase-part, IsSoundMachine-part, stopped-part}
use Rattle.machine_core.proofs.Rows.{slice_get-stepped_other}
use Rattle.machine_core.proofs.Runs.{steps_of, after-often}
use Rattle.machine_core.proofs.Sound.{length-nodes}
use Rattle.machine_core.proofs.Walks.{rank-at}
use Rattle.step_counts.specs.Counts.{addresses, count_in, lines_below, node_lines, superstep_lines}
use Rattle.step_counts.specs.Parts.{addresses_at}
use Rattle.step_counts.specs.Table.{TableState, told}
use Rattle.step_counts.proofs.Lines.{below-same}

often-other : (input : List ℕ) (k rank other : ℕ) (nodes : List NodeState) → (other ≡ rank → ⊥)
    → slice_get (stepped_often input other k nodes) rank ≡ slice_get nodes rank
often-other input zero rank other nodes differs = refl
often-other input (suc k) rank other nodes differs =
    often-other input k rank other (stepped input other nodes) differs ∙ slice_get-stepped_other input rank other nodes differs

-- the ranks below `done` have made their local parts, and the others no step
pub record Parting (old new : MachineState) (done : ℕ) : Type 0 where
  pub phasing : IsPhasing old new done
  pub rest : new ≡ record old { nodes = new.nodes }
  pub later : (rank : ℕ) → done ≤ rank → slice_get new.nodes rank ≡ slice_get old.nodes rank

pub Parting-start : (m : MachineState) → IsSoundMachine m → Parting m m 0
Parting-start m sound = record { phasing = IsPhasing-start m sound; rest = refl; later = λ rank from. refl }

module _ (old m new : MachineState) (rank : ℕ) (so_far : Parting old m rank) where
  pub Parting-more : (k : ℕ) → new ≡ after m (steps_of rank k) → is_enabled new (Step rank) ≡ false → Parting old new (rank + 1)
  Parting-more k made off =
      let often = made ∙ after-often k m rank in
      record {
        phasing = record {
          sound = IsSoundMachine-part old m new rank so_far.phasing k made;
          on = IsOnPhase-part old m new rank so_far.phasing k made;
          stopped = λ j below. elim (cases_order j rank) [
            | inl same ↦ rw same off
            | inr other ↦ elim other [
              | inl before ↦ stopped-part old m new rank so_far.phasing k made j before
              | inr past ↦ absurd (omega (arith, below, past))
            ]
          ];
        };
        rest =
            often
            ∙ ap (λ (x : MachineState). record x { nodes = stepped_often m.input rank k m.nodes }) so_far.rest
            ∙ ap (λ (nodes : List NodeState). record old { nodes = nodes }) (sym (ap (λ (x : MachineState). x.nodes) often));
        later = λ other from.
            ap (λ (x : MachineState). slice_get x.nodes other) often
            ∙ often-other m.input k other rank m.nodes (λ same. omega (arith, from, same))
            ∙ so_far.later other (omega (arith, from));
      }

  -- the lines of the next rank
  pub lines-at : (n : NodeState) → IsSoundMachine old → slice_get old.nodes rank ≡ Some n
      → lines_below (2 ^ 32) m.exchanges rank (count_in (addresses_at m rank)) ≡ node_lines old n
  unfolding node_lines
  lines-at n sound found =
      let input : m.input ≡ old.input = ap (λ (x : MachineState). x.input) so_far.rest in
      let exchanges : m.exchanges ≡ old.exchanges = ap (λ (x : MachineState). x.exchanges) so_far.rest in
      let there : addresses_at m rank ≡ addresses old.input n =
      ap₂ (λ (i : List ℕ) (o : Option NodeState). option_map_or (λ (x : NodeState). addresses i x) o []) input
      (so_far.later rank (omega arith) ∙ found) in
      ap₂ (λ (e : ℕ) (xs : List ℕ). lines_below (2 ^ 32) e rank (count_in xs)) exchanges there
      ∙ ap (λ (r : ℕ). lines_below (2 ^ 32) old.exchanges r (count_in (addresses old.input n))) (sym (rank-at old rank n sound found))

module _ (old m : MachineState) (done : ℕ) (sound : IsSoundMachine old) (parting : Parting old m done) where
  pub same-settings : m.settings ≡ old.settings
  same-settings = ap (λ (x : MachineState). x.settings) parting.rest

  long : old.settings.nodes ≤ done → length m.nodes ≤ done
  long past =
      let all = length-nodes m parting.phasing.sound in
      let nodes = ap (λ (x : MachineState). x.settings.nodes) parting.rest in
      omega (arith, past, all, nodes)

  pub Parting-done : old.settings.nodes ≤ done → m ≡ with_phases old
  Parting-done past = IsPhasing-done old m done sound (long past) parting.phasing

  pub lines-done : (first now : List ℕ) → old.settings.nodes ≤ done → now ≡ first ++ flat_map (node_lines old) (take done old.nodes)
      → now ≡ first ++ superstep_lines old
  unfolding superstep_lines
  lines-done first now past is =
      is ∙ ap (λ (ns : List NodeState). first ++ flat_map (node_lines old) ns)
      (take_all done old.nodes (omega (arith, past, length-nodes old sound)))

-- a node at each place of a row
pub there-is : (nodes : List NodeState) (rank : ℕ) → rank < length nodes → (n : NodeState) × (slice_get nodes rank ≡ Some n)
there-is [] rank within = absurd (omega (arith, within))
there-is (n ∷ rest) zero within = (n, refl)
there-is (n ∷ rest) (suc rank) within = there-is rest rank (omega (arith, within))

-- the lines of a rank's local part, once a table has its counts
pub part-lines : (bound : ℕ) (m new : MachineState) (rank number k : ℕ) (t : TableState) → new ≡ after m (steps_of rank k)
    → number ≡ new.exchanges
    → ((address : ℕ) → told t address ≡ count_in (addresses_at m rank) address)
    → lines_below bound number rank (told t) ≡ lines_below bound m.exchanges rank (count_in (addresses_at m rank))
part-lines bound m new rank number k t made is same =
    let exchanges : number ≡ m.exchanges = is ∙ ap (λ (x : MachineState). x.exchanges) (made ∙ after-often k m rank) in
    ap (λ (e : ℕ). lines_below bound e rank (told t)) exchanges
    ∙ below-same bound m.exchanges rank (told t) (count_in (addresses_at m rank)) same
