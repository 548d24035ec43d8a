-- The labels so far with the names that are left are all labels of the line, and a duplicate among them is still to come.
use Rattle.std.proofs.Common.{◌≡◌, ℕ, List, map, drop, is_some}
use Rattle.rv_asm.specs.Faults.{has_duplicate}
use Rattle.rv_asm.specs.Labels.{symbols}
use Rattle.rv_asm.specs.Symbols.{with_labels}
use Rattle.rv_asm.proofs.labels.Labels.define_all.Given as goal

abbrev pub invariant-loop-name : goal.invariant-loop-name
invariant-loop-name g l = record {
  known : (q : List ℕ) → with_labels (symbols l.initial.self) (map (λ name. name.now) l.names) l.address q
      ≡ with_labels (symbols l.self) (map (λ name. name.now) (drop l.name-index l.names)) l.address q;
  judged : has_duplicate (λ q. is_some (symbols l.initial.self q)) (map (λ name. name.now) l.names)
      ≡ has_duplicate (λ q. is_some (symbols l.self q)) (map (λ name. name.now) (drop l.name-index l.names));
}
