-- The first fault and the labels of the text are those of the lines that are left, with the labels that were found so far.
use Rattle.std.proofs.Common.{◌≡◌, ℕ, ◌+◌, ◌^◌, ◌≤◌, List, length, is_some}
use Rattle.rv_asm.specs.Faults.{fault_alone, first_faulty_line}
use Rattle.rv_asm.specs.Labels.{symbols}
use Rattle.rv_asm.specs.Places.{placed, places_of, symbols_of}
use Rattle.rv_asm.proofs.Passes.{lines_in, left_in, symbols_from}
use Rattle.rv_asm.proofs.first_pass.define_labels.Given as goal

abbrev pub invariant-lines : goal.invariant-lines
invariant-lines g l = record {
  judged : first_faulty_line fault_alone (places_of l.extensions l.fn.text)
      ≡ first_faulty_line fault_alone (placed l.extensions l.number l.address (λ q. is_some (symbols l.labels q)) (lines_in l.rest));
  known : (q : List ℕ) → symbols_of (places_of l.extensions l.fn.text) q
      ≡ symbols_from (symbols l.labels) (placed l.extensions l.number l.address (λ p. is_some (symbols l.labels p)) (lines_in l.rest)) q;
  within : l.address ≤ 2 ^ 24;
  counted : l.number + left_in l.rest ≤ length l.fn.text + 2;
}

abbrev pub decreases-lines : goal.decreases-lines
decreases-lines g l = left_in l.rest
