-- What a run writes superstep by superstep.
use Rattle.std.proofs.Common.{◌≡◌, ℕ, zero, suc, ◌+◌, Bool, true, false, Option, Some, None, List, [], ◌∷◌, ◌++◌, length, drop, refl, sym}
use Rattle.std.proofs.Common.{ap, ◌∙◌, arith, add-one, ◌-◌, take, ◌≤◌, length-append, append_assoc, append-nil}
use Rattle.std.specs.Prelude.{flat_map, if◌then◌else◌, is_some}
use Rattle.std.specs.Fn.{iterate}
use Rattle.std.specs.List.{range_with_len}
use Rattle.std.proofs.Math.Seq.{take-length}
use Rattle.std.proofs.lemmas.Grind.{flat_map-append}
use Rattle.node_core.specs.Node.{Extends}
use Rattle.node_core.proofs.Steps.{iterate-add}
use Rattle.machine_core.specs.declared.outcome.Outcome.{Outcome}
use Rattle.machine_core.specs.Machine.{MachineState}
use Rattle.machine_core.specs.Turn.{decided, end_of, outcome_of, recorded, superstep, turned, with_phases, written}
use Rattle.machine_core.specs.Sound.{IsSoundMachine}
use Rattle.machine_core.proofs.Ends.{end_of-superstep}
use Rattle.machine_core.proofs.Sound.{IsSoundMachine-superstep, superstep-open, superstep-over}
use Rattle.bsp_session.specs.Live.{WritesUpTo, written_in, written_next}
use Rattle.bsp_session.specs.Streams.{Stream}

-- a turn appends what the nodes wrote, whatever comes of it
output-turned : (m : MachineState) → (turned m).output ≡ m.output ++ written m.nodes
unfolding turned
output-turned m = by (outcome_of m.nodes)
  where
    by : (o : Option Outcome) → (decided o (recorded m)).output ≡ m.output ++ written m.nodes
    by None = refl
    by (Some outcome) = refl

-- so does a superstep
pub output-open : (m : MachineState) → is_some m.outcome ≡ false → (superstep m).output ≡ m.output ++ written (with_phases m).nodes
output-open m open_yet = ap (λ (x : MachineState). x.output) (superstep-open m open_yet) ∙ output-turned (with_phases m)

output-superstep : (m : MachineState) → (superstep m).output ≡ m.output ++ written_next m
output-superstep m = by (is_some m.outcome) refl
  where
    by : (b : Bool) → is_some m.outcome ≡ b → (superstep m).output ≡ m.output ++ written_next m
    by true is =
        ap (λ (x : MachineState). x.output) (superstep-over m is) ∙ sym (append-nil m.output)
        ∙ ap (λ b. m.output ++ (if b then [] else written (with_phases m).nodes)) (sym is)
    by false is = output-open m is ∙ ap (λ b. m.output ++ (if b then [] else written (with_phases m).nodes)) (sym is)

-- so a machine that made one has the output that it had, and behind it what its nodes wrote
pub output-made : (m now : MachineState) (before after : List ℕ) → now ≡ superstep m → is_some m.outcome ≡ false → before ≡ m.output
    → after ≡ now.output → after ≡ before ++ written (with_phases m).nodes
output-made m now before after made open_yet was is =
    is ∙ ap (λ (x : MachineState). x.output) made ∙ output-open m open_yet ∙ ap (λ bs. bs ++ written (with_phases m).nodes) (sym was)

-- what something was appended to is no longer
pub reaches : (old new bytes : List ℕ) → new ≡ old ++ bytes → length old ≤ length new
reaches old new bytes is = rw (is, length-append old bytes) (omega arith)

-- what was appended is what stands behind the rest
pub added : (old new bytes : List ℕ) → new ≡ old ++ bytes → drop (length old) new ≡ bytes
added old new bytes is = ap (drop (length old)) is ∙ behind old
  where
    behind : (xs : List ℕ) → drop (length xs) (xs ++ bytes) ≡ bytes
    behind [] = refl
    behind (x ∷ xs) = behind xs

-- and so is the part from there to the end
pub added-part : (old new bytes : List ℕ) → new ≡ old ++ bytes → take (length new - length old) (drop (length old) new) ≡ bytes
added-part old new bytes is =
    let much : length new - length old ≡ length bytes = rw (is, length-append old bytes) (omega arith) in
    rw (much, added old new bytes is) (take-length bytes)

-- several supersteps append to what there was
extends-supersteps : (k : ℕ) (m : MachineState) → Extends m.output (iterate superstep k m).output
extends-supersteps zero m = ([], sym (append-nil m.output))
extends-supersteps (suc k) m =
    let rest = extends-supersteps k (superstep m) in
    (written_next m ++ rest.0, rest.1 ∙ ap (λ bs. bs ++ rest.0) (output-superstep m) ∙ append_assoc m.output (written_next m) rest.0)

pub extends-end : (m : MachineState) → Extends m.output (end_of m).output
unfolding end_of
extends-end m = extends-supersteps (m.settings.limit + 1) m

-- a run has one end
end_of-supersteps : (k : ℕ) (m : MachineState) → IsSoundMachine m → end_of (iterate superstep k m) ≡ end_of m
end_of-supersteps zero m sound = refl
end_of-supersteps (suc k) m sound = end_of-supersteps k (superstep m) (IsSoundMachine-superstep m sound) ∙ end_of-superstep m sound

-- so what stands written is how its output begins
pub begins : (start m : MachineState) (out : Stream) → IsSoundMachine start → WritesUpTo start out m
    → Extends m.output (end_of start).output
begins start m out sound up_to =
    let same : end_of m ≡ end_of start = ap end_of up_to.is ∙ end_of-supersteps up_to.count start sound in
    let rest = extends-end m in
    (rest.0, ap (λ (x : MachineState). x.output) (sym same) ∙ rest.1)

-- one more superstep of a run
pub iterate-next : (k : ℕ) (m : MachineState) → iterate superstep (suc k) m ≡ superstep (iterate superstep k m)
iterate-next k m = ap (λ (n : ℕ). iterate superstep n m) (sym (add-one k)) ∙ iterate-add superstep k 1 m

range-push : (a n : ℕ) → range_with_len a (suc n) ≡ range_with_len a n ++ (a + n) ∷ []
range-push a zero =
    let same : a ≡ a + 0 = omega arith in
    ap (λ (k : ℕ). k ∷ []) same
range-push a (suc n) =
    let last : a + 1 + n ≡ a + suc n = omega arith in
    ap (λ ks. a ∷ ks) (range-push (a + 1) n ∙ ap (λ (k : ℕ). range_with_len (a + 1) n ++ k ∷ []) last)

range-next : (k : ℕ) → range_with_len 0 (suc k) ≡ range_with_len 0 k ++ k ∷ []
range-next k =
    let same : 0 + k ≡ k = omega arith in
    range-push 0 k ∙ ap (λ (n : ℕ). range_with_len 0 k ++ n ∷ []) same

-- the supersteps write the output, one after another
pub output-first : (start : MachineState) (k : ℕ)
    → (iterate superstep k start).output ≡ start.output ++ flat_map (written_in start) (range_with_len 0 k)
output-first start zero = sym (append-nil start.output)
output-first start (suc k) =
    let all = flat_map (written_in start) (range_with_len 0 k) in
    ap (λ (m : MachineState). m.output) (iterate-next k start)
    ∙ output-superstep (iterate superstep k start)
    ∙ ap (λ bs. bs ++ written_in start k) (output-first start k)
    ∙ append_assoc start.output all (written_in start k)
    ∙ ap (λ bs. start.output ++ bs)
    (ap (λ bs. all ++ bs) (sym (append-nil (written_in start k))) ∙ sym (flat_map-append (written_in start) (range_with_len 0 k) (k ∷ []))
    ∙ ap (flat_map (written_in start)) (sym (range-next k)))

pub output-all : (start : MachineState)
    → (end_of start).output ≡ start.output ++ flat_map (written_in start) (range_with_len 0 (start.settings.limit + 1))
unfolding end_of
output-all start = output-first start (start.settings.limit + 1)
