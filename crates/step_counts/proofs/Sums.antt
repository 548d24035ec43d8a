-- The counts of a rank, added up.
use Rattle.std.proofs.Common.{◌≡◌, ℕ, zero, suc, ◌+◌, ◌-◌, ◌^◌, ◌<◌, ◌≤◌, ◌==◌, max, Bool, true, false, cond, List, [], ◌∷◌, length, map}
use Rattle.std.proofs.Common.{replicate, Option, Some, None, inl, inr, refl, sym, ap, ap₂, ◌∙◌, arith}
use Rattle.std.specs.Prelude.{All, sum_by, zip, is_some}
use Rattle.std.specs.Fn.{iterate}
use Rattle.std.specs.List.{fold, range_with_len}
use Rattle.std.proofs.lemmas.Bool.{cases_eq, cases_lt, eq-eqb, ne_eqb, false≢true}
use Rattle.std.proofs.lemmas.List.Elements.{All-cons, All-head, All-nil, All-tail}
use Rattle.std.proofs.lemmas.List.Sums.{sum_by-cons, sum_by_push}
use Rattle.node_memory.specs.Image.{Image}
use Rattle.node_core.specs.Node.{NodeState, IsNode, phase}
use Rattle.machine_core.specs.declared.outcome.Outcome.{Outcome}
use Rattle.machine_core.specs.declared.settings.Settings.{Settings}
use Rattle.machine_core.specs.Machine.{MachineState, fresh, node_at_start}
use Rattle.machine_core.specs.Sound.{IsSoundMachine}
use Rattle.machine_core.specs.Turn.{cost_row, decided, most_ticks, outcome_of, recorded, superstep, turned, with_exchange, with_phases}
use Rattle.machine_core.specs.Clock.{closed_by}
use Rattle.machine_core.proofs.Clocks.{map-begun}
use Rattle.machine_core.proofs.Sound.{IsNode-each, IsSoundMachine-supersteps, superstep-open, superstep-over}
use Rattle.step_counts.specs.Counts.{addresses, count_in, AllCountsAreTicks, CountsAreTicks, HasBegun, HasWordPcs}
use Rattle.step_counts.proofs.Addresses.{addresses-ticks, count_in-cons}
use Rattle.step_counts.proofs.Lines.{range-more}
use Rattle.step_counts.proofs.Words.{HasWordPc, HasWordPcs-supersteps, words-addresses}

-- as many steps as ticks
pub steps-ticks : (input : List ℕ) (n : NodeState) → IsNode n → length (addresses input n) ≡ (phase input n).ticks - n.ticks
steps-ticks input n sound = omega (arith, addresses-ticks input (n.limit - n.ticks) n sound (omega arith))

sum-same : (f g : ℕ → ℕ) (xs : List ℕ) → ((x : ℕ) → f x ≡ g x) → sum_by f xs ≡ sum_by g xs
sum-same f g [] same = refl
sum-same f g (x ∷ xs) same = omega (arith, sum_by-cons f x xs, sum_by-cons g x xs, same x, sum-same f g xs same)

sum-both : (f g : ℕ → ℕ) (xs : List ℕ) → sum_by (λ x. f x + g x) xs ≡ sum_by f xs + sum_by g xs
sum-both f g [] = refl
sum-both f g (x ∷ xs) = omega (arith, sum_by-cons (λ y. f y + g y) x xs, sum_by-cons f x xs, sum_by-cons g x xs, sum-both f g xs)

-- what one step adds to the count of an address
abbrev one_at : ℕ → ℕ → ℕ
one_at first address = cond (first == address) 1 0

one-more : (first n : ℕ) → sum_by (one_at first) (range_with_len 0 (suc n)) ≡ sum_by (one_at first) (range_with_len 0 n) + one_at first n
one-more first n =
    ap (λ k. sum_by (one_at first) (range_with_len 0 k)) (let same : suc n ≡ n + 1 = omega arith in same)
    ∙ ap (sum_by (one_at first)) (range-more n) ∙ sum_by_push (one_at first) (range_with_len 0 n) n

one-before : (first n : ℕ) → n ≤ first → sum_by (one_at first) (range_with_len 0 n) ≡ 0
one-before first zero before = refl
one-before first (suc n) before =
    let none : one_at first n ≡ 0 = ap (λ b. cond b 1 0) (ne_eqb first n (λ same. omega (arith, before, same))) in
    omega (arith, one-more first n, one-before first n (omega (arith, before)), none)

one-within : (first n : ℕ) → first < n → sum_by (one_at first) (range_with_len 0 n) ≡ 1
one-within first zero within = absurd (omega (arith, within))
one-within first (suc n) within = elim (cases_eq first n) [
  | inl same ↦
      let one : one_at first n ≡ 1 = ap (λ b. cond b 1 0) (eq-eqb first n same) in
      omega (arith, one-more first n, one-before first n (omega (arith, same)), one)
  | inr other ↦
      let none : one_at first n ≡ 0 = ap (λ b. cond b 1 0) (ne_eqb first n other) in
      let below : first < n = elim (cases_lt first n) [ inl less ↦ less | inr more ↦ absurd (other (omega (arith, within, more))) ] in
      omega (arith, one-more first n, one-within first n below, none)
]

sum-none : (xs : List ℕ) → sum_by (λ (x : ℕ). 0) xs ≡ 0
sum-none [] = refl
sum-none (x ∷ xs) = omega (arith, sum_by-cons (λ (y : ℕ). 0) x xs, sum-none xs)

-- the counts of all addresses are as many as the steps
pub counts-sum : (made : List ℕ) (bound : ℕ) → All (λ address. address < bound) made
    → sum_by (count_in made) (range_with_len 0 bound) ≡ length made
counts-sum [] bound all = sum-same (count_in []) (λ (x : ℕ). 0) (range_with_len 0 bound) (λ x. refl) ∙ sum-none (range_with_len 0 bound)
counts-sum (first ∷ made) bound all =
    let here = All-head (λ address. address < bound) first made all in
    let rest = counts-sum made bound (All-tail (λ address. address < bound) first made all) in
    let parts = sum-same (count_in (first ∷ made)) (λ x. one_at first x + count_in made x) (range_with_len 0 bound)
    (λ x. count_in-cons first made x) in
    omega (arith, parts, sum-both (one_at first) (count_in made) (range_with_len 0 bound), one-within first bound here, rest)

-- and as many as the ticks
ticks-below : (bound : ℕ) (input : List ℕ) (n : NodeState) → IsNode n → All (λ address. address < bound) (addresses input n)
    → sum_by (count_in (addresses input n)) (range_with_len 0 bound) ≡ (phase input n).ticks - n.ticks
ticks-below bound input n sound all = counts-sum (addresses input n) bound all ∙ steps-ticks input n sound

pub counts-ticks : (input : List ℕ) (n : NodeState) → IsNode n → n.hart.pc < 2 ^ 32 → CountsAreTicks input n
unfolding CountsAreTicks
counts-ticks input n sound word = ticks-below (2 ^ 32) input n sound (words-addresses input n word)

both-ticks : (input : List ℕ) (nodes : List NodeState) → All IsNode nodes → All HasWordPc nodes → All (CountsAreTicks input) nodes
both-ticks input [] sound words = All-nil (CountsAreTicks input)
both-ticks input (n ∷ rest) sound words =
    All-cons (CountsAreTicks input) n rest (counts-ticks input n (All-head IsNode n rest sound) (All-head HasWordPc n rest words))
    (both-ticks input rest (All-tail IsNode n rest sound) (All-tail HasWordPc n rest words))

pub machine-ticks : (m : MachineState) → IsSoundMachine m → HasWordPcs m → AllCountsAreTicks m
machine-ticks m sound words = both-ticks m.input m.nodes (IsNode-each m sound) words

pub AllCountsAreTicks-supersteps : (k : ℕ) (m : MachineState) → IsSoundMachine m → HasWordPcs m → AllCountsAreTicks (iterate superstep k m)
AllCountsAreTicks-supersteps k m sound words =
    machine-ticks (iterate superstep k m) (IsSoundMachine-supersteps k m sound) (HasWordPcs-supersteps k m words)

-- ticks, node by node
each-ticks : (input : List ℕ) (nodes : List NodeState) → All IsNode nodes
    → map (λ (n : NodeState). length (addresses input n)) nodes
    ≡ map (λ (at : NodeState × ℕ). at.0.ticks - at.1) (zip (map (phase input) nodes) (map (λ (n : NodeState). n.ticks) nodes))
each-ticks input [] sound = refl
each-ticks input (n ∷ rest) sound =
    ap₂ (λ (k : ℕ) (ks : List ℕ). k ∷ ks) (steps-ticks input n (All-head IsNode n rest sound))
    (each-ticks input rest (All-tail IsNode n rest sound))

pub greatest-work : (m : MachineState) → IsSoundMachine m → HasBegun m
    → fold max 0 (map (λ (n : NodeState). length (addresses m.input n)) m.nodes) ≡ (cost_row (with_phases m)).w
greatest-work m sound begun =
    ap (fold max 0) (each-ticks m.input m.nodes (IsNode-each m sound))
    ∙ ap (λ (started : List ℕ). most_ticks (map (phase m.input) m.nodes) started) (sym begun)

zero_ticks : (image : Image) (s : Settings) (from k : ℕ)
    → replicate k 0 ≡ map (λ (n : NodeState). n.ticks) (map (node_at_start image s) (range_with_len from k))
zero_ticks image s from zero = refl
zero_ticks image s from (suc k) = ap (λ (ks : List ℕ). 0 ∷ ks) (zero_ticks image s (from + 1) k)

pub HasBegun-fresh : (image : Image) (input : List ℕ) (s : Settings) → HasBegun (fresh image input s)
HasBegun-fresh image input s = zero_ticks image s 0 s.nodes

HasBegun-exchange : (m : MachineState) → HasBegun (with_exchange m)
HasBegun-exchange m =
    sym (map-begun (closed_by m.settings.clock m.ledger) m.nodes (λ (n : NodeState). n.ticks) (λ n. refl) (λ n. refl) m.nodes)

HasBegun-decided : (o : Option Outcome) (m p : MachineState) → p.nodes ≡ m.nodes → (decided o p).outcome ≡ None → HasBegun (decided o p)
HasBegun-decided None m p same open_yet = HasBegun-exchange p
HasBegun-decided (Some end) m p same open_yet = absurd (let never : ⊥ = cc in never)

HasBegun-turned : (m : MachineState) → (turned m).outcome ≡ None → HasBegun (turned m)
unfolding turned
HasBegun-turned m open_yet = HasBegun-decided (outcome_of m.nodes) m (recorded m) refl open_yet

pub HasBegun-superstep : (m : MachineState) → (superstep m).outcome ≡ None → HasBegun (superstep m)
HasBegun-superstep m open_yet = by (is_some m.outcome) refl
  where
    by : (over : Bool) → is_some m.outcome ≡ over → HasBegun (superstep m)
    by true is = absurd (false≢true (sym (ap is_some open_yet) ∙ ap (λ (x : MachineState). is_some x.outcome) (superstep-over m is) ∙ is))
    by false is =
        let next = superstep-open m is in
        rw next (HasBegun-turned (with_phases m) (ap (λ (x : MachineState). x.outcome) (sym next) ∙ open_yet))
