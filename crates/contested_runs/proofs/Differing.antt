-- A run of which something is told.
use Rattle.std.proofs.Common.{◌≡◌, ℕ, ◌+◌, Bool, true, false, List, [], ◌∷◌, ◌++◌, refl, sym, ap, subst, ◌∙◌, arith, append-nil, None}
use Rattle.std.specs.Prelude.{◌≢◌, Contains, is_some}
use Rattle.std.proofs.lemmas.List.Sorted.{IsPermutation-refl}
use Rattle.bsp_exchange.specs.Landings.{Landing}
use Rattle.contested_bytes.specs.declared.range.ContestedRange.{ContestedRange}
use Rattle.contested_bytes.specs.Contested.{IsContested}
use Rattle.contested_bytes.specs.Ranges.{IsContestedRange}
use Rattle.contested_bytes.proofs.Inside.{named_may_lie}
use Rattle.machine_core.specs.Machine.{MachineState}
use Rattle.machine_core.specs.Sound.{IsSoundMachine}
use Rattle.machine_core.specs.Turn.{makes_exchange, superstep, with_phases}
use Rattle.machine_core.proofs.Sound.{IsSoundMachine-superstep}
use Rattle.settled_runs.specs.Orders.{IsContestedNext, MayLieAfter, RunsTo, next_landings}
use Rattle.settled_runs.proofs.Contested.{can_exchange_next, may_lie_after, one-more, two_machines}
use Rattle.settled_runs.proofs.Runs.{own-superstep}
use Rattle.contested_runs.specs.Lines.{header, range_lines}
use Rattle.contested_runs.specs.Runs.{AreContestedRanges, AreLines, AreTurnLines, TellsContested, landings_of, over, more}
use Rattle.contested_runs.proofs.Turns.{landings-made, landings-none}

-- the first byte of a range is contested
range-contested : (all : List Landing) (c : ContestedRange) → IsContestedRange all c → IsContested all c.rank c.addr
range-contested all c range = (
  range.first.0,
  range.second.0,
  range.first.1,
  range.second.1,
  record { first = range.first.3; second = range.second.3; bytes = λ same. range.differ (sym range.first.4 ∙ same ∙ range.second.4) },
)

range-at : (all : List Landing) (found : List ContestedRange) (c : ContestedRange) → AreContestedRanges all found → Contains found c
    → IsContestedRange all c
range-at all found c ranges there = subst (IsContestedRange all) there.2 (ranges.contested there.0 c there.1)

-- a turn that has contested bytes makes the exchange
makes-exchange : (m : MachineState) (c : ContestedRange) → IsContestedRange (landings_of m) c → makes_exchange m.nodes ≡ true
makes-exchange m c range = by (makes_exchange m.nodes) refl
  where
    by : (made : Bool) → makes_exchange m.nodes ≡ made → makes_exchange m.nodes ≡ true
    by true is = is
    by false is =
        let nothing = subst (λ (all : List Landing). IsContestedRange all c) (landings-none m is) range in
        absurd (omega (arith, nothing.first.1.1))

-- a range of the next superstep's turn
range-made : (m : MachineState) (c : ContestedRange) → IsContestedRange (landings_of (with_phases m)) c
    → (makes_exchange (with_phases m).nodes ≡ true) × IsContestedRange (next_landings m) c
range-made m c range =
    let makes = makes-exchange (with_phases m) c range in
    (makes, subst (λ (all : List Landing). IsContestedRange all c) (landings-made (with_phases m) makes) range)

pub either-lies : (k : ℕ) (start m : MachineState) (found : List ContestedRange) (c : ContestedRange) → RunsTo k start m → IsSoundMachine m
    → m.outcome ≡ None → AreContestedRanges (landings_of (with_phases m)) found → Contains found c
    → MayLieAfter (k + 1) start c.rank c.addr c.first.byte × MayLieAfter (k + 1) start c.rank c.addr c.second.byte
    × (c.first.byte ≢ c.second.byte)
either-lies k start m found c run sound none ranges there =
    let going = ap is_some none in
    let (makes, range) = range-made m c (range-at (landings_of (with_phases m)) found c ranges there) in
    let lies = named_may_lie (with_phases m).nodes c (can_exchange_next m sound makes) range in (
      may_lie_after k start m c.rank c.addr c.first.byte run going makes lies.0,
      may_lie_after k start m c.rank c.addr c.second.byte run going makes lies.1,
      lies.2,
    )

-- ---- two machines

abbrev pub HasTwoMachines : MachineState → Type 0
HasTwoMachines start = (k : ℕ) × (one two : MachineState) × RunsTo k start one × RunsTo k start two × (one ≢ two)

first-range : (number : ℕ) (found : List ContestedRange) → (range_lines number found ≡ [] → ⊥) → (c : ContestedRange) × Contains found c
unfolding range_lines
first-range number [] some = absurd (some refl)
first-range number (c ∷ rest) some = (c, (0, omega arith, refl))

line-differs : (k : ℕ) (start m : MachineState) (lines : List ℕ) → RunsTo k start m → IsSoundMachine m → m.outcome ≡ None
    → AreTurnLines (with_phases m) lines → (lines ≡ [] → ⊥) → HasTwoMachines start
line-differs k start m lines run sound none turn some =
    let (c, there) = first-range (with_phases m).exchanges turn.found (λ empty. some (turn.are ∙ empty)) in
    let (makes, range) = range-made m c (range-at (landings_of (with_phases m)) turn.found c turn.ranges there) in
    let contested : IsContestedNext m c.rank c.addr = record {
      going = ap is_some none;
      made = makes;
      bytes = range-contested (next_landings m) c range;
    } in
    let two = two_machines k start m c.rank c.addr run sound contested in
    (k + 1, two.0, two.1, two.2, two.3, two.4)

here-or-later : (k : ℕ) (start m : MachineState) (lines : List ℕ) → RunsTo k start m → IsSoundMachine m → m.outcome ≡ None
    → AreTurnLines (with_phases m) lines → (lines ≡ [] → HasTwoMachines start) → HasTwoMachines start
here-or-later k start m [] run sound none turn later = later refl
here-or-later k start m (b ∷ lines) run sound none turn later = line-differs k start m (b ∷ lines) run sound none turn (λ empty. absurd cc)

-- the machine's own superstep
one-superstep : (k : ℕ) (start m : MachineState) → RunsTo k start m → RunsTo (k + 1) start (superstep m)
one-superstep k start m run =
    subst (RunsTo (k + 1) start) (own-superstep m) (one-more k start m (next_landings m) run (IsPermutation-refl (next_landings m)))

lines-differ : (k : ℕ) (start m : MachineState) (text : List ℕ) → RunsTo k start m → IsSoundMachine m → AreLines m text → (text ≡ [] → ⊥)
    → HasTwoMachines start
lines-differ k start m text run sound (over _ _ ended is) some = absurd (some is)
lines-differ k start m text run sound (more _ lines rest _ none turn left is) some =
    here-or-later k start m lines run sound none turn
    (λ empty. lines-differ (k + 1) start (superstep m) rest (one-superstep k start m run) (IsSoundMachine-superstep m sound) left
    (λ gone. some (is ∙ ap (λ (bs : List ℕ). bs ++ rest) empty ∙ gone)))

pub told-differs : (start : MachineState) (text : List ℕ) → IsSoundMachine start → TellsContested start text → text ≢ header
    → HasTwoMachines start
told-differs start text sound told other =
    lines-differ 0 start start told.0 refl sound told.1
    (λ empty. other (told.2 ∙ ap (λ (bs : List ℕ). header ++ bs) empty ∙ append-nil header))
