-- Each part lands in its own node, so that the order of the parts does not matter.
use Rattle.std.proofs.Common.{◌≡◌, ◌≢◌, ℕ, zero, suc, ◌+◌, ◌<◌, ◌≤◌, ◌==◌, Bool, true, false, cond, List, [], ◌∷◌, length, map, refl, sym}
use Rattle.std.proofs.Common.{ap, ap₂, ◌∙◌, arith, Option, Some, None}
use Rattle.std.specs.Prelude.{slice_get, option_map}
use Rattle.std.specs.List.{All, count_by, filter, fold, range_with_len}
use Rattle.std.specs.List.Sorted.{IsPermutation}
use Rattle.std.proofs.lemmas.Bool.{eqb-true, eqb-false, ne_eqb}
use Rattle.std.proofs.lemmas.List.Elements.{All-head, All-tail, All-map, All-filter, filter_passes}
use Rattle.std.proofs.lemmas.List.Sorted.{All-permutation, sum_by-IsPermutation}
use Rattle.std.proofs.lemmas.List.Sums.{length-filter, sum_by-cons}
use Rattle.std.proofs.lemmas.Option.{none-some, same_Some, slice_get-map, slice_get_within}
use Rattle.node_core.specs.Node.{NodeState}
use Rattle.node_core.specs.Turn.{next_superstep}
use Rattle.bsp_exchange.specs.Arrivals.{Received, after_landing, received_at}
use Rattle.bsp_exchange.specs.Exchange.{exchanged_node, exchanged}
use Rattle.bsp_exchange.specs.Parts.{Patch, PartState, changed_at, part_of, parts_of, with_part, with_patches, landed, landed_in}
use Rattle.bsp_exchange.specs.Parts.{landed_in_turn, CanExchange}
use Rattle.bsp_exchange.specs.Queues.{queue_after}
use Rattle.bsp_exchange.proofs.Landed.{laid-append, parts_are, whole}
use Rattle.node_core.specs.Hart.{with_memory}

-- a part lays what arrives at its node: gets and then puts
as_received : (nodes : List NodeState) (rank : ℕ) (n : NodeState)
    → with_part (part_of nodes rank) n ≡ after_landing (received_at nodes rank) n
as_received nodes rank n =
    let part : Received = received_at nodes rank in
    let turn : List ℕ → NodeState = λ (m : List ℕ). next_superstep (queue_after nodes rank) (record n { hart = with_memory m n.hart }) in
    ap (λ (ps : List Patch). next_superstep (queue_after nodes rank) (with_patches ps n)) (sym (parts_are nodes rank))
    ∙ ap turn (laid-append n.hart.memory part.gets part.puts)

-- a part leaves in its node what the exchange is to leave
pub lands_as_exchanged : (nodes : List NodeState) (i : ℕ) (n : NodeState) → CanExchange nodes → slice_get nodes i ≡ Some n
    → with_part (part_of nodes i) n ≡ exchanged_node nodes n
lands_as_exchanged nodes i n can is = as_received nodes i n ∙ (whole nodes can.row can.faultless can.sound i n is).as_defined

landed-map : (f : ℕ → PartState) (g : NodeState → NodeState) (i : ℕ) (xs : List NodeState)
    → ((k : ℕ) (n : NodeState) → slice_get xs k ≡ Some n → with_part (f (i + k)) n ≡ g n)
    → landed (map f (range_with_len i (length xs))) xs ≡ map g xs
landed-map f g i [] each = refl
landed-map f g i (n ∷ xs) each =
    let here : i ≡ i + 0 = omega arith in
    let rest : (k : ℕ) (m : NodeState) → slice_get xs k ≡ Some m → with_part (f (i + 1 + k)) m ≡ g m = λ k m is.
    let next : i + 1 + k ≡ i + suc k = omega arith in
    ap (λ j. with_part (f j) m) next ∙ each (suc k) m is in
    ap₂ (λ m ms. m ∷ ms) (ap (λ j. with_part (f j) n) here ∙ each 0 n refl) (landed-map f g (i + 1) xs rest)

-- the parts of a row, each landed in the node at its place
pub landed_whole : (nodes : List NodeState) → CanExchange nodes → landed (parts_of nodes) nodes ≡ exchanged nodes
landed_whole nodes can = landed-map (part_of nodes) (exchanged_node nodes) 0 nodes (λ k n is.
    let same : 0 + k ≡ k = omega arith in
    ap (λ j. with_part (part_of nodes j) n) same ∙ lands_as_exchanged nodes k n can is)

-- ---- parts that land one after another

changed_same : {X : Type 0} (f : X → X) (k : ℕ) (xs : List X) → slice_get (changed_at f k xs) k ≡ option_map f (slice_get xs k)
changed_same f k [] = refl
changed_same f zero (x ∷ xs) = refl
changed_same f (suc k) (x ∷ xs) = changed_same f k xs

changed_other : {X : Type 0} (f : X → X) (i k : ℕ) (xs : List X) → i ≢ k → slice_get (changed_at f i xs) k ≡ slice_get xs k
changed_other f i k [] other = refl
changed_other f zero zero (x ∷ xs) other = absurd (other refl)
changed_other f zero (suc k) (x ∷ xs) other = refl
changed_other f (suc i) zero (x ∷ xs) other = refl
changed_other f (suc i) (suc k) (x ∷ xs) other = changed_other f i k xs (λ same. other (ap (λ j. suc j) same))

option_map-same : {X : Type 0} (o : Option X) → o ≡ option_map (λ x. x) o
option_map-same None = refl
option_map-same (Some x) = refl

option_map-agree : {X Y : Type 0} (f g : X → Y) (o : Option X) → ((x : X) → f x ≡ g x) → option_map f o ≡ option_map g o
option_map-agree f g None same = refl
option_map-agree f g (Some x) same = ap (λ y. Some y) (same x)

option_map-twice : {X Y Z : Type 0} (f : Y → Z) (g : X → Y) (o : Option X) → option_map f (option_map g o) ≡ option_map (λ x. f (g x)) o
option_map-twice f g None = refl
option_map-twice f g (Some x) = refl

abbrev is_for : ℕ → PartState → Bool
is_for k part = part.rank == k

abbrev after_parts : List PartState → NodeState → NodeState
after_parts parts n = fold (λ m part. with_part part m) n parts

-- a node after the parts that landed is itself with those of its own rank
by_its_own : (nodes : List NodeState) (parts : List PartState) (k : ℕ)
    → slice_get (landed_in_turn nodes parts) k ≡ option_map (after_parts (filter (is_for k) parts)) (slice_get nodes k)
by_its_own nodes [] k = option_map-same (slice_get nodes k)
by_its_own nodes (part ∷ parts) k = by_its_own (landed_in nodes part) parts k ∙ by (part.rank == k) refl
  where
    by : (b : Bool) → (part.rank == k) ≡ b
        → option_map (after_parts (filter (is_for k) parts)) (slice_get (landed_in nodes part) k)
        ≡ option_map (after_parts (filter (is_for k) (part ∷ parts))) (slice_get nodes k)
    by true is =
        let rank : part.rank ≡ k = eqb-true part.rank k is in
        ap (λ (o : Option NodeState). option_map (after_parts (filter (is_for k) parts)) o)
        (ap (λ j. slice_get (changed_at (with_part part) j nodes) k) rank ∙ changed_same (with_part part) k nodes)
        ∙ option_map-twice (after_parts (filter (is_for k) parts)) (with_part part) (slice_get nodes k)
        ∙ option_map-agree (λ n. after_parts (filter (is_for k) parts) (with_part part n)) (after_parts (filter (is_for k) (part ∷ parts)))
        (slice_get nodes k)
        (λ n. ap (λ (b : Bool). after_parts (cond b (part ∷ filter (is_for k) parts) (filter (is_for k) parts)) n) (sym is))
    by false is =
        ap (λ (o : Option NodeState). option_map (after_parts (filter (is_for k) parts)) o)
        (changed_other (with_part part) part.rank k nodes (eqb-false part.rank k is))
        ∙ option_map-agree (after_parts (filter (is_for k) parts)) (after_parts (filter (is_for k) (part ∷ parts))) (slice_get nodes k)
        (λ n. ap (λ (b : Bool). after_parts (cond b (part ∷ filter (is_for k) parts) (filter (is_for k) parts)) n) (sym is))

-- no part is for a rank that none of them has
none_for : (k : ℕ) (parts : List PartState) → All (λ part. part.rank ≢ k) parts → filter (is_for k) parts ≡ []
none_for k [] others = refl
none_for k (part ∷ parts) others =
    ap (λ (b : Bool). cond b (part ∷ filter (is_for k) parts) (filter (is_for k) parts))
    (ne_eqb part.rank k (All-head (λ (p : PartState). p.rank ≢ k) part parts others))
    ∙ none_for k parts (All-tail (λ (p : PartState). p.rank ≢ k) part parts others)

-- a node stays as it is while the parts of others land
pub stays_apart : (nodes : List NodeState) (parts : List PartState) (k : ℕ) → All (λ part. part.rank ≢ k) parts
    → slice_get (landed_in_turn nodes parts) k ≡ slice_get nodes k
stays_apart nodes parts k others =
    by_its_own nodes parts k
    ∙ ap (λ (private : List PartState). option_map (after_parts private) (slice_get nodes k)) (none_for k parts others)
    ∙ sym (option_map-same (slice_get nodes k))

-- of the parts of a row, one is for each rank
none_counted : (nodes : List NodeState) (k i n : ℕ) → k < i → count_by (is_for k) (map (part_of nodes) (range_with_len i n)) ≡ 0
none_counted nodes k i zero past = refl
none_counted nodes k i (suc n) past =
    sum_by-cons (λ (p : PartState). cond (is_for k p) 1 0) (part_of nodes i) (map (part_of nodes) (range_with_len (i + 1) n))
    ∙ ap₂ (λ a b. a + b) (ap (λ (b : Bool). cond b 1 0) (ne_eqb i k (λ same. omega (arith, past, same))))
    (none_counted nodes k (i + 1) n (omega (arith, past)))

counted_here : (nodes : List NodeState) (k i n : ℕ) → i ≤ k → (b : Bool) → (i == k) ≡ b
    → (i < k → count_by (is_for k) (map (part_of nodes) (range_with_len (i + 1) n)) ≡ 1)
    → cond (i == k) 1 0 + count_by (is_for k) (map (part_of nodes) (range_with_len (i + 1) n)) ≡ 1
counted_here nodes k i n from true is later =
    let here : i ≡ k = eqb-true i k is in
    ap₂ (λ a b. a + b) (ap (λ (b : Bool). cond b 1 0) is) (none_counted nodes k (i + 1) n (omega (arith, here)))
counted_here nodes k i n from false is later =
    let other : i ≢ k = eqb-false i k is in
    ap₂ (λ a b. a + b) (ap (λ (b : Bool). cond b 1 0) is) (later (omega (arith, from, other)))

one_counted : (nodes : List NodeState) (k i n : ℕ) → i ≤ k → k < i + n → count_by (is_for k) (map (part_of nodes) (range_with_len i n)) ≡ 1
one_counted nodes k i zero from below = absurd (omega arith)
one_counted nodes k i (suc n) from below =
    sum_by-cons (λ (p : PartState). cond (is_for k p) 1 0) (part_of nodes i) (map (part_of nodes) (range_with_len (i + 1) n))
    ∙ counted_here nodes k i n from (i == k) refl (λ less. one_counted nodes k (i + 1) n (omega (arith, less)) (omega (arith, below)))

only : {X : Type 0} (x : X) (xs : List X) → length xs ≡ 1 → All (λ y. y ≡ x) xs → xs ≡ x ∷ []
only x [] one all = absurd (omega (arith, one))
only x (y ∷ []) one all = ap (λ z. z ∷ []) (All-head (λ z. z ≡ x) y [] all)
only x (y ∷ z ∷ zs) one all = absurd (omega (arith, one))

-- and of those in another order too
its_own : (nodes : List NodeState) (parts : List PartState) (k : ℕ) → IsPermutation (parts_of nodes) parts → k < length nodes
    → filter (is_for k) parts ≡ part_of nodes k ∷ []
its_own nodes parts k shuffled there =
    let P : PartState → Type 0 = λ (p : PartState). p ≡ part_of nodes p.rank in
    let planned : All P (parts_of nodes) = All-map P (part_of nodes) (range_with_len 0 (length nodes)) (λ j d below. refl) in
    let kept : All P (filter (is_for k) parts) =
    All-filter (is_for k) P parts (All-permutation P (parts_of nodes) parts shuffled planned) in
    let mine = filter_passes (is_for k) parts in
    let count : length (filter (is_for k) parts) ≡ 1 =
    length-filter (is_for k) parts
    ∙ sum_by-IsPermutation (λ (p : PartState). cond (is_for k p) 1 0) (parts_of nodes) parts shuffled
    ∙ one_counted nodes k 0 (length nodes) (omega arith) (omega arith) in
    only (part_of nodes k) (filter (is_for k) parts) count
    (λ j d below. kept j d below ∙ ap (part_of nodes) (eqb-true _ k (mine j d below)))

same_at_each : {X : Type 0} (xs ys : List X) → ((k : ℕ) → slice_get xs k ≡ slice_get ys k) → xs ≡ ys
same_at_each [] [] same = refl
same_at_each [] (y ∷ ys) same = absurd (none-some y (same 0))
same_at_each (x ∷ xs) [] same = absurd (none-some x (sym (same 0)))
same_at_each (x ∷ xs) (y ∷ ys) same = ap₂ (λ z zs. z ∷ zs) (same_Some x y (same 0)) (same_at_each xs ys (λ k. same (suc k)))

-- whatever the order in which the parts land, the row is that after the exchange
pub landed_in_any_order : (nodes : List NodeState) (parts : List PartState) → CanExchange nodes → IsPermutation (parts_of nodes) parts
    → landed_in_turn nodes parts ≡ exchanged nodes
landed_in_any_order nodes parts can shuffled =
    same_at_each (landed_in_turn nodes parts) (exchanged nodes)
    (λ k. by_its_own nodes parts k ∙ by k (slice_get nodes k) refl ∙ sym (slice_get-map (exchanged_node nodes) nodes k))
  where
    by : (k : ℕ) (o : Option NodeState) → slice_get nodes k ≡ o
        → option_map (after_parts (filter (is_for k) parts)) (slice_get nodes k) ≡ option_map (exchanged_node nodes) (slice_get nodes k)
    by k None is = ap (option_map (after_parts (filter (is_for k) parts))) is ∙ sym (ap (option_map (exchanged_node nodes)) is)
    by k (Some n) is =
        ap (option_map (after_parts (filter (is_for k) parts))) is
        ∙ ap (λ (private : List PartState). Some (after_parts private n)) (its_own nodes parts k shuffled (slice_get_within nodes k n is))
        ∙ ap (λ (m : NodeState). Some m) (lands_as_exchanged nodes k n can is)
        ∙ sym (ap (option_map (exchanged_node nodes)) is)
