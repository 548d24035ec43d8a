-- What was gathered for the nodes, as the parts of a plan, for each of which its node can be prepared.
use Rattle.std.proofs.Common.{◌≡◌, ℕ, zero, suc, ◌+◌, ◌^◌, ◌<◌, ◌≤◌, Bool, List, [], ◌∷◌, ◌++◌, length, get_or, map, refl, sym, ap, ap₂}
use Rattle.std.proofs.Common.{subst, ◌∙◌, arith, Some}
use Rattle.std.specs.Prelude.{slice_get}
use Rattle.std.specs.List.{All, AllZip, enumerate_from, range_with_len}
use Rattle.std.proofs.lemmas.List.{append_assoc, length_push}
use Rattle.std.proofs.lemmas.List.Elements.{All-map}
use Rattle.std.proofs.lemmas.List.FromFn.{get_or-range_with_len, length-range_with_len, length-map-range_with_len}
use Rattle.std.proofs.lemmas.Option.{same_Some, slice_get_within}
use Rattle.bsp_requests.specs.Inbox.{IsQueue}
use Rattle.node_core.specs.declared.state.State.TheVariants.{Synced}
use Rattle.node_core.specs.Hart.{max_nodes}
use Rattle.node_core.specs.Node.{NodeState, PreparedNode}
use Rattle.bsp_exchange.specs.Arrivals.{Received, part_from, received_at}
use Rattle.bsp_exchange.specs.Exchange.{states}
use Rattle.bsp_exchange.specs.Parts.{Patch, PartState, LieIn, OwnsEach, CanExchange, CanPrepare, bytes_in, part_of, parts_of}
use Rattle.bsp_exchange.specs.declared.traffic.Traffic.{Traffic}
use Rattle.bsp_exchange.specs.Traffic.{traffic_of}
use Rattle.bsp_exchange.proofs.Bounds.{moved_bounded, traffic_bounded}
use Rattle.bsp_exchange.proofs.Gathered.{all_at, length-states}
use Rattle.bsp_exchange.proofs.Landed.{parts_are, rank_is, whole}

-- what arrives at a rank's node is its part
pub part_is : (nodes : List NodeState) (rank : ℕ) → part_from (rank, received_at nodes rank) ≡ part_of nodes rank
part_is nodes rank = ap (λ (ps : List Patch). record (part_of nodes rank) { patches = ps }) (parts_are nodes rank)

numbered : (nodes : List NodeState) (i n : ℕ)
    → map part_from (enumerate_from i (map (received_at nodes) (range_with_len i n))) ≡ map (part_of nodes) (range_with_len i n)
numbered nodes i zero = refl
numbered nodes i (suc n) = ap₂ (λ p ps. p ∷ ps) (part_is nodes i) (numbered nodes (i + 1) n)

-- what arrives at all nodes are their parts
pub parts_planned : (ps : List PreparedNode) (arrivals : List Received)
    → arrivals ≡ map (received_at (states ps)) (range_with_len 0 (length ps))
    → map part_from (enumerate_from 0 arrivals) ≡ parts_of (states ps)
parts_planned ps arrivals planned =
    ap (λ (rs : List Received). map part_from (enumerate_from 0 rs)) planned
    ∙ numbered (states ps) 0 (length ps)
    ∙ ap (λ (n : ℕ). map (part_of (states ps)) (range_with_len 0 n)) (sym (length-states ps))

-- there are no more nodes than ranks that a node can know of
few_nodes : (nodes : List NodeState) → CanExchange nodes → length nodes ≤ max_nodes
few_nodes [] can = omega arith
few_nodes (n ∷ nodes) can = omega (arith, (can.sound 0 n (omega arith)).few, can.row.counts 0 n (omega arith))

node_there : (nodes : List NodeState) (k : ℕ) → k < length nodes → (n : NodeState) × (slice_get nodes k ≡ Some n)
node_there [] k there = absurd (omega arith)
node_there (n ∷ nodes) zero there = (n, refl)
node_there (n ∷ nodes) (suc k) there = node_there nodes k (omega arith)

-- the messages that are sent to each node are a queue
pub queues_planned : (ps : List PreparedNode) (arrivals : List Received) → CanExchange (states ps)
    → arrivals ≡ map (received_at (states ps)) (range_with_len 0 (length ps)) → All (λ (r : Received). IsQueue r.messages) arrivals
queues_planned ps arrivals can planned =
    let nodes = states ps in
    let each : All (λ (rank : ℕ). IsQueue (received_at nodes rank).messages) (range_with_len 0 (length ps)) = λ k d below.
    let there : k < length ps = rw (length-range_with_len 0 (length ps)) at below in
    let (n, here) = node_there nodes k (rw (length-states ps) there) in
    let is : get_or (range_with_len 0 (length ps)) k d ≡ k = get_or-range_with_len 0 (length ps) k d there ∙ omega arith in
    rw is (whole nodes can.row can.faultless can.sound k n here).fits.queue in
    rw planned (All-map (λ (r : Received). IsQueue r.messages) (received_at nodes) (range_with_len 0 (length ps)) each)

-- and each receives fewer bytes than a number of 64 bits counts
pub bytes_planned : (ps : List PreparedNode) (arrivals : List Received) → CanExchange (states ps)
    → arrivals ≡ map (received_at (states ps)) (range_with_len 0 (length ps))
    → All (λ (r : Received). bytes_in r.gets + bytes_in r.puts < 2 ^ 63) arrivals
bytes_planned ps arrivals can planned =
    let nodes = states ps in
    let few = few_nodes nodes can in
    rw planned (All-map (λ (r : Received). bytes_in r.gets + bytes_in r.puts < 2 ^ 63) (received_at nodes) (range_with_len 0 (length ps))
    (λ k d below. moved_bounded nodes (get_or (range_with_len 0 (length ps)) k d) few can.sound))

pub owns_both : (private : List Bool) (a b : List Patch) → OwnsEach private a → OwnsEach private b → OwnsEach private (a ++ b)
owns_both private [] b first second = second
owns_both private (p ∷ a) b first second = (first.0, owns_both private a b first.1 second)

pub owns_first : (private : List Bool) (a b : List Patch) → OwnsEach private (a ++ b) → OwnsEach private a
owns_first private [] b all = tt
owns_first private (p ∷ a) b all = (all.0, owns_first private a b all.1)

pub owns_second : (private : List Bool) (a b : List Patch) → OwnsEach private (a ++ b) → OwnsEach private b
owns_second private [] b all = all
owns_second private (p ∷ a) b all = owns_second private a b all.1

lie_both : (size : ℕ) (a b : List Patch) → LieIn size a → LieIn size b → LieIn size (a ++ b)
lie_both size [] b first second = second
lie_both size (p ∷ a) b first second = (first.0, lie_both size a b first.1 second)

pub lie_first : (size : ℕ) (a b : List Patch) → LieIn size (a ++ b) → LieIn size a
lie_first size [] b all = tt
lie_first size (p ∷ a) b all = (all.0, lie_first size a b all.1)

pub lie_second : (size : ℕ) (a b : List Patch) → LieIn size (a ++ b) → LieIn size b
lie_second size [] b all = all
lie_second size (p ∷ a) b all = lie_second size a b all.1

-- an element of a list that is made by index
made_at : {X : Type 0} (f : ℕ → X) (i n k : ℕ) → k < n → slice_get (map f (range_with_len i n)) k ≡ Some (f (i + k))
made_at f i zero k below = absurd (omega arith)
made_at f i (suc n) zero below =
    let here : i ≡ i + 0 = omega arith in
    ap (λ j. Some (f j)) here
made_at f i (suc n) (suc k) below =
    let next : i + 1 + k ≡ i + suc k = omega arith in
    made_at f (i + 1) n k (omega arith) ∙ ap (λ j. Some (f j)) next

pub zip_each : {X Y : Type 0} (R : X → Y → Type 0) (xs : List X) (ys : List Y) → length xs ≡ length ys
    → ((k : ℕ) (x : X) (y : Y) → slice_get xs k ≡ Some x → slice_get ys k ≡ Some y → R x y) → AllZip R xs ys
zip_each R [] [] long each = tt
zip_each R [] (y ∷ ys) long each = absurd (omega (arith, long))
zip_each R (x ∷ xs) [] long each = absurd (omega (arith, long))
zip_each R (x ∷ xs) (y ∷ ys) long each =
    (each 0 x y refl refl, zip_each R xs ys (omega (arith, long)) (λ k a b first second. each (suc k) a b first second))

-- each node can be prepared for its part
pub can_prepare_each : (nodes : List NodeState) → CanExchange nodes → AllZip CanPrepare (parts_of nodes) nodes
can_prepare_each nodes can = zip_each CanPrepare (parts_of nodes) nodes (length-map-range_with_len (part_of nodes) 0 (length nodes)) each
  where
    each : (k : ℕ) (part : PartState) (n : NodeState) → slice_get (parts_of nodes) k ≡ Some part → slice_get nodes k ≡ Some n
        → CanPrepare part n
    each k part n first second =
        let zero_more : 0 + k ≡ k = omega arith in
        let mine : part ≡ part_of nodes k =
        same_Some part (part_of nodes k)
        (sym first
        ∙ made_at (part_of nodes) 0 (length nodes) k (slice_get_within nodes k n second)
        ∙ ap (λ j. Some (part_of nodes j)) zero_more) in
        let size = length n.hart.memory in
        let part = received_at nodes k in
        let fits = (whole nodes can.row can.faultless can.sound k n second).fits in
        rw mine (record {
          unspent = refl;
          rank = rank_is nodes can.row k n second;
          waiting = all_at (λ (m : NodeState). m.state ≡ Synced) nodes k n can.row.waiting second;
          within = subst (LieIn size) (parts_are nodes k) (lie_both size part.gets part.puts fits.gets fits.puts);
        })

-- one part more, with the number of those before it
pub next_part : (parts whole : List PartState) (rest rest' : List Received) (r : Received) (new : PartState) (n : ℕ)
    (parts' : List PartState) → whole ≡ parts ++ map part_from (enumerate_from (length parts) rest) → rest ≡ r ∷ rest' → n ≡ length parts
    → new ≡ part_from (n, r) → parts' ≡ parts ++ new ∷ [] → whole ≡ parts' ++ map part_from (enumerate_from (length parts') rest')
next_part parts whole rest rest' r new n parts' all steps count is pushed =
    let same : new ≡ part_from (length parts, r) = is ∙ ap (λ (k : ℕ). part_from (k, r)) count in
    let long : length parts + 1 ≡ length parts' = sym (length_push parts new) ∙ ap length (sym pushed) in
    all
    ∙ ap (λ (rs : List Received). parts ++ map part_from (enumerate_from (length parts) rs)) steps
    ∙ sym (append_assoc parts (part_from (length parts, r) ∷ []) (map part_from (enumerate_from (length parts + 1) rest')))
    ∙ ap (λ (p : PartState). (parts ++ p ∷ []) ++ map part_from (enumerate_from (length parts + 1) rest')) (sym same)
    ∙ ap₂ (λ (ps : List PartState) (k : ℕ). ps ++ map part_from (enumerate_from k rest')) (sym pushed) long

pub few_more : (parts parts' : List PartState) (rest rest' : List Received) (r : Received) (new : PartState) (most : ℕ)
    → rest ≡ r ∷ rest' → parts' ≡ parts ++ new ∷ [] → length parts + length rest ≤ most → length parts' + length rest' ≤ most
few_more parts parts' rest rest' r new most steps pushed few =
    let long : length parts + 1 ≡ length parts' = sym (length_push parts new) ∙ ap length (sym pushed) in
    let left : length rest ≡ length rest' + 1 = ap length steps ∙ omega arith in
    omega (arith, long, left, few)

pub few_planned : (ps : List PreparedNode) (arrivals : List Received) → CanExchange (states ps)
    → arrivals ≡ map (received_at (states ps)) (range_with_len 0 (length ps)) → length arrivals ≤ max_nodes
few_planned ps arrivals can planned =
    omega (
      arith,
      few_nodes (states ps) can,
      ap length planned
          ∙ length-map-range_with_len (received_at (states ps)) 0 (length ps),
      length-states ps,
    )

-- what they move keeps to bounds
pub bounded_planned : (nodes : List NodeState) (t : Traffic) → CanExchange nodes → t ≡ traffic_of nodes
    → (t.h ≤ t.h_all) × (t.h_all ≤ 2 ^ 46) × (t.messages ≤ 2 ^ 40)
bounded_planned nodes t can is = rw is (traffic_bounded nodes (few_nodes nodes can) can.sound)
