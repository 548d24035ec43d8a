-- What the nodes receive has its place in their memories and queues, and leaves there what the definitions say.
use Rattle.std.proofs.Common.{◌≡◌, ℕ, zero, suc, ◌+◌, ◌*◌, ◌^◌, ◌<◌, ◌≤◌, ◌==◌, Bool, true, false, not, cond, nat_le, List, [], ◌∷◌, ◌++◌}
use Rattle.std.proofs.Common.{length, get_or, map, reverse, refl, sym, ap, subst, ◌∙◌, arith, Option, Some, None}
use Rattle.std.specs.Prelude.{IsTrue, slice_get, option_map, option_and_then}
use Rattle.std.specs.List.{All, cons_option, enumerate_from, filter, filter_map, find, flat_map, sum_by}
use Rattle.std.specs.Option.{IfSome, option_or, option_map_or}
use Rattle.std.proofs.lemmas.Bool.{cond_both, eqb-true, true≢false}
use Rattle.std.proofs.lemmas.Bool.Decides.{nat_tests}
use Rattle.std.proofs.lemmas.List.{places, reverse-append, map-append, length-map, get_or-map}
use Rattle.std.proofs.lemmas.List.Concat.{length-flat_map}
use Rattle.std.proofs.lemmas.List.Elements.{All-nil, All-cons, All-head, All-tail, All-append, All-map, All-filter, filter-append}
use Rattle.std.proofs.lemmas.List.Elements.{filter_passes}
use Rattle.std.proofs.lemmas.List.Folds.{find-append}
use Rattle.std.proofs.lemmas.List.FromFn.{length-map-range_with_len, get_or-map-range_with_len, get_or-range_with_len}
use Rattle.std.proofs.lemmas.List.FromFn.{length-enumerate_from, fill_by_all}
use Rattle.std.proofs.lemmas.List.Sums.{sum_by-le, get_or-le-sum_by}
use Rattle.std.proofs.lemmas.Option.{none-some, slice_get_within, slice_get-get_or, get_or_from_slice_get}
use Rattle.node_memory.specs.Bytes.{fits, byte_at, with_bytes}
use Rattle.bsp_slots.specs.declared.area.Area.{Area}
use Rattle.bsp_requests.specs.Inbox.{IsQueue}
use Rattle.bsp_requests.specs.Message.{Message, IsShort}
use Rattle.bsp_requests.specs.Request.{Asked, asks_put, asks_get, asks_send, size_of}
use Rattle.node_core.specs.Communication.{LiesIn, IsWellAddressed}
use Rattle.node_core.specs.Hart.{IsHart, max_nodes, with_memory}
use Rattle.node_core.specs.Node.{NodeState}
use Rattle.node_core.specs.Turn.{next_superstep}
use Rattle.bsp_exchange.specs.Exchange.{AreAtSync, exchanged_node}
use Rattle.bsp_exchange.specs.Faults.{is_outside, leaves_area, fault_of, first_outside, exchange_fault}
use Rattle.bsp_exchange.specs.Issued.{Issued, issued_as, issued_by, issued}
use Rattle.bsp_exchange.specs.Landings.{Landing, area_start, memory_of, landing_of_get, landing_of_put, landings_at, covers, landing_byte}
use Rattle.bsp_exchange.specs.Landings.{landed_byte, memory_after}
use Rattle.bsp_exchange.specs.Arrivals.{LieIn, received_at, after_landing, FitsIn}
use Rattle.bsp_exchange.specs.Parts.{Patch, patch_of, laid}
use Rattle.bsp_exchange.specs.Queues.{message_to, queue_after}
use Rattle.bsp_exchange.proofs.Bounds.{queue-light}
use Rattle.bsp_exchange.proofs.Limits.{bytes_at_most, requests_at_most}
use Rattle.bsp_exchange.proofs.Patches.{length-patched, length-range}

-- the first of two options that is there, or else a default
option_map_or-or : {X Y : Type 0} (f : X → Y) (a b : Option X) (d : Y)
    → option_map_or f (option_or a b) d ≡ option_map_or f a (option_map_or f b d)
option_map_or-or f None b d = refl
option_map_or-or f (Some x) b d = refl

option_map_or-cond : {X Y : Type 0} (f : X → Y) (b : Bool) (x : X) (d : Y) → option_map_or f (cond b (Some x) None) d ≡ cond b (f x) d
option_map_or-cond f true x d = refl
option_map_or-cond f false x d = refl

-- the landing that comes first counts last
landed_byte-first : (l : Landing) (rest : List Landing) (m : List ℕ) (k : ℕ)
    → landed_byte (l ∷ rest) m k
    ≡ option_map_or (landing_byte k) (find (covers k) (reverse rest)) (cond (covers k l) (landing_byte k l) (byte_at m k))
landed_byte-first l rest m k =
    let last : find (covers k) (reverse (l ∷ rest)) ≡ option_or (find (covers k) (reverse rest)) (find (covers k) (l ∷ [])) =
    ap (find (covers k)) (reverse-append (l ∷ []) rest) ∙ find-append (covers k) (reverse rest) (l ∷ []) in
    ap (λ o. option_map_or (landing_byte k) o (byte_at m k)) last
    ∙ option_map_or-or (landing_byte k) (find (covers k) (reverse rest)) (find (covers k) (l ∷ [])) (byte_at m k)
    ∙ ap (option_map_or (landing_byte k) (find (covers k) (reverse rest)))
    (option_map_or-cond (landing_byte k) (covers k l) l (byte_at m k))

-- a byte of a memory with a landing laid over it
byte_at-patched : (m : List ℕ) (l : Landing) (k : ℕ) → IsTrue (fits (length m) l.addr (length l.bytes)) → k < length m
    → byte_at (with_bytes m l.addr l.bytes) k ≡ cond (covers k l) (landing_byte k l) (byte_at m k)
byte_at-patched m l k within below = grind (arith, places, nat_tests)

-- patches laid one after another leave what their landings, in that order, are to leave
pub laid_is : (all : List Landing) (m : List ℕ) → LieIn (length m) (map patch_of all) → laid m (map patch_of all) ≡ memory_after all m
laid_is [] m within = fill_by_all (landed_byte [] m) m (length m) 0 refl (λ k below. refl)
laid_is (l ∷ rest) m within =
    let over : List ℕ = with_bytes m l.addr l.bytes in
    let size : length over ≡ length m = length-patched m l.addr l.bytes within.0 in
    let each : (k : ℕ) → k < length m → get_or (memory_after rest over) k 0 ≡ landed_byte (l ∷ rest) m k = λ k below.
    get_or-map-range_with_len (landed_byte rest over) 0 (length over) k k 0 (omega (arith, size)) (omega arith)
    ∙ ap (option_map_or (landing_byte k) (find (covers k) (reverse rest))) (byte_at-patched m l k within.0 below)
    ∙ sym (landed_byte-first l rest m k) in
    laid_is rest over (rw size within.1)
    ∙ fill_by_all (landed_byte (l ∷ rest) m) (memory_after rest over) (length m) 0
    (length-map-range_with_len (landed_byte rest over) 0 (length over) ∙ size) each

pub laid-append : (m : List ℕ) (a b : List Patch) → laid m (a ++ b) ≡ laid (laid m a) b
laid-append m [] b = refl
laid-append m (p ∷ a) b = laid-append (with_bytes m p.addr p.bytes) a b

LieIn-append : (size : ℕ) (a b : List Patch) → LieIn size a → LieIn size b → LieIn size (a ++ b)
LieIn-append size [] b first second = second
LieIn-append size (p ∷ a) b first second = (first.0, LieIn-append size a b first.1 second)

-- what a rank's node receives of gets and then of puts are the landings at it, in their order
pub parts_are : (nodes : List NodeState) (rank : ℕ)
    → (received_at nodes rank).gets ++ (received_at nodes rank).puts ≡ map patch_of (landings_at nodes rank)
parts_are nodes rank =
    let gets : List Landing = filter_map (λ i. landing_of_get nodes i.rank i.issue i.request) (issued nodes) in
    let puts : List Landing = filter_map (λ i. landing_of_put nodes i.rank i.issue i.request) (issued nodes) in
    sym (map-append patch_of (filter (λ l. l.rank == rank) gets) (filter (λ l. l.rank == rank) puts))
    ∙ ap (map patch_of) (sym (filter-append (λ l. l.rank == rank) gets puts))

-- what it receives, laid over a memory, leaves what its landings are to leave
laid_memory : (nodes : List NodeState) (rank : ℕ) (m : List ℕ) → FitsIn (length m) (received_at nodes rank)
    → laid (laid m (received_at nodes rank).gets) (received_at nodes rank).puts ≡ memory_after (landings_at nodes rank) m
laid_memory nodes rank m fit =
    let part = received_at nodes rank in
    let P : List Patch → Type 0 = λ patches. LieIn (length m) patches in
    let within : LieIn (length m) (map patch_of (landings_at nodes rank)) =
    subst P (parts_are nodes rank) (LieIn-append (length m) part.gets part.puts fit.gets fit.puts) in
    sym (laid-append m part.gets part.puts) ∙ ap (laid m) (parts_are nodes rank) ∙ laid_is (landings_at nodes rank) m within

-- a node after what it received is the node that the exchange is to leave
pub lands_as_defined : (nodes : List NodeState) (rank : ℕ) (n : NodeState) → n.hart.rank ≡ rank
    → FitsIn (length n.hart.memory) (received_at nodes rank) → after_landing (received_at nodes rank) n ≡ exchanged_node nodes n
lands_as_defined nodes rank n is fit =
    ap (λ (m : List ℕ). next_superstep (queue_after nodes rank) (record n { hart = with_memory m n.hart }))
    (laid_memory nodes rank n.hart.memory fit)
    ∙ ap (λ (r : ℕ). next_superstep (queue_after nodes r)
    (record n { hart = with_memory (memory_after (landings_at nodes r) n.hart.memory) n.hart })) (sym is)

-- what holds of each element holds of the one at a place
All-slice_get : {X : Type 0} (P : X → Type 0) (xs : List X) (i : ℕ) (x : X) → slice_get xs i ≡ Some x → All P xs → P x
All-slice_get P xs i x is all = subst P (get_or_from_slice_get xs i x x is) (all i x (slice_get_within xs i x is))

All-enumerate_from : {X : Type 0} (P : X → Type 0) (n : ℕ) (xs : List X) → All P xs → All (λ (p : ℕ × X). P p.1) (enumerate_from n xs)
All-enumerate_from P n [] all = All-nil (λ (p : ℕ × _). P p.1)
All-enumerate_from P n (x ∷ xs) all =
    All-cons (λ (p : ℕ × _). P p.1) (n, x) (enumerate_from (n + 1) xs) (All-head P x xs all)
    (All-enumerate_from P (n + 1) xs (All-tail P x xs all))

All-flat_map : {X Y : Type 0} (P : Y → Type 0) (f : X → List Y) (xs : List X) → All (λ x. All P (f x)) xs → All P (flat_map f xs)
All-flat_map P f [] all = All-nil P
All-flat_map P f (x ∷ xs) all =
    All-append P (f x) (flat_map f xs) (All-head (λ y. All P (f y)) x xs all) (All-flat_map P f xs (All-tail (λ y. All P (f y)) x xs all))

All-cons_option : {X : Type 0} (P : X → Type 0) (o : Option X) (xs : List X) → IfSome o P → All P xs → All P (cons_option o xs)
All-cons_option P None xs here all = all
All-cons_option P (Some x) xs here all = All-cons P x xs here all

All-filter_map : {X Y : Type 0} (P : Y → Type 0) (h : X → Option Y) (xs : List X) → All (λ x. IfSome (h x) P) xs → All P (filter_map h xs)
All-filter_map P h [] all = All-nil P
All-filter_map P h (x ∷ xs) all =
    All-cons_option P (h x) (filter_map h xs) (All-head (λ y. IfSome (h y) P) x xs all)
    (All-filter_map P h xs (All-tail (λ y. IfSome (h y) P) x xs all))

length-cons_option : {X : Type 0} (o : Option X) (xs : List X) → length (cons_option o xs) ≤ length xs + 1
length-cons_option None xs = omega arith
length-cons_option (Some x) xs = omega arith

length-filter_map : {X Y : Type 0} (h : X → Option Y) (xs : List X) → length (filter_map h xs) ≤ length xs
length-filter_map h [] = omega arith
length-filter_map h (x ∷ xs) = omega (arith, length-filter_map h xs, length-cons_option (h x) (filter_map h xs))

-- where none is found, none passes
none_here : {X : Type 0} (b : Bool) (x : X) (rest : Option X) → cond b (Some x) rest ≡ None → (b ≡ false) × (rest ≡ None)
none_here true x rest none = absurd (none-some x (sym none))
none_here false x rest none = (refl, none)

none_found : {X : Type 0} (p : X → Bool) (xs : List X) → find p xs ≡ None → All (λ x. p x ≡ false) xs
none_found p [] none = All-nil (λ x. p x ≡ false)
none_found p (x ∷ xs) none =
    let here = none_here (p x) x (find p xs) none in
    All-cons (λ y. p y ≡ false) x xs here.0 (none_found p xs here.1)

none_after : {X : Type 0} (first rest : Option X) → option_or first rest ≡ None → rest ≡ None
none_after None rest none = none
none_after (Some x) rest none = absurd (none-some x (sym none))

none_mapped : {X Y : Type 0} (f : X → Y) (o : Option X) → option_map f o ≡ None → o ≡ None
none_mapped f None none = refl
none_mapped f (Some x) none = absurd (none-some (f x) (sym none))

-- without a fault, each put and get keeps to its area
all_inside : (nodes : List NodeState) → exchange_fault nodes ≡ None → All (λ i. leaves_area nodes i.request ≡ false) (issued nodes)
all_inside nodes faultless =
    let outside : first_outside nodes (issued nodes) ≡ None = none_after _ _ (none_after _ _ faultless) in
    none_found (λ (i : Issued). leaves_area nodes i.request) (issued nodes) (none_mapped fault_of _ outside)

-- a node stands at the place of its rank
pub rank_is : (nodes : List NodeState) → AreAtSync nodes → (i : ℕ) (n : NodeState) → slice_get nodes i ≡ Some n → n.hart.rank ≡ i
rank_is nodes row i n is =
    let rank_of : NodeState → ℕ = λ (x : NodeState). x.hart.rank in
    let below : i < length nodes = slice_get_within nodes i n is in
    sym (ap rank_of (get_or_from_slice_get nodes i n n is))
    ∙ sym (get_or-map rank_of nodes i n 0 below)
    ∙ ap (λ (ranks : List ℕ). get_or ranks i 0) row.ranks
    ∙ get_or-range_with_len 0 (length nodes) i 0 below
    ∙ omega arith

memory_is : (nodes : List NodeState) (i : ℕ) (n : NodeState) → slice_get nodes i ≡ Some n → memory_of nodes i ≡ n.hart.memory
memory_is nodes i n is = ap (λ (o : Option NodeState). option_map_or (λ (x : NodeState). x.hart.memory) o []) is

-- what a request fetches has room in a memory of so many bytes
abbrev HasRoom : ℕ → Asked → Type 0
HasRoom size (asks_put p) = Unit {0}
HasRoom size (asks_get g) = IsTrue (fits size g.dst g.len)
HasRoom size (asks_send m) = Unit {0}

has_room : (nprocs places size : ℕ) (q : Asked) → IsWellAddressed nprocs places size q → HasRoom size q
has_room nprocs places size (asks_put p) addressed = tt
has_room nprocs places size (asks_get g) addressed = addressed.2
has_room nprocs places size (asks_send m) addressed = tt

-- what calls keep true of a request, as the exchange needs it
record IsKept (nodes : List NodeState) (i : Issued) : Type 0 where
  room : HasRoom (length (memory_of nodes i.rank)) i.request
  small : size_of i.request ≤ 2 ^ 30

kept_by : (nodes : List NodeState) (n : NodeState) → memory_of nodes n.hart.rank ≡ n.hart.memory → IsHart n.hart
    → All (IsKept nodes) (issued_by n)
kept_by nodes n here hart =
    let c = n.hart.communication in
    let requests : List Asked = c.requests.requests in
    let sound = hart.communication in
    let size : length (memory_of nodes n.hart.rank) ≡ length n.hart.memory = ap length here in
    let P : Asked → Type 0 = λ (q : Asked). HasRoom (length (memory_of nodes n.hart.rank)) q × (size_of q ≤ 2 ^ 30) in
    let each : All P requests = λ k d below. (
      rw size
          (has_room n.hart.nprocs (length c.registrations.in_effect) (length n.hart.memory) (get_or requests k d)
          (sound.targets k d below)),
      omega (arith, get_or-le-sum_by size_of requests k d below, bytes_at_most c.requests sound.requests),
    ) in
    let numbered : All (λ (p : ℕ × Asked). P p.1) (enumerate_from 0 requests) = All-enumerate_from P 0 requests each in
    All-map (IsKept nodes) (issued_as n.hart.rank) (enumerate_from 0 requests)
    (λ k d below. record { room = (numbered k d below).0; small = (numbered k d below).1 })

kept : (nodes : List NodeState) → AreAtSync nodes → All (λ (n : NodeState). IsHart n.hart) nodes → All (IsKept nodes) (issued nodes)
kept nodes row harts =
    All-flat_map (IsKept nodes) issued_by nodes (λ k d below.
    let n : NodeState = get_or nodes k d in
    let is : slice_get nodes k ≡ Some n = slice_get-get_or nodes k d below in
    kept_by nodes n (ap (memory_of nodes) (rank_is nodes row k n is) ∙ memory_is nodes k n is) (harts k d below))

-- a transfer that keeps to an area that lies in a memory lies in it too
within_area : (size offset len : ℕ) (found : Option Area) → IfSome found (LiesIn size)
    → not (option_map_or (λ (a : Area). nat_le (offset + len) a.size) found false) ≡ false
    → IsTrue (fits size (option_map_or (λ (a : Area). a.addr) found 0 + offset) len)
within_area size offset len None lies inside = absurd (true≢false inside)
within_area size offset len (Some a) lies inside = grind (arith, nat_tests)

IfSome-slice_get : {X : Type 0} (P : X → Type 0) (xs : List X) (i : ℕ) → All P xs → IfSome (slice_get xs i) P
IfSome-slice_get P [] i all = tt
IfSome-slice_get P (x ∷ xs) zero all = All-head P x xs all
IfSome-slice_get P (x ∷ xs) (suc i) all = IfSome-slice_get P xs i (All-tail P x xs all)

within_node : (slot offset len : ℕ) (found : Option NodeState) → IfSome found (λ n. IsHart n.hart) →
    (let area : Option Area = option_and_then (λ (n : NodeState). slice_get n.hart.communication.registrations.in_effect slot) found in
    not (option_map_or (λ (a : Area). nat_le (offset + len) a.size) area false) ≡ false
    → IsTrue
    (fits (length (option_map_or (λ (n : NodeState). n.hart.memory) found [])) (option_map_or (λ (a : Area). a.addr) area 0 + offset) len))
within_node slot offset len None hart inside = absurd (true≢false inside)
within_node slot offset len (Some n) hart inside =
    let areas : List Area = n.hart.communication.registrations.in_effect in
    let size : ℕ = length n.hart.memory in
    within_area size offset len (slice_get areas slot) (IfSome-slice_get (LiesIn size) areas slot hart.communication.areas) inside

-- a transfer that keeps to its area lies in the memory of the area's node
inside_memory : (nodes : List NodeState) (rank slot offset len : ℕ) → All (λ (n : NodeState). IsHart n.hart) nodes
    → is_outside nodes rank slot offset len ≡ false
    → IsTrue (fits (length (memory_of nodes rank)) (area_start nodes rank slot + offset) len)
inside_memory nodes rank slot offset len harts inside =
    within_node slot offset len (slice_get nodes rank) (IfSome-slice_get (λ (n : NodeState). IsHart n.hart) nodes rank harts) inside

-- a landing has its place in the memory of its rank's node
abbrev HasPlace : List NodeState → Landing → Type 0
HasPlace nodes l = IsTrue (fits (length (memory_of nodes l.rank)) l.addr (length l.bytes))

get_has_place : (nodes : List NodeState) (caller issue : ℕ) (q : Asked) → All (λ (n : NodeState). IsHart n.hart) nodes
    → leaves_area nodes q ≡ false → HasRoom (length (memory_of nodes caller)) q
    → IfSome (landing_of_get nodes caller issue q) (HasPlace nodes)
get_has_place nodes caller issue (asks_put p) harts inside room = tt
get_has_place nodes caller issue (asks_get g) harts inside room =
    rw (length-range (memory_of nodes g.target) (area_start nodes g.target g.slot + g.offset) g.len
    (inside_memory nodes g.target g.slot g.offset g.len harts inside)) room
get_has_place nodes caller issue (asks_send m) harts inside room = tt

put_has_place : (nodes : List NodeState) (caller issue : ℕ) (q : Asked) → All (λ (n : NodeState). IsHart n.hart) nodes
    → leaves_area nodes q ≡ false → IfSome (landing_of_put nodes caller issue q) (HasPlace nodes)
put_has_place nodes caller issue (asks_put p) harts inside = inside_memory nodes p.target p.slot p.offset (length p.bytes) harts inside
put_has_place nodes caller issue (asks_get g) harts inside = tt
put_has_place nodes caller issue (asks_send m) harts inside = tt

LieIn-all : (size : ℕ) (ls : List Landing) → All (λ (l : Landing). IsTrue (fits size l.addr (length l.bytes))) ls
    → LieIn size (map patch_of ls)
LieIn-all size [] all = tt
LieIn-all size (l ∷ ls) all =
    let P : Landing → Type 0 = λ (x : Landing). IsTrue (fits size x.addr (length x.bytes)) in
    (All-head P l ls all, LieIn-all size ls (All-tail P l ls all))

-- landings that have their places lie, those at one rank, in its node's memory
LieIn-filter : (nodes : List NodeState) (rank : ℕ) (ls : List Landing) → All (HasPlace nodes) ls
    → LieIn (length (memory_of nodes rank)) (map patch_of (filter (λ l. l.rank == rank) ls))
LieIn-filter nodes rank ls all =
    let here : Landing → Bool = λ (l : Landing). l.rank == rank in
    LieIn-all (length (memory_of nodes rank)) (filter here ls) (λ k d below.
    let l : Landing = get_or (filter here ls) k d in
    let P : ℕ → Type 0 = λ (r : ℕ). IsTrue (fits (length (memory_of nodes r)) l.addr (length l.bytes)) in
    subst P (eqb-true l.rank rank (filter_passes here ls k d below)) (All-filter here (HasPlace nodes) ls all k d below))

-- a message of a request within the limits is short
sent_is_short : (rank caller : ℕ) (q : Asked) → size_of q ≤ 2 ^ 30 → IfSome (message_to rank caller q) IsShort
sent_is_short rank caller (asks_put p) small = tt
sent_is_short rank caller (asks_get g) small = tt
sent_is_short rank caller (asks_send m) small =
    let P : Option Message → Type 0 = λ (o : Option Message). IfSome o IsShort in
    cond_both (m.target == rank) (Some (record { sender = caller; tag = m.tag; payload = m.payload })) None P
    (λ _. record { tag = omega arith; payload = omega arith }) (λ _. tt)

-- a node has at most as many requests as a superstep may have of one
few_of : (n : NodeState) → IsHart n.hart → length (issued_by n) ≤ 2 ^ 24
few_of n hart =
    let requests : List Asked = n.hart.communication.requests.requests in
    omega (
      arith,
      length-map (enumerate_from 0 requests) (issued_as n.hart.rank),
      length-enumerate_from 0 requests,
      requests_at_most n.hart.communication.requests hart.communication.requests,
    )

few_issued : (nodes : List NodeState) → length nodes ≤ max_nodes → All (λ (n : NodeState). IsHart n.hart) nodes
    → length (issued nodes) < 2 ^ 41
few_issued nodes few harts =
    let most : sum_by (λ (n : NodeState). length (issued_by n)) nodes ≤ length nodes * 2 ^ 24 =
    sum_by-le (λ (n : NodeState). length (issued_by n)) (2 ^ 24) nodes (λ k d below. few_of (get_or nodes k d) (harts k d below)) in
    omega (arith, length-flat_map issued_by nodes)

-- the messages sent to a rank are a queue
sent_are_queue : (nodes : List NodeState) (rank : ℕ) → length nodes ≤ max_nodes → All (λ (n : NodeState). IsHart n.hart) nodes
    → All (IsKept nodes) (issued nodes) → IsQueue (queue_after nodes rank)
sent_are_queue nodes rank few harts all = record {
  few = omega (arith, length-filter_map (λ (i : Issued). message_to rank i.rank i.request) (issued nodes), few_issued nodes few harts);
  short = All-filter_map IsShort (λ (i : Issued). message_to rank i.rank i.request) (issued nodes) (λ k d below.
      let i : Issued = get_or (issued nodes) k d in
      sent_is_short rank i.rank i.request (all k d below).small);
  light = queue-light nodes rank few harts;
}

-- what the node at a place receives has its place there
fits_at : (nodes : List NodeState) → AreAtSync nodes → exchange_fault nodes ≡ None → All (λ (n : NodeState). IsHart n.hart) nodes
    → (i : ℕ) (n : NodeState) → slice_get nodes i ≡ Some n → FitsIn (length n.hart.memory) (received_at nodes i)
fits_at nodes row faultless harts i n is =
    let size : length (memory_of nodes i) ≡ length n.hart.memory = ap length (memory_is nodes i n is) in
    let few : length nodes ≤ max_nodes =
    omega (
      arith,
      (All-slice_get (λ (x : NodeState). IsHart x.hart) nodes i n is harts).few,
      All-slice_get (λ (x : NodeState). x.hart.nprocs ≡ length nodes) nodes i n is row.counts,
    ) in
    let requests : All (IsKept nodes) (issued nodes) = kept nodes row harts in
    let inside : All (λ (q : Issued). leaves_area nodes q.request ≡ false) (issued nodes) = all_inside nodes faultless in
    let gets : All (HasPlace nodes) (filter_map (λ (q : Issued). landing_of_get nodes q.rank q.issue q.request) (issued nodes)) =
    All-filter_map (HasPlace nodes) _ (issued nodes) (λ k d below.
    let q : Issued = get_or (issued nodes) k d in
    get_has_place nodes q.rank q.issue q.request harts (inside k d below) (requests k d below).room) in
    let puts : All (HasPlace nodes) (filter_map (λ (q : Issued). landing_of_put nodes q.rank q.issue q.request) (issued nodes)) =
    All-filter_map (HasPlace nodes) _ (issued nodes) (λ k d below.
    let q : Issued = get_or (issued nodes) k d in
    put_has_place nodes q.rank q.issue q.request harts (inside k d below)) in
    record {
      gets = rw (← size) (LieIn-filter nodes i _ gets);
      puts = rw (← size) (LieIn-filter nodes i _ puts);
      queue = sent_are_queue nodes i few harts requests;
    }

-- what a place's node receives has its place there, and leaves the node that the exchange is to leave
pub record Lands (nodes : List NodeState) (i : ℕ) (n : NodeState) : Type 0 where
  pub fits : FitsIn (length n.hart.memory) (received_at nodes i)
  pub as_defined : after_landing (received_at nodes i) n ≡ exchanged_node nodes n

pub whole : (nodes : List NodeState) → AreAtSync nodes → exchange_fault nodes ≡ None → All (λ (n : NodeState). IsHart n.hart) nodes
    → (i : ℕ) (n : NodeState) → slice_get nodes i ≡ Some n → Lands nodes i n
whole nodes row faultless harts i n is =
    let fit : FitsIn (length n.hart.memory) (received_at nodes i) = fits_at nodes row faultless harts i n is in
    record { fits = fit; as_defined = lands_as_defined nodes i n (rank_is nodes row i n is) fit }
