-- Landings gathered request by request.
use Rattle.std.proofs.Common.{◌≡◌, ℕ, ◌+◌, ◌<◌, ◌≤◌, ◌⊎◌, inl, inr, zero, suc, Bool, true, false, cond, List, [], ◌∷◌, ◌++◌, length, get_or}
use Rattle.std.proofs.Common.{map, drop, refl, sym, ap, subst, ◌∙◌, arith, append_assoc, Option, Some, None}
use Rattle.std.specs.Prelude.{Contains, IsTrue, filter_map, slice_get}
use Rattle.std.specs.List.{enumerate_from, cons_option}
use Rattle.std.specs.Option.{option_or}
use Rattle.std.proofs.lemmas.Bool.Decides.{nat_tests}
use Rattle.std.proofs.lemmas.List.{append-nil, drop_all}
use Rattle.std.proofs.lemmas.List.Elements.{Contains-append_left, Contains-append_right, Contains-append_cases, filter_map-append}
use Rattle.std.proofs.lemmas.Option.{none-some, slice_get_within, get_or_from_slice_get}
use Rattle.node_memory.specs.Bytes.{is_memory_size}
use Rattle.bsp_requests.specs.Request.{Asked, asks_put, asks_get, asks_send}
use Rattle.node_core.specs.Communication.{IsWellAddressed}
use Rattle.node_core.specs.Hart.{IsHart}
use Rattle.node_core.specs.Node.{NodeState, PreparedNode}
use Rattle.bsp_exchange.specs.declared.fault.ExchangeFault.TheVariants.{OutsideArea}
use Rattle.bsp_exchange.specs.Exchange.{states}
use Rattle.bsp_exchange.specs.Faults.{first_outside, leaves_area, exchange_fault}
use Rattle.bsp_exchange.specs.Issued.{Issued, issued_as, issued_by, issued}
use Rattle.bsp_exchange.specs.Landings.{Landing, landing_of_get, landing_of_put, landings}
use Rattle.bsp_exchange.proofs.Finds.{drop_from, issued_from, next_request, next_node, keeps_here}
use Rattle.bsp_exchange.proofs.Gathered.{state_here, length-states}
use Rattle.contested_bytes.specs.Gathered.{landing_of, landings_of, HasRoom}

-- ---- a request that is looked at

cond-none : {X : Type 0} (b : Bool) (x : X) (rest : Option X) → cond b (Some x) rest ≡ None → b ≡ false
cond-none true x rest is = absurd (none-some x (sym is))
cond-none false x rest is = refl

pub stays_inside : (nodes : List NodeState) (n : NodeState) (i : ℕ) (r : Asked)
    → slice_get n.hart.communication.requests.requests i ≡ Some r → first_outside nodes (issued_from n i) ≡ None
    → leaves_area nodes r ≡ false
stays_inside nodes n i r is none =
    cond-none (leaves_area nodes r) (OutsideArea n.hart.rank i) (first_outside nodes (issued_from n (i + 1)))
    (sym (next_request nodes n i r is) ∙ none)

pub rest_inside : (nodes : List NodeState) (n : NodeState) (i : ℕ) (r : Asked) → slice_get n.hart.communication.requests.requests i ≡ Some r
    → first_outside nodes (issued_from n i) ≡ None → first_outside nodes (issued_from n (i + 1)) ≡ None
rest_inside nodes n i r is none = sym (keeps_here nodes n i r is (stays_inside nodes n i r is none)) ∙ none

room_of : (nprocs places size : ℕ) (r : Asked) → IsTrue (is_memory_size size) → IsWellAddressed nprocs places size r → HasRoom r
room_of nprocs places size (asks_put p) memory well = tt
room_of nprocs places size (asks_get g) memory well = let there = well.2 in grind (arith, nat_tests, memory, there)
room_of nprocs places size (asks_send m) memory well = tt

pub has_room : (n : NodeState) (i : ℕ) (r : Asked) → IsHart n.hart → slice_get n.hart.communication.requests.requests i ≡ Some r → HasRoom r
has_room n i r hart is =
    let requests = n.hart.communication.requests.requests in
    let places = length n.hart.communication.registrations.in_effect in
    let size = length n.hart.memory in
    let well : IsWellAddressed n.hart.nprocs places size (get_or requests i r) =
    hart.communication.targets i r (slice_get_within requests i r is) in
    room_of n.hart.nprocs places size r hart.memory (rw (← get_or_from_slice_get requests i r r is) well)

-- what is gathered, and what the requests from number i on land
abbrev pub gathered_from : List NodeState → NodeState → ℕ → List Landing → List Landing
gathered_from nodes n i all = all ++ landings_of nodes (issued_from n i)

landings-next : (nodes : List NodeState) (n : NodeState) (i : ℕ) (r : Asked) → slice_get n.hart.communication.requests.requests i ≡ Some r
    → landings_of nodes (issued_from n i) ≡ cons_option (landing_of nodes n.hart.rank i r) (landings_of nodes (issued_from n (i + 1)))
landings-next nodes n i r is =
    ap (λ (rs : List Asked). landings_of nodes (map (issued_as n.hart.rank) (enumerate_from i rs)))
    (drop_from n.hart.communication.requests.requests i r is)

pub gathered-none : (nodes : List NodeState) (n : NodeState) (i : ℕ) (r : Asked) (all : List Landing)
    → slice_get n.hart.communication.requests.requests i ≡ Some r → landing_of nodes n.hart.rank i r ≡ None
    → gathered_from nodes n (i + 1) all ≡ gathered_from nodes n i all
gathered-none nodes n i r all is none =
    sym (ap (λ ls. all ++ ls) (landings-next nodes n i r is ∙ ap (λ o. cons_option o (landings_of nodes (issued_from n (i + 1)))) none))

pub gathered-some : (nodes : List NodeState) (node : NodeState) (issue : ℕ) (request : Asked) (all : List Landing) (landing : Landing)
    → slice_get node.hart.communication.requests.requests issue ≡ Some request
    → landing_of nodes node.hart.rank issue request ≡ Some landing
    → gathered_from nodes node (issue + 1) (all ++ landing ∷ []) ≡ gathered_from nodes node issue all
gathered-some nodes node issue request all landing is some =
    append_assoc all (landing ∷ []) (landings_of nodes (issued_from node (issue + 1)))
    ∙ sym (ap (λ ls. all ++ ls)
    (landings-next nodes node issue request is ∙ ap (λ o. cons_option o (landings_of nodes (issued_from node (issue + 1)))) some))

pub gathered-whole : (nodes : List NodeState) (n : NodeState) (i : ℕ) (all : List Landing)
    → length n.hart.communication.requests.requests ≤ i → gathered_from nodes n i all ≡ all
gathered-whole nodes n i all past =
    ap (λ (rs : List Asked). all ++ landings_of nodes (map (issued_as n.hart.rank) (enumerate_from i rs)))
    (drop_all i n.hart.communication.requests.requests past) ∙ append-nil all

-- ---- a node that is looked at

or-none_first : {X : Type 0} (a b : Option X) → option_or a b ≡ None → a ≡ None
or-none_first None b is = refl
or-none_first (Some x) b is = absurd (none-some x (sym is))

or-none_second : {X : Type 0} (a b : Option X) → option_or a b ≡ None → b ≡ None
or-none_second None b is = is
or-none_second (Some x) b is = absurd (none-some x (sym is))

-- nothing of a machine's nodes is outside
pub none_outside : (nodes : List NodeState) → exchange_fault nodes ≡ None → first_outside nodes (issued nodes) ≡ None
none_outside nodes none = or-none_second _ _ (or-none_second _ _ none)

pub node_inside : (nodes : List NodeState) (ps : List PreparedNode) (i : ℕ) (p : PreparedNode) → slice_get ps i ≡ Some p
    → first_outside nodes (issued (drop i (states ps))) ≡ None → first_outside nodes (issued_by p.node) ≡ None
node_inside nodes ps i p is none =
    or-none_first (first_outside nodes (issued_by p.node)) (first_outside nodes (issued (drop (i + 1) (states ps))))
    (sym (next_node nodes ps i p is) ∙ none)

pub nodes_inside : (nodes : List NodeState) (ps : List PreparedNode) (i : ℕ) (p : PreparedNode) → slice_get ps i ≡ Some p
    → first_outside nodes (issued (drop i (states ps))) ≡ None → first_outside nodes (issued (drop (i + 1) (states ps))) ≡ None
nodes_inside nodes ps i p is none =
    or-none_second (first_outside nodes (issued_by p.node)) (first_outside nodes (issued (drop (i + 1) (states ps))))
    (sym (next_node nodes ps i p is) ∙ none)

-- what is gathered, and what the requests of the nodes from a place on land
abbrev pub gathered_rest : List NodeState → List PreparedNode → ℕ → List Landing → List Landing
gathered_rest nodes ps i all = all ++ landings_of nodes (issued (drop i (states ps)))

pub gathered-node : (nodes : List NodeState) (ps : List PreparedNode) (i : ℕ) (p : PreparedNode) (all new : List Landing) → i < length ps
    → p ≡ get_or ps i p → new ≡ all ++ landings_of nodes (issued_by p.node)
    → gathered_rest nodes ps (i + 1) new ≡ gathered_rest nodes ps i all
gathered-node nodes ps i p all new within is added =
    let rest = issued (drop (i + 1) (states ps)) in
    ap (λ ls. ls ++ landings_of nodes rest) added
    ∙ append_assoc all (landings_of nodes (issued_by p.node)) (landings_of nodes rest)
    ∙ ap (λ ls. all ++ ls) (sym (filter_map-append (λ (q : Issued). landing_of nodes q.rank q.issue q.request) (issued_by p.node) rest)
    ∙ sym (ap (λ (ns : List NodeState). landings_of nodes (issued ns)) (drop_from (states ps) i p.node (state_here ps i p within is))))

pub gathered-nodes : (nodes : List NodeState) (ps : List PreparedNode) (i : ℕ) (all : List Landing) → length ps ≤ i
    → gathered_rest nodes ps i all ≡ all
gathered-nodes nodes ps i all past =
    ap (λ (ns : List NodeState). all ++ landings_of nodes (issued ns)) (drop_all i (states ps) (rw (length-states ps) past))
    ∙ append-nil all

-- ---- they are the landings of the superstep

pub contains-cons : {X : Type 0} (x : X) (xs : List X) (y : X) → Contains xs y → Contains (x ∷ xs) y
contains-cons x xs y there = (suc there.0, omega (arith, there.1), there.2)

pub contains-head : {X : Type 0} (x : X) (xs : List X) → Contains (x ∷ xs) x
contains-head x xs = (0, omega arith, refl)

pub contains-split : {X : Type 0} (x : X) (xs : List X) (y : X) → Contains (x ∷ xs) y → (x ≡ y) ⊎ Contains xs y
contains-split x xs y (zero, within, is) = inl is
contains-split x xs y (suc k, within, is) = inr (k, omega (arith, within), is)

-- what one of some elements is mapped to
abbrev pub IsPicked : {X Y : Type 0} → (X → Option Y) → List X → Y → Type 0
IsPicked {X} f xs y = (x : X) × Contains xs x × (f x ≡ Some y)

picked-head : {X Y : Type 0} (pick : X → Option Y) (x : X) (xs : List X) (rest : List Y) (y : Y) (picked : Option Y) → pick x ≡ picked
    → (Contains rest y → IsPicked pick xs y) → Contains (cons_option picked rest) y → IsPicked pick (x ∷ xs) y
picked-head pick x xs rest y None is later there = let found = later there in (found.0, contains-cons x xs found.0 found.1, found.2)
picked-head pick x xs rest y (Some first) is later there = elim (contains-split first rest y there) [
  | inl same ↦ (x, contains-head x xs, is ∙ ap Some same)
  | inr inside ↦ let found = later inside in (found.0, contains-cons x xs found.0 found.1, found.2)
]

picked-there : {X Y : Type 0} (f : X → Option Y) (xs : List X) (y : Y) → Contains (filter_map f xs) y → IsPicked f xs y
picked-there f [] y there = absurd (omega (arith, there.1))
picked-there f (x ∷ xs) y there = picked-head f x xs (filter_map f xs) y (f x) refl (picked-there f xs y) there

kept-head : {Y : Type 0} (o : Option Y) (rest : List Y) (y : Y) → Contains rest y → Contains (cons_option o rest) y
kept-head None rest y there = there
kept-head (Some z) rest y there = contains-cons z rest y there

picked-back : {X Y : Type 0} (f : X → Option Y) (xs : List X) (x : X) (y : Y) → Contains xs x → f x ≡ Some y → Contains (filter_map f xs) y
picked-back f [] x y there is = absurd (omega (arith, there.1))
picked-back f (z ∷ xs) x y there is = elim (contains-split z xs x there) [
  | inl same ↦ subst (λ o. Contains (cons_option o (filter_map f xs)) y) (sym (ap f same ∙ is)) (contains-head y (filter_map f xs))
  | inr inside ↦ kept-head (f z) (filter_map f xs) y (picked-back f xs x y inside is)
]

abbrev of_get : List NodeState → Issued → Option Landing
of_get nodes i = landing_of_get nodes i.rank i.issue i.request

abbrev of_put : List NodeState → Issued → Option Landing
of_put nodes i = landing_of_put nodes i.rank i.issue i.request

abbrev pub of_any : List NodeState → Issued → Option Landing
of_any nodes i = landing_of nodes i.rank i.issue i.request

either-kind : (nodes : List NodeState) (caller issue : ℕ) (l : Landing) (r : Asked) → landing_of nodes caller issue r ≡ Some l
    → (landing_of_get nodes caller issue r ≡ Some l) ⊎ (landing_of_put nodes caller issue r ≡ Some l)
either-kind nodes caller issue l (asks_put p) is = inr is
either-kind nodes caller issue l (asks_get g) is = inl is
either-kind nodes caller issue l (asks_send m) is = inl is

get-kind : (nodes : List NodeState) (caller issue : ℕ) (l : Landing) (r : Asked) → landing_of_get nodes caller issue r ≡ Some l
    → landing_of nodes caller issue r ≡ Some l
get-kind nodes caller issue l (asks_put p) is = absurd (none-some l is)
get-kind nodes caller issue l (asks_get g) is = is
get-kind nodes caller issue l (asks_send m) is = is

put-kind : (nodes : List NodeState) (caller issue : ℕ) (l : Landing) (r : Asked) → landing_of_put nodes caller issue r ≡ Some l
    → landing_of nodes caller issue r ≡ Some l
put-kind nodes caller issue l (asks_put p) is = is
put-kind nodes caller issue l (asks_get g) is = absurd (none-some l is)
put-kind nodes caller issue l (asks_send m) is = is

pub contains_landings : (nodes : List NodeState) (l : Landing) → Contains (landings_of nodes (issued nodes)) l → Contains (landings nodes) l
contains_landings nodes l there =
    let gets = filter_map (of_get nodes) (issued nodes) in
    let puts = filter_map (of_put nodes) (issued nodes) in
    let found = picked-there (of_any nodes) (issued nodes) l there in
    elim (either-kind nodes found.0.rank found.0.issue l found.0.request found.2) [
      | inl get ↦ Contains-append_left gets puts l (picked-back (of_get nodes) (issued nodes) found.0 l found.1 get)
      | inr put ↦ Contains-append_right gets puts l (picked-back (of_put nodes) (issued nodes) found.0 l found.1 put)
    ]

-- what lands was asked for by one of the requests
pub request_of : (nodes : List NodeState) (l : Landing) → Contains (landings nodes) l → IsPicked (of_any nodes) (issued nodes) l
request_of nodes l there =
    let gets = filter_map (of_get nodes) (issued nodes) in
    let puts = filter_map (of_put nodes) (issued nodes) in
    elim (Contains-append_cases gets puts l there) [
      | inl get ↦
          let found = picked-there (of_get nodes) (issued nodes) l get in
          (found.0, found.1, get-kind nodes found.0.rank found.0.issue l found.0.request found.2)
      | inr put ↦
          let found = picked-there (of_put nodes) (issued nodes) l put in
          (found.0, found.1, put-kind nodes found.0.rank found.0.issue l found.0.request found.2)
    ]

pub contains_gathered : (nodes : List NodeState) (l : Landing) → Contains (landings nodes) l → Contains (landings_of nodes (issued nodes)) l
contains_gathered nodes l there =
    let found = request_of nodes l there in
    picked-back (of_any nodes) (issued nodes) found.0 l found.1 found.2
