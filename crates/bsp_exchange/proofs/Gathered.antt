-- What the nodes receive, gathered request by request.
use Rattle.std.proofs.Common.{◌≡◌, ℕ, ◌+◌, ◌<◌, ◌≤◌, List, [], ◌∷◌, ◌++◌, length, get_or, set, map, take, drop, inl, inr, zero, suc, refl}
use Rattle.std.proofs.Common.{sym, ap, ◌∙◌, arith, Some, Result, Ok, Err}
use Rattle.std.specs.Prelude.{OnOk, option_map, slice_get, unwrap_or}
use Rattle.std.proofs.lemmas.Option.{slice_get_read}
use Rattle.std.specs.Prelude.{All}
use Rattle.std.specs.List.{enumerate_from}
use Rattle.std.proofs.lemmas.Bool.{cases_lt}
use Rattle.std.proofs.lemmas.List.{take_all, take-append-le, drop_all, length-map}
use Rattle.std.proofs.lemmas.Grind.{fold-append}
use Rattle.std.proofs.lemmas.Option.{same_Some, slice_get-map, slice_get-get_or, slice_get_within, get_or_from_slice_get}
use Rattle.bsp_requests.specs.Request.{Asked, asks_put, asks_get, asks_send}
use Rattle.node_core.specs.Communication.{IsWellAddressed}
use Rattle.node_core.specs.Hart.{IsHart}
use Rattle.node_core.specs.Node.{NodeState, PreparedNode}
use Rattle.bsp_exchange.specs.Issued.{Issued, issued_as, issued_by, issued}
use Rattle.bsp_exchange.specs.Exchange.{states}
use Rattle.bsp_exchange.specs.Arrivals.{Received, with_asked, with_issued}
use Rattle.bsp_exchange.specs.Parts.{changed_at, target_of}
use Rattle.bsp_exchange.proofs.Finds.{drop_from, issued_from}

changed_at-set : {X : Type 0} (f : X → X) (i : ℕ) (xs : List X) (x : X) → slice_get xs i ≡ Some x → set xs i (f x) ≡ changed_at f i xs
changed_at-set f i [] x is = refl
changed_at-set f zero (y ∷ xs) x is = ap (λ o. f (unwrap_or o x) ∷ xs) (sym is)
changed_at-set f (suc i) (y ∷ xs) x is = ap (λ zs. y ∷ zs) (changed_at-set f i xs x is)

-- an element that was changed and put back
pub put_back : {X E : Type 0} (f : X → X) (i : ℕ) (xs : List X) (x y : X) (r : Result (Unit {0}) E) → i < length xs → x ≡ get_or xs i x
    → OnOk r (y ≡ f x) → OnOk r (set xs i y ≡ changed_at f i xs)
put_back f i xs x y (Ok u) h is after = ap (set xs i) after ∙ changed_at-set f i xs x (slice_get_read xs (length xs) i x refl h is)
put_back f i xs x y (Err e) h is after = tt

-- what the nodes receive with the next request, and then with those after it
pub gathered_here : (nodes : List NodeState) (parts : List Received) (n : NodeState) (i : ℕ) (r : Asked)
    → slice_get n.hart.communication.requests.requests i ≡ Some r
    → with_issued nodes parts (issued_from n i) ≡ with_issued nodes (with_asked nodes n.hart.rank parts r) (issued_from n (i + 1))
gathered_here nodes parts n i r is =
    ap (λ (rs : List Asked). with_issued nodes parts (map (issued_as n.hart.rank) (enumerate_from i rs)))
    (drop_from n.hart.communication.requests.requests i r is)

-- no request is left to be gathered
pub gathered_all : (nodes : List NodeState) (parts : List Received) (n : NodeState) (i : ℕ)
    → length n.hart.communication.requests.requests ≤ i → with_issued nodes parts (issued_from n i) ≡ parts
gathered_all nodes parts n i past =
    ap (λ (rs : List Asked). with_issued nodes parts (map (issued_as n.hart.rank) (enumerate_from i rs)))
    (drop_all i n.hart.communication.requests.requests past)

length-changed_at : {X : Type 0} (f : X → X) (i : ℕ) (xs : List X) → length (changed_at f i xs) ≡ length xs
length-changed_at f i [] = refl
length-changed_at f zero (x ∷ xs) = refl
length-changed_at f (suc i) (x ∷ xs) = ap suc (length-changed_at f i xs)

-- as many nodes receive something with a request more
pub length-with_asked : (nodes : List NodeState) (caller : ℕ) (parts : List Received) (r : Asked)
    → length (with_asked nodes caller parts r) ≡ length parts
length-with_asked nodes caller parts (asks_put p) = length-changed_at _ p.target parts
length-with_asked nodes caller parts (asks_get g) = length-changed_at _ caller parts
length-with_asked nodes caller parts (asks_send m) = length-changed_at _ m.target parts

target_within : (nprocs places size : ℕ) (r : Asked) → IsWellAddressed nprocs places size r → target_of r < nprocs
target_within nprocs places size (asks_put p) well = well.0
target_within nprocs places size (asks_get g) well = well.0
target_within nprocs places size (asks_send m) well = well

-- a request names a node that there is
pub target_there : (n : NodeState) (i : ℕ) (r : Asked) → IsHart n.hart → slice_get n.hart.communication.requests.requests i ≡ Some r
    → target_of r < n.hart.nprocs
target_there n i r hart is =
    let requests = n.hart.communication.requests.requests in
    let places = length n.hart.communication.registrations.in_effect in
    let size = length n.hart.memory in
    let well : IsWellAddressed n.hart.nprocs places size (get_or requests i r) =
    hart.communication.targets i r (slice_get_within requests i r is) in
    target_within n.hart.nprocs places size r (rw (← get_or_from_slice_get requests i r r is) well)

-- what holds of each element holds of one
pub all_at : {X : Type 0} (P : X → Type 0) (xs : List X) (i : ℕ) (x : X) → All P xs → slice_get xs i ≡ Some x → P x
all_at P xs i x all is = rw (← get_or_from_slice_get xs i x x is) (all i x (slice_get_within xs i x is))

-- a node's state stands at the node's place
pub state_here : (ps : List PreparedNode) (i : ℕ) (p : PreparedNode) → i < length ps → p ≡ get_or ps i p
    → slice_get (states ps) i ≡ Some p.node
state_here ps i p within is =
    slice_get-map (λ (q : PreparedNode). q.node) ps i
    ∙ ap (option_map (λ (q : PreparedNode). q.node)) (slice_get_read ps (length ps) i p refl within is)

-- as many nodes as states
pub length-states : (ps : List PreparedNode) → length (states ps) ≡ length ps
length-states ps = length-map ps (λ (p : PreparedNode). p.node)

-- what the nodes receive with a node's requests, and then with those of the nodes after it
pub node_gathered : (nodes : List NodeState) (parts : List Received) (ps : List PreparedNode) (i : ℕ) (p : PreparedNode) → i < length ps
    → p ≡ get_or ps i p → with_issued nodes parts (issued (drop i (states ps)))
    ≡ with_issued nodes (with_issued nodes parts (issued_by p.node)) (issued (drop (i + 1) (states ps)))
node_gathered nodes parts ps i p within is =
    ap (λ (ns : List NodeState). with_issued nodes parts (issued ns)) (drop_from (states ps) i p.node (state_here ps i p within is))
    ∙ fold-append (λ at q. with_asked nodes q.rank at q.request) parts (issued_by p.node) (issued (drop (i + 1) (states ps)))

pub nodes_gathered : (nodes : List NodeState) (parts : List Received) (ps : List PreparedNode) (i : ℕ) → length ps ≤ i
    → with_issued nodes parts (issued (drop i (states ps))) ≡ parts
nodes_gathered nodes parts ps i past =
    ap (λ (ns : List NodeState). with_issued nodes parts (issued ns)) (drop_all i (states ps) (rw (length-states ps) past))

pub length-with_issued : (nodes : List NodeState) (parts : List Received) (requests : List Issued)
    → length (with_issued nodes parts requests) ≡ length parts
length-with_issued nodes parts [] = refl
length-with_issued nodes parts (q ∷ requests) =
    length-with_issued nodes (with_asked nodes q.rank parts q.request) requests ∙ length-with_asked nodes q.rank parts q.request

-- each of the first nodes is sound
abbrev pub AreSoundBelow : List NodeState → ℕ → Type 0
AreSoundBelow nodes i = (k : ℕ) (n : NodeState) → k < i → slice_get nodes k ≡ Some n → IsHart n.hart

pub sound_more : (nodes : List NodeState) (i : ℕ) (n : NodeState) → slice_get nodes i ≡ Some n → IsHart n.hart → AreSoundBelow nodes i
    → AreSoundBelow nodes (i + 1)
sound_more nodes i n here hart below k m less is =
    elim (cases_lt k i) [
      | inl under ↦ below k m under is
      | inr over ↦
          let same : k ≡ i = omega arith in
          rw (same_Some m n (sym is ∙ ap (slice_get nodes) same ∙ here)) hart
    ]

pub all_sound : (nodes : List NodeState) (i : ℕ) → length nodes ≤ i → AreSoundBelow nodes i → All (λ (n : NodeState). IsHart n.hart) nodes
all_sound nodes i whole below k d within = below k (get_or nodes k d) (omega arith) (slice_get-get_or nodes k d within)

-- a whole list that was written over another
pub whole : {X : Type 0} (n : ℕ) (new rest : List X) → n ≡ length new → take n (new ++ rest) ≡ new
whole n new rest is = take-append-le n new rest (omega (arith, is)) ∙ take_all n new (omega (arith, is))
