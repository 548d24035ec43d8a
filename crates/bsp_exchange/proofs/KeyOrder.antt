-- Landings come in the order of their keys.
use Rattle.std.proofs.Common.{◌≡◌, ℕ, ◌+◌, ◌<◌, ◌≤◌, ◌⊎◌, ◌==◌, inl, inr, suc, List, [], ◌∷◌, ◌++◌, length, get_or, drop, map, refl, sym}
use Rattle.std.proofs.Common.{ap, ◌∙◌, arith, Option, Some, None}
use Rattle.std.specs.Prelude.{All, filter_map}
use Rattle.std.specs.List.{AllPairs, cons_option, range_with_len, enumerate_from}
use Rattle.std.proofs.lemmas.Bool.{cases_order}
use Rattle.std.proofs.lemmas.Option.{none-some, same_Some}
use Rattle.std.proofs.lemmas.List.{get_or_default}
use Rattle.std.proofs.lemmas.List.Elements.{All-nil, All-cons, All-head, All-tail, All-append, All-weaker}
use Rattle.std.proofs.lemmas.List.Kept.{AllPairs-cons, AllPairs-filter}
use Rattle.bsp_requests.specs.Request.{Asked, asks_put, asks_get, asks_send}
use Rattle.node_core.specs.Node.{NodeState}
use Rattle.bsp_exchange.specs.Exchange.{AreAtSync}
use Rattle.bsp_exchange.specs.Issued.{Issued, issued_as, issued_by, issued}
use Rattle.bsp_exchange.specs.Landings.{Key, get_key, put_key, IsAtMost, Landing, landing_of_get, landing_of_put, landings, landings_at}
use Rattle.bsp_exchange.specs.Landings.{KeysDoNotFall, HaveOwnKeys}

-- ---- lists whose elements are in order

pairs-nil : {X : Type 0} (R : X → X → Type 0) → AllPairs R []
pairs-nil R i j d before within = absurd (omega arith)

pub pairs-head : {X : Type 0} (R : X → X → Type 0) (x : X) (xs : List X) → AllPairs R (x ∷ xs) → All (R x) xs
pairs-head R x xs pairs k d within = pairs 0 (suc k) d (omega arith) (omega arith)

pub pairs-tail : {X : Type 0} (R : X → X → Type 0) (x : X) (xs : List X) → AllPairs R (x ∷ xs) → AllPairs R xs
pairs-tail R x xs pairs i j d before within = pairs (suc i) (suc j) d (omega arith) (omega arith)

pairs-weaker : {X : Type 0} (R S : X → X → Type 0) (xs : List X) → ((x y : X) → R x y → S x y) → AllPairs R xs → AllPairs S xs
pairs-weaker R S xs weaker pairs i j d before within = weaker (get_or xs i d) (get_or xs j d) (pairs i j d before within)

pairs-append : {X : Type 0} (R : X → X → Type 0) (xs ys : List X) → AllPairs R xs → AllPairs R ys → All (λ x. All (R x) ys) xs
    → AllPairs R (xs ++ ys)
pairs-append R [] ys first second across = second
pairs-append R (x ∷ xs) ys first second across =
    AllPairs-cons R x (xs ++ ys)
    (All-append (R x) xs ys (pairs-head R x xs first) (All-head (λ x. All (R x) ys) x xs across))
    (pairs-append R xs ys (pairs-tail R x xs first) second (All-tail (λ x. All (R x) ys) x xs across))

all-cons_option : {X : Type 0} (P : X → Type 0) (o : Option X) (xs : List X) → ((x : X) → o ≡ Some x → P x) → All P xs
    → All P (cons_option o xs)
all-cons_option P None xs here all = all
all-cons_option P (Some x) xs here all = All-cons P x xs (here x refl) all

all-filter_map : {X Y : Type 0} (P : X → Type 0) (Q : Y → Type 0) (f : X → Option Y) (xs : List X)
    → ((x : X) (y : Y) → P x → f x ≡ Some y → Q y) → All P xs → All Q (filter_map f xs)
all-filter_map P Q f [] keeps all = All-nil Q
all-filter_map P Q f (x ∷ xs) keeps all =
    all-cons_option Q (f x) (filter_map f xs) (λ y is. keeps x y (All-head P x xs all) is)
    (all-filter_map P Q f xs keeps (All-tail P x xs all))

pairs-cons_option : {X : Type 0} (R : X → X → Type 0) (o : Option X) (xs : List X) → ((x : X) → o ≡ Some x → All (R x) xs)
    → AllPairs R xs → AllPairs R (cons_option o xs)
pairs-cons_option R None xs here pairs = pairs
pairs-cons_option R (Some x) xs here pairs = AllPairs-cons R x xs (here x refl) pairs

pairs-filter_map : {X Y : Type 0} (R : X → X → Type 0) (S : Y → Y → Type 0) (f : X → Option Y) (xs : List X)
    → ((x₁ x₂ : X) (y₁ y₂ : Y) → R x₁ x₂ → f x₁ ≡ Some y₁ → f x₂ ≡ Some y₂ → S y₁ y₂) → AllPairs R xs → AllPairs S (filter_map f xs)
pairs-filter_map R S f [] keeps pairs = pairs-nil S
pairs-filter_map R S f (x ∷ xs) keeps pairs =
    pairs-cons_option S (f x) (filter_map f xs)
    (λ y is. all-filter_map (R x) (S y) f xs (λ x₂ y₂ h is₂. keeps x x₂ y y₂ h is is₂) (pairs-head R x xs pairs))
    (pairs-filter_map R S f xs keeps (pairs-tail R x xs pairs))

-- ---- requests

-- issued before another: by a lower rank, or by the same with a lower number
abbrev IsIssuedBefore : Issued → Issued → Type 0
IsIssuedBefore i j = (i.rank < j.rank) ⊎ ((i.rank ≡ j.rank) × (i.issue < j.issue))

record IsIssuedFrom (rank first : ℕ) (i : Issued) : Type 0 where
  by : i.rank ≡ rank
  from : first ≤ i.issue

issued_from : (rank k : ℕ) (rs : List Asked) → All (IsIssuedFrom rank k) (map (issued_as rank) (enumerate_from k rs))
issued_from rank k [] = All-nil (IsIssuedFrom rank k)
issued_from rank k (r ∷ rs) =
    let rest = map (issued_as rank) (enumerate_from (k + 1) rs) in
    All-cons (IsIssuedFrom rank k) (issued_as rank (k, r)) rest (record { by = refl; from = omega arith })
    (All-weaker (IsIssuedFrom rank (k + 1)) (IsIssuedFrom rank k) (λ i h. record { by = h.by; from = omega (arith, h.from) }) rest
    (issued_from rank (k + 1) rs))

issued_in_order : (rank k : ℕ) (rs : List Asked) → AllPairs IsIssuedBefore (map (issued_as rank) (enumerate_from k rs))
issued_in_order rank k [] = pairs-nil IsIssuedBefore
issued_in_order rank k (r ∷ rs) =
    let rest = map (issued_as rank) (enumerate_from (k + 1) rs) in
    AllPairs-cons IsIssuedBefore (issued_as rank (k, r)) rest
    (All-weaker (IsIssuedFrom rank (k + 1)) (IsIssuedBefore (issued_as rank (k, r))) (λ i h. inr (sym h.by, omega (arith, h.from))) rest
    (issued_from rank (k + 1) rs))
    (issued_in_order rank (k + 1) rs)

-- the ranks of some nodes, one after another from a first one on
abbrev AreRanked : ℕ → List NodeState → Type 0
AreRanked first ns = map (λ (n : NodeState). n.hart.rank) ns ≡ range_with_len first (length ns)

ranked-head : (first : ℕ) (n : NodeState) (ns : List NodeState) → AreRanked first (n ∷ ns) → n.hart.rank ≡ first
ranked-head first n ns ranked = ap (λ rs. get_or rs 0 0) ranked

ranked-tail : (first : ℕ) (n : NodeState) (ns : List NodeState) → AreRanked first (n ∷ ns) → AreRanked (first + 1) ns
ranked-tail first n ns ranked = ap (drop 1) ranked

issued_by_ranks : (first : ℕ) (ns : List NodeState) → AreRanked first ns → All (λ i. first ≤ i.rank) (issued ns)
issued_by_ranks first [] ranked = All-nil (λ (i : Issued). first ≤ i.rank)
issued_by_ranks first (n ∷ ns) ranked =
    let head : n.hart.rank ≡ first = ranked-head first n ns ranked in
    All-append (λ (i : Issued). first ≤ i.rank) (issued_by n) (issued ns)
    (All-weaker (IsIssuedFrom n.hart.rank 0) (λ i. first ≤ i.rank) (λ i h. omega (arith, h.by, head)) (issued_by n)
    (issued_from n.hart.rank 0 n.hart.communication.requests.requests))
    (All-weaker (λ (i : Issued). first + 1 ≤ i.rank) (λ i. first ≤ i.rank) (λ i h. omega (arith, h)) (issued ns)
    (issued_by_ranks (first + 1) ns (ranked-tail first n ns ranked)))

all_in_order : (first : ℕ) (ns : List NodeState) → AreRanked first ns → AllPairs IsIssuedBefore (issued ns)
all_in_order first [] ranked = pairs-nil IsIssuedBefore
all_in_order first (n ∷ ns) ranked =
    let head : n.hart.rank ≡ first = ranked-head first n ns ranked in
    pairs-append IsIssuedBefore (issued_by n) (issued ns)
    (issued_in_order n.hart.rank 0 n.hart.communication.requests.requests)
    (all_in_order (first + 1) ns (ranked-tail first n ns ranked))
    (All-weaker (IsIssuedFrom n.hart.rank 0) (λ i. All (IsIssuedBefore i) (issued ns))
    (λ i h. All-weaker (λ (j : Issued). first + 1 ≤ j.rank) (IsIssuedBefore i) (λ j later. inl (omega (arith, h.by, head, later)))
    (issued ns) (issued_by_ranks (first + 1) ns (ranked-tail first n ns ranked)))
    (issued_by n) (issued_from n.hart.rank 0 n.hart.communication.requests.requests))

-- ---- landings

-- a key is that of an earlier landing
abbrev IsBefore : Key → Key → Type 0
IsBefore a b = (a.kind < b.kind) ⊎ ((a.kind ≡ b.kind) × ((a.caller < b.caller) ⊎ ((a.caller ≡ b.caller) × (a.issue < b.issue))))

abbrev LandsBefore : Landing → Landing → Type 0
LandsBefore a b = IsBefore a.key b.key

key_of_get : (nodes : List NodeState) (i : Issued) (l : Landing) → landing_of_get nodes i.rank i.issue i.request ≡ Some l
    → l.key ≡ get_key i.rank i.issue
key_of_get nodes i l is = elim i.request as (λ r. landing_of_get nodes i.rank i.issue r ≡ Some l → l.key ≡ get_key i.rank i.issue) [
  | asks_put p ↦ λ is. absurd (none-some l is)
  | asks_get g ↦ λ is. ap (λ (o : Landing). o.key) (sym (same_Some _ l is))
  | asks_send m ↦ λ is. absurd (none-some l is)
] is

key_of_put : (nodes : List NodeState) (i : Issued) (l : Landing) → landing_of_put nodes i.rank i.issue i.request ≡ Some l
    → l.key ≡ put_key i.rank i.issue
key_of_put nodes i l is = elim i.request as (λ r. landing_of_put nodes i.rank i.issue r ≡ Some l → l.key ≡ put_key i.rank i.issue) [
  | asks_put p ↦ λ is. ap (λ (o : Landing). o.key) (sym (same_Some _ l is))
  | asks_get g ↦ λ is. absurd (none-some l is)
  | asks_send m ↦ λ is. absurd (none-some l is)
] is

-- requests of one kind that are issued one before the other
before_as_issued : (kind : ℕ) (i j : Issued) (a b : Key) → a ≡ record { kind = kind; caller = i.rank; issue = i.issue }
    → b ≡ record { kind = kind; caller = j.rank; issue = j.issue } → IsIssuedBefore i j → IsBefore a b
before_as_issued kind i j a b first second before =
    let kinds : a.kind ≡ b.kind = ap (λ (k : Key). k.kind) first ∙ sym (ap (λ (k : Key). k.kind) second) in
    let caller : a.caller ≡ i.rank = ap (λ (k : Key). k.caller) first in
    let caller_too : b.caller ≡ j.rank = ap (λ (k : Key). k.caller) second in
    let issue : a.issue ≡ i.issue = ap (λ (k : Key). k.issue) first in
    let issue_too : b.issue ≡ j.issue = ap (λ (k : Key). k.issue) second in
    elim before [
      | inl lower ↦ inr (kinds, inl (omega (arith, lower, caller, caller_too)))
      | inr same ↦ inr (kinds, inr (omega (arith, same.0, caller, caller_too), omega (arith, same.1, issue, issue_too)))
    ]

abbrev gets_of : List NodeState → List Landing
gets_of nodes = filter_map (λ (i : Issued). landing_of_get nodes i.rank i.issue i.request) (issued nodes)

abbrev puts_of : List NodeState → List Landing
puts_of nodes = filter_map (λ (i : Issued). landing_of_put nodes i.rank i.issue i.request) (issued nodes)

landings_in_order : (nodes : List NodeState) → AreAtSync nodes → AllPairs LandsBefore (landings nodes)
landings_in_order nodes row =
    let order = all_in_order 0 nodes row.ranks in
    let gets : All (λ (l : Landing). l.key.kind ≡ 0) (gets_of nodes) =
    all-filter_map (λ (i : Issued). i.rank ≡ i.rank) (λ (l : Landing). l.key.kind ≡ 0)
    (λ (i : Issued). landing_of_get nodes i.rank i.issue i.request) (issued nodes)
    (λ i l h is. ap (λ (k : Key). k.kind) (key_of_get nodes i l is)) (λ k d h. refl) in
    let puts : All (λ (l : Landing). l.key.kind ≡ 1) (puts_of nodes) =
    all-filter_map (λ (i : Issued). i.rank ≡ i.rank) (λ (l : Landing). l.key.kind ≡ 1)
    (λ (i : Issued). landing_of_put nodes i.rank i.issue i.request) (issued nodes)
    (λ i l h is. ap (λ (k : Key). k.kind) (key_of_put nodes i l is)) (λ k d h. refl) in
    pairs-append LandsBefore (gets_of nodes) (puts_of nodes)
    (pairs-filter_map IsIssuedBefore LandsBefore (λ (i : Issued). landing_of_get nodes i.rank i.issue i.request) (issued nodes)
    (λ i j a b before first second. before_as_issued 0 i j a.key b.key (key_of_get nodes i a first) (key_of_get nodes j b second) before)
    order)
    (pairs-filter_map IsIssuedBefore LandsBefore (λ (i : Issued). landing_of_put nodes i.rank i.issue i.request) (issued nodes)
    (λ i j a b before first second. before_as_issued 1 i j a.key b.key (key_of_put nodes i a first) (key_of_put nodes j b second) before)
    order)
    (All-weaker (λ (l : Landing). l.key.kind ≡ 0) (λ a. All (LandsBefore a) (puts_of nodes))
    (λ a get. All-weaker (λ (l : Landing). l.key.kind ≡ 1) (LandsBefore a) (λ b put. inl (omega (arith, get, put))) (puts_of nodes) puts)
    (gets_of nodes) gets)

at_in_order : (nodes : List NodeState) (rank : ℕ) → AreAtSync nodes → AllPairs LandsBefore (landings_at nodes rank)
at_in_order nodes rank row = AllPairs-filter LandsBefore (λ l. l.rank == rank) (landings nodes) (landings_in_order nodes row)

at_most : (a b : Key) → IsBefore a b → IsAtMost a b
at_most a b before = elim before [
  | inl kind ↦ inl kind
  | inr same ↦ elim same.1 [
    | inl caller ↦ inr (same.0, inl caller)
    | inr issue ↦ inr (same.0, inr (issue.0, omega (arith, issue.1)))
  ]
]

pub keys_do_not_fall : (nodes : List NodeState) (rank : ℕ) → AreAtSync nodes → KeysDoNotFall (landings_at nodes rank)
keys_do_not_fall nodes rank row =
    pairs-weaker LandsBefore (λ a b. IsAtMost a.key b.key) (landings_at nodes rank) (λ a b before. at_most a.key b.key before)
    (at_in_order nodes rank row)

not_itself : (a b : Key) → IsBefore a b → a ≡ b → ⊥
not_itself a b before same =
    let kind : a.kind ≡ b.kind = ap (λ (k : Key). k.kind) same in
    let caller : a.caller ≡ b.caller = ap (λ (k : Key). k.caller) same in
    let issue : a.issue ≡ b.issue = ap (λ (k : Key). k.issue) same in
    elim before [
      | inl lower ↦ omega (arith, lower, kind)
      | inr rest ↦ elim rest.1 [
        | inl lower ↦ omega (arith, lower, caller)
        | inr lower ↦ omega (arith, lower.1, issue)
      ]
    ]

own_keys : (all : List Landing) → AllPairs LandsBefore all → HaveOwnKeys all
own_keys all order a b first second same =
    let i = first.0 in
    let j = second.0 in
    let here : get_or all i a ≡ a = first.2 in
    let there : get_or all j a ≡ b = get_or_default all j a b second.1 ∙ second.2 in
    let keys : (get_or all i a).key ≡ (get_or all j a).key =
    ap (λ (l : Landing). l.key) here ∙ same ∙ sym (ap (λ (l : Landing). l.key) there) in
    elim (cases_order i j) [
      | inl e ↦ sym here ∙ ap (λ k. get_or all k a) e ∙ there
      | inr apart ↦ elim apart [
        | inl lower ↦ absurd (not_itself (get_or all i a).key (get_or all j a).key (order i j a lower second.1) keys)
        | inr lower ↦ absurd (not_itself (get_or all j a).key (get_or all i a).key (order j i a lower first.1) (sym keys))
      ]
    ]

pub have_own_keys : (nodes : List NodeState) (rank : ℕ) → AreAtSync nodes → HaveOwnKeys (landings_at nodes rank)
have_own_keys nodes rank row = own_keys (landings_at nodes rank) (at_in_order nodes rank row)
