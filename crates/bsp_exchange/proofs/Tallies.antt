-- What the nodes of a machine send and receive.
use Rattle.std.proofs.Common.{◌≡◌, ℕ, ◌+◌, ◌*◌, ◌^◌, ◌<◌, ◌≤◌, ◌==◌, zero, suc, max, Bool, true, false, not, if◌then◌else◌, cond, List, []}
use Rattle.std.proofs.Common.{◌∷◌, ◌++◌, length, get_or, map, take, refl, sym, ap, ap₂, ◌∙◌, add-zero, zero-add, inl, inr, arith}
use Rattle.std.specs.Prelude.{All, Some, filter, slice_get, sum_by}
use Rattle.std.specs.List.{fold, range_with_len, enumerate_from}
use Rattle.std.proofs.lemmas.Bool.{cases_eq, eq-eqb, ne_eqb}
use Rattle.std.proofs.lemmas.List.{append-nil, map-append, map_push, take_more, get_or-map, length-map}
use Rattle.std.proofs.lemmas.List.Concat.{flat_map-append}
use Rattle.std.proofs.lemmas.List.Elements.{All-cons, All-head, All-nil, All-tail, All-weaker}
use Rattle.std.proofs.lemmas.List.Folds.{fold-map}
use Rattle.std.proofs.lemmas.List.FromFn.{fill_by_all}
use Rattle.std.proofs.lemmas.List.Sums.{fold-append, sum_by-append, sum_by-cons}
use Rattle.bsp_requests.specs.Request.{Asked, asks_put, asks_get, asks_send, size_of}
use Rattle.bsp_requests.specs.Requests.{Requests}
use Rattle.node_core.specs.Communication.{IsWellAddressed}
use Rattle.node_core.specs.Hart.{IsHart, max_nodes}
use Rattle.node_core.specs.Node.{NodeState, PreparedNode}
use Rattle.bsp_exchange.specs.declared.traffic.Load.{Load}
use Rattle.bsp_exchange.specs.Exchange.{AreAtSync, states}
use Rattle.bsp_exchange.specs.Issued.{Issued, issued_as, issued_by, issued}
use Rattle.bsp_exchange.specs.declared.traffic.Traffic.{Traffic}
use Rattle.bsp_exchange.specs.Loads.{no_load, with_sent, with_received, with_kept, with_transfer, with_transfers, transfers_of, IsWithin}
use Rattle.bsp_exchange.specs.Loads.{larger, larger_all, greatest_of, greatest}
use Rattle.bsp_exchange.specs.Parts.{changed_at, target_of}
use Rattle.bsp_exchange.specs.Traffic.{Transfer, transfer, transfers, between_ranks, bytes_sent, bytes_received, messages_received, most}
use Rattle.bsp_exchange.specs.Traffic.{h_relation, traffic_of}
use Rattle.bsp_exchange.proofs.Limits.{bytes_at_most, requests_at_most}
use Rattle.bsp_exchange.proofs.Loads.{weight, weight_of, sizes_moved, within_transfers, within_at_most}

abbrev pub AreHarts : List NodeState → Type 0
AreHarts ns = All (λ (n : NodeState). IsHart n.hart) ns

abbrev moved_by : Issued → Transfer
moved_by i = transfer i.rank i.request

numbered : (rank k : ℕ) (rs : List Asked) → map moved_by (map (issued_as rank) (enumerate_from k rs)) ≡ transfers_of rank rs
numbered rank k [] = refl
numbered rank k (r ∷ rs) = ap (λ ts. transfer rank r ∷ ts) (numbered rank (k + 1) rs)

abbrev pub asked_by : NodeState → List Transfer
asked_by n = transfers_of n.hart.rank n.hart.communication.requests.requests

transfers-push : (ns : List NodeState) (n : NodeState) → transfers (ns ++ n ∷ []) ≡ transfers ns ++ asked_by n
transfers-push ns n =
    ap (map moved_by) (flat_map-append issued_by ns (n ∷ []) ∙ ap (λ is. issued ns ++ is) (append-nil (issued_by n)))
    ∙ map-append moved_by (issued ns) (issued_by n)
    ∙ ap (λ ts. transfers ns ++ ts) (numbered n.hart.rank 0 n.hart.communication.requests.requests)

transfers-cons : (n : NodeState) (ns : List NodeState) → transfers (n ∷ ns) ≡ asked_by n ++ transfers ns
transfers-cons n ns =
    map-append moved_by (issued_by n) (issued ns)
    ∙ ap (λ ts. ts ++ transfers ns) (numbered n.hart.rank 0 n.hart.communication.requests.requests)

pub states-more : (ps : List PreparedNode) (i : ℕ) (p : PreparedNode) → i < length ps → p ≡ get_or ps i p
    → states (take (i + 1) ps) ≡ states (take i ps) ++ p.node ∷ []
states-more ps i p within is =
    ap states (take_more ps i p within)
    ∙ map_push (λ (q : PreparedNode). q.node) (take i ps) (get_or ps i p)
    ∙ ap (λ (q : PreparedNode). states (take i ps) ++ q.node ∷ []) (sym is)

-- the requests of one node more
pub next_node : (first loads after : List Load) (ps : List PreparedNode) (i : ℕ) (p : PreparedNode) (rank : ℕ) (requests : Requests)
    → loads ≡ with_transfers first (transfers (states (take i ps))) → i < length ps → p ≡ get_or ps i p → rank ≡ p.node.hart.rank
    → requests ≡ p.node.hart.communication.requests → after ≡ with_transfers loads (transfers_of rank requests.requests)
    → after ≡ with_transfers first (transfers (states (take (i + 1) ps)))
next_node first loads after ps i p rank requests before within is its_rank its_requests added =
    added
    ∙ ap₂ (λ (r : ℕ) (q : Requests). with_transfers loads (transfers_of r q.requests)) its_rank its_requests
    ∙ ap (λ ls. with_transfers ls (asked_by p.node)) before
    ∙ sym (fold-append with_transfer first (transfers (states (take i ps))) (asked_by p.node))
    ∙ ap (with_transfers first) (sym (transfers-push (states (take i ps)) p.node))
    ∙ ap (λ ns. with_transfers first (transfers ns)) (sym (states-more ps i p within is))

-- a node knows how many there are
pub count_of : (ps : List PreparedNode) (i : ℕ) (p : PreparedNode) → AreAtSync (states ps) → i < length ps → p ≡ get_or ps i p
    → p.node.hart.nprocs ≡ length ps
count_of ps i p row within is =
    let size : length (states ps) ≡ length ps = length-map ps (λ (q : PreparedNode). q.node) in
    let here : get_or (states ps) i p.node ≡ p.node =
    get_or-map (λ (q : PreparedNode). q.node) ps i p p.node within ∙ ap (λ (q : PreparedNode). q.node) (sym is) in
    ap (λ (n : NodeState). n.hart.nprocs) (sym here) ∙ row.counts i p.node (omega (arith, size)) ∙ size

target_named : (nprocs places size : ℕ) (r : Asked) → IsWellAddressed nprocs places size r → target_of r < nprocs
target_named nprocs places size (asks_put p) h = h.0
target_named nprocs places size (asks_get g) h = h.0
target_named nprocs places size (asks_send m) h = h

-- a node's requests name ranks that there are
pub targets_named : (n : NodeState) (count : ℕ) → IsHart n.hart → n.hart.nprocs ≤ count
    → All (λ r. target_of r < count) n.hart.communication.requests.requests
targets_named n count hart few =
    let places = length n.hart.communication.registrations.in_effect in
    let size = length n.hart.memory in
    All-weaker (IsWellAddressed n.hart.nprocs places size) (λ r. target_of r < count)
    (λ r h. let named : target_of r < n.hart.nprocs = target_named n.hart.nprocs places size r h in omega (arith, named, few))
    n.hart.communication.requests.requests hart.communication.targets

-- there are no more nodes than a machine may have
few_nodes : (ps : List PreparedNode) → AreAtSync (states ps) → AreHarts (states ps) → length ps ≤ max_nodes
few_nodes [] row harts = omega arith
few_nodes (p ∷ ps) row harts =
    let hart : IsHart p.node.hart = All-head (λ (m : NodeState). IsHart m.hart) p.node (states ps) harts in
    let count : p.node.hart.nprocs ≡ length (p ∷ ps) = count_of (p ∷ ps) 0 p row (omega arith) refl in
    omega (arith, hart.few, count)

-- the harts of the first nodes are sound, where each of them is
pub sound_taken : (ps : List PreparedNode) (i : ℕ)
    → ((k : ℕ) (n : NodeState) → k < i → slice_get (states ps) k ≡ Some n → IsHart n.hart) → AreHarts (states (take i ps))
sound_taken [] zero below = All-nil (λ (n : NodeState). IsHart n.hart)
sound_taken [] (suc i) below = All-nil (λ (n : NodeState). IsHart n.hart)
sound_taken (p ∷ ps) zero below = All-nil (λ (n : NodeState). IsHart n.hart)
sound_taken (p ∷ ps) (suc i) below =
    All-cons (λ (n : NodeState). IsHart n.hart) p.node (states (take i ps)) (below 0 p.node (omega arith) refl)
    (sound_taken ps i (λ k n less is. below (suc k) n (omega (arith, less)) is))

-- so many of them weigh no more than a load may
pub taken_fit : (ps : List PreparedNode) (i : ℕ) → AreAtSync (states ps) → i ≤ length ps
    → ((k : ℕ) (n : NodeState) → k < i → slice_get (states ps) k ≡ Some n → IsHart n.hart) → i * 2 ^ 31 ≤ 2 ^ 47
taken_fit ps zero row within below = omega arith
taken_fit [] (suc i) row within below = absurd (omega (arith, within))
taken_fit (p ∷ ps) (suc i) row within below =
    let hart : IsHart p.node.hart = below 0 p.node (omega arith) refl in
    let count : p.node.hart.nprocs ≡ length (p ∷ ps) = count_of (p ∷ ps) 0 p row (omega arith) refl in
    omega (arith, hart.few, count, within)

-- what nodes move weighs no more than their limits of bytes and of requests
weight_limited : (ns : List NodeState) → AreHarts ns → weight_of (transfers ns) ≤ length ns * 2 ^ 31
weight_limited [] harts = omega arith
weight_limited (n ∷ ns) harts =
    let rs = n.hart.communication.requests.requests in
    let hart : IsHart n.hart = All-head (λ (m : NodeState). IsHart m.hart) n ns harts in
    let rest = weight_limited ns (All-tail (λ (m : NodeState). IsHart m.hart) n ns harts) in
    let private : weight_of (asked_by n) ≤ sum_by size_of rs + length rs = sizes_moved n.hart.rank rs in
    let parts : weight_of (transfers (n ∷ ns)) ≡ weight_of (asked_by n) + weight_of (transfers ns) =
    ap weight_of (transfers-cons n ns) ∙ sum_by-append weight (asked_by n) (transfers ns) in
    omega (
      arith,
      private,
      parts,
      rest,
      bytes_at_most n.hart.communication.requests hart.communication.requests,
      requests_at_most n.hart.communication.requests hart.communication.requests,
    )

-- no load is more than what the nodes move together
pub loads_limited : (loads : List Load) (ns : List NodeState) → All (λ l. l ≡ no_load) loads → AreHarts ns
    → All (IsWithin (length ns * 2 ^ 31)) (with_transfers loads (transfers ns))
loads_limited loads ns empty harts =
    let none : All (IsWithin 0) loads = All-weaker (λ l. l ≡ no_load) (IsWithin 0)
    (λ l h. record {
      sent = omega (arith, ap (λ (k : Load). k.sent) h);
      received = omega (arith, ap (λ (k : Load). k.received) h);
      kept = omega (arith, ap (λ (k : Load). k.kept) h);
      messages = omega (arith, ap (λ (k : Load). k.messages) h);
    }) loads empty in
    within_at_most (length ns * 2 ^ 31) (0 + weight_of (transfers ns)) (with_transfers loads (transfers ns))
    (omega (arith, weight_limited ns harts)) (within_transfers 0 loads (transfers ns) none)

-- and so no number of a load is more than so much
pub loads_bounded : (first loads : List Load) (ps : List PreparedNode) → All (λ l. l ≡ no_load) first → AreAtSync (states ps)
    → AreHarts (states ps) → loads ≡ with_transfers first (transfers (states ps)) → All (IsWithin (2 ^ 47)) loads
loads_bounded first loads ps empty row harts is =
    let count : length (states ps) ≡ length ps = length-map ps (λ (p : PreparedNode). p.node) in
    let few : length ps ≤ max_nodes = few_nodes ps row harts in
    rw is (within_at_most (2 ^ 47) (length (states ps) * 2 ^ 31) (with_transfers first (transfers (states ps))) (omega (arith, few, count))
    (loads_limited first (states ps) empty harts))

changed_here : {X : Type 0} (f : X → X) (i : ℕ) (xs : List X) (d : X) → i < length xs → get_or (changed_at f i xs) i d ≡ f (get_or xs i d)
changed_here f i [] d within = absurd (omega arith)
changed_here f zero (x ∷ xs) d within = refl
changed_here f (suc i) (x ∷ xs) d within = changed_here f i xs d (omega arith)

kept_elsewhere : {X : Type 0} (f : X → X) (i k : ℕ) (xs : List X) (d : X) → (i ≡ k → ⊥) → get_or (changed_at f i xs) k d ≡ get_or xs k d
kept_elsewhere f i k [] d other = refl
kept_elsewhere f zero zero (x ∷ xs) d other = absurd (other refl)
kept_elsewhere f zero (suc k) (x ∷ xs) d other = refl
kept_elsewhere f (suc i) zero (x ∷ xs) d other = refl
kept_elsewhere f (suc i) (suc k) (x ∷ xs) d other = kept_elsewhere f i k xs d (λ e. other (ap suc e))

length-changed : {X : Type 0} (f : X → X) (i : ℕ) (xs : List X) → length (changed_at f i xs) ≡ length xs
length-changed f i [] = refl
length-changed f zero (x ∷ xs) = refl
length-changed f (suc i) (x ∷ xs) = ap suc (length-changed f i xs)

-- a number that a change leaves
same_at : (f : Load → Load) (p : Load → ℕ) (i k : ℕ) (xs : List Load) (d : Load) → ((l : Load) → p (f l) ≡ p l)
    → p (get_or (changed_at f i xs) k d) ≡ p (get_or xs k d)
same_at f p i k [] d leaves = refl
same_at f p zero zero (x ∷ xs) d leaves = leaves x
same_at f p zero (suc k) (x ∷ xs) d leaves = refl
same_at f p (suc i) zero (x ∷ xs) d leaves = refl
same_at f p (suc i) (suc k) (x ∷ xs) d leaves = same_at f p i k xs d leaves

-- what a change adds to a number of the element at a place
more_at : (f : Load → Load) (p : Load → ℕ) (n i k : ℕ) (xs : List Load) (d : Load) → ((l : Load) → p (f l) ≡ p l + n) → k < length xs
    → p (get_or (changed_at f i xs) k d) ≡ p (get_or xs k d) + cond (i == k) n 0
more_at f p n i k xs d adds within = elim (cases_eq i k) [
  | inl e ↦
      ap (λ j. p (get_or (changed_at f i xs) j d)) (sym e)
      ∙ ap p (changed_here f i xs d (rw e within))
      ∙ adds (get_or xs i d)
      ∙ ap₂ (λ j m. p (get_or xs j d) + m) e (sym (ap (λ b. cond b n 0) (eq-eqb i k e)))
  | inr other ↦
      ap p (kept_elsewhere f i k xs d other)
      ∙ sym (add-zero (p (get_or xs k d)))
      ∙ ap (λ b. p (get_or xs k d) + cond b n 0) (sym (ne_eqb i k other))
]

-- ---- what transfers bring to a rank, a part for each number of its load

abbrev leaves : Transfer → Bool
leaves t = not (t.from == t.to)

abbrev sent_part : ℕ → Transfer → ℕ
sent_part k t = cond (leaves t) (cond (t.from == k) t.bytes 0) 0

abbrev received_part : ℕ → Transfer → ℕ
received_part k t = cond (leaves t) (cond (t.to == k) t.bytes 0) 0

abbrev kept_part : ℕ → Transfer → ℕ
kept_part k t = cond (t.from == t.to) (cond (t.from == k) t.bytes 0) 0

abbrev messages_part : ℕ → Transfer → ℕ
messages_part k t = cond (leaves t) (cond (t.to == k) t.messages 0) 0

-- what the transfers bring to the load of a rank
abbrev pub load_at : List Transfer → ℕ → Load
load_at ts rank = record {
  sent = sum_by (sent_part rank) ts;
  received = sum_by (received_part rank) ts;
  kept = sum_by (kept_part rank) ts;
  messages = sum_by (messages_part rank) ts;
}

abbrev apart : Transfer → List Load → List Load
apart t loads = changed_at (with_received t.bytes t.messages) t.to (changed_at (with_sent t.bytes) t.from loads)

length-with_transfer : (loads : List Load) (t : Transfer) → length (with_transfer loads t) ≡ length loads
length-with_transfer loads t =
    elim (t.from == t.to) as (λ b. length (if b then changed_at (with_kept t.bytes) t.from loads else apart t loads) ≡ length loads) [
      | true ↦ length-changed (with_kept t.bytes) t.from loads
      | false ↦
          length-changed (with_received t.bytes t.messages) t.to (changed_at (with_sent t.bytes) t.from loads)
          ∙ length-changed (with_sent t.bytes) t.from loads
    ]

pub length-with_transfers : (loads : List Load) (ts : List Transfer) → length (with_transfers loads ts) ≡ length loads
length-with_transfers loads [] = refl
length-with_transfers loads (t ∷ ts) = length-with_transfers (with_transfer loads t) ts ∙ length-with_transfer loads t

-- a number of a load after one transfer, by what each of the two ways to add it brings
by_way : (p : Load → ℕ) (k : ℕ) (d : Load) (loads : List Load) (t : Transfer) (private over : ℕ)
    → p (get_or (changed_at (with_kept t.bytes) t.from loads) k d) ≡ p (get_or loads k d) + private
    → p (get_or (apart t loads) k d) ≡ p (get_or loads k d) + over
    → p (get_or (with_transfer loads t) k d) ≡ p (get_or loads k d) + cond (t.from == t.to) private over
by_way p k d loads t private over keeps moves =
    elim (t.from == t.to) as (λ b. p (get_or (if b then changed_at (with_kept t.bytes) t.from loads else apart t loads) k d)
    ≡ p (get_or loads k d) + cond b private over) [
      | true ↦ keeps
      | false ↦ moves
    ]

cond_not : (b : Bool) (n : ℕ) → cond b 0 n ≡ cond (not b) n 0
cond_not true n = refl
cond_not false n = refl

no_more : (p : Load → ℕ) (k : ℕ) (d : Load) (loads changed : List Load) → p (get_or changed k d) ≡ p (get_or loads k d)
    → p (get_or changed k d) ≡ p (get_or loads k d) + 0
no_more p k d loads changed same = omega (arith, same)

sent_more : (k : ℕ) (d : Load) (loads : List Load) (t : Transfer) → k < length loads
    → (get_or (with_transfer loads t) k d).sent ≡ (get_or loads k d).sent + sent_part k t
sent_more k d loads t within =
    let keeps =
    no_more (λ l. l.sent) k d loads (changed_at (with_kept t.bytes) t.from loads)
    (same_at (with_kept t.bytes) (λ l. l.sent) t.from k loads d (λ l. refl)) in
    let moves =
    same_at (with_received t.bytes t.messages) (λ l. l.sent) t.to k (changed_at (with_sent t.bytes) t.from loads) d (λ l. refl)
    ∙ more_at (with_sent t.bytes) (λ l. l.sent) t.bytes t.from k loads d (λ l. refl) within in
    omega (
      arith,
      by_way (λ l. l.sent) k d loads t 0 (cond (t.from == k) t.bytes 0) keeps moves,
      cond_not (t.from == t.to) (cond (t.from == k) t.bytes 0),
    )

kept_more : (k : ℕ) (d : Load) (loads : List Load) (t : Transfer) → k < length loads
    → (get_or (with_transfer loads t) k d).kept ≡ (get_or loads k d).kept + kept_part k t
kept_more k d loads t within =
    let keeps = more_at (with_kept t.bytes) (λ l. l.kept) t.bytes t.from k loads d (λ l. refl) within in
    let moves = no_more (λ l. l.kept) k d loads (apart t loads)
    (same_at (with_received t.bytes t.messages) (λ l. l.kept) t.to k (changed_at (with_sent t.bytes) t.from loads) d (λ l. refl)
    ∙ same_at (with_sent t.bytes) (λ l. l.kept) t.from k loads d (λ l. refl)) in
    by_way (λ l. l.kept) k d loads t (cond (t.from == k) t.bytes 0) 0 keeps moves

-- what is received: bytes and messages alike
came_more : (p : Load → ℕ) (n k : ℕ) (d : Load) (loads : List Load) (t : Transfer)
    → ((l : Load) → p (with_received t.bytes t.messages l) ≡ p l + n) → ((l : Load) → p (with_sent t.bytes l) ≡ p l)
    → ((l : Load) → p (with_kept t.bytes l) ≡ p l) → k < length loads
    → p (get_or (with_transfer loads t) k d) ≡ p (get_or loads k d) + cond (leaves t) (cond (t.to == k) n 0) 0
came_more p n k d loads t adds leaves_sent leaves_kept within =
    let first = changed_at (with_sent t.bytes) t.from loads in
    let keeps =
    no_more p k d loads (changed_at (with_kept t.bytes) t.from loads) (same_at (with_kept t.bytes) p t.from k loads d leaves_kept) in
    let moves =
    more_at (with_received t.bytes t.messages) p n t.to k first d adds
    (omega (arith, within, length-changed (with_sent t.bytes) t.from loads))
    ∙ ap (λ m. m + cond (t.to == k) n 0) (same_at (with_sent t.bytes) p t.from k loads d leaves_sent) in
    omega (arith, by_way p k d loads t 0 (cond (t.to == k) n 0) keeps moves, cond_not (t.from == t.to) (cond (t.to == k) n 0))

received_more : (k : ℕ) (d : Load) (loads : List Load) (t : Transfer) → k < length loads
    → (get_or (with_transfer loads t) k d).received ≡ (get_or loads k d).received + received_part k t
received_more k d loads t within = came_more (λ l. l.received) t.bytes k d loads t (λ l. refl) (λ l. refl) (λ l. refl) within

messages_more : (k : ℕ) (d : Load) (loads : List Load) (t : Transfer) → k < length loads
    → (get_or (with_transfer loads t) k d).messages ≡ (get_or loads k d).messages + messages_part k t
messages_more k d loads t within = came_more (λ l. l.messages) t.messages k d loads t (λ l. refl) (λ l. refl) (λ l. refl) within

-- a number of a load after transfers, each of which adds its part
sum_at : (p : Load → ℕ) (part : Transfer → ℕ) (k : ℕ) (d : Load)
    → ((loads : List Load) (t : Transfer) → k < length loads → p (get_or (with_transfer loads t) k d) ≡ p (get_or loads k d) + part t)
    → (loads : List Load) (ts : List Transfer) → k < length loads
    → p (get_or (with_transfers loads ts) k d) ≡ p (get_or loads k d) + sum_by part ts
sum_at p part k d more loads [] within = sym (add-zero (p (get_or loads k d)))
sum_at p part k d more loads (t ∷ ts) within =
    let first = more loads t within in
    let rest = sum_at p part k d more (with_transfer loads t) ts (omega (arith, within, length-with_transfer loads t)) in
    omega (arith, first, rest, sum_by-cons part t ts)

load_same : (l : Load) (s r o m : ℕ) → l.sent ≡ s → l.received ≡ r → l.kept ≡ o → l.messages ≡ m
    → l ≡ record { sent = s; received = r; kept = o; messages = m }
load_same l s r o m is_s is_r is_o is_m =
    ap₂ (λ a b. let k : Load = record { sent = a; received = b; kept = l.kept; messages = l.messages } in k) is_s is_r
    ∙ ap₂ (λ a b. let k : Load = record { sent = s; received = r; kept = a; messages = b } in k) is_o is_m

-- from nothing, the loads are what the transfers bring
tallied : (loads : List Load) (ts : List Transfer) (n : ℕ) → All (λ l. l ≡ no_load) loads → n ≡ length loads
    → with_transfers loads ts ≡ map (load_at ts) (range_with_len 0 n)
tallied loads ts n empty long =
    fill_by_all (load_at ts) (with_transfers loads ts) n no_load (length-with_transfers loads ts ∙ sym long)
    (λ k h.
    let here : k < length loads = omega (arith, h, long) in
    let none : get_or loads k no_load ≡ no_load = empty k no_load here in
    load_same (get_or (with_transfers loads ts) k no_load) _ _ _ _
    (omega (arith, sum_at (λ l. l.sent) (sent_part k) k no_load (sent_more k no_load) loads ts here, ap (λ (l : Load). l.sent) none))
    (omega (
      arith,
      sum_at (λ l. l.received) (received_part k) k no_load (received_more k no_load) loads ts here,
      ap (λ (l : Load). l.received) none,
    ))
    (omega (arith, sum_at (λ l. l.kept) (kept_part k) k no_load (kept_more k no_load) loads ts here, ap (λ (l : Load). l.kept) none))
    (omega (
      arith,
      sum_at (λ l. l.messages) (messages_part k) k no_load (messages_more k no_load) loads ts here,
      ap (λ (l : Load). l.messages) none,
    )))

-- ---- these parts are what the definitions add up

picked_twice : (w : Transfer → ℕ) (p q : Transfer → Bool) (ts : List Transfer)
    → sum_by (λ t. cond (q t) (cond (p t) (w t) 0) 0) ts ≡ sum_by w (filter p (filter q ts))
picked_twice w p q [] = refl
picked_twice w p q (t ∷ ts) =
    let rest = picked_twice w p q ts in
    let first = sum_by-cons (λ (u : Transfer). cond (q u) (cond (p u) (w u) 0) 0) t ts in
    let second : sum_by w (filter p (filter q (t ∷ ts))) ≡ cond (q t) (cond (p t) (w t) 0) 0 + sum_by w (filter p (filter q ts)) =
    elim (q t) as (λ b. sum_by w (filter p (cond b (t ∷ filter q ts) (filter q ts)))
    ≡ cond b (cond (p t) (w t) 0) 0 + sum_by w (filter p (filter q ts))) [
      | true ↦
          elim (p t) as (λ b. sum_by w (cond b (t ∷ filter p (filter q ts)) (filter p (filter q ts)))
          ≡ cond b (w t) 0 + sum_by w (filter p (filter q ts))) [
            | true ↦ sum_by-cons w t (filter p (filter q ts))
            | false ↦ sym (zero-add (sum_by w (filter p (filter q ts))))
          ]
      | false ↦ sym (zero-add (sum_by w (filter p (filter q ts))))
    ] in
    omega (arith, rest, first, second)

picked_once : (w : Transfer → ℕ) (p : Transfer → Bool) (t : Transfer) (ts : List Transfer)
    → sum_by w (filter p (t ∷ ts)) ≡ cond (p t) (w t) 0 + sum_by w (filter p ts)
picked_once w p t ts = elim (p t) as (λ b. sum_by w (cond b (t ∷ filter p ts) (filter p ts)) ≡ cond b (w t) 0 + sum_by w (filter p ts)) [
  | true ↦ sum_by-cons w t (filter p ts)
  | false ↦ sym (zero-add (sum_by w (filter p ts)))
]

-- with what is kept, they are all bytes of a rank
sent_parts : (t : Transfer) (k : ℕ) → cond (t.from == k) t.bytes 0 ≡ sent_part k t + kept_part k t
sent_parts t k =
    elim (t.from == t.to) as
    (λ b. cond (t.from == k) t.bytes 0 ≡ cond (not b) (cond (t.from == k) t.bytes 0) 0 + cond b (cond (t.from == k) t.bytes 0) 0) [
      | true ↦ omega arith
      | false ↦ omega arith
    ]

received_parts : (t : Transfer) (k : ℕ) → cond (t.to == k) t.bytes 0 ≡ received_part k t + kept_part k t
received_parts t k = elim (cases_eq t.from t.to) [
  | inl same ↦ rw (← same) (rw (eq-eqb t.from t.from refl) (omega arith))
  | inr other ↦ rw (ne_eqb t.from t.to other) (omega arith)
]

all_sent : (ts : List Transfer) (k : ℕ) → bytes_sent ts k ≡ (load_at ts k).sent + (load_at ts k).kept
all_sent [] k = refl
all_sent (t ∷ ts) k =
    omega (
      arith,
      all_sent ts k,
      sent_parts t k,
      picked_once (λ (u : Transfer). u.bytes) (λ (u : Transfer). u.from == k) t ts,
      sum_by-cons (sent_part k) t ts,
      sum_by-cons (kept_part k) t ts,
    )

all_received : (ts : List Transfer) (k : ℕ) → bytes_received ts k ≡ (load_at ts k).received + (load_at ts k).kept
all_received [] k = refl
all_received (t ∷ ts) k =
    omega (
      arith,
      all_received ts k,
      received_parts t k,
      picked_once (λ (u : Transfer). u.bytes) (λ (u : Transfer). u.to == k) t ts,
      sum_by-cons (received_part k) t ts,
      sum_by-cons (kept_part k) t ts,
    )

-- ---- the greatest of the loads that nodes have are those of the definition

same_fold : {X : Type 0} (f g : ℕ → X → ℕ) (start : ℕ) (xs : List X) → ((a : ℕ) (x : X) → f a x ≡ g a x) → fold f start xs ≡ fold g start xs
same_fold f g start [] each = refl
same_fold f g start (x ∷ xs) each = ap (λ a. fold f a xs) (each start x) ∙ same_fold f g (g start x) xs each

traffic_same : (t : Traffic) (h a m : ℕ) → t.h ≡ h → t.h_all ≡ a → t.messages ≡ m → t ≡ record { h = h; h_all = a; messages = m }
traffic_same t h a m is_h is_a is_m =
    ap₂ (λ x y. let k : Traffic = record { h = x; h_all = y; messages = t.messages } in k) is_h is_a
    ∙ ap (λ x. let k : Traffic = record { h = h; h_all = a; messages = x } in k) is_m

module _ (ts : List Transfer) (ns : List NodeState) (row : AreAtSync ns) where
  most_is : (p : Load → ℕ) (q : ℕ → ℕ) → ((k : ℕ) → p (load_at ts k) ≡ q k)
      → greatest_of p (map (load_at ts) (range_with_len 0 (length ns))) ≡ most q ns
  most_is p q each =
      fold-map (λ most l. max most (p l)) (load_at ts) 0 (range_with_len 0 (length ns))
      ∙ ap (fold (λ most rank. max most (p (load_at ts rank))) 0) (sym row.ranks)
      ∙ fold-map (λ most rank. max most (p (load_at ts rank))) (λ (n : NodeState). n.hart.rank) 0 ns
      ∙ same_fold (λ most (n : NodeState). max most (p (load_at ts n.hart.rank))) (λ most (n : NodeState). max most (q n.hart.rank)) 0 ns
      (λ a n. ap (max a) (each n.hart.rank))
      ∙ sym (fold-map max (λ (n : NodeState). q n.hart.rank) 0 ns)

  larger_is : (k : ℕ) → larger (load_at ts k) ≡ max (bytes_sent (between_ranks ts) k) (bytes_received (between_ranks ts) k)
  larger_is k =
      ap₂ max (picked_twice (λ (t : Transfer). t.bytes) (λ (t : Transfer). t.from == k) leaves ts)
      (picked_twice (λ (t : Transfer). t.bytes) (λ (t : Transfer). t.to == k) leaves ts)

  larger_all_is : (k : ℕ) → larger_all (load_at ts k) ≡ max (bytes_sent ts k) (bytes_received ts k)
  larger_all_is k = omega (arith, all_sent ts k, all_received ts k)

  messages_is : (k : ℕ) → (load_at ts k).messages ≡ messages_received (between_ranks ts) k
  messages_is k = picked_twice (λ (t : Transfer). t.messages) (λ (t : Transfer). t.to == k) leaves ts

  pub greatest_is : greatest (map (load_at ts) (range_with_len 0 (length ns))) ≡ record {
    h = h_relation (between_ranks ts) ns;
    h_all = h_relation ts ns;
    messages = most (messages_received (between_ranks ts)) ns;
  }
  greatest_is =
      traffic_same _ _ _ _
      (most_is larger (λ k. max (bytes_sent (between_ranks ts) k) (bytes_received (between_ranks ts) k)) larger_is)
      (most_is larger_all (λ k. max (bytes_sent ts k) (bytes_received ts k)) larger_all_is)
      (most_is (λ l. l.messages) (messages_received (between_ranks ts)) messages_is)

pub traffic_is : (loads : List Load) (ns : List NodeState) → All (λ l. l ≡ no_load) loads → AreAtSync ns → length ns ≡ length loads
    → greatest (with_transfers loads (transfers ns)) ≡ traffic_of ns
traffic_is loads ns empty row long =
    ap greatest (tallied loads (transfers ns) (length ns) empty long) ∙ greatest_is (transfers ns) ns row
