-- The cells of a table have the bytes and the messages of the definitions.
use Rattle.std.proofs.Common.{◌≡◌, ◌⊎◌, ℕ, ◌+◌, ◌*◌, ◌<◌, ◌==◌, ◌&&◌, Bool, true, false, not, cond, eqb, List, [], ◌∷◌, ◌++◌, length, map}
use Rattle.std.proofs.Common.{Option, Some, None, sym, ap, ap₂, ◌∙◌, refl, arith, inl, inr}
use Rattle.std.specs.Prelude.{All, filter, filter_map, sum_by, if◌then◌else◌}
use Rattle.std.specs.List.{enumerate_from, cons_option}
use Rattle.std.proofs.lemmas.Bool.{cases_eq, eq-eqb, ne_eqb}
use Rattle.std.proofs.lemmas.List.{map-append, length-append}
use Rattle.std.proofs.lemmas.List.Elements.{All-cons, All-head, All-nil, All-same, All-tail, filter-append, filter_map-append}
use Rattle.std.proofs.lemmas.List.Sums.{sum_by-append, sum_by-cons}
use Rattle.std.proofs.lemmas.Nat.{same_from_place}
use Rattle.bsp_requests.specs.Message.{Message}
use Rattle.bsp_requests.specs.Request.{Asked, asks_put, asks_get, asks_send}
use Rattle.node_core.specs.Node.{NodeState}
use Rattle.bsp_exchange.specs.Issued.{Issued, issued, issued_as, issued_by}
use Rattle.bsp_exchange.specs.Parts.{target_of}
use Rattle.bsp_exchange.specs.Queues.{from_others, message_to, queue_after}
use Rattle.bsp_exchange.specs.Traffic.{Transfer, transfer, transfers}
use Rattle.bsp_exchange.proofs.Tallies.{targets_named}
use Rattle.bsp_profile.specs.Moves.{goes, moved}
use Rattle.bsp_profile.specs.Tally.{place, bytes_added, message_added, messages_added, added, added_by, IsNodeAmong}

-- ---- bytes

-- one transfer more, of those that pass a test
pub filtered-cons : (p : Transfer → Bool) (t : Transfer) (ts : List Transfer)
    → sum_by (λ (u : Transfer). u.bytes) (filter p (t ∷ ts))
    ≡ (if p t then t.bytes else 0) + sum_by (λ (u : Transfer). u.bytes) (filter p ts)
filtered-cons p t ts = by (p t)
  where
    by : (b : Bool) → sum_by (λ (u : Transfer). u.bytes) (cond b (t ∷ filter p ts) (filter p ts))
        ≡ (if b then t.bytes else 0) + sum_by (λ (u : Transfer). u.bytes) (filter p ts)
    by true = sum_by-cons (λ (u : Transfer). u.bytes) t (filter p ts)
    by false = omega arith

pub moved-cons : (from to : ℕ) (t : Transfer) (ts : List Transfer)
    → moved (t ∷ ts) from to ≡ (if goes from to t then t.bytes else 0) + moved ts from to
moved-cons from to t ts = filtered-cons (goes from to) t ts

moved-append : (from to : ℕ) (xs ys : List Transfer) → moved (xs ++ ys) from to ≡ moved xs from to + moved ys from to
moved-append from to xs ys =
    ap (sum_by (λ (u : Transfer). u.bytes)) (filter-append (goes from to) xs ys)
    ∙ sum_by-append (λ (u : Transfer). u.bytes) (filter (goes from to) xs) (filter (goes from to) ys)

-- two places of bytes are one where both ranks are
same_place : (count a b from to : ℕ) → b < count → to < count
    → eqb (place count (a + 1) b) (place count (from + 1) to) ≡ (a == from && b == to)
same_place count a b from to b_in to_in = elim (cases_eq a from) [
  | inl same ↦ elim (cases_eq b to) [
    | inl also ↦
        eq-eqb _ _ (ap₂ (λ x y. place count (x + 1) y) same also) ∙ sym (ap₂ (λ x y. x && y) (eq-eqb a from same) (eq-eqb b to also))
    | inr other ↦
        ne_eqb _ _ (λ is. other (same_from_place (a + 1) b (from + 1) to count b_in to_in is).1)
        ∙ sym (ap₂ (λ x y. x && y) (eq-eqb a from same) (ne_eqb b to other))
  ]
  | inr other ↦
      ne_eqb _ _ (λ is. let rows : a + 1 ≡ from + 1 = (same_from_place (a + 1) b (from + 1) to count b_in to_in is).0 in
      other (omega arith))
      ∙ sym (ap (λ x. x && b == to) (ne_eqb a from other))
]

-- a place of bytes is no place of messages
past_messages : (count row column cell : ℕ) → cell < count → place count (row + 1) column ≡ cell → ⊥
past_messages count row column cell below is =
    let more : place count (row + 1) column ≡ row * count + count + column = grind arith in
    omega arith

-- the bytes that a request adds to the place of two ranks are those that it moves between them
bytes-told : (count from to : ℕ) (t : Transfer) → to < count → t.to < count
    → bytes_added count (place count (from + 1) to) t ≡ (if goes from to t then t.bytes else 0)
bytes-told count from to t to_in here = ap (λ b. if b then t.bytes else 0) (same_place count t.from t.to from to here to_in)

no_choice : (b : Bool) → ◌≡◌ {A = ℕ} (if b then 0 else 0) 0
no_choice true = refl
no_choice false = refl

-- and a message adds nothing there
no_message : (count from to caller target : ℕ) → target < count → message_added (place count (from + 1) to) caller target ≡ 0
no_message count from to caller target below =
    ap (λ b. if target == caller then 0 else (if b then 1 else 0))
    (ne_eqb target (place count (from + 1) to) (λ is. past_messages count from to target below (sym is)))
    ∙ no_choice (target == caller)

-- the rank that a request's bytes go to
to_named : (count caller : ℕ) (q : Asked) → caller < count → target_of q < count → (transfer caller q).to < count
to_named count caller (asks_put p) caller_in target_in = target_in
to_named count caller (asks_get g) caller_in target_in = caller_in
to_named count caller (asks_send m) caller_in target_in = target_in

no_messages : (count from to caller : ℕ) (q : Asked) → target_of q < count → messages_added (place count (from + 1) to) caller q ≡ 0
no_messages count from to caller (asks_put p) below = refl
no_messages count from to caller (asks_get g) below = refl
no_messages count from to caller (asks_send m) below = no_message count from to caller m.target below

abbrev moves_of : ℕ → List Asked → List Transfer
moves_of caller rs = map (transfer caller) rs

requests-told : (count from to caller : ℕ) (rs : List Asked) → to < count → caller < count → All (λ r. target_of r < count) rs
    → sum_by (added count (place count (from + 1) to) caller) rs ≡ moved (moves_of caller rs) from to
requests-told count from to caller [] to_in caller_in targets = refl
requests-told count from to caller (q ∷ rs) to_in caller_in targets =
    let here : target_of q < count = All-head (λ r. target_of r < count) q rs targets in
    let rest : sum_by (added count (place count (from + 1) to) caller) rs ≡ moved (moves_of caller rs) from to =
    requests-told count from to caller rs to_in caller_in (All-tail (λ r. target_of r < count) q rs targets) in
    let bytes = bytes-told count from to (transfer caller q) to_in (to_named count caller q caller_in here) in
    let none = no_messages count from to caller q here in
    let sum = sum_by-cons (added count (place count (from + 1) to) caller) q rs in
    let all = moved-cons from to (transfer caller q) (moves_of caller rs) in
    omega (arith, rest, bytes, none, sum, all)

-- the transfers of a row of nodes, the first one's apart
abbrev moved_by : Issued → Transfer
moved_by i = transfer i.rank i.request

numbered : (rank k : ℕ) (rs : List Asked) → map moved_by (map (issued_as rank) (enumerate_from k rs)) ≡ moves_of rank rs
numbered rank k [] = refl
numbered rank k (r ∷ rs) = ap (λ ts. transfer rank r ∷ ts) (numbered rank (k + 1) rs)

transfers-cons : (n : NodeState) (ns : List NodeState)
    → transfers (n ∷ ns) ≡ moves_of n.hart.rank n.hart.communication.requests.requests ++ transfers ns
transfers-cons n ns =
    map-append moved_by (issued_by n) (issued ns)
    ∙ ap (λ ts. ts ++ transfers ns) (numbered n.hart.rank 0 n.hart.communication.requests.requests)

-- the cell of two ranks has the bytes that go from one to the other
pub nodes-told : (count from to : ℕ) (ns : List NodeState) → to < count → All (IsNodeAmong count) ns
    → sum_by (added_by count (place count (from + 1) to)) ns ≡ moved (transfers ns) from to
nodes-told count from to [] to_in among = refl
nodes-told count from to (n ∷ ns) to_in among =
    let rs = n.hart.communication.requests.requests in
    let here = All-head (IsNodeAmong count) n ns among in
    let caller_in : n.hart.rank < count = omega (arith, here.hart.ranked, here.nprocs) in
    let targets = targets_named n count here.hart (omega (arith, here.nprocs)) in
    let own = requests-told count from to n.hart.rank rs to_in caller_in targets in
    let rest = nodes-told count from to ns to_in (All-tail (IsNodeAmong count) n ns among) in
    let sum = sum_by-cons (added_by count (place count (from + 1) to)) n ns in
    let all = ap (λ ts. moved ts from to) (transfers-cons n ns) ∙ moved-append from to (moves_of n.hart.rank rs) (transfers ns) in
    omega (arith, own, rest, sum, all)

-- both ranks of a transfer are ranks of so many
pub record IsAmong (count : ℕ) (t : Transfer) : Type 0 where
  pub from : t.from < count
  pub to : t.to < count

transfer_among : (count caller : ℕ) (q : Asked) → caller < count → target_of q < count → IsAmong count (transfer caller q)
transfer_among count caller (asks_put p) caller_in target_in = record { from = caller_in; to = target_in }
transfer_among count caller (asks_get g) caller_in target_in = record { from = target_in; to = caller_in }
transfer_among count caller (asks_send m) caller_in target_in = record { from = caller_in; to = target_in }

moves_among : (count caller : ℕ) (rs : List Asked) (rest : List Transfer) → caller < count → All (λ r. target_of r < count) rs
    → All (IsAmong count) rest → All (IsAmong count) (moves_of caller rs ++ rest)
moves_among count caller [] rest caller_in targets among = among
moves_among count caller (q ∷ rs) rest caller_in targets among =
    All-cons (IsAmong count) (transfer caller q) (moves_of caller rs ++ rest)
    (transfer_among count caller q caller_in (All-head (λ r. target_of r < count) q rs targets))
    (moves_among count caller rs rest caller_in (All-tail (λ r. target_of r < count) q rs targets) among)

-- those of each transfer of the nodes
pub ends_among : (count : ℕ) (ns : List NodeState) → All (IsNodeAmong count) ns → All (IsAmong count) (transfers ns)
ends_among count [] among = All-nil (IsAmong count)
ends_among count (n ∷ ns) among =
    let here = All-head (IsNodeAmong count) n ns among in
    All-same (IsAmong count) (transfers (n ∷ ns)) (moves_of n.hart.rank n.hart.communication.requests.requests ++ transfers ns)
    (transfers-cons n ns)
    (moves_among count n.hart.rank n.hart.communication.requests.requests (transfers ns) (omega (arith, here.hart.ranked, here.nprocs))
    (targets_named n count here.hart (omega (arith, here.nprocs))) (ends_among count ns (All-tail (IsNodeAmong count) n ns among)))

-- ---- messages

abbrev arrives : ℕ → Issued → Option Message
arrives rank i = message_to rank i.rank i.request

abbrev counted : ℕ → List Issued → ℕ
counted rank is = length (from_others rank (filter_map (arrives rank) is))

-- no bytes are counted among the messages
no_bytes : (count cell caller : ℕ) (q : Asked) → cell < count → bytes_added count cell (transfer caller q) ≡ 0
no_bytes count cell caller q below =
    ap (λ b. if b then (transfer caller q).bytes else 0)
    (ne_eqb (place count ((transfer caller q).from + 1) (transfer caller q).to) cell
    (past_messages count (transfer caller q).from (transfer caller q).to cell below))

-- a message is counted where another rank sent it
counted-cons : (rank : ℕ) (sent : Message) (rest : List Message) (b : Bool) → (sent.sender == rank) ≡ b
    → length (from_others rank (sent ∷ rest)) ≡ (if b then 0 else 1) + length (from_others rank rest)
counted-cons rank sent rest b is =
    ap (λ x. length (cond (not x) (sent ∷ from_others rank rest) (from_others rank rest))) is ∙ by b
  where
    by : (x : Bool) → length (cond (not x) (sent ∷ from_others rank rest) (from_others rank rest))
        ≡ (if x then 0 else 1) + length (from_others rank rest)
    by true = omega arith
    by false = omega arith

neither : (b : Bool) (n : ℕ) → ◌≡◌ {A = ℕ} ((if b then 0 else 0) + n) n
neither true n = omega arith
neither false n = omega arith

-- the sender of a message to a rank is the rank itself just where it sends to itself
same_sender : (rank caller target sender : ℕ) → target ≡ rank → sender ≡ caller → (sender == rank) ≡ (target == caller)
same_sender rank caller target sender here is = by (cases_eq caller rank)
  where
    by : (caller ≡ rank) ⊎ (caller ≡ rank → ⊥) → (sender == rank) ≡ (target == caller)
    by (inl own) = eq-eqb sender rank (is ∙ own) ∙ sym (eq-eqb target caller (here ∙ sym own))
    by (inr other) = ne_eqb sender rank (λ e. other (sym is ∙ e)) ∙ sym (ne_eqb target caller (λ e. other (sym e ∙ here)))

-- a send to a rank is counted there, where another rank sent it
send-told : (rank caller target : ℕ) (sent : Message) (rest : List Message) → sent.sender ≡ caller
    → length (from_others rank (cons_option (if target == rank then Some sent else None) rest))
    ≡ message_added rank caller target + length (from_others rank rest)
send-told rank caller target sent rest is = elim (cases_eq target rank) [
  | inl here ↦
      ap (λ b. length (from_others rank (cons_option (if b then Some sent else None) rest))) (eq-eqb target rank here)
      ∙ counted-cons rank sent rest (target == caller) (same_sender rank caller target sent.sender here is)
      ∙ sym (ap (λ b. (if target == caller then 0 else (if b then 1 else 0)) + length (from_others rank rest)) (eq-eqb target rank here))
  | inr elsewhere ↦
      ap (λ b. length (from_others rank (cons_option (if b then Some sent else None) rest))) (ne_eqb target rank elsewhere)
      ∙ sym (ap (λ b. (if target == caller then 0 else (if b then 1 else 0)) + length (from_others rank rest))
      (ne_eqb target rank elsewhere) ∙ neither (target == caller) (length (from_others rank rest)))
]

request-told : (rank caller : ℕ) (q : Asked) (rest : List Message)
    → length (from_others rank (cons_option (message_to rank caller q) rest))
    ≡ messages_added rank caller q + length (from_others rank rest)
request-told rank caller (asks_put p) rest = omega arith
request-told rank caller (asks_get g) rest = omega arith
request-told rank caller (asks_send m) rest =
    send-told rank caller m.target (record { sender = caller; tag = m.tag; payload = m.payload }) rest refl

requests-counted : (count rank caller k : ℕ) (rs : List Asked) → rank < count
    → sum_by (added count rank caller) rs ≡ counted rank (map (issued_as caller) (enumerate_from k rs))
requests-counted count rank caller k [] within = refl
requests-counted count rank caller k (q ∷ rs) within =
    let rest = requests-counted count rank caller (k + 1) rs within in
    let none = no_bytes count rank caller q within in
    let sum = sum_by-cons (added count rank caller) q rs in
    let here = request-told rank caller q (filter_map (arrives rank) (map (issued_as caller) (enumerate_from (k + 1) rs))) in
    omega (arith, rest, none, sum, here)

counted-append : (rank : ℕ) (xs ys : List Issued) → counted rank (xs ++ ys) ≡ counted rank xs + counted rank ys
counted-append rank xs ys =
    ap (λ ms. length (from_others rank ms)) (filter_map-append (arrives rank) xs ys)
    ∙ ap length (filter-append (λ (m : Message). not (m.sender == rank)) (filter_map (arrives rank) xs) (filter_map (arrives rank) ys))
    ∙ length-append (from_others rank (filter_map (arrives rank) xs)) (from_others rank (filter_map (arrives rank) ys))

-- the cell of a rank has the number of its messages from others
pub messages-told : (count rank : ℕ) (ns : List NodeState) → rank < count
    → sum_by (added_by count rank) ns ≡ length (from_others rank (queue_after ns rank))
messages-told count rank [] within = refl
messages-told count rank (n ∷ ns) within =
    let own = requests-counted count rank n.hart.rank 0 n.hart.communication.requests.requests within in
    let rest = messages-told count rank ns within in
    let sum = sum_by-cons (added_by count rank) n ns in
    let all = counted-append rank (issued_by n) (issued ns) in
    omega (arith, own, rest, sum, all)
