-- The two readings of h, and the messages, of the same transfers.
use Rattle.std.proofs.Common.{◌≡◌, ℕ, ◌+◌, ◌≤◌, ◌==◌, max, Bool, true, false, not, cond, List, [], ◌∷◌, length, map, refl, sym, ap, ap₂}
use Rattle.std.proofs.Common.{◌∙◌, zero-add, inl, inr, arith}
use Rattle.std.specs.Prelude.{All, filter, filter_map, sum_by, if◌then◌else◌, Option, Some, None}
use Rattle.std.specs.List.{cons_option, fold}
use Rattle.std.proofs.lemmas.Bool.{cases_eq, eq-eqb, ne_eqb}
use Rattle.std.proofs.lemmas.List.Elements.{All-head, All-tail}
use Rattle.std.proofs.lemmas.List.Sums.{sum_by-cons}
use Rattle.bsp_requests.specs.Message.{Message}
use Rattle.bsp_requests.specs.Request.{Asked, asks_put, asks_get, asks_send}
use Rattle.node_core.specs.Node.{NodeState}
use Rattle.bsp_exchange.specs.Issued.{Issued, issued}
use Rattle.bsp_exchange.specs.Queues.{from_others, message_to, queue_after}
use Rattle.bsp_exchange.specs.Traffic.{Transfer, transfer, transfers, between_ranks, bytes_sent, bytes_received, messages_received, h_of}
use Rattle.bsp_exchange.specs.Traffic.{h_all_of}

-- what a test picks of one transfer more
picked : (w : Transfer → ℕ) (p : Transfer → Bool) (t : Transfer) (ts : List Transfer)
    → sum_by w (filter p (t ∷ ts)) ≡ cond (p t) (w t) 0 + sum_by w (filter p ts)
picked w p t ts = elim (p t) as (λ b. sum_by w (cond b (t ∷ filter p ts) (filter p ts)) ≡ cond b (w t) 0 + sum_by w (filter p ts)) [
  | true ↦ sum_by-cons w t (filter p ts)
  | false ↦ sym (zero-add (sum_by w (filter p ts)))
]

-- and of those between ranks
pub picked_between : (w : Transfer → ℕ) (p : Transfer → Bool) (t : Transfer) (ts : List Transfer)
    → sum_by w (filter p (between_ranks (t ∷ ts))) ≡ cond (t.from == t.to) 0 (cond (p t) (w t) 0) + sum_by w (filter p (between_ranks ts))
picked_between w p t ts =
    elim (t.from == t.to) as (λ b. sum_by w (filter p (cond (not b) (t ∷ between_ranks ts) (between_ranks ts)))
    ≡ cond b 0 (cond (p t) (w t) 0) + sum_by w (filter p (between_ranks ts))) [
      | true ↦ sym (zero-add (sum_by w (filter p (between_ranks ts))))
      | false ↦ picked w p t (between_ranks ts)
    ]

cond-le : (b : Bool) (n : ℕ) → cond b 0 n ≤ n
cond-le true n = omega arith
cond-le false n = omega arith

-- leaving out some transfers makes no sum more
between-le : (w : Transfer → ℕ) (p : Transfer → Bool) (ts : List Transfer) → sum_by w (filter p (between_ranks ts)) ≤ sum_by w (filter p ts)
between-le w p [] = omega arith
between-le w p (t ∷ ts) =
    omega (arith, picked w p t ts, picked_between w p t ts, cond-le (t.from == t.to) (cond (p t) (w t) 0), between-le w p ts)

-- and none other where these move nothing
abbrev pub MovesNothingToItself : Transfer → Type 0
MovesNothingToItself t = t.from ≡ t.to → t.bytes ≡ 0

cond_none : (b : Bool) (n : ℕ) → n ≡ 0 → cond b n 0 ≡ 0
cond_none true n none = none
cond_none false n none = refl

one-same : (p : Transfer → Bool) (t : Transfer) → MovesNothingToItself t
    → cond (t.from == t.to) 0 (cond (p t) t.bytes 0) ≡ cond (p t) t.bytes 0
one-same p t moves = elim (cases_eq t.from t.to) [
  | inl same ↦ ap (λ b. cond b 0 (cond (p t) t.bytes 0)) (eq-eqb t.from t.to same) ∙ sym (cond_none (p t) t.bytes (moves same))
  | inr other ↦ ap (λ b. cond b 0 (cond (p t) t.bytes 0)) (ne_eqb t.from t.to other)
]

between-same : (p : Transfer → Bool) (ts : List Transfer) → All MovesNothingToItself ts
    → sum_by (λ (t : Transfer). t.bytes) (filter p (between_ranks ts)) ≡ sum_by (λ (t : Transfer). t.bytes) (filter p ts)
between-same p [] moves = refl
between-same p (t ∷ ts) moves =
    omega (
      arith,
      picked (λ (u : Transfer). u.bytes) p t ts,
      picked_between (λ (u : Transfer). u.bytes) p t ts,
      one-same p t (All-head MovesNothingToItself t ts moves),
      between-same p ts (All-tail MovesNothingToItself t ts moves),
    )

-- the greatest of numbers none of which is more
greatest-le : (f g : ℕ → ℕ) → ((k : ℕ) → f k ≤ g k) → (a b : ℕ) (ns : List NodeState) → a ≤ b
    → fold max a (map (λ n. f n.hart.rank) ns) ≤ fold max b (map (λ n. g n.hart.rank) ns)
greatest-le f g each a b [] start = start
greatest-le f g each a b (n ∷ ns) start =
    greatest-le f g each (max a (f n.hart.rank)) (max b (g n.hart.rank)) ns (omega (arith, start, each n.hart.rank))

greatest-same : (f g : ℕ → ℕ) → ((k : ℕ) → f k ≡ g k) → (a : ℕ) (ns : List NodeState)
    → fold max a (map (λ n. f n.hart.rank) ns) ≡ fold max a (map (λ n. g n.hart.rank) ns)
greatest-same f g each a [] = refl
greatest-same f g each a (n ∷ ns) =
    ap (λ k. fold max (max a k) (map (λ m. f m.hart.rank) ns)) (each n.hart.rank) ∙ greatest-same f g each (max a (g n.hart.rank)) ns

abbrev larger : List Transfer → ℕ → ℕ
larger ts rank = max (bytes_sent ts rank) (bytes_received ts rank)

larger-le : (ts : List Transfer) (k : ℕ) → larger (between_ranks ts) k ≤ larger ts k
larger-le ts k =
    let sent : bytes_sent (between_ranks ts) k ≤ bytes_sent ts k =
    between-le (λ (t : Transfer). t.bytes) (λ (t : Transfer). t.from == k) ts in
    let received : bytes_received (between_ranks ts) k ≤ bytes_received ts k =
    between-le (λ (t : Transfer). t.bytes) (λ (t : Transfer). t.to == k) ts in
    omega (arith, sent, received)

pub h_at_most : (nodes : List NodeState) → h_of nodes ≤ h_all_of nodes
h_at_most nodes =
    greatest-le (larger (between_ranks (transfers nodes))) (larger (transfers nodes)) (larger-le (transfers nodes)) 0 0 nodes
    (omega arith)

pub h_same : (nodes : List NodeState) → All MovesNothingToItself (transfers nodes) → h_of nodes ≡ h_all_of nodes
h_same nodes moves =
    greatest-same (larger (between_ranks (transfers nodes))) (larger (transfers nodes))
    (λ k. ap₂ max (between-same (λ (t : Transfer). t.from == k) (transfers nodes) moves)
    (between-same (λ (t : Transfer). t.to == k) (transfers nodes) moves)) 0 nodes

-- ---- the messages that a rank receives from others are those of its queue

abbrev moved_by : Issued → Transfer
moved_by i = transfer i.rank i.request

abbrev arrives : ℕ → Issued → Option Message
arrives rank i = message_to rank i.rank i.request

abbrev queued : ℕ → List Issued → ℕ
queued rank is = length (from_others rank (filter_map (arrives rank) is))

-- how many messages a transfer adds to those that a rank receives from others
abbrev counted : ℕ → Transfer → ℕ
counted rank t = cond (t.from == t.to) 0 (cond (t.to == rank) t.messages 0)

none_counted : (b c : Bool) (n : ℕ) → n ≡ 0 → cond b 0 (cond c n 0) ≡ n
none_counted true c n none = sym none
none_counted false true n none = refl
none_counted false false n none = sym none

-- whether a message of a caller counts that goes to a rank
abbrev one_over : Bool → Bool → ℕ
one_over same here = cond same 0 (cond here 1 0)

none_over : (same : Bool) → one_over same false ≡ 0
none_over true = refl
none_over false = refl

abbrev unless : Bool → ℕ
unless b = cond b 0 1

message_counted : (rank : ℕ) (m : Message) (rest : List Message)
    → length (from_others rank (m ∷ rest)) ≡ cond (m.sender == rank) 0 1 + length (from_others rank rest)
message_counted rank m rest =
    elim (m.sender == rank) as
    (λ b. length (cond (not b) (m ∷ from_others rank rest) (from_others rank rest)) ≡ cond b 0 1 + length (from_others rank rest)) [
      | true ↦ sym (zero-add (length (from_others rank rest)))
      | false ↦ omega arith
    ]

send_counted : (rank caller target : ℕ) (m : Message) (rest : List Message) → m.sender ≡ caller
    → length (from_others rank (cons_option (if target == rank then Some m else None) rest))
    ≡ one_over (caller == target) (target == rank) + length (from_others rank rest)
send_counted rank caller target m rest sent = elim (cases_eq target rank) [
  | inl here ↦
      let left = ap (λ b. length (from_others rank (cons_option (if b then Some m else None) rest))) (eq-eqb target rank here) in
      let one = ap₂ (λ s r. unless (s == r)) sent (sym here) in
      let right = ap (one_over (caller == target)) (eq-eqb target rank here) in
      omega (arith, left, message_counted rank m rest, one, right)
  | inr elsewhere ↦
      let left = ap (λ b. length (from_others rank (cons_option (if b then Some m else None) rest))) (ne_eqb target rank elsewhere) in
      let right = ap (one_over (caller == target)) (ne_eqb target rank elsewhere) ∙ none_over (caller == target) in
      omega (arith, left, right)
]

request_counted : (rank caller : ℕ) (q : Asked) (rest : List Message)
    → length (from_others rank (cons_option (message_to rank caller q) rest))
    ≡ counted rank (transfer caller q) + length (from_others rank rest)
request_counted rank caller (asks_put p) rest = omega (arith, none_counted (caller == p.target) (p.target == rank) 0 refl)
request_counted rank caller (asks_get g) rest = omega (arith, none_counted (g.target == caller) (caller == rank) 0 refl)
request_counted rank caller (asks_send m) rest =
    send_counted rank caller m.target (record { sender = caller; tag = m.tag; payload = m.payload }) rest refl

all_counted : (rank : ℕ) (is : List Issued) → messages_received (between_ranks (map moved_by is)) rank ≡ queued rank is
all_counted rank [] = refl
all_counted rank (i ∷ is) =
    omega (
      arith,
      picked_between (λ (t : Transfer). t.messages) (λ (t : Transfer). t.to == rank) (moved_by i) (map moved_by is),
      request_counted rank i.rank i.request (filter_map (arrives rank) is),
      all_counted rank is,
    )

pub messages_are_queued : (nodes : List NodeState) (rank : ℕ)
    → messages_received (between_ranks (transfers nodes)) rank ≡ length (from_others rank (queue_after nodes rank))
messages_are_queued nodes rank = all_counted rank (issued nodes)
