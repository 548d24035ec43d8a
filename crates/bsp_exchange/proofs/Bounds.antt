-- How much an exchange moves at most, by the limits of nodes and of their requests.
use Rattle.std.proofs.Common.{◌≡◌, ℕ, ◌+◌, ◌*◌, ◌^◌, ◌<◌, ◌≤◌, max, Bool, true, false, not, cond, if◌then◌else◌, Some, None, List, [], ◌∷◌, length, map, All, get_or}
use Rattle.std.proofs.Common.{refl, sym, ap, ap₂, ◌∙◌, arith}
use Rattle.std.specs.Prelude.{◌==◌, filter, filter_map, sum_by}
use Rattle.std.specs.List.{cons_option, enumerate_from, fold}
use Rattle.std.proofs.lemmas.List.{places, map-append}
use Rattle.std.proofs.lemmas.List.Elements.{All-head, All-map, All-tail}
use Rattle.std.proofs.lemmas.List.Filters.{sum_by-filter_both}
use Rattle.std.proofs.lemmas.List.Sums.{sum_by-append, sum_by-cons, sum_by-le}
use Rattle.bsp_requests.specs.Request.{Asked, asks_put, asks_get, asks_send, size_of}
use Rattle.bsp_requests.specs.Inbox.{payload_bytes}
use Rattle.bsp_requests.specs.Message.{Message}
use Rattle.node_memory.specs.Bytes.{bytes_at}
use Rattle.node_core.specs.Communication.{HasLimits}
use Rattle.node_core.specs.Hart.{IsHart, max_nodes}
use Rattle.node_core.specs.Node.{NodeState}
use Rattle.bsp_exchange.specs.Arrivals.{received_at}
use Rattle.bsp_exchange.specs.Issued.{Issued, issued, issued_as, issued_by}
use Rattle.bsp_exchange.specs.Landings.{Landing, area_start, memory_of, landing_of_get, landing_of_put, get_landing, put_landing}
use Rattle.bsp_exchange.specs.Parts.{Patch, bytes_in, patch_of}
use Rattle.bsp_exchange.specs.Traffic.{Transfer, transfer, transfers, between_ranks, bytes_sent, bytes_received, messages_received}
use Rattle.bsp_exchange.specs.Traffic.{h_relation, h_of, h_all_of, messages_of}
use Rattle.bsp_exchange.specs.Queues.{message_to, queue_after}
use Rattle.bsp_exchange.proofs.Limits.{bytes_at_most, requests_at_most, bytes_at_most_standard, requests_at_most_standard}
use Rattle.bsp_exchange.proofs.Readings.{h_at_most}
use Rattle.bsp_exchange.proofs.Tallies.{AreHarts}

pub fold-max-le : (most : ℕ) (first : ℕ) (xs : List ℕ) → first ≤ most → All (λ x. x ≤ most) xs → fold max first xs ≤ most
fold-max-le most first [] here all = here
fold-max-le most first (x ∷ xs) here all =
    let next = All-head (λ k. k ≤ most) x xs all in
    fold-max-le most (max first x) xs (omega arith) (All-tail (λ k. k ≤ most) x xs all)

abbrev bytes : List Transfer → ℕ
bytes ts = sum_by (λ (t : Transfer). t.bytes) ts

abbrev transfer_of : Issued → Transfer
transfer_of i = transfer i.rank i.request

transfer-bytes : (rank : ℕ) (q : Asked) → (transfer rank q).bytes ≡ size_of q
transfer-bytes rank (asks_put p) = refl
transfer-bytes rank (asks_get g) = refl
transfer-bytes rank (asks_send m) = refl

-- a node's requests transfer as many bytes as they count
bytes-requests : (rank issue : ℕ) (requests : List Asked)
    → bytes (map transfer_of (map (issued_as rank) (enumerate_from issue requests))) ≡ sum_by size_of requests
bytes-requests rank issue [] = refl
bytes-requests rank issue (q ∷ rest) =
    sum_by-cons (λ (t : Transfer). t.bytes) (transfer rank q) (map transfer_of (map (issued_as rank) (enumerate_from (issue + 1) rest)))
    ∙ ap₂ ◌+◌ (transfer-bytes rank q) (bytes-requests rank (issue + 1) rest)
    ∙ sym (sum_by-cons size_of q rest)

-- the bytes that a node's requests count
abbrev asked_bytes : NodeState → ℕ
asked_bytes n = sum_by size_of n.hart.communication.requests.requests

bytes-transfers : (nodes : List NodeState) → bytes (transfers nodes) ≡ sum_by asked_bytes nodes
bytes-transfers [] = refl
bytes-transfers (n ∷ rest) =
    let there = bytes-transfers rest in
    let own = bytes-requests n.hart.rank 0 n.hart.communication.requests.requests in
    let parts = map-append transfer_of (issued_by n) (issued rest) in
    let sums = sum_by-append (λ (t : Transfer). t.bytes) (map transfer_of (issued_by n)) (transfers rest) in
    rw (parts, sums) (omega (arith, there, own, sum_by-cons asked_bytes n rest))

bytes-most : (most : ℕ) (nodes : List NodeState) → All (λ n. asked_bytes n ≤ most) nodes → bytes (transfers nodes) ≤ length nodes * most
bytes-most most nodes each = rw (bytes-transfers nodes) (sum_by-le asked_bytes most nodes each)

-- in any machine a node's requests count so many bytes at most
each-bytes : (nodes : List NodeState) → AreHarts nodes → All (λ n. asked_bytes n ≤ 2 ^ 30) nodes
each-bytes nodes harts k d below =
    let n : NodeState = get_or nodes k d in
    bytes_at_most n.hart.communication.requests (harts k d below).communication.requests

-- some of the transfers have no more bytes than all
bytes-filter : (test : Transfer → Bool) (ts : List Transfer) → bytes (filter test ts) ≤ bytes ts
bytes-filter test ts = omega (arith, sum_by-filter_both test (λ t. not (test t)) (λ _. refl) (λ (t : Transfer). t.bytes) ts)

-- and make an h that is no more than these
relation-le : (most : ℕ) (ts : List Transfer) (nodes : List NodeState) → bytes ts ≤ most → h_relation ts nodes ≤ most
relation-le most ts nodes few =
    let each : All (λ (n : NodeState). max (bytes_sent ts n.hart.rank) (bytes_received ts n.hart.rank) ≤ most) nodes = λ k d within.
    let out = bytes-filter (λ (t : Transfer). t.from == (get_or nodes k d).hart.rank) ts in
    let inn = bytes-filter (λ (t : Transfer). t.to == (get_or nodes k d).hart.rank) ts in
    omega (arith, few, out, inn) in
    fold-max-le most 0 _ (omega arith)
    (All-map (λ k. k ≤ most) (λ (n : NodeState). max (bytes_sent ts n.hart.rank) (bytes_received ts n.hart.rank)) nodes each)

-- ---- and no more messages than they count requests

abbrev messages : List Transfer → ℕ
messages ts = sum_by (λ (t : Transfer). t.messages) ts

transfer-messages : (rank : ℕ) (q : Asked) → (transfer rank q).messages ≤ 1
transfer-messages rank (asks_put p) = omega arith
transfer-messages rank (asks_get g) = omega arith
transfer-messages rank (asks_send m) = omega arith

messages-requests : (rank issue : ℕ) (requests : List Asked)
    → messages (map transfer_of (map (issued_as rank) (enumerate_from issue requests))) ≤ length requests
messages-requests rank issue [] = omega arith
messages-requests rank issue (q ∷ rest) =
    let sums =
    sum_by-cons (λ (t : Transfer). t.messages) (transfer rank q)
    (map transfer_of (map (issued_as rank) (enumerate_from (issue + 1) rest))) in
    omega (arith, sums, transfer-messages rank q, messages-requests rank (issue + 1) rest)

-- how many requests a node has
abbrev asked_count : NodeState → ℕ
asked_count n = length n.hart.communication.requests.requests

messages-transfers : (nodes : List NodeState) → messages (transfers nodes) ≤ sum_by asked_count nodes
messages-transfers [] = omega arith
messages-transfers (n ∷ rest) =
    let there = messages-transfers rest in
    let own = messages-requests n.hart.rank 0 n.hart.communication.requests.requests in
    let parts = map-append transfer_of (issued_by n) (issued rest) in
    let sums = sum_by-append (λ (t : Transfer). t.messages) (map transfer_of (issued_by n)) (transfers rest) in
    rw (parts, sums) (omega (arith, there, own, sum_by-cons asked_count n rest))

messages-most : (most : ℕ) (nodes : List NodeState) → All (λ n. asked_count n ≤ most) nodes
    → messages (transfers nodes) ≤ length nodes * most
messages-most most nodes each =
    let all : sum_by asked_count nodes ≤ length nodes * most = sum_by-le asked_count most nodes each in
    omega (arith, messages-transfers nodes, all)

-- in any machine a node has so many requests at most
each-count : (nodes : List NodeState) → AreHarts nodes → All (λ n. asked_count n ≤ 2 ^ 24) nodes
each-count nodes harts k d below =
    let n : NodeState = get_or nodes k d in
    requests_at_most n.hart.communication.requests (harts k d below).communication.requests

messages-filter : (test : Transfer → Bool) (ts : List Transfer) → messages (filter test ts) ≤ messages ts
messages-filter test ts = omega (arith, sum_by-filter_both test (λ t. not (test t)) (λ _. refl) (λ (t : Transfer). t.messages) ts)

messages-le : (most : ℕ) (nodes : List NodeState) → messages (transfers nodes) ≤ most → messages_of nodes ≤ most
messages-le most nodes few =
    let ts = between_ranks (transfers nodes) in
    let over = messages-filter (λ (t : Transfer). not (t.from == t.to)) (transfers nodes) in
    let each : All (λ (n : NodeState). messages_received ts n.hart.rank ≤ most) nodes = λ k d within.
    let inn = messages-filter (λ (t : Transfer). t.to == (get_or nodes k d).hart.rank) ts in
    omega (arith, few, over, inn) in
    fold-max-le most 0 _ (omega arith) (All-map (λ k. k ≤ most) (λ (n : NodeState). messages_received ts n.hart.rank) nodes each)

-- what as many nodes as there may be move among them
pub traffic_bounded : (nodes : List NodeState) → length nodes ≤ max_nodes → AreHarts nodes
    → (h_of nodes ≤ h_all_of nodes) × (h_all_of nodes ≤ 2 ^ 46) × (messages_of nodes ≤ 2 ^ 40)
traffic_bounded nodes few harts =
    let all_bytes : bytes (transfers nodes) ≤ 2 ^ 46 = omega (arith, bytes-most (2 ^ 30) nodes (each-bytes nodes harts), few) in
    let all_messages : messages (transfers nodes) ≤ 2 ^ 40 =
    omega (arith, messages-most (2 ^ 24) nodes (each-count nodes harts), few) in
    (h_at_most nodes, relation-le (2 ^ 46) (transfers nodes) nodes all_bytes, messages-le (2 ^ 40) nodes all_messages)

-- and in a machine that is not large
pub traffic_bounded_standard : (nodes : List NodeState) → length nodes ≤ 1024 → AreHarts nodes
    → All (λ (n : NodeState). HasLimits false n.hart.communication) nodes
    → (h_of nodes ≤ h_all_of nodes) × (h_all_of nodes ≤ 2 ^ 34) × (messages_of nodes ≤ 2 ^ 26)
traffic_bounded_standard nodes few harts standard =
    let each_bytes : All (λ n. asked_bytes n ≤ 2 ^ 24) nodes = λ k d below.
    let n : NodeState = get_or nodes k d in
    bytes_at_most_standard n.hart.communication.requests (harts k d below).communication.requests (standard k d below).1 in
    let each_count : All (λ n. asked_count n ≤ 65536) nodes = λ k d below.
    let n : NodeState = get_or nodes k d in
    requests_at_most_standard n.hart.communication.requests (harts k d below).communication.requests (standard k d below).1 in
    let all_bytes : bytes (transfers nodes) ≤ 2 ^ 34 = omega (arith, bytes-most (2 ^ 24) nodes each_bytes, few) in
    let all_messages : messages (transfers nodes) ≤ 2 ^ 26 = omega (arith, messages-most 65536 nodes each_count, few) in
    (h_at_most nodes, relation-le (2 ^ 34) (transfers nodes) nodes all_bytes, messages-le (2 ^ 26) nodes all_messages)

-- ---- and none receives more bytes than they move

put_bytes : (b : Bool) (p : Patch) (l : Landing) (ls : List Landing) → p ≡ patch_of l
    → bytes_in (map patch_of (cond b (l ∷ ls) ls)) ≤ length p.bytes + bytes_in (map patch_of ls)
put_bytes true p l ls is =
    omega (arith, sum_by-cons (λ (q : Patch). length q.bytes) (patch_of l) (map patch_of ls), ap (λ (q : Patch). length q.bytes) is)
put_bytes false p l ls is = omega arith

-- what some requests put into a rank's node
abbrev puts_of : List NodeState → List Issued → ℕ → List Patch
puts_of nodes is rank =
    map patch_of (filter (λ l. l.rank == rank) (filter_map (λ i. landing_of_put nodes i.rank i.issue i.request) is))

puts-le : (nodes : List NodeState) (rank caller issue : ℕ) (q : Asked) (is : List Issued)
    → bytes_in (puts_of nodes (record { rank = caller; issue = issue; request = q } ∷ is) rank)
    ≤ (transfer caller q).bytes + bytes_in (puts_of nodes is rank)
puts-le nodes rank caller issue (asks_put p) is =
    let l = put_landing nodes caller issue p in
    put_bytes (p.target == rank) (patch_of l) l _ refl
puts-le nodes rank caller issue (asks_get g) is = omega arith
puts-le nodes rank caller issue (asks_send m) is = omega arith

puts-moved : (nodes : List NodeState) (rank : ℕ) (is : List Issued) → bytes_in (puts_of nodes is rank) ≤ bytes (map transfer_of is)
puts-moved nodes rank [] = omega arith
puts-moved nodes rank (i ∷ is) =
    omega (
      arith,
      puts-le nodes rank i.rank i.issue i.request is,
      puts-moved nodes rank is,
      sum_by-cons (λ (t : Transfer). t.bytes) (transfer_of i) (map transfer_of is),
    )

length_fetched : (m : List ℕ) (addr len : ℕ) → length (bytes_at m addr len) ≤ len
length_fetched m addr len = grind (arith, places)

-- what some requests fetch for a rank's node
abbrev gets_of : List NodeState → List Issued → ℕ → List Patch
gets_of nodes is rank =
    map patch_of (filter (λ l. l.rank == rank) (filter_map (λ i. landing_of_get nodes i.rank i.issue i.request) is))

gets-le : (nodes : List NodeState) (rank caller issue : ℕ) (q : Asked) (is : List Issued)
    → bytes_in (gets_of nodes (record { rank = caller; issue = issue; request = q } ∷ is) rank)
    ≤ (transfer caller q).bytes + bytes_in (gets_of nodes is rank)
gets-le nodes rank caller issue (asks_put p) is = omega arith
gets-le nodes rank caller issue (asks_get g) is =
    let l = get_landing nodes caller issue g in
    let short : length l.bytes ≤ g.len = length_fetched (memory_of nodes g.target) (area_start nodes g.target g.slot + g.offset) g.len in
    omega (
      arith,
      short,
      put_bytes (caller == rank) (patch_of l) l
          (filter (λ k. k.rank == rank) (filter_map (λ i. landing_of_get nodes i.rank i.issue i.request) is)) refl,
    )
gets-le nodes rank caller issue (asks_send m) is = omega arith

gets-moved : (nodes : List NodeState) (rank : ℕ) (is : List Issued) → bytes_in (gets_of nodes is rank) ≤ bytes (map transfer_of is)
gets-moved nodes rank [] = omega arith
gets-moved nodes rank (i ∷ is) =
    omega (
      arith,
      gets-le nodes rank i.rank i.issue i.request is,
      gets-moved nodes rank is,
      sum_by-cons (λ (t : Transfer). t.bytes) (transfer_of i) (map transfer_of is),
    )

pub moved_bounded : (nodes : List NodeState) (rank : ℕ) → length nodes ≤ max_nodes → AreHarts nodes
    → bytes_in (received_at nodes rank).gets + bytes_in (received_at nodes rank).puts < 2 ^ 63
moved_bounded nodes rank few harts =
    omega (
      arith,
      gets-moved nodes rank (issued nodes),
      puts-moved nodes rank (issued nodes),
      bytes-most (2 ^ 30) nodes (each-bytes nodes harts),
      few,
    )

-- ---- and the payloads of the messages to a rank have no more bytes than all requests

message-light : (rank caller : ℕ) (q : Asked) (ms : List Message)
    → payload_bytes (cons_option (message_to rank caller q) ms) ≤ (transfer caller q).bytes + payload_bytes ms
message-light rank caller (asks_put p) ms = omega arith
message-light rank caller (asks_get g) ms = omega arith
message-light rank caller (asks_send m) ms = by (m.target == rank)
  where
    by : (mine : Bool)
        → payload_bytes (cons_option (if mine then Some (record { sender = caller; tag = m.tag; payload = m.payload }) else None) ms)
        ≤ length m.tag + length m.payload + payload_bytes ms
    by true =
        omega (
          arith,
          sum_by-cons (λ (x : Message). length x.payload) (record { sender = caller; tag = m.tag; payload = m.payload }) ms,
        )
    by false = omega arith

messages-light : (rank : ℕ) (is : List Issued)
    → payload_bytes (filter_map (λ i. message_to rank i.rank i.request) is) ≤ bytes (map transfer_of is)
messages-light rank [] = omega arith
messages-light rank (i ∷ is) =
    omega (
      arith,
      message-light rank i.rank i.request (filter_map (λ (j : Issued). message_to rank j.rank j.request) is),
      messages-light rank is,
      sum_by-cons (λ (t : Transfer). t.bytes) (transfer_of i) (map transfer_of is),
    )

pub queue-light : (nodes : List NodeState) (rank : ℕ) → length nodes ≤ max_nodes → AreHarts nodes
    → payload_bytes (queue_after nodes rank) < 2 ^ 64
queue-light nodes rank few harts =
    omega (arith, messages-light rank (issued nodes), bytes-most (2 ^ 30) nodes (each-bytes nodes harts), few)
