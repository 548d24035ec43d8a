-- What requests add to the cells of a table, and how little that is.
use Rattle.std.proofs.Common.{◌≡◌, ℕ, ◌+◌, ◌*◌, ◌^◌, ◌<◌, ◌≤◌, Bool, true, false, List, [], ◌∷◌, length, get_or, take, Some, sym, ap, ◌∙◌}
use Rattle.std.proofs.Common.{refl, subst, arith}
use Rattle.std.specs.Prelude.{All, slice_get, sum_by, if◌then◌else◌}
use Rattle.std.proofs.lemmas.List.Elements.{All-head, All-tail}
use Rattle.std.proofs.lemmas.List.Sums.{sum_by-cons, sum_by-take-le, sum_by_more}
use Rattle.std.proofs.lemmas.Option.{slice_get_within, get_or_from_slice_get}
use Rattle.bsp_requests.specs.Request.{Asked, asks_put, asks_get, asks_send, size_of}
use Rattle.node_core.specs.Node.{NodeState, PreparedNode}
use Rattle.bsp_exchange.specs.Exchange.{states}
use Rattle.bsp_exchange.proofs.Limits.{bytes_at_most, requests_at_most}
use Rattle.std.proofs.lemmas.List.{length-map, get_or-map}
use Rattle.bsp_profile.specs.Tally.{messages_added, bytes_added, added, added_by, IsNodeAmong}
use Rattle.bsp_exchange.specs.Traffic.{Transfer, transfer}

some_or_none : (b : Bool) (n : ℕ) → (if b then n else 0) ≤ n
some_or_none true n = omega arith
some_or_none false n = omega arith

none_or_one : (b c : Bool) → (if b then 0 else (if c then 1 else 0)) ≤ 1
none_or_one true c = omega arith
none_or_one false true = omega arith
none_or_one false false = omega arith

bytes-le : (count cell : ℕ) (t : Transfer) → bytes_added count cell t ≤ t.bytes
bytes-le count cell t = some_or_none _ t.bytes

size_moved : (caller : ℕ) (q : Asked) → (transfer caller q).bytes ≡ size_of q
size_moved caller (asks_put p) = refl
size_moved caller (asks_get g) = refl
size_moved caller (asks_send m) = refl

messages-le : (cell caller : ℕ) (q : Asked) → messages_added cell caller q ≤ 1
messages-le cell caller (asks_put p) = omega arith
messages-le cell caller (asks_get g) = omega arith
messages-le cell caller (asks_send m) = none_or_one _ _

-- a request adds no more than its bytes and one message
added-le : (count cell caller : ℕ) (q : Asked) → added count cell caller q ≤ size_of q + 1
added-le count cell caller q =
    omega (arith, bytes-le count cell (transfer caller q), size_moved caller q, messages-le cell caller q)

pub sum_added-le : (count cell caller : ℕ) (rs : List Asked) → sum_by (added count cell caller) rs ≤ sum_by size_of rs + length rs
sum_added-le count cell caller [] = omega arith
sum_added-le count cell caller (q ∷ rs) =
    omega (
      arith,
      added-le count cell caller q,
      sum_added-le count cell caller rs,
      sum_by-cons (added count cell caller) q rs,
      sum_by-cons size_of q rs,
    )

-- some first requests add no more than all may
pub taken_added-le : (count cell caller i : ℕ) (rs : List Asked) → sum_by size_of rs ≤ 2 ^ 30 → length rs ≤ 2 ^ 24
    → sum_by (added count cell caller) (take i rs) ≤ 2 ^ 30 + 2 ^ 24
taken_added-le count cell caller i rs bytes few =
    omega (arith, sum_by-take-le (added count cell caller) rs i, sum_added-le count cell caller rs)

-- one request more
pub next_added : (f : Asked → ℕ) (rs : List Asked) (i : ℕ) (r : Asked) (first now new : ℕ) → slice_get rs i ≡ Some r
    → now ≡ first + sum_by f (take i rs) → new ≡ now + f r → new ≡ first + sum_by f (take (i + 1) rs)
next_added f rs i r first now new found before more =
    let next : sum_by f (take (i + 1) rs) ≡ sum_by f (take i rs) + f (get_or rs i r) =
    sum_by_more f rs i r (slice_get_within rs i r found) in
    let here : f (get_or rs i r) ≡ f r = ap f (get_or_from_slice_get rs i r r found) in
    omega (arith, next, here, before, more)

node-le : (count cell : ℕ) (n : NodeState) → IsNodeAmong count n → added_by count cell n ≤ 2 ^ 31
node-le count cell n among =
    let limits = among.hart.communication.requests in
    omega (
      arith,
      sum_added-le count cell n.hart.rank n.hart.communication.requests.requests,
      bytes_at_most n.hart.communication.requests limits,
      requests_at_most n.hart.communication.requests limits,
    )

-- nodes add no more than each of them may
pub nodes-le : (count cell : ℕ) (ns : List NodeState) → All (IsNodeAmong count) ns → sum_by (added_by count cell) ns ≤ length ns * 2 ^ 31
nodes-le count cell [] among = omega arith
nodes-le count cell (n ∷ ns) among =
    let here = node-le count cell n (All-head (IsNodeAmong count) n ns among) in
    let rest = nodes-le count cell ns (All-tail (IsNodeAmong count) n ns among) in
    omega (arith, here, rest, sum_by-cons (added_by count cell) n ns)

-- the node at a place is one of them
pub among_at : (count : ℕ) (ps : List PreparedNode) (i : ℕ) (p : PreparedNode) → All (IsNodeAmong count) (states ps) → i < length ps
    → p ≡ get_or ps i p → IsNodeAmong count p.node
among_at count ps i p all within is =
    let size : length (states ps) ≡ length ps = length-map ps (λ (q : PreparedNode). q.node) in
    let here : get_or (states ps) i p.node ≡ p.node =
    get_or-map (λ (q : PreparedNode). q.node) ps i p p.node within ∙ ap (λ (q : PreparedNode). q.node) (sym is) in
    subst (IsNodeAmong count) here (all i p.node (omega (arith, size)))
