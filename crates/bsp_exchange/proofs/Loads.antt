-- What the nodes send and receive, added up transfer by transfer.
use Rattle.std.proofs.Common.{◌≡◌, ℕ, ◌+◌, ◌≤◌, ◌==◌, zero, suc, true, false, if◌then◌else◌, length, List, [], ◌∷◌, ◌++◌, get_or, set, take}
use Rattle.std.proofs.Common.{refl, sym, ap, ◌∙◌, arith, Some}
use Rattle.std.specs.Prelude.{All, slice_get, sum_by}
use Rattle.std.proofs.lemmas.Bool.{eq-eqb, ne_eqb}
use Rattle.std.proofs.lemmas.List.{length-take, take_more, map_push}
use Rattle.std.proofs.lemmas.List.Elements.{All-nil, All-cons, All-head, All-tail, All-weaker}
use Rattle.std.proofs.lemmas.List.Sums.{fold_push, sum_by-cons, sum_by-take-le, get_or-le-sum_by}
use Rattle.std.proofs.lemmas.Option.{slice_get_within, get_or_from_slice_get}
use Rattle.bsp_requests.specs.Request.{Asked, asks_put, asks_get, asks_send, size_of}
use Rattle.bsp_exchange.specs.declared.traffic.Load.{Load}
use Rattle.bsp_exchange.specs.Loads.{with_sent, with_received, with_kept, with_transfer, with_transfers, transfers_of, IsWithin}
use Rattle.bsp_exchange.specs.Parts.{changed_at}
use Rattle.bsp_exchange.specs.Traffic.{Transfer, transfer}

-- a write of a changed element is the change at its place
set-changed : {X : Type 0} (f : X → X) (i : ℕ) (xs : List X) (d : X) → set xs i (f (get_or xs i d)) ≡ changed_at f i xs
set-changed f i [] d = refl
set-changed f zero (x ∷ xs) d = refl
set-changed f (suc i) (x ∷ xs) d = ap (λ ys. x ∷ ys) (set-changed f i xs d)

changed-twice : (f g h : Load → Load) → ((l : Load) → g (f l) ≡ h l) → (i : ℕ) (xs : List Load)
    → changed_at g i (changed_at f i xs) ≡ changed_at h i xs
changed-twice f g h both i [] = refl
changed-twice f g h both zero (x ∷ xs) = ap (λ (l : Load). l ∷ xs) (both x)
changed-twice f g h both (suc i) (x ∷ xs) = ap (λ ys. x ∷ ys) (changed-twice f g h both i xs)

abbrev with_bytes : ℕ → Load → Load
with_bytes bytes l = record l { received = l.received + bytes }

abbrev with_messages : ℕ → Load → Load
with_messages messages l = record l { messages = l.messages + messages }

-- the writes that add a transfer from one rank to another
pub transfer_added : (loads : List Load) (t : Transfer) (d : Load) → (t.from ≡ t.to → ⊥) →
    let sent = set loads t.from (with_sent t.bytes (get_or loads t.from d)) in
    let received = set sent t.to (with_bytes t.bytes (get_or sent t.to d)) in
    set received t.to (with_messages t.messages (get_or received t.to d)) ≡ with_transfer loads t
transfer_added loads t d other =
    let sent = set loads t.from (with_sent t.bytes (get_or loads t.from d)) in
    let received = set sent t.to (with_bytes t.bytes (get_or sent t.to d)) in
    set-changed (with_messages t.messages) t.to received d
    ∙ ap (changed_at (with_messages t.messages) t.to) (set-changed (with_bytes t.bytes) t.to sent d)
    ∙ changed-twice (with_bytes t.bytes) (with_messages t.messages) (with_received t.bytes t.messages) (λ l. refl) t.to sent
    ∙ ap (changed_at (with_received t.bytes t.messages) t.to) (set-changed (with_sent t.bytes) t.from loads d)
    ∙ sym (ap (λ b. if b then changed_at (with_kept t.bytes) t.from loads
    else changed_at (with_received t.bytes t.messages) t.to (changed_at (with_sent t.bytes) t.from loads)) (ne_eqb t.from t.to other))

-- and the one that adds what a rank moves to itself
pub kept_added : (loads : List Load) (t : Transfer) (d : Load) → t.from ≡ t.to
    → set loads t.from (with_kept t.bytes (get_or loads t.from d)) ≡ with_transfer loads t
kept_added loads t d same =
    set-changed (with_kept t.bytes) t.from loads d
    ∙ sym (ap (λ b. if b then changed_at (with_kept t.bytes) t.from loads
    else changed_at (with_received t.bytes t.messages) t.to (changed_at (with_sent t.bytes) t.from loads)) (eq-eqb t.from t.to same))

all_changed : {X : Type 0} (P Q : X → Type 0) (f : X → X) → ((x : X) → P x → Q x) → ((x : X) → P x → Q (f x)) → (i : ℕ) (xs : List X)
    → All P xs → All Q (changed_at f i xs)
all_changed P Q f keeps changes i [] all = All-nil Q
all_changed P Q f keeps changes zero (x ∷ xs) all =
    All-cons Q (f x) xs (changes x (All-head P x xs all)) (All-weaker P Q keeps xs (All-tail P x xs all))
all_changed P Q f keeps changes (suc i) (x ∷ xs) all =
    All-cons Q x (changed_at f i xs) (keeps x (All-head P x xs all)) (all_changed P Q f keeps changes i xs (All-tail P x xs all))

-- within one bound when what is sent is added, and within the other still
record IsWithinBoth (more most : ℕ) (l : Load) : Type 0 where
  sent : l.sent ≤ more
  received : l.received ≤ most
  kept : l.kept ≤ most
  messages : l.messages ≤ most

-- no number of a load grows by more than this when a transfer is added
abbrev pub weight : Transfer → ℕ
weight t = t.bytes + t.messages

within_transfer : (most : ℕ) (loads : List Load) (t : Transfer) → All (IsWithin most) loads
    → All (IsWithin (most + weight t)) (with_transfer loads t)
within_transfer most loads t all =
    elim (t.from == t.to) as (λ b. All (IsWithin (most + weight t))
    (if b then changed_at (with_kept t.bytes) t.from loads
    else changed_at (with_received t.bytes t.messages) t.to (changed_at (with_sent t.bytes) t.from loads))) [
      | true ↦ all_changed (IsWithin most) (IsWithin (most + weight t)) (with_kept t.bytes)
          (λ l h. record {
            sent = omega (arith, h.sent);
            received = omega (arith, h.received);
            kept = omega (arith, h.kept);
            messages = omega (arith, h.messages);
          })
          (λ l h. record {
            sent = omega (arith, h.sent);
            received = omega (arith, h.received);
            kept = omega (arith, h.kept);
            messages = omega (arith, h.messages);
          })
          t.from loads all
      | false ↦ all_changed (IsWithinBoth (most + weight t) most) (IsWithin (most + weight t)) (with_received t.bytes t.messages)
          (λ l h. record {
            sent = h.sent;
            received = omega (arith, h.received);
            kept = omega (arith, h.kept);
            messages = omega (arith, h.messages);
          })
          (λ l h. record {
            sent = h.sent;
            received = omega (arith, h.received);
            kept = omega (arith, h.kept);
            messages = omega (arith, h.messages);
          })
          t.to (changed_at (with_sent t.bytes) t.from loads)
          (all_changed (IsWithin most) (IsWithinBoth (most + weight t) most) (with_sent t.bytes)
          (λ l h. record { sent = omega (arith, h.sent); received = h.received; kept = h.kept; messages = h.messages })
          (λ l h. record { sent = omega (arith, h.sent); received = h.received; kept = h.kept; messages = h.messages })
          t.from loads all)
    ]

abbrev pub weight_of : List Transfer → ℕ
weight_of ts = sum_by weight ts

within_more : (less more : ℕ) (loads : List Load) → less ≤ more → All (IsWithin less) loads → All (IsWithin more) loads
within_more less more loads at_most all =
    All-weaker (IsWithin less) (IsWithin more)
    (λ l h. record {
      sent = omega (arith, h.sent, at_most);
      received = omega (arith, h.received, at_most);
      kept = omega (arith, h.kept, at_most);
      messages = omega (arith, h.messages, at_most);
    }) loads all

-- no load grows by more than all transfers weigh
pub within_transfers : (most : ℕ) (loads : List Load) (ts : List Transfer) → All (IsWithin most) loads
    → All (IsWithin (most + weight_of ts)) (with_transfers loads ts)
within_transfers most loads [] all = within_more most (most + 0) loads (omega arith) all
within_transfers most loads (t ∷ ts) all =
    within_more (most + weight t + weight_of ts) (most + weight_of (t ∷ ts)) (with_transfers (with_transfer loads t) ts)
    (omega (arith, sum_by-cons weight t ts))
    (within_transfers (most + weight t) (with_transfer loads t) ts (within_transfer most loads t all))

pub within_at_most : (most : ℕ) (less : ℕ) (loads : List Load) → less ≤ most → All (IsWithin less) loads → All (IsWithin most) loads
within_at_most most less loads at_most all = within_more less most loads at_most all

weight_moved : (caller : ℕ) (r : Asked) → weight (transfer caller r) ≤ size_of r + 1
weight_moved caller (asks_put p) = omega arith
weight_moved caller (asks_get g) = omega arith
weight_moved caller (asks_send m) = omega arith

-- requests weigh no more than the bytes that they count, and one for each
pub sizes_moved : (caller : ℕ) (rs : List Asked) → weight_of (transfers_of caller rs) ≤ sum_by size_of rs + length rs
sizes_moved caller [] = omega arith
sizes_moved caller (r ∷ rs) =
    let first = weight_moved caller r in
    let rest = sizes_moved caller rs in
    let sum : weight_of (transfers_of caller (r ∷ rs)) ≡ weight (transfer caller r) + weight_of (transfers_of caller rs) =
    sum_by-cons weight (transfer caller r) (transfers_of caller rs) in
    let sizes : sum_by size_of (r ∷ rs) ≡ size_of r + sum_by size_of rs = sum_by-cons size_of r rs in
    omega (arith, first, rest, sum, sizes)

-- one request more
pub next_transfer : (first loads after : List Load) (caller : ℕ) (rs : List Asked) (i : ℕ) (r : Asked)
    → loads ≡ with_transfers first (transfers_of caller (take i rs)) → slice_get rs i ≡ Some r
    → after ≡ with_transfer loads (transfer caller r) → after ≡ with_transfers first (transfers_of caller (take (i + 1) rs))
next_transfer first loads after caller rs i r before is added =
    added
    ∙ ap (λ ls. with_transfer ls (transfer caller r)) before
    ∙ sym (fold_push with_transfer first (transfers_of caller (take i rs)) (transfer caller r))
    ∙ ap (with_transfers first) (sym (map_push (transfer caller) (take i rs) r))
    ∙ ap (λ (q : Asked). with_transfers first (transfers_of caller (take i rs ++ q ∷ []))) (sym (get_or_from_slice_get rs i r r is))
    ∙ ap (λ (qs : List Asked). with_transfers first (transfers_of caller qs)) (sym (take_more rs i r (slice_get_within rs i r is)))

-- a request counts no more bytes than all of them
pub size_within : (rs : List Asked) (i : ℕ) (r : Asked) (most : ℕ) → slice_get rs i ≡ Some r → sum_by size_of rs ≤ most → size_of r ≤ most
size_within rs i r most is within =
    let here : size_of (get_or rs i r) ≡ size_of r = ap size_of (get_or_from_slice_get rs i r r is) in
    let part : size_of (get_or rs i r) ≤ sum_by size_of rs = get_or-le-sum_by size_of rs i r (slice_get_within rs i r is) in
    omega (arith, here, part)

-- the room that is left while requests are added
pub room_left : (loads : List Load) (caller : ℕ) (rs : List Asked) (i most more : ℕ) → All (IsWithin most) loads
    → most + sum_by size_of rs + length rs ≤ more → All (IsWithin more) (with_transfers loads (transfers_of caller (take i rs)))
room_left loads caller rs i most more all within =
    let moved : weight_of (transfers_of caller (take i rs)) ≤ sum_by size_of (take i rs) + length (take i rs) =
    sizes_moved caller (take i rs) in
    let part : sum_by size_of (take i rs) ≤ sum_by size_of rs = sum_by-take-le size_of rs i in
    within_more (most + weight_of (transfers_of caller (take i rs))) more (with_transfers loads (transfers_of caller (take i rs)))
    (omega (arith, moved, part, within, length-take i rs))
    (within_transfers most loads (transfers_of caller (take i rs)) all)
