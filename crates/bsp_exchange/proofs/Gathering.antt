-- What each node receives, gathered request by request, is what the definitions say that it receives.
use Rattle.std.proofs.Common.{◌≡◌, ℕ, ◌+◌, ◌<◌, ◌≤◌, ◌==◌, zero, suc, Bool, true, false, cond, List, [], ◌∷◌, ◌++◌, length, map, replicate}
use Rattle.std.proofs.Common.{refl, sym, ap, ap₂, ◌∙◌, append_assoc, arith, Some, None}
use Rattle.std.specs.List.{cons_option, filter, filter_map, range_with_len}
use Rattle.std.proofs.lemmas.List.{append-nil}
use Rattle.std.proofs.lemmas.Bool.{eq-eqb, ne_eqb}
use Rattle.bsp_requests.specs.Message.{Message}
use Rattle.bsp_requests.specs.Request.{Asked, asks_put, asks_get, asks_send}
use Rattle.node_core.specs.Node.{NodeState}
use Rattle.bsp_exchange.specs.Issued.{Issued, issued}
use Rattle.bsp_exchange.specs.Landings.{Landing, area_start, landing_of_get, landing_of_put, get_landing, put_landing}
use Rattle.bsp_exchange.specs.Arrivals.{Received, nothing, with_get, with_put, with_message, fetched, with_asked, with_issued, received_at}
use Rattle.bsp_exchange.specs.Parts.{Patch, patch_of, changed_at}
use Rattle.bsp_exchange.specs.Queues.{message_to}

-- two functions that agree from some number on make one list of the numbers from there on
map-agree : {X : Type 0} (f g : ℕ → X) (s n : ℕ) → ((r : ℕ) → s ≤ r → f r ≡ g r) → map f (range_with_len s n) ≡ map g (range_with_len s n)
map-agree f g s zero same = refl
map-agree f g s (suc n) same = ap₂ (λ x xs. x ∷ xs) (same s (omega arith)) (map-agree f g (s + 1) n (λ r from. same r (omega arith)))

-- a function changed at one place
abbrev changed_from : {X : Type 0} → (X → X) → ℕ → (ℕ → X) → ℕ → X
changed_from g place f r = cond (place == r) (g (f r)) (f r)

changed_from-here : {X : Type 0} (g : X → X) (f : ℕ → X) (place r : ℕ) → place ≡ r → g (f r) ≡ changed_from g place f r
changed_from-here g f place r is = ap (λ b. cond b (g (f r)) (f r)) (sym (eq-eqb place r is))

changed_from-other : {X : Type 0} (g : X → X) (f : ℕ → X) (place r : ℕ) → place < r → f r ≡ changed_from g place f r
changed_from-other g f place r below = ap (λ b. cond b (g (f r)) (f r)) (sym (ne_eqb place r (λ is. omega arith)))

-- a list made by index, changed at a place
changed_at-map : {X : Type 0} (g : X → X) (f : ℕ → X) (i s n place : ℕ) → place ≡ s + i
    → changed_at g i (map f (range_with_len s n)) ≡ map (changed_from g place f) (range_with_len s n)
changed_at-map g f i s zero place is = refl
changed_at-map g f zero s (suc n) place is =
    ap₂ (λ x xs. x ∷ xs) (changed_from-here g f place s (omega arith))
    (map-agree f (changed_from g place f) (s + 1) n (λ r from. changed_from-other g f place r (omega arith)))
changed_at-map g f (suc i) s (suc n) place is =
    ap₂ (λ x xs. x ∷ xs) (ap (λ b. cond b (g (f s)) (f s)) (sym (ne_eqb place s (λ same. omega arith))))
    (changed_at-map g f i (s + 1) n place (omega arith))

-- one part after another
abbrev joined : Received → Received → Received
joined a b = record { gets = a.gets ++ b.gets; puts = a.puts ++ b.puts; messages = a.messages ++ b.messages }

-- what a rank's node receives of some requests
abbrev received_of : List NodeState → List Issued → ℕ → Received
received_of nodes is rank = record {
  gets = map patch_of (filter (λ l. l.rank == rank) (filter_map (λ i. landing_of_get nodes i.rank i.issue i.request) is));
  puts = map patch_of (filter (λ l. l.rank == rank) (filter_map (λ i. landing_of_put nodes i.rank i.issue i.request) is));
  messages = filter_map (λ i. message_to rank i.rank i.request) is;
}

-- what the nodes receive, by rank, when a caller's request is added
abbrev parts_with : List NodeState → ℕ → Asked → (ℕ → Received) → ℕ → Received
parts_with nodes caller (asks_put p) f =
    changed_from (with_put (record { addr = area_start nodes p.target p.slot + p.offset; bytes = p.bytes })) p.target f
parts_with nodes caller (asks_get g) f = changed_from (with_get (fetched nodes g)) caller f
parts_with nodes caller (asks_send m) f =
    changed_from (with_message (record { sender = caller; tag = m.tag; payload = m.payload })) m.target f

with_asked-map : (nodes : List NodeState) (caller : ℕ) (q : Asked) (f : ℕ → Received) (n : ℕ)
    → with_asked nodes caller (map f (range_with_len 0 n)) q ≡ map (parts_with nodes caller q f) (range_with_len 0 n)
with_asked-map nodes caller (asks_put p) f n = changed_at-map _ f p.target 0 n p.target (omega arith)
with_asked-map nodes caller (asks_get g) f n = changed_at-map _ f caller 0 n caller (omega arith)
with_asked-map nodes caller (asks_send m) f n = changed_at-map _ f m.target 0 n m.target (omega arith)

-- one element that is or is not for a node, before others that are
with_get-joined : (b : Bool) (a rest : Received) (l : Landing) (ls : List Landing)
    → joined (cond b (with_get (patch_of l) a) a) (record rest { gets = map patch_of ls })
    ≡ joined a (record rest { gets = map patch_of (cond b (l ∷ ls) ls) })
with_get-joined true a rest l ls =
    ap (λ (ps : List Patch). record (joined a rest) { gets = ps }) (append_assoc a.gets (patch_of l ∷ []) (map patch_of ls))
with_get-joined false a rest l ls = refl

with_put-joined : (b : Bool) (a rest : Received) (l : Landing) (ls : List Landing)
    → joined (cond b (with_put (patch_of l) a) a) (record rest { puts = map patch_of ls })
    ≡ joined a (record rest { puts = map patch_of (cond b (l ∷ ls) ls) })
with_put-joined true a rest l ls =
    ap (λ (ps : List Patch). record (joined a rest) { puts = ps }) (append_assoc a.puts (patch_of l ∷ []) (map patch_of ls))
with_put-joined false a rest l ls = refl

with_message-joined : (b : Bool) (a rest : Received) (m : Message)
    → joined (cond b (with_message m a) a) rest ≡ joined a (record rest { messages = cons_option (cond b (Some m) None) rest.messages })
with_message-joined true a rest m =
    ap (λ (ms : List Message). record (joined a rest) { messages = ms }) (append_assoc a.messages (m ∷ []) rest.messages)
with_message-joined false a rest m = refl

-- a request added to the parts, or put before the requests that are still to be added
with_next : (nodes : List NodeState) (f : ℕ → Received) (caller issue : ℕ) (q : Asked) (is : List Issued) (r : ℕ)
    → joined (parts_with nodes caller q f r) (received_of nodes is r)
    ≡ joined (f r) (received_of nodes (record { rank = caller; issue = issue; request = q } ∷ is) r)
with_next nodes f caller issue (asks_put p) is r =
    with_put-joined (p.target == r) (f r) (received_of nodes is r) (put_landing nodes caller issue p) _
with_next nodes f caller issue (asks_get g) is r =
    with_get-joined (caller == r) (f r) (received_of nodes is r) (get_landing nodes caller issue g) _
with_next nodes f caller issue (asks_send m) is r =
    with_message-joined (m.target == r) (f r) (received_of nodes is r) (record { sender = caller; tag = m.tag; payload = m.payload })

joined-nothing : (a : Received) → a ≡ joined a nothing
joined-nothing a = simp append-nil

-- requests added to parts that are given by rank
gathered_of : (nodes : List NodeState) (n : ℕ) (f : ℕ → Received) (is : List Issued)
    → with_issued nodes (map f (range_with_len 0 n)) is ≡ map (λ r. joined (f r) (received_of nodes is r)) (range_with_len 0 n)
gathered_of nodes n f [] = map-agree f (λ r. joined (f r) nothing) 0 n (λ r _. joined-nothing (f r))
gathered_of nodes n f (i ∷ is) =
    let g : ℕ → Received = parts_with nodes i.rank i.request f in
    ap (λ (parts : List Received). with_issued nodes parts is) (with_asked-map nodes i.rank i.request f n)
    ∙ gathered_of nodes n g is
    ∙ map-agree (λ r. joined (g r) (received_of nodes is r)) (λ r. joined (f r) (received_of nodes (i ∷ is) r)) 0 n
    (λ r _. with_next nodes f i.rank i.issue i.request is r)

replicate-map : {X : Type 0} (x : X) (s n : ℕ) → replicate n x ≡ map (λ _. x) (range_with_len s n)
replicate-map x s zero = refl
replicate-map x s (suc n) = ap (λ xs. x ∷ xs) (replicate-map x (s + 1) n)

-- all requests added, from nothing on
pub gathered : (nodes : List NodeState)
    → with_issued nodes (replicate (length nodes) nothing) (issued nodes) ≡ map (received_at nodes) (range_with_len 0 (length nodes))
gathered nodes =
    ap (λ (parts : List Received). with_issued nodes parts (issued nodes)) (replicate-map nothing 0 (length nodes))
    ∙ gathered_of nodes (length nodes) (λ _. nothing) (issued nodes)
