-- What an exchange keeps of nodes.
use Rattle.std.proofs.Common.{◌≡◌, ℕ, ◌*◌, ◌^◌, ◌<◌, ◌≤◌, Bool, true, false, not, ◌&&◌, List, [], ◌∷◌, length, map, All, Option, Some, None}
use Rattle.std.proofs.Common.{refl, sym, ap, ap₂, ◌∙◌, arith, length-append}
use Rattle.std.specs.Prelude.{◌==◌, nat_eq, filter_map, find, if◌then◌else◌, IfSome}
use Rattle.std.specs.Cmp.Lexicographic.{pointwise}
use Rattle.std.specs.List.{cons_option, enumerate_from, range_with_len}
use Rattle.std.specs.Option.{option_eq}
use Rattle.std.proofs.lemmas.Bool.{eqb-true}
use Rattle.std.proofs.lemmas.List.{length-map}
use Rattle.std.proofs.lemmas.List.Elements.{All-nil, All-cons, All-head, All-tail, All-append, All-map}
use Rattle.std.proofs.lemmas.List.FromFn.{length-range_with_len, get_or-enumerate_from, length-enumerate_from}
use Rattle.std.proofs.lemmas.List.Sums.{get_or-le-sum_by}
use Rattle.bsp_slots.specs.Registrations.{Registrations, IsSound, next_list, shape, turned}
use Rattle.bsp_slots.proofs.Shapes.{length-registrations_after}
use Rattle.bsp_requests.specs.Message.{Message, IsShort}
use Rattle.bsp_requests.specs.Request.{Asked, asks_put, asks_get, asks_send, size_of}
use Rattle.node_core.specs.declared.state.State.TheVariants.{Running, Synced}
use Rattle.node_core.specs.Communication.{Communication, IsCommunication}
use Rattle.node_core.specs.Hart.{max_nodes}
use Rattle.node_core.specs.Node.{NodeState, IsNode, IsSoundNode}
use Rattle.node_core.specs.Turn.{next_communication}
use Rattle.node_core.proofs.Sound.{state_at-running}
use Rattle.bsp_exchange.specs.declared.fault.ExchangeFault.TheVariants.{SlotMismatch}
use Rattle.bsp_exchange.specs.Exchange.{exchanged, exchanged_node}
use Rattle.bsp_exchange.specs.Faults.{disagreeing, have_same_shape, exchange_fault}
use Rattle.bsp_exchange.specs.Issued.{Issued, issued, issued_as, issued_by}
use Rattle.bsp_exchange.specs.Landings.{Landing, landed_byte, landings_at, memory_after}
use Rattle.bsp_exchange.specs.Queues.{message_to, queue_after}
use Rattle.bsp_exchange.proofs.Limits.{bytes_at_most, requests_at_most}
use Rattle.machine_core.proofs.Options.{option_or_none, option_map_none, find_none}

pub length-memory_after : (all : List Landing) (memory : List ℕ) → length (memory_after all memory) ≡ length memory
length-memory_after all memory =
    length-map (range_with_len 0 (length memory)) (landed_byte all memory) ∙ length-range_with_len 0 (length memory)

-- what is the same of each node after the exchange is the same of all
pub map-exchanged : {Y : Type 0} (all : List NodeState) (f : NodeState → Y) → ((n : NodeState) → f (exchanged_node all n) ≡ f n)
    → (nodes : List NodeState) → map f (map (exchanged_node all) nodes) ≡ map f nodes
map-exchanged all f same [] = refl
map-exchanged all f same (n ∷ rest) = ap₂ ◌∷◌ (same n) (map-exchanged all f same rest)

IsSound-turned : (r : Registrations) → IsSound r → IsSound (turned r)
IsSound-turned r sound = record {
  in_effect_fits = sound.next_fits;
  next_fits = sound.next_fits;
  pushes_fit = omega arith;
  names_removals = tt;
}

-- a request within the limits of a superstep is one itself
abbrev IsModest : Issued → Type 0
IsModest i = size_of i.request ≤ 2 ^ 30

length-issued_by : (n : NodeState) → length (issued_by n) ≡ length n.hart.communication.requests.requests
length-issued_by n =
    length-map (enumerate_from 0 n.hart.communication.requests.requests) (issued_as n.hart.rank)
    ∙ length-enumerate_from 0 n.hart.communication.requests.requests

IsModest-by : (n : NodeState) → IsSoundNode n → All IsModest (issued_by n)
IsModest-by n sound =
    let requests = n.hart.communication.requests.requests in
    All-map IsModest (issued_as n.hart.rank) (enumerate_from 0 requests) (λ k d within.
    let long = length-enumerate_from 0 requests in
    let within' : k < length requests = omega arith in
    let here = get_or-enumerate_from 0 requests k d within' in
    let one = get_or-le-sum_by size_of requests k d.1 within' in
    rw here (omega (arith, one, bytes_at_most n.hart.communication.requests sound.hart.communication.requests)))

issued-all : (nodes : List NodeState) → All IsSoundNode nodes
    → (length (issued nodes) ≤ length nodes * 2 ^ 24) × All IsModest (issued nodes)
issued-all [] sound = (omega arith, All-nil IsModest)
issued-all (n ∷ rest) sound =
    let here = All-head IsSoundNode n rest sound in
    let there = issued-all rest (All-tail IsSoundNode n rest sound) in
    let few = requests_at_most n.hart.communication.requests here.hart.communication.requests in
    let long = length-append (issued_by n) (issued rest) in
    let own = length-issued_by n in
    (rw (long, own) (omega (arith, few, there.0)), All-append IsModest (issued_by n) (issued rest) (IsModest-by n here) there.1)

-- each request gives one message or none
IsShort-message : (rank sender : ℕ) (q : Asked) → size_of q ≤ 2 ^ 30 → IfSome (message_to rank sender q) IsShort
IsShort-message rank sender (asks_put p) modest = tt
IsShort-message rank sender (asks_get g) modest = tt
IsShort-message rank sender (asks_send m) modest = by (m.target == rank)
  where
    by : (mine : Bool) → IfSome (if mine then Some (record { sender = sender; tag = m.tag; payload = m.payload }) else None) IsShort
    by true = record { tag = omega arith; payload = omega arith }
    by false = tt

messages-all : (rank : ℕ) (all : List Issued) → All IsModest all
    → (length (filter_map (λ i. message_to rank i.rank i.request) all) ≤ length all)
    × All IsShort (filter_map (λ i. message_to rank i.rank i.request) all)
messages-all rank [] modest = (omega arith, All-nil IsShort)
messages-all rank (i ∷ rest) modest =
    let there = messages-all rank rest (All-tail IsModest i rest modest) in
    by (message_to rank i.rank i.request) (filter_map (λ i. message_to rank i.rank i.request) rest)
    (IsShort-message rank i.rank i.request (All-head IsModest i rest modest)) there
  where
    by : (o : Option Message) (ms : List Message) → IfSome o IsShort → (length ms ≤ length rest) × All IsShort ms
        → (length (cons_option o ms) ≤ length (i ∷ rest)) × All IsShort (cons_option o ms)
    by None ms short there = (omega (arith, there.0), there.1)
    by (Some m) ms short there = (omega (arith, there.0), All-cons IsShort m ms short there.1)

IsNode-exchanged : (all : List NodeState) (n : NodeState) → IsNode n → n.state ≡ Synced → IsNode (exchanged_node all n)
IsNode-exchanged all n sound waits =
    let stepped = sound.has_stepped (rw waits refl) in
    record {
      limited = sound.limited;
      within = sound.within;
      has_ticks_left = λ running. state_at-running Running n.ticks n.limit running sound.within;
      has_stepped = λ _. stepped;
      is_fresh = λ none. absurd (omega (arith, none, stepped));
    }

IsCommunication-exchanged : (queue : List Message) (nprocs size : ℕ) (c : Communication) → IsCommunication nprocs size c
    → length queue < 2 ^ 41 → All IsShort queue → IsCommunication nprocs size (next_communication queue c)
IsCommunication-exchanged queue nprocs size c sound few short = record {
  registrations = IsSound-turned c.registrations sound.registrations;
  areas = sound.next_areas;
  next_areas = sound.next_areas;
  requests = record { requests = omega arith; bytes = omega arith };
  targets = All-nil _;
  few = few;
  short = short;
  tag_size = sound.next_tag_size;
  next_tag_size = sound.next_tag_size;
}

pub IsSoundNode-exchanged : (nodes : List NodeState) → length nodes ≤ max_nodes → All IsSoundNode nodes → (n : NodeState) → IsSoundNode n
    → n.state ≡ Synced → IsSoundNode (exchanged_node nodes n)
IsSoundNode-exchanged nodes few all n sound waits =
    let asked = issued-all nodes all in
    let sent = messages-all n.hart.rank (issued nodes) asked.1 in
    let size = length-memory_after (landings_at nodes n.hart.rank) n.hart.memory in
    record {
      node = IsNode-exchanged nodes n sound.node waits;
      hart = record {
        ranked = sound.hart.ranked;
        few = sound.hart.few;
        thirty_two = sound.hart.thirty_two;
        x0 = sound.hart.x0;
        memory = rw size sound.hart.memory;
        communication =
            rw size (IsCommunication-exchanged (queue_after nodes n.hart.rank) n.hart.nprocs
            (length n.hart.memory) n.hart.communication sound.hart.communication (omega (arith, asked.0, sent.0)) sent.1);
      };
    }

and_true : (a b : Bool) → a && b ≡ true → (a ≡ true) × (b ≡ true)
and_true true b both = (refl, both)
and_true false b both = absurd cc

same_shape : (xs ys : List (Option ℕ)) → pointwise (option_eq nat_eq) xs ys ≡ true → xs ≡ ys
same_shape [] [] same = refl
same_shape [] (y ∷ ys) same = absurd cc
same_shape (x ∷ xs) [] same = absurd cc
same_shape (x ∷ xs) (y ∷ ys) same =
    let both = and_true (option_eq nat_eq x y) (pointwise (option_eq nat_eq) xs ys) same in
    ap₂ ◌∷◌ (by x y both.0) (same_shape xs ys both.1)
  where
    by : (x y : Option ℕ) → option_eq nat_eq x y ≡ true → x ≡ y
    by None None e = refl
    by None (Some b) e = absurd cc
    by (Some a) None e = absurd cc
    by (Some a) (Some b) e = ap (λ k. Some k) (eqb-true a b e)

not_false : (b : Bool) → not b ≡ false → b ≡ true
not_false true e = refl
not_false false e = absurd cc

abbrev registrations : NodeState → Registrations
registrations n = n.hart.communication.registrations

-- the next lists of two nodes that made the same pushes and pops
next_areas : (a b : NodeState) → IsSoundNode a → IsSoundNode b → not (have_same_shape a b) ≡ false
    → length (registrations a).in_effect ≡ length (registrations b).in_effect
    → length (next_list (registrations b)) ≡ length (next_list (registrations a))
next_areas a b sound sound' same long =
    let shapes = same_shape (shape (registrations a)) (shape (registrations b)) (not_false (have_same_shape a b) same) in
    sym (length-registrations_after
    (registrations a).in_effect (registrations b).in_effect (registrations a).changes (registrations b).changes
    sound.hart.communication.registrations.names_removals sound'.hart.communication.registrations.names_removals shapes long)

agreed : (first : NodeState) (rest : List NodeState) → exchange_fault (first ∷ rest) ≡ None
    → All (λ n. not (have_same_shape first n) ≡ false) (first ∷ rest)
agreed first rest fine =
    let nodes : List NodeState = first ∷ rest in
    let tags = option_or_none _ _ fine in
    let slots = option_or_none _ _ tags.1 in
    let none = option_map_none SlotMismatch (disagreeing have_same_shape nodes) slots.0 in
    find_none (λ n. not (have_same_shape first n)) nodes
    (option_map_none (λ (n : NodeState). n.hart.rank) (find (λ n. not (have_same_shape first n)) nodes) none)

pub areas-exchanged : (nodes : List NodeState) → exchange_fault nodes ≡ None → All IsSoundNode nodes
    → (count : ℕ) × All (λ n. length n.hart.communication.registrations.in_effect ≡ count) nodes
    → (count : ℕ) × All (λ n. length n.hart.communication.registrations.in_effect ≡ count) (exchanged nodes)
areas-exchanged [] fine all areas = (0, All-nil _)
areas-exchanged (first ∷ rest) fine all areas =
    let nodes : List NodeState = first ∷ rest in
    let same = agreed first rest fine in
    let long = areas.1 0 first (omega arith) in (
      length (next_list (registrations first)),
      All-map (λ (n : NodeState). length (registrations n).in_effect ≡ length (next_list (registrations first)))
          (exchanged_node nodes) nodes (λ k d within.
          next_areas first _ (all 0 first (omega arith)) (all k d within) (same k d within) (long ∙ sym (areas.1 k d within))),
    )
