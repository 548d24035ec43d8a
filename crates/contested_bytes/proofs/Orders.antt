-- What lands in one order of some landings, and in another.
use Rattle.std.proofs.Common.{◌≡◌, ℕ, suc, ◌<◌, ◌==◌, ◌&&◌, inl, inr, Bool, true, false, cond, List, [], ◌∷◌, ◌++◌, length, get_or, map}
use Rattle.std.proofs.Common.{reverse, refl, sym, ap, ap₂, subst, ◌∙◌, arith, Option, Some, None}
use Rattle.std.specs.Prelude.{◌≢◌, All, Contains, IsTrue, find, filter, option_map, slice_get}
use Rattle.std.specs.List.{range_with_len, remove}
use Rattle.std.specs.Option.{option_or, option_map_or}
use Rattle.std.proofs.lemmas.Bool.{cases_eq, both_ways}
use Rattle.std.proofs.lemmas.List.{reverse-append}
use Rattle.std.proofs.lemmas.List.Elements.{All-nil, All-cons, All-contains, filter-append}
use Rattle.std.proofs.lemmas.List.Folds.{find-append}
use Rattle.std.proofs.lemmas.List.FromFn.{get_or-map-range_with_len}
use Rattle.std.proofs.lemmas.List.Sorted.{Contains-permutation, IsPermutation-sym, IsPermutation-trans, IsPermutation-remove}
use Rattle.std.proofs.lemmas.List.Sorted.{IsPermutation-to_front}
use Rattle.std.proofs.lemmas.Option.{slice_get-map}
use Rattle.node_memory.specs.Bytes.{byte_at}
use Rattle.node_core.specs.Hart.{with_memory}
use Rattle.node_core.specs.Node.{NodeState}
use Rattle.node_core.specs.Turn.{next_superstep}
use Rattle.bsp_exchange.specs.Exchange.{AreAtSync, exchanged}
use Rattle.bsp_exchange.specs.Landings.{Landing, covers, landing_byte, landed_byte, landings, memory_of}
use Rattle.bsp_exchange.specs.Queues.{queue_after}
use Rattle.bsp_exchange.proofs.Landed.{rank_is}
use Rattle.contested_bytes.specs.Contested.{reaches, IsContested, IsSettled, AreSettled, IsAllowedOrder, memory_in, exchanged_node_in}
use Rattle.contested_bytes.specs.Contested.{exchanged_in}

-- those of some landings that come into the memory of a rank
abbrev at_rank : ℕ → List Landing → List Landing
at_rank rank order = filter (λ l. l.rank == rank) order

-- the landing that counts at an address of a rank: the last that reaches it
abbrev last_at : ℕ → ℕ → List Landing → Option Landing
last_at rank addr order = find (covers addr) (reverse (at_rank rank order))

or-none : {X : Type 0} (o : Option X) → option_or o None ≡ o
or-none None = refl
or-none (Some x) = refl

last-append : (rank addr : ℕ) (xs ys : List Landing)
    → last_at rank addr (xs ++ ys) ≡ option_or (last_at rank addr ys) (last_at rank addr xs)
last-append rank addr xs ys =
    ap (λ l. find (covers addr) (reverse l)) (filter-append (λ l. l.rank == rank) xs ys)
    ∙ ap (find (covers addr)) (reverse-append (at_rank rank xs) (at_rank rank ys))
    ∙ find-append (covers addr) (reverse (at_rank rank ys)) (reverse (at_rank rank xs))

last-one : (rank addr : ℕ) (x : Landing) (here : Bool)
    → find (covers addr) (reverse (cond here (x ∷ []) [])) ≡ cond (here && covers addr x) (Some x) None
last-one rank addr x true = refl
last-one rank addr x false = refl

last-cons : (rank addr : ℕ) (x : Landing) (xs : List Landing)
    → last_at rank addr (x ∷ xs) ≡ option_or (last_at rank addr xs) (cond (reaches rank addr x) (Some x) None)
last-cons rank addr x xs =
    last-append rank addr (x ∷ []) xs ∙ ap (option_or (last_at rank addr xs)) (last-one rank addr x (x.rank == rank))

-- none passes, or this one is among them and does
abbrev IsFoundIn : (Landing → Bool) → List Landing → Option Landing → Type 0
IsFoundIn p all None = All (λ x. p x ≡ false) all
IsFoundIn p all (Some m) = Contains all m × IsTrue (p m)

found-more : (p : Landing → Bool) (x : Landing) (xs : List Landing) (o : Option Landing) (here : Bool) → p x ≡ here → IsFoundIn p xs o
    → IsFoundIn p (x ∷ xs) (option_or o (cond here (Some x) None))
found-more p x xs None true is found = ((0, omega arith, refl), is)
found-more p x xs None false is found = All-cons (λ y. p y ≡ false) x xs is found
found-more p x xs (Some m) here is found = ((suc found.0.0, omega (arith, found.0.1), found.0.2), found.1)

found : (rank addr : ℕ) (order : List Landing) → IsFoundIn (reaches rank addr) order (last_at rank addr order)
found rank addr [] = All-nil (λ (x : Landing). reaches rank addr x ≡ false)
found rank addr (x ∷ xs) =
    subst (IsFoundIn (reaches rank addr) (x ∷ xs)) (sym (last-cons rank addr x xs))
    (found-more (reaches rank addr) x xs (last_at rank addr xs) (reaches rank addr x) refl (found rank addr xs))

-- ---- a byte that is settled

same_found : (all one two : List Landing) (rank addr kept : ℕ) (a b : Option Landing) → IsSettled all rank addr → IsAllowedOrder all one
    → IsAllowedOrder all two → IsFoundIn (reaches rank addr) one a → IsFoundIn (reaches rank addr) two b
    → option_map_or (landing_byte addr) a kept ≡ option_map_or (landing_byte addr) b kept
same_found all one two rank addr kept None None settled first second here there = refl
same_found all one two rank addr kept None (Some b) settled first second here there =
    let among = Contains-permutation all one b first (Contains-permutation two all b (IsPermutation-sym all two second) there.0) in
    absurd (both_ways (reaches rank addr b) (All-contains (λ x. reaches rank addr x ≡ false) one b here among) there.1)
same_found all one two rank addr kept (Some a) None settled first second here there =
    let among = Contains-permutation all two a second (Contains-permutation one all a (IsPermutation-sym all one first) here.0) in
    absurd (both_ways (reaches rank addr a) (All-contains (λ x. reaches rank addr x ≡ false) two a there among) here.1)
same_found all one two rank addr kept (Some a) (Some b) settled first second here there =
    elim (cases_eq (landing_byte addr a) (landing_byte addr b)) [
      | inl same ↦ same
      | inr apart ↦ absurd (settled (
        a,
        b,
        Contains-permutation one all a (IsPermutation-sym all one first) here.0,
        Contains-permutation two all b (IsPermutation-sym all two second) there.0,
        record { first = here.1; second = there.1; bytes = apart },
      ))
    ]

pub settled_byte : (all one two : List Landing) (rank addr : ℕ) (memory : List ℕ) → IsSettled all rank addr → IsAllowedOrder all one
    → IsAllowedOrder all two → landed_byte (at_rank rank one) memory addr ≡ landed_byte (at_rank rank two) memory addr
settled_byte all one two rank addr memory settled first second =
    same_found all one two rank addr (byte_at memory addr) (last_at rank addr one) (last_at rank addr two) settled first second
    (found rank addr one) (found rank addr two)

map-agree : {X Y : Type 0} (f g : X → Y) (xs : List X) → ((x : X) → f x ≡ g x) → map f xs ≡ map g xs
map-agree f g [] same = refl
map-agree f g (x ∷ xs) same = ap₂ (λ y ys. y ∷ ys) (same x) (map-agree f g xs same)

pub settled_memory : (all one two : List Landing) (rank : ℕ) (memory : List ℕ) → ((addr : ℕ) → IsSettled all rank addr)
    → IsAllowedOrder all one → IsAllowedOrder all two → memory_in one rank memory ≡ memory_in two rank memory
settled_memory all one two rank memory settled first second =
    map-agree (landed_byte (at_rank rank one) memory) (landed_byte (at_rank rank two) memory) (range_with_len 0 (length memory))
    (λ addr. settled_byte all one two rank addr memory (settled addr) first second)

pub settled_row : (nodes : List NodeState) (one two : List Landing) → AreSettled (landings nodes) → IsAllowedOrder (landings nodes) one
    → IsAllowedOrder (landings nodes) two → exchanged_in one nodes ≡ exchanged_in two nodes
settled_row nodes one two settled first second =
    map-agree (exchanged_node_in one nodes) (exchanged_node_in two nodes) nodes (λ n.
    ap (λ (memory : List ℕ). next_superstep (queue_after nodes n.hart.rank) (record n { hart = with_memory memory n.hart }))
    (settled_memory (landings nodes) one two n.hart.rank n.hart.memory (settled n.hart.rank) first second))

pub own_order : (nodes : List NodeState) → exchanged nodes ≡ exchanged_in (landings nodes) nodes
own_order nodes = refl

-- ---- a byte that is contested

-- these landings with one of them last
abbrev with_last : List Landing → Landing → ℕ → List Landing
with_last all l place = remove all place ++ l ∷ []

last_allowed : (all : List Landing) (l : Landing) (place : ℕ) → place < length all → get_or all place l ≡ l
    → IsAllowedOrder all (with_last all l place)
last_allowed all l place within is =
    IsPermutation-trans all (l ∷ remove all place) (with_last all l place) (IsPermutation-remove all place l within (sym is))
    (IsPermutation-sym (with_last all l place) (l ∷ remove all place) (IsPermutation-to_front (remove all place) l))

last_counts : (all : List Landing) (l : Landing) (place rank addr : ℕ) → IsTrue (reaches rank addr l)
    → last_at rank addr (with_last all l place) ≡ Some l
last_counts all l place rank addr reached =
    last-append rank addr (remove all place) (l ∷ [])
    ∙ ap (λ o. option_or o (last_at rank addr (remove all place)))
    (last-one rank addr l (l.rank == rank) ∙ ap (λ b. cond b (Some l) None) reached)

-- what lies at an address of a memory is what landed there
pub byte_after : (order : List Landing) (rank addr : ℕ) (memory : List ℕ) → addr < length memory
    → byte_at (memory_in order rank memory) addr ≡ landed_byte (at_rank rank order) memory addr
byte_after order rank addr memory within =
    get_or-map-range_with_len (landed_byte (at_rank rank order) memory) 0 (length memory) addr addr 0 within (omega arith)

byte_of_last : (all : List Landing) (l : Landing) (place rank addr : ℕ) (memory : List ℕ) → addr < length memory
    → IsTrue (reaches rank addr l) → byte_at (memory_in (with_last all l place) rank memory) addr ≡ landing_byte addr l
byte_of_last all l place rank addr memory within reached =
    byte_after (with_last all l place) rank addr memory within
    ∙ ap (λ o. option_map_or (landing_byte addr) o (byte_at memory addr)) (last_counts all l place rank addr reached)

-- each landing is the last in some order
pub last_byte : (all : List Landing) (l : Landing) (rank addr : ℕ) (memory : List ℕ) → Contains all l → IsTrue (reaches rank addr l)
    → addr < length memory
    → (order : List Landing) × IsAllowedOrder all order × (byte_at (memory_in order rank memory) addr ≡ landing_byte addr l)
last_byte all l rank addr memory there reached within =
    (with_last all l there.0, last_allowed all l there.0 there.1 there.2, byte_of_last all l there.0 rank addr memory within reached)

pub contested_byte : (all : List Landing) (rank addr : ℕ) (memory : List ℕ) → IsContested all rank addr → addr < length memory
    → (one two : List Landing) × IsAllowedOrder all one × IsAllowedOrder all two
    × (byte_at (memory_in one rank memory) addr ≢ byte_at (memory_in two rank memory) addr)
contested_byte all rank addr memory contested within =
    let first = last_byte all contested.0 rank addr memory contested.2 contested.4.first within in
    let second = last_byte all contested.1 rank addr memory contested.3 contested.4.second within in
    (first.0, second.0, first.1, second.1, λ same. contested.4.bytes (sym first.2 ∙ same ∙ second.2))

-- the memory of a rank's node after an exchange
pub memory_exchanged : (order : List Landing) (nodes : List NodeState) (rank : ℕ) → AreAtSync nodes
    → memory_of (exchanged_in order nodes) rank ≡ memory_in order rank (memory_of nodes rank)
memory_exchanged order nodes rank row =
    ap (λ (o : Option NodeState). option_map_or (λ (n : NodeState). n.hart.memory) o [])
    (slice_get-map (exchanged_node_in order nodes) nodes rank) ∙ by (slice_get nodes rank) refl
  where
    by : (o : Option NodeState) → slice_get nodes rank ≡ o
        → option_map_or (λ (n : NodeState). n.hart.memory) (option_map (exchanged_node_in order nodes) o) []
        ≡ memory_in order rank (option_map_or (λ (n : NodeState). n.hart.memory) o [])
    by None none = refl
    by (Some n) is = ap (λ (r : ℕ). memory_in order r n.hart.memory) (rank_is nodes row rank n is)
