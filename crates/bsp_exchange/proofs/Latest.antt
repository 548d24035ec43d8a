-- The latest landing that covers an address counts.
use Rattle.std.proofs.Common.{◌≡◌, ℕ, inl, inr, suc, Bool, true, false, cond, List, [], ◌∷◌, length, map, reverse, refl, sym, ap, ap₂}
use Rattle.std.proofs.Common.{subst, ◌∙◌, arith, Option, Some, None}
use Rattle.std.specs.Prelude.{All, Contains, IsTrue, find}
use Rattle.std.specs.List.{range_with_len}
use Rattle.std.specs.Option.{option_or, option_map_or}
use Rattle.std.proofs.lemmas.Bool.{cases_Bool, both_ways}
use Rattle.std.proofs.lemmas.List.{reverse-append}
use Rattle.std.proofs.lemmas.List.Elements.{All-nil, All-cons, All-head, All-tail, All-weaker, All-contains}
use Rattle.std.proofs.lemmas.List.Folds.{find-append}
use Rattle.node_memory.specs.Bytes.{byte_at}
use Rattle.node_core.specs.Node.{NodeState}
use Rattle.bsp_exchange.specs.Exchange.{AreAtSync}
use Rattle.bsp_exchange.specs.Landings.{Key, IsAtMost, Landing, KeysDoNotFall, HaveOwnKeys, AreSameLandings, landings_at, covers}
use Rattle.bsp_exchange.specs.Landings.{landing_byte, landed_byte, memory_after}
use Rattle.bsp_exchange.proofs.KeyOrder.{keys_do_not_fall, have_own_keys, pairs-head, pairs-tail}

-- the last one that passes is looked for in the rest of a list first
find-last : (p : Landing → Bool) (x : Landing) (xs : List Landing)
    → find p (reverse (x ∷ xs)) ≡ option_or (find p (reverse xs)) (cond (p x) (Some x) None)
find-last p x xs = ap (find p) (reverse-append (x ∷ []) xs) ∙ find-append p (reverse xs) (x ∷ [])

-- nothing passes, or this one does and is not earlier by its key than any that does
abbrev IsLatest : (Landing → Bool) → List Landing → Option Landing → Type 0
IsLatest p all None = All (λ x. p x ≡ false) all
IsLatest p all (Some m) = Contains all m × (p m ≡ true) × All (λ x. p x ≡ true → IsAtMost x.key m.key) all

contains-here : (x : Landing) (xs : List Landing) → Contains (x ∷ xs) x
contains-here x xs = (0, omega arith, refl)

contains-there : (x m : Landing) (xs : List Landing) → Contains xs m → Contains (x ∷ xs) m
contains-there x m xs there = (suc there.0, omega (arith, there.1), there.2)

at_most-itself : (k : Key) → IsAtMost k k
at_most-itself k = inr (refl, inr (refl, omega arith))

latest-one : (p : Landing → Bool) (x : Landing) (xs : List Landing) → All (λ y. p y ≡ false) xs
    → IsLatest p (x ∷ xs) (cond (p x) (Some x) None)
latest-one p x xs none = elim (cases_Bool (p x)) [
  | inl passes ↦ subst (λ b. IsLatest p (x ∷ xs) (cond b (Some x) None)) (sym passes) (
    contains-here x xs,
    passes,
    All-cons (λ y. p y ≡ true → IsAtMost y.key x.key) x xs (λ _. at_most-itself x.key)
        (All-weaker (λ y. p y ≡ false) (λ y. p y ≡ true → IsAtMost y.key x.key) (λ y no yes. absurd (both_ways (p y) no yes)) xs none),
  )
  | inr fails ↦ subst (λ b. IsLatest p (x ∷ xs) (cond b (Some x) None)) (sym fails) (All-cons (λ y. p y ≡ false) x xs fails none)
]

latest-more : (p : Landing → Bool) (x : Landing) (xs : List Landing) (o : Option Landing) → All (λ y. IsAtMost x.key y.key) xs
    → IsLatest p xs o → IsLatest p (x ∷ xs) (option_or o (cond (p x) (Some x) None))
latest-more p x xs None head latest = latest-one p x xs latest
latest-more p x xs (Some m) head latest = (
  contains-there x m xs latest.0,
  latest.1,
  All-cons (λ y. p y ≡ true → IsAtMost y.key m.key) x xs (λ _. All-contains (λ y. IsAtMost x.key y.key) xs m head latest.0) latest.2,
)

-- where keys do not fall, the last that passes is the latest
latest : (p : Landing → Bool) (all : List Landing) → KeysDoNotFall all → IsLatest p all (find p (reverse all))
latest p [] order = All-nil (λ (x : Landing). p x ≡ false)
latest p (x ∷ xs) order =
    subst (IsLatest p (x ∷ xs)) (sym (find-last p x xs))
    (latest-more p x xs (find p (reverse xs)) (pairs-head (λ a b. IsAtMost a.key b.key) x xs order)
    (latest p xs (pairs-tail (λ a b. IsAtMost a.key b.key) x xs order)))

same_key : (a b : Key) → a.kind ≡ b.kind → a.caller ≡ b.caller → a.issue ≡ b.issue → a ≡ b
same_key a b kind caller issue =
    let with_kind : ℕ → Key = λ k. record { kind = k; caller = a.caller; issue = a.issue } in
    let with_caller : ℕ → Key = λ c. record { kind = b.kind; caller = c; issue = a.issue } in
    let with_issue : ℕ → Key = λ i. record { kind = b.kind; caller = b.caller; issue = i } in
    ap with_kind kind ∙ ap with_caller caller ∙ ap with_issue issue

both_at_most : (a b : Key) → IsAtMost a b → IsAtMost b a → a ≡ b
both_at_most a b there back = elim there [
  | inl lower ↦ elim back [ inl higher ↦ absurd (omega (arith, lower, higher)) | inr rest ↦ absurd (omega (arith, lower, rest.0)) ]
  | inr rest ↦ elim back [
    | inl higher ↦ absurd (omega (arith, higher, rest.0))
    | inr too ↦ elim rest.1 [
      | inl lower ↦ elim too.1 [ inl higher ↦ absurd (omega (arith, lower, higher)) | inr same ↦ absurd (omega (arith, lower, same.0)) ]
      | inr same ↦ elim too.1 [
        | inl higher ↦ absurd (omega (arith, higher, same.0))
        | inr again ↦ same_key a b rest.0 same.0 (omega (arith, same.1, again.1))
      ]
    ]
  ]
]

-- ---- the byte of the greatest key

byte_of : (all : List Landing) (addr kept : ℕ) (l : Landing) (o : Option Landing) → HaveOwnKeys all → Contains all l
    → covers addr l ≡ true → All (λ x. covers addr x ≡ true → IsAtMost x.key l.key) all → IsLatest (covers addr) all o
    → option_map_or (landing_byte addr) o kept ≡ landing_byte addr l
byte_of all addr kept l None private there covering greatest is =
    absurd (both_ways (covers addr l) (All-contains (λ x. covers addr x ≡ false) all l is there) covering)
byte_of all addr kept l (Some m) private there covering greatest is =
    let up : IsAtMost m.key l.key = All-contains (λ x. covers addr x ≡ true → IsAtMost x.key l.key) all m greatest is.0 is.1 in
    let down : IsAtMost l.key m.key = All-contains (λ x. covers addr x ≡ true → IsAtMost x.key m.key) all l is.2 there covering in
    ap (landing_byte addr) (private m l is.0 there (both_at_most m.key l.key up down))

pub greatest_lands : (nodes : List NodeState) (rank addr : ℕ) (memory : List ℕ) (l : Landing) → AreAtSync nodes
    → Contains (landings_at nodes rank) l → IsTrue (covers addr l)
    → All (λ other. IsTrue (covers addr other) → IsAtMost other.key l.key) (landings_at nodes rank)
    → landed_byte (landings_at nodes rank) memory addr ≡ landing_byte addr l
greatest_lands nodes rank addr memory l row there covering greatest =
    let all = landings_at nodes rank in
    byte_of all addr (byte_at memory addr) l (find (covers addr) (reverse all)) (have_own_keys nodes rank row) there covering greatest
    (latest (covers addr) all (keys_do_not_fall nodes rank row))

find-none : (p : Landing → Bool) (all : List Landing) → All (λ x. p x ≡ false) all → find p (reverse all) ≡ None
find-none p [] none = refl
find-none p (x ∷ xs) none =
    find-last p x xs
    ∙ ap (λ o. option_or o (cond (p x) (Some x) None)) (find-none p xs (All-tail (λ x. p x ≡ false) x xs none))
    ∙ ap (λ b. cond b (Some x) None) (All-head (λ x. p x ≡ false) x xs none)

uncovered : (all : List Landing) (addr : ℕ) (memory : List ℕ) → All (λ l. covers addr l ≡ false) all
    → landed_byte all memory addr ≡ byte_at memory addr
uncovered all addr memory none = ap (λ o. option_map_or (landing_byte addr) o (byte_at memory addr)) (find-none (covers addr) all none)

pub uncovered_stays : (nodes : List NodeState) (rank addr : ℕ) (memory : List ℕ)
    → All (λ l. covers addr l ≡ false) (landings_at nodes rank) → landed_byte (landings_at nodes rank) memory addr ≡ byte_at memory addr
uncovered_stays nodes rank addr memory none = uncovered (landings_at nodes rank) addr memory none

-- ---- other lists of the same landings

all-same_landings : (P : Landing → Type 0) (others all : List Landing) → All (Contains others) all → All P others → All P all
all-same_landings P others all same holds = All-weaker (Contains others) P (λ l there. All-contains P others l holds there) all same

byte_of_others : (others all : List Landing) (memory : List ℕ) (addr : ℕ) (o : Option Landing) → AreSameLandings others all
    → KeysDoNotFall all → HaveOwnKeys all → IsLatest (covers addr) others o
    → option_map_or (landing_byte addr) o (byte_at memory addr) ≡ landed_byte all memory addr
byte_of_others others all memory addr None same order private is =
    sym (uncovered all addr memory (all-same_landings (λ l. covers addr l ≡ false) others all same.0 is))
byte_of_others others all memory addr (Some m) same order private is =
    sym (byte_of all addr (byte_at memory addr) m (find (covers addr) (reverse all)) private
    (All-contains (Contains all) others m same.1 is.0)
    is.1
    (all-same_landings (λ l. covers addr l ≡ true → IsAtMost l.key m.key) others all same.0 is.2)
    (latest (covers addr) all order))

pub same_byte : (nodes : List NodeState) (rank addr : ℕ) (memory : List ℕ) (others : List Landing) → AreAtSync nodes
    → AreSameLandings others (landings_at nodes rank) → KeysDoNotFall others
    → landed_byte others memory addr ≡ landed_byte (landings_at nodes rank) memory addr
same_byte nodes rank addr memory others row same order =
    byte_of_others others (landings_at nodes rank) memory addr (find (covers addr) (reverse others)) same (keys_do_not_fall nodes rank row)
    (have_own_keys nodes rank row)
    (latest (covers addr) others order)

map-agree : {X Y : Type 0} (f g : X → Y) (xs : List X) → ((x : X) → f x ≡ g x) → map f xs ≡ map g xs
map-agree f g [] same = refl
map-agree f g (x ∷ xs) same = ap₂ (λ y ys. y ∷ ys) (same x) (map-agree f g xs same)

pub same_memory : (nodes : List NodeState) (rank : ℕ) (memory : List ℕ) (others : List Landing) → AreAtSync nodes
    → AreSameLandings others (landings_at nodes rank) → KeysDoNotFall others
    → memory_after others memory ≡ memory_after (landings_at nodes rank) memory
same_memory nodes rank memory others row same order =
    map-agree (landed_byte others memory) (landed_byte (landings_at nodes rank) memory) (range_with_len 0 (length memory))
    (λ addr. same_byte nodes rank addr memory others row same order)
