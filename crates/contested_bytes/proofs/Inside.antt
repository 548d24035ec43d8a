-- What an exchange lands lies in memories.
use Rattle.std.proofs.Common.{◌≡◌, ℕ, ◌+◌, ◌-◌, ◌<◌, ◌≤◌, inl, inr, Bool, true, false, not, cond, leb, List, [], ◌∷◌, length, get_or, map}
use Rattle.std.proofs.Common.{drop, refl, sym, ap, subst, ◌∙◌, arith, Option, Some, None}
use Rattle.std.specs.Prelude.{◌≢◌, Contains, IsTrue, find, option_map, slice_get}
use Rattle.std.specs.List.{enumerate_from}
use Rattle.std.specs.Option.{option_map_or}
use Rattle.std.proofs.lemmas.Bool.{true≢false}
use Rattle.std.proofs.lemmas.Bool.Decides.{nat_tests}
use Rattle.std.proofs.lemmas.List.Elements.{Contains-append_cases}
use Rattle.std.proofs.lemmas.List.{length-take}
use Rattle.std.proofs.lemmas.Option.{none-some, same_Some, slice_get_read, slice_get_within, get_or_from_slice_get}
use Rattle.node_memory.specs.Bytes.{byte_at, bytes_at, fits}
use Rattle.bsp_slots.specs.declared.area.Area.{Area}
use Rattle.bsp_requests.specs.Request.{Asked, asks_put, asks_get, asks_send}
use Rattle.node_core.specs.Communication.{IsWellAddressed, LiesIn}
use Rattle.node_core.specs.Hart.{IsHart}
use Rattle.node_core.specs.Node.{NodeState}
use Rattle.bsp_exchange.specs.Faults.{is_outside, leaves_area, fault_of}
use Rattle.bsp_exchange.specs.Issued.{Issued, issued_as, issued_by, issued}
use Rattle.bsp_exchange.specs.Landings.{Landing, area_start, get_landing, landing_byte, landings, memory_of, put_landing}
use Rattle.bsp_exchange.specs.Parts.{CanExchange}
use Rattle.bsp_exchange.proofs.Landed.{rank_is}
use Rattle.contested_bytes.specs.declared.range.ContestedRange.{ContestedRange}
use Rattle.contested_bytes.specs.Contested.{reaches, IsContested, MayLie}
use Rattle.contested_bytes.specs.Gathered.{landing_of}
use Rattle.contested_bytes.specs.Ranges.{IsContestedRange}
use Rattle.contested_bytes.proofs.Compared.{reaches-rank, reaches-end}
use Rattle.contested_bytes.proofs.Orders.{last_byte, memory_exchanged}
use Rattle.contested_bytes.proofs.Requested.{contains-cons, contains-head, contains-split, none_outside, request_of}

-- ---- a range that keeps to its area

within_area : (offset len size : ℕ) → not (leb (offset + len) size) ≡ false → offset + len ≤ size
within_area offset len size inside = grind (arith, nat_tests, inside)

fits_to : (size addr len : ℕ) → IsTrue (fits size addr len) → addr + len ≤ size
fits_to size addr len is = grind (arith, nat_tests, is)

abbrev areas_of : NodeState → List Area
areas_of n = n.hart.communication.registrations.in_effect

in_area : (n : NodeState) (slot offset len : ℕ) → IsHart n.hart
    → not (option_map_or (λ (area : Area). leb (offset + len) area.size) (slice_get (areas_of n) slot) false) ≡ false
    → option_map_or (λ (area : Area). area.addr) (slice_get (areas_of n) slot) 0 + offset + len ≤ length n.hart.memory
in_area n slot offset len hart inside = by (slice_get (areas_of n) slot) refl
  where
    by : (o : Option Area) → slice_get (areas_of n) slot ≡ o
        → option_map_or (λ (area : Area). area.addr) (slice_get (areas_of n) slot) 0 + offset + len ≤ length n.hart.memory
    by None none = absurd (true≢false (rw none at inside))
    by (Some area) is =
        let lies : IsTrue (fits (length n.hart.memory) (get_or (areas_of n) slot area).addr (get_or (areas_of n) slot area).size) =
        hart.communication.areas slot area (slice_get_within (areas_of n) slot area is) in
        let here : IsTrue (fits (length n.hart.memory) area.addr area.size) =
        subst (LiesIn (length n.hart.memory)) (get_or_from_slice_get (areas_of n) slot area area is) lies in
        let room = fits_to (length n.hart.memory) area.addr area.size here in
        let kept : offset + len ≤ area.size = within_area offset len area.size (rw is at inside) in
        rw is (omega (arith, room, kept))

-- an address lies in the memory of a rank's node
abbrev pub LiesInMemory : List NodeState → ℕ → ℕ → Type 0
LiesInMemory nodes rank addr = (rank < length nodes) × (addr < length (memory_of nodes rank))

put_inside : (nodes : List NodeState) (rank slot offset len addr : ℕ) → CanExchange nodes → is_outside nodes rank slot offset len ≡ false
    → addr < area_start nodes rank slot + offset + len → LiesInMemory nodes rank addr
put_inside nodes rank slot offset len addr can inside before = by (slice_get nodes rank) refl
  where
    by : (o : Option NodeState) → slice_get nodes rank ≡ o → LiesInMemory nodes rank addr
    by None none = absurd (true≢false (rw none at inside))
    by (Some n) is =
        let hart : IsHart n.hart =
        subst (λ (x : NodeState). IsHart x.hart) (get_or_from_slice_get nodes rank n n is)
        (can.sound rank n (slice_get_within nodes rank n is)) in
        let room = in_area n slot offset len hart (rw is at inside) in
        let there : addr < option_map_or (λ (area : Area). area.addr) (slice_get (areas_of n) slot) 0 + offset + len = rw is at before in
        (slice_get_within nodes rank n is, rw is (omega (arith, room, there)))

get_inside : (nodes : List NodeState) (n : NodeState) (addr dst len : ℕ) → CanExchange nodes → Contains nodes n
    → IsTrue (fits (length n.hart.memory) dst len) → addr < dst + len → LiesInMemory nodes n.hart.rank addr
get_inside nodes n addr dst len can among room before =
    let is : slice_get nodes among.0 ≡ Some n = slice_get_read nodes (length nodes) among.0 n refl among.1 (sym among.2) in
    let rank : n.hart.rank ≡ among.0 = rank_is nodes can.row among.0 n is in
    let fit = fits_to (length n.hart.memory) dst len room in
    rw rank (among.1, rw is (omega (arith, fit, before)))

short : (m : List ℕ) (from len : ℕ) → length (bytes_at m from len) ≤ len
short m from len = let e = length-take (from + len - from) (drop from m) in omega (arith, e)

-- ---- the requests of nodes

numbered : (rank first : ℕ) (rs : List Asked) (i : Issued) → Contains (map (issued_as rank) (enumerate_from first rs)) i
    → (i.rank ≡ rank) × Contains rs i.request
numbered rank first [] i there = absurd (omega (arith, there.1))
numbered rank first (r ∷ rs) i there =
    elim (contains-split (issued_as rank (first, r)) (map (issued_as rank) (enumerate_from (first + 1) rs)) i there) [
      | inl here ↦ (sym (ap (λ (x : Issued). x.rank) here), (0, omega arith, ap (λ (x : Issued). x.request) here))
      | inr later ↦ let found = numbered rank (first + 1) rs i later in (found.0, contains-cons r rs i.request found.1)
    ]

-- one of the nodes asked for it
abbrev IsAskedFor : List NodeState → Issued → Type 0
IsAskedFor nodes i = (n : NodeState) × Contains nodes n × (i.rank ≡ n.hart.rank) × Contains n.hart.communication.requests.requests i.request

asked_by : (nodes : List NodeState) (i : Issued) → Contains (issued nodes) i → IsAskedFor nodes i
asked_by [] i there = absurd (omega (arith, there.1))
asked_by (n ∷ nodes) i there = elim (Contains-append_cases (issued_by n) (issued nodes) i there) [
  | inl here ↦ let found = numbered n.hart.rank 0 n.hart.communication.requests.requests i here in
      (n, contains-head n nodes, found.0, found.1)
  | inr later ↦ let found = asked_by nodes i later in (found.0, contains-cons n nodes found.0 found.1, found.2, found.3)
]

none_before : {X : Type 0} (b : Bool) (x : X) (rest : Option X) → cond b (Some x) rest ≡ None → (b ≡ false) × (rest ≡ None)
none_before true x rest none = absurd (none-some x (sym none))
none_before false x rest none = (refl, none)

none_found : {X : Type 0} (p : X → Bool) (xs : List X) (x : X) → find p xs ≡ None → Contains xs x → p x ≡ false
none_found p [] x none there = absurd (omega (arith, there.1))
none_found p (y ∷ xs) x none there =
    let parts = none_before (p y) y (find p xs) none in
    elim (contains-split y xs x there) [
      | inl same ↦ sym (ap p same) ∙ parts.0
      | inr later ↦ none_found p xs x parts.1 later
    ]

none_mapped : {X Y : Type 0} (f : X → Y) (o : Option X) → option_map f o ≡ None → o ≡ None
none_mapped f None none = refl
none_mapped f (Some x) none = absurd (none-some (f x) (sym none))

keeps_inside : (nodes : List NodeState) (i : Issued) → CanExchange nodes → Contains (issued nodes) i → leaves_area nodes i.request ≡ false
keeps_inside nodes i can there =
    none_found (λ (j : Issued). leaves_area nodes j.request) (issued nodes) i
    (none_mapped fault_of _ (none_outside nodes can.faultless)) there

-- ---- what a request lands

lands_inside : (nodes : List NodeState) (n : NodeState) (caller issue addr : ℕ) (l : Landing) (r : Asked) → CanExchange nodes
    → Contains nodes n → caller ≡ n.hart.rank
    → leaves_area nodes r ≡ false → IsWellAddressed n.hart.nprocs (length (areas_of n)) (length n.hart.memory) r
    → landing_of nodes caller issue r ≡ Some l → addr < l.addr + length l.bytes → LiesInMemory nodes l.rank addr
lands_inside nodes n caller issue addr l (asks_put p) can among asked inside well is before =
    let same = same_Some (put_landing nodes caller issue p) l is in
    subst (λ (rank : ℕ). LiesInMemory nodes rank addr) (ap (λ (x : Landing). x.rank) same)
    (put_inside nodes p.target p.slot p.offset (length p.bytes) addr can inside
    (subst (λ (x : Landing). addr < x.addr + length x.bytes) (sym same) before))
lands_inside nodes n caller issue addr l (asks_get g) can among asked inside well is before =
    let same = same_Some (get_landing nodes caller issue g) l is in
    let there = subst (λ (x : Landing). addr < x.addr + length x.bytes) (sym same) before in
    let few = short (memory_of nodes g.target) (area_start nodes g.target g.slot + g.offset) g.len in
    subst (λ (rank : ℕ). LiesInMemory nodes rank addr) (sym asked ∙ ap (λ (x : Landing). x.rank) same)
    (get_inside nodes n addr g.dst g.len can among well.2 (omega (arith, there, few)))
lands_inside nodes n caller issue addr l (asks_send m) can among asked inside well is before = absurd (none-some l is)

pub landing_inside : (nodes : List NodeState) (l : Landing) (rank addr : ℕ) → CanExchange nodes → Contains (landings nodes) l
    → IsTrue (reaches rank addr l) → LiesInMemory nodes rank addr
landing_inside nodes l rank addr can there reached =
    let request = request_of nodes l there in
    let i = request.0 in
    let by = asked_by nodes i request.1 in
    let n = by.0 in
    let place = by.1 in
    let hart : IsHart n.hart = subst (λ (x : NodeState). IsHart x.hart) place.2 (can.sound place.0 n place.1) in
    let listed = by.3 in
    let well : IsWellAddressed n.hart.nprocs (length (areas_of n)) (length n.hart.memory) i.request =
    subst (IsWellAddressed n.hart.nprocs (length (areas_of n)) (length n.hart.memory)) listed.2
    (hart.communication.targets listed.0 i.request listed.1) in
    subst (λ (r : ℕ). LiesInMemory nodes r addr) (reaches-rank rank addr l reached)
    (lands_inside nodes n i.rank i.issue addr l i.request can place by.2 (keeps_inside nodes i can request.1) well request.2
    (reaches-end rank addr l reached))

pub contested_inside : (nodes : List NodeState) (rank addr : ℕ) → CanExchange nodes → IsContested (landings nodes) rank addr
    → LiesInMemory nodes rank addr
contested_inside nodes rank addr can contested = landing_inside nodes contested.0 rank addr can contested.2 contested.4.first

-- ---- what may lie there afterwards

pub may_lie : (nodes : List NodeState) (l : Landing) (rank addr : ℕ) → CanExchange nodes → Contains (landings nodes) l
    → IsTrue (reaches rank addr l) → MayLie nodes rank addr (landing_byte addr l)
may_lie nodes l rank addr can there reached =
    let inside = landing_inside nodes l rank addr can there reached in
    let last = last_byte (landings nodes) l rank addr (memory_of nodes rank) there reached inside.1 in
    (last.0, last.1, ap (λ (memory : List ℕ). byte_at memory addr) (memory_exchanged last.0 nodes rank can.row) ∙ last.2)

pub either_may_lie : (nodes : List NodeState) (rank addr : ℕ) → CanExchange nodes → IsContested (landings nodes) rank addr
    → (one two : ℕ) × MayLie nodes rank addr one × MayLie nodes rank addr two × (one ≢ two)
either_may_lie nodes rank addr can contested = (
  landing_byte addr contested.0,
  landing_byte addr contested.1,
  may_lie nodes contested.0 rank addr can contested.2 contested.4.first,
  may_lie nodes contested.1 rank addr can contested.3 contested.4.second,
  contested.4.bytes,
)

pub named_may_lie : (nodes : List NodeState) (c : ContestedRange) → CanExchange nodes → IsContestedRange (landings nodes) c
    → MayLie nodes c.rank c.addr c.first.byte × MayLie nodes c.rank c.addr c.second.byte × (c.first.byte ≢ c.second.byte)
named_may_lie nodes c can range =
    let first = range.first in
    let second = range.second in (
      subst (MayLie nodes c.rank c.addr) first.4 (may_lie nodes first.0 c.rank c.addr can first.1 first.3),
      subst (MayLie nodes c.rank c.addr) second.4 (may_lie nodes second.0 c.rank c.addr can second.1 second.3),
      range.differ,
    )
