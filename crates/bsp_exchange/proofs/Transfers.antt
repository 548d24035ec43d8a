-- A transfer that keeps to its area keeps to its node's memory.
use Rattle.std.proofs.Common.{◌≡◌, ℕ, ◌+◌, ◌<◌, ◌≤◌, ◌^◌, false, not, leb, List, length, get_or, refl, sym, ap, ◌∙◌, [], arith, Option}
use Rattle.std.proofs.Common.{Some, None}
use Rattle.std.specs.Prelude.{IsTrue, slice_get, option_map}
use Rattle.std.specs.Option.{option_and_then, option_map_or}
use Rattle.std.proofs.lemmas.Bool.{true≢false}
use Rattle.std.proofs.lemmas.Bool.Decides.{nat_tests}
use Rattle.std.proofs.lemmas.Option.{slice_get-map, slice_get_read, slice_get_within, get_or_from_slice_get}
use Rattle.node_memory.specs.Bytes.{fits, bytes_at, is_memory_size}
use Rattle.bsp_slots.specs.declared.area.Area.{Area}
use Rattle.bsp_requests.specs.declared.request.Get.{Get}
use Rattle.node_core.specs.Communication.{LiesIn}
use Rattle.node_core.specs.Hart.{IsHart}
use Rattle.node_core.specs.Node.{NodeState, PreparedNode}
use Rattle.bsp_exchange.specs.Areas.{area_at}
use Rattle.bsp_exchange.specs.Exchange.{states}
use Rattle.bsp_exchange.specs.Faults.{is_outside}
use Rattle.bsp_exchange.specs.Landings.{area_start, memory_of}
use Rattle.bsp_exchange.specs.Arrivals.{fetched}
use Rattle.bsp_exchange.proofs.Finds.{area_of}
use Rattle.bsp_exchange.proofs.Gathered.{length-states}

-- the memory of a rank's node is that of the node at its place
pub memory_at : (ps : List PreparedNode) (rank : ℕ) (p : PreparedNode) → rank < length ps → p ≡ get_or ps rank p
    → memory_of (states ps) rank ≡ p.node.hart.memory
memory_at ps rank p there is =
    ap (λ (o : Option NodeState). option_map_or (λ (n : NodeState). n.hart.memory) o [])
    (slice_get-map (λ (q : PreparedNode). q.node) ps rank
    ∙ ap (option_map (λ (q : PreparedNode). q.node)) (slice_get_read ps (length ps) rank p refl there is))

memory_size : (n : ℕ) → IsTrue (is_memory_size n) → n ≤ 2 ^ 31
memory_size n is = grind (arith, nat_tests, is)

fits_from : (size addr len : ℕ) → addr + len ≤ size → IsTrue (fits size addr len)
fits_from size addr len h = grind (arith, nat_tests, h)

-- a registered area lies in the memory
area_within : (p : PreparedNode) (slot : ℕ) (area : Area) → IsHart p.node.hart
    → slice_get p.node.hart.communication.registrations.in_effect slot ≡ Some area → area.addr + area.size ≤ length p.node.hart.memory
area_within p slot area hart found =
    let areas = p.node.hart.communication.registrations.in_effect in
    let lies : LiesIn (length p.node.hart.memory) (get_or areas slot area) =
    hart.communication.areas slot area (slice_get_within areas slot area found) in
    let here : LiesIn (length p.node.hart.memory) area = rw (← get_or_from_slice_get areas slot area area found) lies in
    grind (arith, nat_tests, here)

-- a range that keeps to an area
within_area : (offset len size : ℕ) → not (leb (offset + len) size) ≡ false → offset + len ≤ size
within_area offset len size inside = grind (arith, nat_tests, inside)

transfer_within : (ps : List PreparedNode) (rank slot offset len : ℕ) (area : Area) (p : PreparedNode) → rank < length ps
    → p ≡ get_or ps rank p → IsHart p.node.hart → area_at (states ps) rank slot ≡ Some area
    → is_outside (states ps) rank slot offset len ≡ false → area.addr + offset + len ≤ length p.node.hart.memory
transfer_within ps rank slot offset len area p there is hart found inside =
    let here : slice_get p.node.hart.communication.registrations.in_effect slot ≡ Some area =
    sym (area_of ps rank slot p (slice_get_read ps (length ps) rank p refl there is)) ∙ found in
    let room : area.addr + area.size ≤ length p.node.hart.memory = area_within p slot area hart here in
    let kept : offset + len ≤ area.size = within_area offset len area.size (rw found at inside) in
    omega (arith, room, kept)

-- and so its end is no more than that of the greatest memory
pub transfer_most : (ps : List PreparedNode) (rank slot offset len : ℕ) (area : Area) (p : PreparedNode) → rank < length ps
    → p ≡ get_or ps rank p → IsHart p.node.hart → area_at (states ps) rank slot ≡ Some area
    → is_outside (states ps) rank slot offset len ≡ false → area.addr + offset + len ≤ 2 ^ 31
transfer_most ps rank slot offset len area p there is hart found inside =
    let within = transfer_within ps rank slot offset len area p there is hart found inside in
    let size : length p.node.hart.memory ≤ 2 ^ 31 = memory_size (length p.node.hart.memory) hart.memory in
    omega (arith, within, size)

pub transfer_range : (ps : List PreparedNode) (rank slot offset len : ℕ) (area : Area) (p : PreparedNode) → rank < length ps
    → p ≡ get_or ps rank p → IsHart p.node.hart → area_at (states ps) rank slot ≡ Some area
    → is_outside (states ps) rank slot offset len ≡ false → IsTrue (fits (length (memory_of (states ps) rank)) (area.addr + offset) len)
transfer_range ps rank slot offset len area p there is hart found inside =
    rw (memory_at ps rank p there is)
    (fits_from (length p.node.hart.memory) (area.addr + offset) len
    (transfer_within ps rank slot offset len area p there is hart found inside))

-- what a get fetches, by its memory and where it begins
pub fetched_is : (nodes : List NodeState) (g : Get) (memory : List ℕ) (start : ℕ) → memory_of nodes g.target ≡ memory
    → start ≡ area_start nodes g.target g.slot + g.offset → record { addr = g.dst; bytes = bytes_at memory start g.len } ≡ fetched nodes g
fetched_is nodes g memory start m s =
    ap (λ (b : List ℕ). record { addr = g.dst; bytes = bytes_at b start g.len }) (sym m)
    ∙ ap (λ (a : ℕ). record { addr = g.dst; bytes = bytes_at (memory_of nodes g.target) a g.len }) s

-- where a transfer begins
pub start_at : (ps : List PreparedNode) (rank slot offset : ℕ) (area : Area) → area_at (states ps) rank slot ≡ Some area
    → area.addr + offset ≡ area_start (states ps) rank slot + offset
start_at ps rank slot offset area found = rw found refl

-- a transfer that keeps to its area has one
pub never_without : (ps : List PreparedNode) (rank slot offset len : ℕ) → area_at (states ps) rank slot ≡ None
    → is_outside (states ps) rank slot offset len ≡ false → ⊥
never_without ps rank slot offset len none inside = true≢false (rw none at inside)

-- and so has its node
pub node_there : (ps : List PreparedNode) (rank slot offset len : ℕ) → is_outside (states ps) rank slot offset len ≡ false
    → rank < length ps
node_there ps rank slot offset len inside = by (slice_get (states ps) rank) refl
  where
    by : (o : Option NodeState) → slice_get (states ps) rank ≡ o → rank < length ps
    by None none =
        absurd (never_without ps rank slot offset len
        (ap (option_and_then (λ (n : NodeState). slice_get n.hart.communication.registrations.in_effect slot)) none) inside)
    by (Some n) is = let within = slice_get_within (states ps) rank n is in rw (length-states ps) at within
