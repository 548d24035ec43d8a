-- Why an exchange is refused. The nodes have to agree on the next tag size and on the sequence of registrations (BSPlib, Hill and
-- others 1998: `bsp_set_tagsize`, `bsp_push_reg` and `bsp_pop_reg` are to be called alike by all processes), and puts and gets have
-- to keep to the registered areas. That these are faults, and their order, is an own rule.
use Rattle.std.specs.Prelude.{◌≡◌, ◌↔◌, ℕ, ◌+◌, ◌==◌, Bool, false, not, nat_le, List, [], ◌∷◌, ◌++◌, codes, length, find, Option, Some}
use Rattle.std.specs.Prelude.{None, Result, IsErrOf, option_map, nat_eq}
use Rattle.std.specs.Option.{option_or, option_map_or, option_eq}
use Rattle.std.specs.Cmp.Lexicographic.{pointwise}
use Rattle.std.specs.Fmt.{decimal}
use Rattle.bsp_slots.specs.declared.area.Area.{Area}
use Rattle.bsp_slots.specs.Registrations.{shape}
use Rattle.bsp_requests.specs.Request.{Asked, asks_put, asks_get, asks_send}
use Rattle.node_core.specs.Node.{NodeState}
use Rattle.bsp_exchange.specs.declared.fault.ExchangeError.{ExchangeError}
use Rattle.bsp_exchange.specs.declared.fault.ExchangeError.TheVariants.{Fault}
use Rattle.bsp_exchange.specs.declared.fault.ExchangeFault.{ExchangeFault}
use Rattle.bsp_exchange.specs.declared.fault.ExchangeFault.TheVariants.{TagMismatch, SlotMismatch, OutsideArea}
use Rattle.bsp_exchange.specs.Areas.{area_at}
use Rattle.bsp_exchange.specs.Issued.{Issued, issued}

-- the rank of the first node that does not agree with rank 0's
abbrev pub disagreeing : (NodeState → NodeState → Bool) → List NodeState → Option ℕ
disagreeing agree [] = None
disagreeing agree (first ∷ rest) = option_map (λ (n : NodeState). n.hart.rank) (find (λ n. not (agree first n)) (first ∷ rest))

abbrev pub have_same_tag_size : NodeState → NodeState → Bool
have_same_tag_size a b = a.hart.communication.next_tag_size == b.hart.communication.next_tag_size

-- both made the same pushes and pops in this superstep, a push whatever its address and size, and a pop by the position that it
-- removed
abbrev pub have_same_shape : NodeState → NodeState → Bool
have_same_shape a b =
    pointwise (option_eq nat_eq) (shape a.hart.communication.registrations) (shape b.hart.communication.registrations)

-- a transfer of `len` bytes from `offset` on passes the end of the area at a place of a rank's list in effect, or there is no such
-- area. The sum does not wrap
abbrev pub is_outside : List NodeState → ℕ → ℕ → ℕ → ℕ → Bool
is_outside nodes rank slot offset len =
    not (option_map_or (λ (area : Area). nat_le (offset + len) area.size) (area_at nodes rank slot) false)

-- a put or a get, also one of 0 bytes, that does not keep to its area
abbrev pub leaves_area : List NodeState → Asked → Bool
leaves_area nodes (asks_put p) = is_outside nodes p.target p.slot p.offset (length p.bytes)
leaves_area nodes (asks_get g) = is_outside nodes g.target g.slot g.offset g.len
leaves_area nodes (asks_send m) = false

-- the fault of a request that does not keep to its area
abbrev pub fault_of : Issued → ExchangeFault
fault_of i = OutsideArea i.rank i.issue

-- the fault of the first of some requests that is a put or a get and does not keep to its area
abbrev pub first_outside : List NodeState → List Issued → Option ExchangeFault
first_outside nodes requests = option_map fault_of (find (λ i. leaves_area nodes i.request) requests)

-- the first fault, if there is one: of the tag sizes, of the registrations, and then of the requests in their order
abbrev pub exchange_fault : List NodeState → Option ExchangeFault
exchange_fault nodes =
    option_or (option_map TagMismatch (disagreeing have_same_tag_size nodes))
    (option_or (option_map SlotMismatch (disagreeing have_same_shape nodes))
    (first_outside nodes (issued nodes)))

-- an answer names the fault that there is, and none where there is none: it may be then that memory is refused
abbrev pub NamesFault : {T : Type 0} → Result T ExchangeError → Option ExchangeFault → Type 0
NamesFault answer fault = (f : ExchangeFault) → IsErrOf answer (Fault f) ↔ (fault ≡ Some f)

-- what a fault is called in texts for users (own names)
abbrev pub fault_text : ExchangeFault → List ℕ
fault_text (TagMismatch rank) = codes "TagMismatch rank " ++ decimal rank
fault_text (SlotMismatch rank) = codes "SlotMismatch rank " ++ decimal rank
fault_text (OutsideArea rank issue) = codes "OutsideArea rank " ++ decimal rank ++ codes " request " ++ decimal issue
