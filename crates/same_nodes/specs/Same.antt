-- What is compared of the record of a node (own rule): all but the most ticks that it may make, and of this superstep's pushes and pops no
-- more than their kinds, their order and the places that pops took away. Which pages are private, and whether room is made, is beside the
-- record.
use Rattle.std.specs.Prelude.{◌≡◌, ℕ, ◌<◌, List, slice_index, Option, Some, None}
use Rattle.std.specs.List.{AllZip}
use Rattle.bsp_slots.specs.Registrations.{HasSameShape, Registrations}
use Rattle.float_unit.specs.State.{FloatState}
use Rattle.node_core.specs.Hart.{Hart, with_registrations}
use Rattle.node_core.specs.Node.{NodeState, PreparedNode}

-- two units of floating point have the same in each register, the same mode and the same flags
pub record UnitsLookAlike (one other : FloatState) : Type 0 where
  pub registers : (r : ℕ) → r < 32 → slice_index one.registers r ≡ slice_index other.registers r
  pub frm : one.frm ≡ other.frm
  pub flags : one.flags ≡ other.flags

-- both nodes have such units, or neither has one
abbrev pub OptionalUnitsLookAlike : Option FloatState → Option FloatState → Type 0
OptionalUnitsLookAlike None None = Unit {0}
OptionalUnitsLookAlike None (Some v) = ⊥
OptionalUnitsLookAlike (Some u) None = ⊥
OptionalUnitsLookAlike (Some u) (Some v) = UnitsLookAlike u v

-- registrations with the pushes and pops of others
abbrev pub with_changes : Registrations → Registrations → Registrations
with_changes seen r = record r { changes = seen.changes }

-- a hart with what no reader shows whole of another: its pushes and pops, and its unit
abbrev pub with_unseen_hart : Hart → Hart → Hart
with_unseen_hart seen h =
    with_registrations (with_changes seen.communication.registrations h.communication.registrations) (record h { unit = seen.unit })

-- a node likewise, and with the other's limit
abbrev pub with_unseen : NodeState → NodeState → NodeState
with_unseen seen n = record n { limit = seen.limit; hart = with_unseen_hart seen.hart n.hart }

-- no reader of the record tells one node from another: they are equal but for what none shows whole, and what is shown of that is the same
pub record LookAlike (one other : NodeState) : Type 0 where
  pub seen : one ≡ with_unseen one other
  pub units : OptionalUnitsLookAlike one.hart.unit other.hart.unit
  pub shape : HasSameShape one.hart.communication.registrations other.hart.communication.registrations

-- two rows have as many nodes, and those at one place look alike
abbrev pub RowsLookAlike : List PreparedNode → List PreparedNode → Type 0
RowsLookAlike row other = AllZip (λ (a : PreparedNode) (b : PreparedNode). LookAlike a.node b.node) row other

-- ---- on the way there

-- what is asked of harts alone
pub record HartsLookAlike (one other : Hart) : Type 0 where
  pub rank : one.rank ≡ other.rank
  pub nprocs : one.nprocs ≡ other.nprocs
  pub registers : one.registers ≡ other.registers
  pub pc : one.pc ≡ other.pc
  pub cursor : one.cursor ≡ other.cursor
  pub units : OptionalUnitsLookAlike one.unit other.unit
  pub reservation : one.reservation ≡ other.reservation

-- what is asked of what they communicate
pub record CommunicationLooksAlike (one other : Hart) : Type 0 where
  pub in_effect : one.communication.registrations.in_effect ≡ other.communication.registrations.in_effect
  pub shape : HasSameShape one.communication.registrations other.communication.registrations
  pub large : one.communication.registrations.large ≡ other.communication.registrations.large
  pub requests : one.communication.requests ≡ other.communication.requests
  pub queue : one.communication.queue ≡ other.communication.queue
  pub tag_size : one.communication.tag_size ≡ other.communication.tag_size
  pub next_tag_size : one.communication.next_tag_size ≡ other.communication.next_tag_size
