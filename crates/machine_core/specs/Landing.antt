-- The turn in two halves, between which the parts of its exchange land. BSPlib (Hill and others, 1998: `bsp_sync`) leaves open who
-- lands them; that a machine hands them out is an own form.
use Rattle.std.specs.Prelude.{◌≡◌, List, true, None, IfOk, IsTrue, IsSome}
use Rattle.std.specs.List.{AllZip}
use Rattle.node_core.specs.Node.{NodeState, PreparedNode}
use Rattle.bsp_exchange.specs.Exchange.{states}
use Rattle.bsp_exchange.specs.Parts.{PartState, CanPrepare, landed, parts_of}
use Rattle.machine_core.specs.declared.event.Event.TheVariants.{Turn}
use Rattle.machine_core.specs.declared.machine.turn.Begun.{Begun}
use Rattle.machine_core.specs.declared.machine.turn.Begun.TheVariants.{Whole, Landing}
use Rattle.machine_core.specs.Events.{IsAnswered, is_enabled}
use Rattle.machine_core.specs.Machine.{MachineState}
use Rattle.machine_core.specs.Turn.{outcome_of}

-- the turn of a machine makes the exchange, whose parts are handed out with its row. Each node can be prepared for the part at its
-- place, which lands there then
pub record IsHandedOut (old exchanging : MachineState) (nodes : List PreparedNode) (parts : List PartState) : Type 0 where
  pub enabled : is_enabled old Turn ≡ true
  pub exchanges : outcome_of old.nodes ≡ None
  pub rest : exchanging ≡ old
  pub row : states nodes ≡ old.nodes
  pub gathered : parts ≡ parts_of old.nodes
  pub ready : AllZip CanPrepare parts (states nodes)

-- a turn that has begun: whole, and with an outcome if it was made, or with parts that have to land in nodes that are prepared for them
abbrev pub HasBegun : {A : Type 0} → MachineState → Begun A → Type 0
HasBegun m (Whole new answer) = IsAnswered Turn m new answer × IfOk answer (λ made. IsTrue made → IsSome new.outcome)
HasBegun m (Landing at) = IsHandedOut m at.exchanging at.nodes.items at.parts.items

-- the row of a machine's nodes, in each of which its part of their exchange has landed
abbrev pub row_landed : List NodeState → List NodeState
row_landed nodes = landed (parts_of nodes) nodes
