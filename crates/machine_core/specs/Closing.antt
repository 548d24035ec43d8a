-- How a superstep ends for the nodes of a machine, before the machine takes it down.
use Rattle.std.specs.Prelude.{◌≡◌, List, Some, None}
use Rattle.std.specs.List.{AllZip}
use Rattle.node_core.specs.Node.{NodeState}
use Rattle.bsp_exchange.specs.declared.traffic.Traffic.{Traffic}
use Rattle.bsp_exchange.specs.Parts.{PartState, CanExchange, CanPrepare, parts_of}
use Rattle.bsp_exchange.specs.Traffic.{traffic_of}
use Rattle.machine_core.specs.declared.closing.Closing.{Closing}
use Rattle.machine_core.specs.declared.closing.Closing.TheVariants.{Over, Drafted}
use Rattle.machine_core.specs.Turn.{outcome_of}

-- the exchange of nodes is drafted: they have no outcome, and each node can be prepared for the part at its place
pub record IsDrafted (nodes : List NodeState) (parts : List PartState) (moved : Traffic) : Type 0 where
  pub none : outcome_of nodes ≡ None
  pub exchanges : CanExchange nodes
  pub gathered : parts ≡ parts_of nodes
  pub ready : AllZip CanPrepare parts nodes
  pub traffic : moved ≡ traffic_of nodes

-- nodes none of which runs have an outcome, or there is none and the exchange is drafted
abbrev pub Closes : {A : Type 0} → List NodeState → Closing A → Type 0
Closes nodes (Over outcome) = outcome_of nodes ≡ Some outcome
Closes nodes (Drafted plan) = IsDrafted nodes plan.parts.items plan.traffic
