-- How far the steps of a rank have come while they are counted. The definitions of counts do not rest on this.
use Rattle.std.specs.Prelude.{ℕ, List, [], slice_get}
use Rattle.std.specs.Option.{option_map_or}
use Rattle.node_core.specs.Node.{NodeState}
use Rattle.machine_core.specs.Machine.{MachineState}
use Rattle.step_counts.specs.Counts.{addresses}

-- the addresses of the steps that are left of its local part
abbrev pub addresses_at : MachineState → ℕ → List ℕ
addresses_at m rank = option_map_or (λ (n : NodeState). addresses m.input n) (slice_get m.nodes rank) []
