-- How far the steps of a rank have come while requests are noted. The definitions of exposed bytes do not rest on this.
use Rattle.std.specs.Prelude.{ℕ, List, [], slice_get}
use Rattle.std.specs.Option.{option_map_or}
use Rattle.node_core.specs.Node.{NodeState, local_step}
use Rattle.machine_core.specs.Machine.{MachineState}
use Rattle.exposed_runs.specs.declared.note.Note.{Note}
use Rattle.exposed_runs.specs.Notes.{noted, notes_of}

-- what is noted of the next step of a rank, and of the steps that are left of its local part
abbrev pub noted_at : MachineState → ℕ → List Note
noted_at m rank = option_map_or (λ (n : NodeState). noted n (local_step m.input n)) (slice_get m.nodes rank) []

abbrev pub notes_at : MachineState → ℕ → List Note
notes_at m rank = option_map_or (λ (n : NodeState). notes_of m.input n) (slice_get m.nodes rank) []
