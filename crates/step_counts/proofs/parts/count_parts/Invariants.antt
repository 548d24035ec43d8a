-- The ranks below this one have made their parts, and the text has their lines.
use Rattle.std.proofs.Common.{◌≡◌, ◌++◌, take, string_bytes}
use Rattle.std.specs.Prelude.{flat_map}
use Rattle.step_counts.specs.Counts.{node_lines}
use Rattle.step_counts.proofs.Parting.{Parting}
use Rattle.step_counts.proofs.parts.count_parts.Given as goal

abbrev pub invariant-loop-rank : goal.invariant-loop-rank
invariant-loop-rank g l = record {
  parting : Parting l.initial.machine l.machine l.rank;
  text : string_bytes l.text ≡ string_bytes l.initial.text ++ flat_map (node_lines l.initial.machine) (take l.rank l.initial.machine.nodes);
  memory : l.table.memory ≡ l.initial.table.memory;
}
