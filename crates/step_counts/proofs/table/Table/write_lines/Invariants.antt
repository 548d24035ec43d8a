-- The text has the lines of the addresses below this one, behind what it had before.
use Rattle.std.proofs.Common.{◌≡◌, ◌≤◌, ◌++◌, string_bytes}
use Rattle.step_counts.specs.Counts.{lines_below}
use Rattle.step_counts.specs.Table.{told}
use Rattle.step_counts.proofs.table.Table.write_lines.Given as goal

abbrev pub invariant-loop-address : goal.invariant-loop-address
invariant-loop-address g l = record {
  within : l.address ≤ l.self.memory;
  text : string_bytes l.text ≡ string_bytes l.initial.text ++ lines_below l.address l.superstep l.rank (told l.self);
}
