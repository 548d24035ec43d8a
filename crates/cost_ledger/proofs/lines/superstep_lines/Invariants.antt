-- The text and the lines of the rows that are left make all lines.
use Rattle.std.proofs.Common.{◌≡◌, ◌++◌, drop, string_bytes}
use Rattle.std.specs.List.{flat_map, enumerate_from}
use Rattle.cost_ledger.specs.CostRow.{superstep_line, superstep_lines}
use Rattle.cost_ledger.proofs.lines.superstep_lines.Given as goal

abbrev pub invariant-loop-superstep : goal.invariant-loop-superstep
invariant-loop-superstep g l =
    string_bytes l.text ++ flat_map (superstep_line l.version) (enumerate_from l.superstep-counter (drop l.superstep-counter l.rows))
    ≡ superstep_lines l.version l.rows
