-- The text and the supersteps that are left are the text before and all supersteps.
use Rattle.std.proofs.Common.{◌≡◌, ◌++◌, string_bytes}
use Rattle.debug_lines.specs.Framed.{superstep_lines_from}
use Rattle.debug_lines.proofs.framed.add_supersteps.Given as goal

abbrev pub invariant-loop-number : goal.invariant-loop-number
invariant-loop-number g l =
    string_bytes l.text ++ superstep_lines_from l.version l.number l.rows
    ≡ string_bytes l.initial.text ++ superstep_lines_from l.version l.from l.rows
