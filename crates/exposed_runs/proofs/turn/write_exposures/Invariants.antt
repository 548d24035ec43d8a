-- The text has the lines of the ranges before this one, behind what it had before.
use Rattle.std.proofs.Common.{◌≡◌, ◌++◌, take, string_bytes}
use Rattle.exposed_runs.specs.Lines.{exposure_lines}
use Rattle.exposed_runs.proofs.turn.write_exposures.Given as goal

abbrev pub invariant-loop-range : goal.invariant-loop-range
invariant-loop-range g l = string_bytes l.text ≡ string_bytes l.initial.text ++ exposure_lines l.superstep (take l.range-index l.found)
