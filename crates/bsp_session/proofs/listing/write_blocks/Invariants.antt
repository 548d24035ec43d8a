-- The lines that were written, those that stand in the block and those that are left are the lines of the segment.
use Rattle.std.proofs.Common.{◌≡◌, ◌≤◌, List, ◌++◌, string_bytes}
use Rattle.std.specs.List.{flat_map}
use Rattle.std.specs.Io.KnownBytes.{Appends}
use Rattle.rv_listing.specs.declared.lines.Line.{Line}
use Rattle.rv_listing.specs.Listing.{ended_line}
use Rattle.bsp_session.specs.Conversion.{lines_of_segment}
use Rattle.bsp_session.proofs.listing.write_blocks.Given as goal

abbrev pub invariant-loop-line : goal.invariant-loop-line
invariant-loop-line g l = record {
  written : (done waiting : List Line) × (lines_of_segment l.segment ≡ done ++ (waiting ++ l.line-iterator))
      × Appends (g.W.Write.contents l.initial.out.inner) (g.W.Write.contents l.out.inner) (flat_map (ended_line l.extensions) done)
      × (string_bytes l.block ≡ flat_map (ended_line l.extensions) waiting);
  rises : l.initial.out.failures ≤ l.out.failures;
}
