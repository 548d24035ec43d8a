-- The line feeds so far and those that are left are all.
use Rattle.std.proofs.Common.{◌≡◌, ◌+◌, ◌≤◌, drop}
use Rattle.counted_io.specs.Framed.{line_count}
use Rattle.counted_io.proofs.framed.line_count.Given as goal

abbrev pub invariant-loop-byte : goal.invariant-loop-byte
invariant-loop-byte l = (l.count ≤ l.byte-index) × (l.count + line_count (drop l.byte-index l.text) ≡ line_count l.text)
