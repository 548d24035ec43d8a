-- The writers before this one that begin in the reader's bytes are met with it.
use Rattle.std.proofs.Common.{List}
use Rattle.std.specs.Prelude.{Contains}
use Rattle.exposed_bytes.specs.declared.call.Call.{Call}
use Rattle.exposed_bytes.specs.Search.{AddsFrom}
use Rattle.exposed_bytes.proofs.Grown.{AreToldWriters}
use Rattle.exposed_bytes.proofs.search.add_writers.Given as goal

-- the writers before this one are met
abbrev pub invariant-loop-at : goal.invariant-loop-at
invariant-loop-at g l = record {
  told : AreToldWriters l.from l.at l.reader l.writers l.found.items;
  adds : (readers : List Call) → Contains readers l.reader → AddsFrom readers l.writers l.fn.found.items l.found.items;
}
