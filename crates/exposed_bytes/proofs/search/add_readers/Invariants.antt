-- The readers before this one that begin in the writer's bytes are met with it.
use Rattle.std.proofs.Common.{List}
use Rattle.std.specs.Prelude.{Contains}
use Rattle.exposed_bytes.specs.declared.call.Call.{Call}
use Rattle.exposed_bytes.specs.Search.{AddsFrom}
use Rattle.exposed_bytes.proofs.Grown.{AreToldReaders}
use Rattle.exposed_bytes.proofs.search.add_readers.Given as goal

-- the readers before this one are met
abbrev pub invariant-loop-at : goal.invariant-loop-at
invariant-loop-at g l = record {
  told : AreToldReaders l.from l.at l.readers l.writer l.found.items;
  adds : (writers : List Call) → Contains writers l.writer → AddsFrom l.readers writers l.fn.found.items l.found.items;
}
