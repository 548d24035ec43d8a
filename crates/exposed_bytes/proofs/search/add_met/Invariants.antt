-- The readers before this one are met with all writers that begin no earlier, and then the writers with all readers.
use Rattle.std.proofs.Common.{length}
use Rattle.exposed_bytes.specs.Search.{AddsFrom}
use Rattle.exposed_bytes.proofs.Grown.{AreMetReaders, AreMetWriters}
use Rattle.exposed_bytes.proofs.search.add_met.Given as goal

-- the readers before this one are met
abbrev pub invariant-loop-reader : goal.invariant-loop-reader
invariant-loop-reader g l = record {
  told : AreMetReaders l.reader-index l.readers l.writers l.found.items;
  adds : AddsFrom l.readers l.writers l.fn.found.items l.found.items;
}

-- the writers before this one are met
abbrev pub invariant-loop-writer : goal.invariant-loop-writer
invariant-loop-writer g l = record {
  readers : AreMetReaders (length l.readers) l.readers l.writers l.found.items;
  told : AreMetWriters l.writer-index l.readers l.writers l.found.items;
  adds : AddsFrom l.readers l.writers l.fn.found.items l.found.items;
}
