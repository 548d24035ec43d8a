-- Each reader is met with the writers that begin no earlier, and each writer with the readers that do: so all are met.
use Rattle.std.proofs.Common.{arith, length}
use Rattle.exposed_bytes.proofs.Grown.{AddsFrom-trans, call_at, call_at-is, contains_at, met_readers-more, met_readers-kept}
use Rattle.exposed_bytes.proofs.Grown.{met_writers-more, met-all}
use Rattle.exposed_bytes.proofs.search.add_met.Goals as goal

pub loop-reader-preserved : goal.loop-reader-preserved
loop-reader-preserved g c =
    let readers = c.args.readers.now in
    let writers = c.args.writers.now in
    let at = c.loop-reader.reader-index in
    let old = c.loop-reader.found.items in
    let new = c.add_writers.new.found.items in
    let known = c.loop-reader.invariant in
    let added = c.in_ok-add_writers.ensures in
    let is = call_at-is readers at c.loop-reader-test.true in
    let there = contains_at readers at (call_at readers at) c.loop-reader-test.true is in
    let adds = added.adds readers there in
    record {
      told =
          met_readers-more at (call_at readers at) readers writers old new c.loop-reader-test.true is added.told adds.keeps
          known.told;
      adds = AddsFrom-trans readers writers c.args.found.now.items old new known.adds adds;
    }

pub loop-writer-preserved : goal.loop-writer-preserved
loop-writer-preserved g c =
    let readers = c.args.readers.now in
    let writers = c.args.writers.now in
    let at = c.loop-writer.writer-index in
    let old = c.loop-writer.found.items in
    let new = c.add_readers.new.found.items in
    let known = c.loop-writer.invariant in
    let added = c.in_ok-add_readers.ensures in
    let is = call_at-is writers at c.loop-writer-test.true in
    let there = contains_at writers at (call_at writers at) c.loop-writer-test.true is in
    let adds = added.adds writers there in
    record {
      readers = met_readers-kept (length readers) readers writers old new adds.keeps known.readers;
      told =
          met_writers-more at (call_at writers at) readers writers old new c.loop-writer-test.true is added.told adds.keeps
          known.told;
      adds = AddsFrom-trans readers writers c.args.found.now.items old new known.adds adds;
    }

pub returns-clause-told : goal.returns-clause-told
returns-clause-told g c =
    let readers = c.args.readers.now in
    met-all (length readers) c.loop-writer.writer-index readers c.args.writers.now c.loop-writer.found.items (omega arith)
    c.loop-writer-test.false c.loop-writer.invariant.readers c.loop-writer.invariant.told
