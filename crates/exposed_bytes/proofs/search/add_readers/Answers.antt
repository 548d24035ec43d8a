-- The readers that begin in the writer's bytes are those between two places of their order, and each of them is met.
use Rattle.std.proofs.Common.{ℕ, ◌<◌, ◌+◌, ◌≤◌, [], ◌∷◌, length, refl, subst, arith}
use Rattle.std.specs.List.Sorted.{IsPartitionPoint}
use Rattle.exposed_bytes.specs.declared.call.Call.{Call}
use Rattle.exposed_bytes.specs.Search.{source_key}
use Rattle.exposed_bytes.proofs.Grown.{AddsFrom-trans, call_at, call_at-is, contains_at, told_readers-more, told_readers-all}
use Rattle.exposed_bytes.proofs.search.add_readers.Goals as goal

pub bounds-readers-at : goal.bounds-readers-at
bounds-readers-at g c = omega (arith, c.loop-at-test.true, c.read_before-to.ensures.within)

pub loop-at-preserved : goal.loop-at-preserved
loop-at-preserved g c =
    let readers = c.args.readers.now in
    let writer = c.args.writer.now in
    let at = c.loop-at.at in
    let it = call_at readers at in
    let old = c.loop-at.found.items in
    let new = c.add_pair.new.found.items in
    let known = c.loop-at.invariant in
    let added = c.in_ok-add_pair.ensures in
    let within : at < length readers = omega (arith, c.loop-at-test.true, c.read_before-to.ensures.within) in
    let is = call_at-is readers at within in
    let there = contains_at readers at it within is in
    let alone = added.adds readers (writer ∷ []) there (0, omega arith, refl) in
    record {
      told =
          told_readers-more c.read_before-from.result at it writer readers old new within is added.told alone.keeps
          known.told;
      adds = λ writers of_writer.
          AddsFrom-trans readers writers c.args.found.now.items old new (known.adds writers of_writer)
          (added.adds readers writers there of_writer);
    }

pub returns-clause-told : goal.returns-clause-told
returns-clause-told g c =
    let readers = c.args.readers.now in
    let writer = c.args.writer.now in
    let from = c.read_before-from.result in
    let to = c.read_before-to.result in
    let begin = c.target_key-start.ensures.value in
    told_readers-all from to c.loop-at.at readers writer c.loop-at.found.items
    (subst (λ (s : ℕ). IsPartitionPoint (λ (d : Call). source_key d < s) (λ (d : Call). s ≤ source_key d) readers from) begin
    c.read_before-from.ensures.parted)
    (subst (λ (s : ℕ). IsPartitionPoint (λ (d : Call). source_key d < s + writer.len) (λ (d : Call). s + writer.len ≤ source_key d)
    readers to) begin c.read_before-to.ensures.parted)
    c.loop-at-test.false c.loop-at.invariant.told
