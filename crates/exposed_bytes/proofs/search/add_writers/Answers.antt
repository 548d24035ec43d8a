-- The writers that begin in the reader's bytes are those between two places of their order, and each of them is met.
use Rattle.std.proofs.Common.{ℕ, ◌<◌, ◌+◌, ◌≤◌, [], ◌∷◌, length, refl, subst, arith}
use Rattle.std.specs.List.Sorted.{IsPartitionPoint}
use Rattle.exposed_bytes.specs.declared.call.Call.{Call}
use Rattle.exposed_bytes.specs.Search.{target_key}
use Rattle.exposed_bytes.proofs.Grown.{AddsFrom-trans, call_at, call_at-is, contains_at, told_writers-more, told_writers-all}
use Rattle.exposed_bytes.proofs.search.add_writers.Goals as goal

pub bounds-writers-at : goal.bounds-writers-at
bounds-writers-at g c = omega (arith, c.loop-at-test.true, c.written_before-to.ensures.within)

pub loop-at-preserved : goal.loop-at-preserved
loop-at-preserved g c =
    let writers = c.args.writers.now in
    let reader = c.args.reader.now in
    let at = c.loop-at.at in
    let it = call_at writers at in
    let old = c.loop-at.found.items in
    let new = c.add_pair.new.found.items in
    let known = c.loop-at.invariant in
    let added = c.in_ok-add_pair.ensures in
    let within : at < length writers = omega (arith, c.loop-at-test.true, c.written_before-to.ensures.within) in
    let is = call_at-is writers at within in
    let there = contains_at writers at it within is in
    let alone = added.adds (reader ∷ []) writers (0, omega arith, refl) there in
    record {
      told =
          told_writers-more c.written_before-from.result at reader it writers old new within is added.told alone.keeps
          known.told;
      adds = λ readers of_reader.
          AddsFrom-trans readers writers c.args.found.now.items old new (known.adds readers of_reader)
          (added.adds readers writers of_reader there);
    }

pub returns-clause-told : goal.returns-clause-told
returns-clause-told g c =
    let writers = c.args.writers.now in
    let reader = c.args.reader.now in
    let from = c.written_before-from.result in
    let to = c.written_before-to.result in
    let begin = c.source_key-start.ensures.value in
    told_writers-all from to c.loop-at.at reader writers c.loop-at.found.items
    (subst (λ (s : ℕ). IsPartitionPoint (λ (d : Call). target_key d < s) (λ (d : Call). s ≤ target_key d) writers from) begin
    c.written_before-from.ensures.parted)
    (subst (λ (s : ℕ). IsPartitionPoint (λ (d : Call). target_key d < s + reader.len) (λ (d : Call). s + reader.len ≤ target_key d)
    writers to) begin c.written_before-to.ensures.parted)
    c.loop-at-test.false c.loop-at.invariant.told
