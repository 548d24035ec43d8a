-- Unbuffered calls are met with all, and all others with them: of any two other calls nothing is open.
use Rattle.std.proofs.Common.{[], List, refl, subst}
use Rattle.std.specs.Prelude.{IsPermutation}
use Rattle.exposed_bytes.specs.declared.call.Call.{Call}
use Rattle.exposed_bytes.proofs.Sides.{all-are, are_met}
use Rattle.exposed_bytes.proofs.search.exposures.Goals as goal

pub returns : goal.returns
returns g c =
    let free_readers = c.by_source-unbuffered_readers.result.items in
    let free_writers = c.by_target-unbuffered_writers.result.items in
    let other_readers = c.by_source-other_readers.result.items in
    let other_writers = c.by_target-other_writers.result.items in
    let first = c.add_met.new.found.items in
    let second = c.add_met-2.new.found.items in
    let third = c.add_met-3.new.found.items in
    all-are c.args.calls.now free_readers free_writers other_readers other_writers first second third
    (subst (λ (cs : List Call). IsPermutation cs free_readers) c.in_ok-unbuffered.ensures c.by_source-unbuffered_readers.ensures.same)
    (subst (λ (cs : List Call). IsPermutation cs free_writers) c.in_ok-unbuffered-2.ensures c.by_target-unbuffered_writers.ensures.same)
    (subst (λ (cs : List Call). IsPermutation cs other_readers) c.in_ok-others.ensures c.by_source-other_readers.ensures.same)
    (subst (λ (cs : List Call). IsPermutation cs other_writers) c.in_ok-others-2.ensures c.by_target-other_writers.ensures.same)
    (are_met c.deref.result.now free_readers c.deref-2.result.now free_writers c.new-found.result.items [] first c.deref.ensures.value
    c.deref-2.ensures.value c.new-found.ensures.items c.in_ok-add_met.ensures.told c.in_ok-add_met.ensures.adds)
    (are_met c.deref-3.result.now other_readers c.deref-4.result.now free_writers first first second c.deref-3.ensures.value
    c.deref-4.ensures.value refl c.in_ok-add_met-2.ensures.told c.in_ok-add_met-2.ensures.adds)
    (are_met c.deref-5.result.now free_readers c.deref-6.result.now other_writers second second third c.deref-5.ensures.value
    c.deref-6.ensures.value refl c.in_ok-add_met-3.ensures.told c.in_ok-add_met-3.ensures.adds)
