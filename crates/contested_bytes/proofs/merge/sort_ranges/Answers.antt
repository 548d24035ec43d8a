-- Sorted by the pair of rank and address, ranges start in that order.
use Rattle.std.proofs.Common.{rules}
use Rattle.std.proofs.lemmas.List.Sorted.{answers_always}
use Rattle.contested_bytes.specs.declared.range.ContestedRange.{ContestedRange}
use Rattle.contested_bytes.proofs.Sorting.{in_order}
use Rattle.contested_bytes.proofs.merge.sort_ranges.Goals as goal

pub returns-clause-order : goal.returns-clause-order
returns-clause-order g c =
    in_order (λ (r : ContestedRange). r.rank) (λ (r : ContestedRange). r.addr) _
    (c.sort_unstable_by_key.ensures.sorted (λ (r : ContestedRange). (r.rank, r.addr)) (answers_always _ _ _ (λ f a r k h. search rules)))
