-- Sorted by where they read, calls come in that order.
use Rattle.std.proofs.Common.{rules}
use Rattle.std.proofs.lemmas.List.Sorted.{IsNonDecreasingBy-from_sort_by_key}
use Rattle.exposed_bytes.specs.Search.{source_key}
use Rattle.exposed_bytes.proofs.search.by_source.Goals as goal

pub returns-clause-order : goal.returns-clause-order
returns-clause-order g c =
    IsNonDecreasingBy-from_sort_by_key source_key _ c.sort_unstable_by_key.ensures.sorted (λ a r q k. search rules)
