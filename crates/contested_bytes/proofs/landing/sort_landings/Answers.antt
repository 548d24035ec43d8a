-- Sorted by the pair of rank and address, landings come in that order.
use Rattle.std.proofs.Common.{rules}
use Rattle.std.proofs.lemmas.List.Sorted.{answers_always}
use Rattle.bsp_exchange.specs.Landings.{Landing}
use Rattle.contested_bytes.proofs.Sorting.{in_order}
use Rattle.contested_bytes.proofs.landing.sort_landings.Goals as goal

pub returns-clause-order : goal.returns-clause-order
returns-clause-order g c =
    in_order (λ (l : Landing). l.rank) (λ (l : Landing). l.addr) _
    (c.sort_unstable_by_key.ensures.sorted (λ (l : Landing). (l.rank, l.addr)) (answers_always _ _ _ (λ f a r k h. search rules)))
