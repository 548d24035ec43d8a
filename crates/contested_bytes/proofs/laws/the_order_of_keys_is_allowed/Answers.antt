-- The order of keys is one of all orders, and the exchange in it is that of the definition.
use Rattle.std.proofs.lemmas.List.Sorted.{IsPermutation-refl}
use Rattle.bsp_exchange.specs.Landings.{landings}
use Rattle.contested_bytes.proofs.Orders.{own_order}
use Rattle.contested_bytes.proofs.laws.the_order_of_keys_is_allowed.Goals as goal

pub returns-clause-allowed : goal.returns-clause-allowed
returns-clause-allowed c = λ nodes. IsPermutation-refl (landings nodes)

pub returns-clause-same : goal.returns-clause-same
returns-clause-same c = own_order
