-- The two parts of the law: keys do not fall along the landings, and landings with the same key are the same landing.
use Rattle.bsp_exchange.proofs.KeyOrder.{keys_do_not_fall, have_own_keys}
use Rattle.bsp_exchange.proofs.laws.landings_come_in_the_order_of_their_keys.Goals as goal

pub returns-clause-order : goal.returns-clause-order
returns-clause-order c = keys_do_not_fall

pub returns-clause-private : goal.returns-clause-private
returns-clause-private c = have_own_keys
