-- The last landing on a settled byte brings the same byte in every order, so memories and nodes are the same.
use Rattle.std.proofs.Common.{◌∙◌, sym}
use Rattle.std.proofs.lemmas.List.Sorted.{IsPermutation-refl}
use Rattle.bsp_exchange.specs.Landings.{landings}
use Rattle.contested_bytes.proofs.Orders.{byte_after, settled_byte, settled_memory, settled_row, own_order}
use Rattle.contested_bytes.proofs.laws.settled_bytes_are_the_same_in_every_order.Goals as goal

pub returns-clause-byte : goal.returns-clause-byte
returns-clause-byte c = λ all one two rank addr memory settled first second within.
    byte_after one rank addr memory within ∙ settled_byte all one two rank addr memory settled first second
    ∙ sym (byte_after two rank addr memory within)

pub returns-clause-memory : goal.returns-clause-memory
returns-clause-memory c = λ all one two rank memory settled first second. settled_memory all one two rank memory (settled rank) first second

pub returns-clause-nodes : goal.returns-clause-nodes
returns-clause-nodes c = λ nodes order settled allowed.
    settled_row nodes order (landings nodes) settled allowed (IsPermutation-refl (landings nodes)) ∙ sym (own_order nodes)
