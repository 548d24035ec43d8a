-- A landing of an exchange that is made lies in the memory of its rank, and a contested byte is one of its bytes.
use Rattle.contested_bytes.proofs.Inside.{contested_inside}
use Rattle.contested_bytes.proofs.laws.contested_bytes_lie_in_memories.Goals as goal

pub returns : goal.returns
returns c = contested_inside
