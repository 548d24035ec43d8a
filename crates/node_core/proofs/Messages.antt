-- The first message of a queue.
use Rattle.std.proofs.Common.{◌≡◌, List, Some, subst}
use Rattle.std.specs.Prelude.{All, slice_get}
use Rattle.std.proofs.lemmas.Option.{slice_get_within, get_or_from_slice_get}
use Rattle.bsp_requests.specs.Message.{Message, IsShort}

pub IsShort-first : (queue : List Message) (m : Message) → All IsShort queue → slice_get queue 0 ≡ Some m → IsShort m
IsShort-first queue m all is = subst IsShort (get_or_from_slice_get queue 0 m m is) (all 0 m (slice_get_within queue 0 m is))
