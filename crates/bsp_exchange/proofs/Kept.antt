-- What an exchange leaves as it was.
use Rattle.std.proofs.Common.{List, [], ◌∷◌, length, map, refl}
use Rattle.std.specs.List.{AllZip}
use Rattle.std.proofs.lemmas.List.FromFn.{length-map-range_with_len}
use Rattle.node_core.specs.Node.{NodeState}
use Rattle.bsp_exchange.specs.Exchange.{exchanged_node, exchanged}
use Rattle.bsp_exchange.specs.Landings.{landings_at, landed_byte}
use Rattle.bsp_exchange.specs.SameNode.{IsSameNode}

all_zip-map : {X : Type 0} (R : X → X → Type 0) (f : X → X) (xs : List X) → ((x : X) → R x (f x)) → AllZip R xs (map f xs)
all_zip-map R f [] each = tt
all_zip-map R f (x ∷ xs) each = (each x, all_zip-map R f xs each)

same : (nodes : List NodeState) (n : NodeState) → IsSameNode n (exchanged_node nodes n)
same nodes n = record {
  rank = refl;
  nprocs = refl;
  registers = refl;
  pc = refl;
  cursor = refl;
  unit = refl;
  reservation = refl;
  memory_size = length-map-range_with_len (landed_byte (landings_at nodes n.hart.rank) n.hart.memory) 0 (length n.hart.memory);
  ticks = refl;
  limit = refl;
  clock = refl;
}

pub all_same : (nodes : List NodeState) → AllZip IsSameNode nodes (exchanged nodes)
all_same nodes = all_zip-map IsSameNode (exchanged_node nodes) nodes (same nodes)
