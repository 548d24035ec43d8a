-- All parts land, as `land_all` says of the row and its parts, and none of the parts is left.
use Rattle.std.proofs.Common.{List, ap, ap₂, ◌∙◌, arith}
use Rattle.std.proofs.lemmas.List.{with_items_is}
use Rattle.node_core.specs.Node.{PreparedNode}
use Rattle.bsp_exchange.specs.Exchange.{states}
use Rattle.bsp_exchange.specs.Parts.{PartState, landed}
use Rattle.worker_pool.proofs.landing.land_here.Goals as goal

pub returns-clause-done : goal.returns-clause-done
returns-clause-done g c = (
  c.clear.ensures.items,
  ap states (with_items_is c.args.share.nodes c.land_all.new.nodes (omega arith))
      ∙ c.land_all.ensures.nodes
      ∙ ap₂ (λ (parts : List PartState) (nodes : List PreparedNode). landed parts (states nodes)) c.deref_mut-2.ensures.value
      c.deref_mut.ensures.value,
)

pub land_all-requires : goal.land_all-requires
land_all-requires g c = rw (c.deref_mut-2.ensures.value, c.deref_mut.ensures.value) c.requires
