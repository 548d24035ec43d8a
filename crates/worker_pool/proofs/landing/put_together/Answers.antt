-- The second nodes and parts come behind the first, which have room for them; both have to be complete.
use Rattle.std.proofs.Common.{◌&&◌, Bool, sym, ap, ◌∙◌}
use Rattle.worker_pool.proofs.landing.put_together.Goals.{then-complete, else-complete}
use Rattle.worker_pool.proofs.landing.put_together.Goals as goal

pub joined-requires : goal.joined-requires
joined-requires g c = c.requires.nodes

pub joined-requires-2 : goal.joined-requires-2
joined-requires-2 g c = c.requires.parts

pub returns-clause-nodes : goal.returns-clause-nodes
returns-clause-nodes g c = c.joined.ensures.items

pub returns-clause-parts : goal.returns-clause-parts
returns-clause-parts g c = c.joined-2.ensures.items

pub returns-clause-node_room : goal.returns-clause-node_room
returns-clause-node_room g c = c.joined.ensures.room

pub returns-clause-part_room : goal.returns-clause-part_room
returns-clause-part_room g c = c.joined-2.ensures.room

pub returns-clause-complete : goal.returns-clause-complete
returns-clause-complete g c = elim c.if-complete.branch [
  | then-complete w ↦ w.result-is ∙ ap (λ (x : Bool). x && c.args.second.complete) (sym w.if-complete.true)
  | else-complete w ↦ w.result-is ∙ w.if-complete.false ∙ ap (λ (x : Bool). x && c.args.second.complete) (sym w.if-complete.false)
]
