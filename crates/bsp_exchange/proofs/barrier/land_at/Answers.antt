-- The node and the part that are indexed are those at the place, so the part lands in that node and is spent.
use Rattle.std.proofs.Common.{set, get_or, refl, ap, sym, ◌∙◌}
use Rattle.std.proofs.lemmas.Option.{slice_get_read, get_or_from_slice_get}
use Rattle.bsp_exchange.specs.Parts.{PartState, landed_as, spent_part}
use Rattle.bsp_exchange.proofs.barrier.land_at.Goals as goal

pub land-requires : goal.land-requires
land-requires g c =
    let can =
    c.requires.lands c.index-nodes-place.result c.index-parts-place.result
    (slice_get_read c.args.nodes.now _ c.args.place _ refl c.requires.node c.index-nodes-place.is)
    (slice_get_read c.args.parts.now _ c.args.place _ refl c.requires.part c.index-parts-place.is) in
    rw (sym c.index-nodes-place.is) (rw (sym c.index-parts-place.is) can)

pub returns-clause-nodes : goal.returns-clause-nodes
returns-clause-nodes g c p part here received =
    ap (set c.args.nodes.now c.args.place)
    (c.land.ensures.node
    ∙ ap (λ (r : PartState). landed_as r (get_or c.args.nodes.now c.args.place c.index-nodes-place.result))
    (get_or_from_slice_get c.args.parts.now c.args.place part c.index-parts-place.result received)
    ∙ ap (landed_as part) (get_or_from_slice_get c.args.nodes.now c.args.place p c.index-nodes-place.result here))

pub returns-clause-parts : goal.returns-clause-parts
returns-clause-parts g c part received =
    ap (set c.args.parts.now c.args.place)
    (c.land.ensures.spent ∙ ap spent_part (get_or_from_slice_get c.args.parts.now c.args.place part c.index-parts-place.result received))
