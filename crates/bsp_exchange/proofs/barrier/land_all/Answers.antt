-- If one more part lands in the node at its place, the invariant still holds; past the last place all parts have landed.
use Rattle.std.proofs.Common.{◌≡◌, ◌≤◌, ◌++◌, List, length, map, drop, set, arith, refl, ap, sym, ◌∙◌}
use Rattle.std.proofs.lemmas.List.{append-nil, drop_all, take_all}
use Rattle.std.proofs.lemmas.Option.{slice_get_within}
use Rattle.std.specs.Prelude.{slice_get}
use Rattle.node_core.specs.Node.{PreparedNode}
use Rattle.bsp_exchange.specs.Exchange.{states}
use Rattle.bsp_exchange.specs.Parts.{PartState, landed_as, spent_part}
use Rattle.bsp_exchange.proofs.LandedRow.{row_landed, row_states, row_keeps, row_unready, as_many, can_land_at, next_node, next_unchanged}
use Rattle.bsp_exchange.proofs.LandedRow.{one_more_landed, one_more_changed, all_landed, some_at}
use Rattle.bsp_exchange.proofs.barrier.land_all.Goals as goal

pub loop-place-init : goal.loop-place-init
loop-place-init g c = record { nodes = refl; parts = refl }

pub land_at-requires-clause-part : goal.land_at-requires-clause-part
land_at-requires-clause-part g c =
    let (part, is) =
    some_at c.args.parts.now c.loop-place.place
    (omega (arith, as_many c.args.parts.now c.args.nodes.now c.requires, c.loop-place-test.true)) in
    slice_get_within c.loop-place.parts c.loop-place.place part
    (ap (λ (ps : List PartState). slice_get ps c.loop-place.place) c.loop-place.invariant.parts
    ∙ next_unchanged spent_part c.loop-place.place c.args.parts.now
    ∙ is)

pub land_at-requires-clause-lands : goal.land_at-requires-clause-lands
land_at-requires-clause-lands g c p part here received =
    let i = c.loop-place.place in
    can_land_at c.args.parts.now c.args.nodes.now i part p c.requires
    (sym (next_unchanged spent_part i c.args.parts.now)
    ∙ sym (ap (λ (ps : List PartState). slice_get ps i) c.loop-place.invariant.parts)
    ∙ received)
    (sym (next_node i c.args.parts.now c.args.nodes.now)
    ∙ sym (ap (λ (ns : List PreparedNode). slice_get ns i) c.loop-place.invariant.nodes)
    ∙ here)

pub loop-place-preserved : goal.loop-place-preserved
loop-place-preserved g c =
    let i = c.loop-place.place in
    let parts = c.args.parts.now in
    let nodes = c.args.nodes.now in
    let (part, first) = some_at parts i (omega (arith, as_many parts nodes c.requires, c.loop-place-test.true)) in
    let (p, second) = some_at nodes i c.loop-place-test.true in
    let received = ap (λ (ps : List PartState). slice_get ps i) c.loop-place.invariant.parts ∙ next_unchanged spent_part i parts ∙ first in
    let here = ap (λ (ns : List PreparedNode). slice_get ns i) c.loop-place.invariant.nodes ∙ next_node i parts nodes ∙ second in
    record {
      nodes =
          c.land_at.ensures.nodes p part here received
          ∙ ap (λ (ns : List PreparedNode). set ns i (landed_as part p)) c.loop-place.invariant.nodes
          ∙ one_more_landed i parts nodes part p first second;
      parts =
          c.land_at.ensures.parts part received
          ∙ ap (λ (ps : List PartState). set ps i (spent_part part)) c.loop-place.invariant.parts
          ∙ one_more_changed spent_part i parts part first;
    }

pub returns : goal.returns
returns g c =
    let i = c.loop-place.place in
    let parts = c.args.parts.now in
    let nodes = c.args.nodes.now in
    let done : c.loop-place.nodes ≡ row_landed parts nodes =
    c.loop-place.invariant.nodes ∙ all_landed i parts nodes c.requires c.loop-place-test.false in
    let past : length parts ≤ i = omega (arith, as_many parts nodes c.requires, c.loop-place-test.false) in
    record {
      nodes = ap states done ∙ row_states parts nodes;
      unready = rw done (row_unready parts nodes c.requires);
      private = rw done (row_keeps parts nodes);
      spent =
          c.loop-place.invariant.parts
          ∙ ap (λ (ps : List PartState). map spent_part ps ++ drop i parts) (take_all i parts past)
          ∙ ap (λ (ps : List PartState). map spent_part parts ++ ps) (drop_all i parts past)
          ∙ append-nil (map spent_part parts);
    }
