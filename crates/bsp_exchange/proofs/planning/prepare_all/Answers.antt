-- Preparing one more node keeps its state and what was its own, even if it is refused; past the last place every part can land.
use Rattle.std.proofs.Common.{◌<◌, length, arith, refl, ap, sym, ◌∙◌}
use Rattle.std.proofs.lemmas.Option.{slice_get_read}
use Rattle.std.proofs.lemmas.Result.{IfOk-from_err}
use Rattle.node_core.specs.Node.{PreparedNode}
use Rattle.bsp_exchange.specs.Exchange.{states}
use Rattle.bsp_exchange.proofs.KeepsPrivate.{EachKeepsPrivate-same, EachKeepsPrivate-set}
use Rattle.bsp_exchange.proofs.Preparing.{as_many_states, can_prepare_at, states_kept, prepared_none, prepared_more, prepared_all}
use borrow.Author.Rules.{scaled_Fits}
use Rattle.bsp_exchange.proofs.planning.prepare_all.Goals as goal

pub loop-place-init : goal.loop-place-init
loop-place-init g c =
    record { same = refl; private = EachKeepsPrivate-same c.args.nodes.now; prepared = prepared_none c.args.parts.now c.args.nodes.now }

pub loop-place-preserved : goal.loop-place-preserved
loop-place-preserved g c =
    let nodes = c.loop-place.nodes in
    let i = c.loop-place.place in
    let parts = c.args.parts.now in
    let there : i < length nodes = rw c.loop-place.auto.nodes c.loop-place-test.true in
    let is = slice_get_read nodes (length nodes) i c.index-nodes-place.result refl there c.index-nodes-place.is in
    let long = as_many_states parts nodes (states c.args.nodes.now) c.loop-place.invariant.same c.requires in
    let received = slice_get_read parts _ i c.index-parts-place.result (sym long) there c.index-parts-place.is in
    record {
      same =
          states_kept nodes i c.index-nodes-place.result c.prepare.new.node is
          (c.in_ok-prepare.ensures.same ∙ ap (λ (p : PreparedNode). p.node) (sym c.index-nodes-place.is))
          ∙ c.loop-place.invariant.same;
      private =
          EachKeepsPrivate-set c.args.nodes.now nodes i c.index-nodes-place.result c.prepare.new.node c.loop-place.invariant.private is
          (rw c.index-nodes-place.is c.in_ok-prepare.ensures.private);
      prepared =
          prepared_more parts nodes i c.index-parts-place.result c.prepare.new.node there received c.in_ok-prepare.ensures.ok
          c.loop-place.invariant.prepared;
    }

pub prepare-requires : goal.prepare-requires
prepare-requires g c =
    let nodes = c.loop-place.nodes in
    let i = c.loop-place.place in
    let parts = c.args.parts.now in
    let there : i < length nodes = rw c.loop-place.auto.nodes c.loop-place-test.true in
    let is = slice_get_read nodes (length nodes) i c.index-nodes-place.result refl there c.index-nodes-place.is in
    let long = as_many_states parts nodes (states c.args.nodes.now) c.loop-place.invariant.same c.requires in
    let received = slice_get_read parts _ i c.index-parts-place.result (sym long) there c.index-parts-place.is in
    let can =
    can_prepare_at parts nodes (states c.args.nodes.now) i c.index-parts-place.result c.index-nodes-place.result c.requires
    c.loop-place.invariant.same received is in
    rw (sym c.index-nodes-place.is) can

pub offset_bounds-parts-place : goal.offset_bounds-parts-place
offset_bounds-parts-place g c =
    let there : c.loop-place.place < length c.loop-place.nodes = rw c.loop-place.auto.nodes c.loop-place-test.true in
    omega (
      arith,
      there,
      as_many_states c.args.parts.now c.loop-place.nodes (states c.args.nodes.now) c.loop-place.invariant.same c.requires,
    )

pub bounds-parts-place : goal.bounds-parts-place
bounds-parts-place g c =
    let there : c.loop-place.place < length c.loop-place.nodes = rw c.loop-place.auto.nodes c.loop-place-test.true in
    omega (
      arith,
      there,
      as_many_states c.args.parts.now c.loop-place.nodes (states c.args.nodes.now) c.loop-place.invariant.same c.requires,
    )

pub bounds-nodes-place : goal.bounds-nodes-place
bounds-nodes-place g c = rw c.loop-place.auto.nodes c.loop-place-test.true

pub returns-in_err-prepare-clause-same : goal.returns-in_err-prepare-clause-same
returns-in_err-prepare-clause-same g c =
    let nodes = c.loop-place.nodes in
    let i = c.loop-place.place in
    let there : i < length nodes = rw c.loop-place.auto.nodes c.loop-place-test.true in
    let is = slice_get_read nodes (length nodes) i c.index-nodes-place.result refl there c.index-nodes-place.is in
    states_kept nodes i c.index-nodes-place.result c.prepare.new.node is
    (c.in_err-prepare.ensures.same ∙ ap (λ (p : PreparedNode). p.node) (sym c.index-nodes-place.is))
    ∙ c.loop-place.invariant.same

pub returns-in_err-prepare-clause-private : goal.returns-in_err-prepare-clause-private
returns-in_err-prepare-clause-private g c =
    let nodes = c.loop-place.nodes in
    let i = c.loop-place.place in
    let there : i < length nodes = rw c.loop-place.auto.nodes c.loop-place-test.true in
    let is = slice_get_read nodes (length nodes) i c.index-nodes-place.result refl there c.index-nodes-place.is in
    EachKeepsPrivate-set c.args.nodes.now nodes i c.index-nodes-place.result c.prepare.new.node c.loop-place.invariant.private is
    (rw c.index-nodes-place.is c.in_err-prepare.ensures.private)

pub returns-clause-ok : goal.returns-clause-ok
returns-clause-ok g c =
    let nodes = c.loop-place.nodes in
    let long = as_many_states c.args.parts.now nodes (states c.args.nodes.now) c.loop-place.invariant.same c.requires in
    prepared_all c.args.parts.now nodes c.loop-place.place long (rw c.loop-place.auto.nodes c.loop-place-test.false)
    c.loop-place.invariant.prepared

pub returns-in_err-prepare-clause-ok : goal.returns-in_err-prepare-clause-ok
returns-in_err-prepare-clause-ok g c = IfOk-from_err c.from_residual.result _ c.from_residual.ensures.0

pub returns-clause-same : goal.returns-clause-same
returns-clause-same g c = c.loop-place.invariant.same

pub returns-clause-private : goal.returns-clause-private
returns-clause-private g c = c.loop-place.invariant.private

pub offset_bounds-nodes-place : goal.offset_bounds-nodes-place
offset_bounds-nodes-place g c = scaled_Fits c.loop-place.place (length c.args.nodes.now) _ c.loop-place-test.true (search c.well_formed)
