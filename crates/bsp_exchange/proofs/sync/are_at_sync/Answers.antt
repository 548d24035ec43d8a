-- A node that does not wait at its place keeps the row from being at a sync; past the last place all of them wait.
use Rattle.std.proofs.Common.{refl, sym, ◌∙◌}
use Rattle.std.proofs.lemmas.Bool.{false≢true}
use Rattle.bsp_exchange.proofs.Waiting.{waits_more, at_sync, waits_here}
use Rattle.bsp_exchange.proofs.sync.are_at_sync.Goals as goal

pub loop-place-preserved : goal.loop-place-preserved
loop-place-preserved g c =
    waits_more c.args.nodes.now c.areas_of_first-areas.result c.loop-place.place c.index-nodes-place.result c.loop-place-test.true
    c.index-nodes-place.is
    (c.waits_at.ensures.0 c.if-not-waits_at.false) c.loop-place.invariant

pub returns-then-not-waits_at : goal.returns-then-not-waits_at
returns-then-not-waits_at g c = (
  λ e. absurd (false≢true e),
  λ sync. sym c.if-not-waits_at.true
      ∙ c.waits_at.ensures.1 (waits_here c.args.nodes.now c.areas_of_first-areas.result c.loop-place.place c.index-nodes-place.result sync
      c.areas_of_first-areas.ensures c.loop-place-test.true c.index-nodes-place.is),
)

pub returns : goal.returns
returns g c = (
  λ _. at_sync c.args.nodes.now c.areas_of_first-areas.result c.loop-place.place c.loop-place-test.false c.loop-place.invariant,
  λ _. refl,
)
