-- A landing is compared with the one that reaches furthest: where any before it brings a different byte, one of these two differs there.
use Rattle.contested_bytes.proofs.Swept.{order_at, contains_at, found-step, contested-more, furthest-more, next_within, found-whole}
use Rattle.std.proofs.Common.{arith}
use Rattle.contested_bytes.proofs.sweep.sweep.Goals as goal

pub compare-requires-clause-order : goal.compare-requires-clause-order
compare-requires-clause-order g c =
    order_at c.args.all.now c.loop-at.furthest c.loop-at.at c.index-all-furthest.result c.index-all-at.result c.loop-at.invariant.place
    c.loop-at-test.true c.index-all-furthest.is c.index-all-at.is c.requires

pub loop-at-preserved : goal.loop-at-preserved
loop-at-preserved g c =
    let all = c.args.all.now in
    let at = c.loop-at.at in
    let furthest = c.loop-at.furthest in
    let x = c.index-all-furthest.result in
    let y = c.index-all-at.result in
    let old = c.loop-at.found.items in
    let new = c.compare.new.found.items in
    let known = c.loop-at.invariant in
    let added = c.in_ok-compare.ensures in
    let here = contains_at all furthest x (omega (arith, known.place, c.loop-at-test.true)) c.index-all-furthest.is in
    let there = contains_at all at y c.loop-at-test.true c.index-all-at.is in
    record {
      place = next_within furthest at c.further-furthest.result known.place c.further-furthest.ensures.either;
      within = added.within;
      contested = added.contested all here there known.contested;
      complete =
          found-step all at furthest x y old new known.place c.loop-at-test.true c.index-all-furthest.is c.index-all-at.is c.requires
          known.reach known.complete added.bytes;
      sound = contested-more all x y old new here there known.sound (λ rank addr. (added.bytes rank addr).0);
      reach =
          furthest-more all at furthest c.further-furthest.result known.reach c.further-furthest.ensures.first
          c.further-furthest.ensures.second;
    }

pub returns-clause-exact : goal.returns-clause-exact
returns-clause-exact g c =
    found-whole c.args.all.now c.loop-at.at c.loop-at.found.items c.loop-at-test.false c.loop-at.invariant.complete
    c.loop-at.invariant.sound
