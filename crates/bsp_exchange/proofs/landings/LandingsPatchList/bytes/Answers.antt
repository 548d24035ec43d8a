-- The bytes of a range are those of its patch.
use Rattle.std.proofs.Common.{length, ap, arith}
use Rattle.bsp_exchange.specs.Parts.{Patch}
use Rattle.bsp_exchange.proofs.Patches.{range_inside, range_patch}
use Rattle.bsp_exchange.proofs.landings.LandingsPatchList.bytes.Goals as goal

pub overflow_add-result : goal.overflow_add-result
overflow_add-result g c =
    let l = c.self.inside in
    let end =
    range_inside l.ranges.items l.bytes.items c.args.self.now c.args.place c.index-range.result.now c.self.invariant c.self.view_is
    c.requires c.index-range.ensures in
    omega (arith, end, l.bytes.ok.0)

pub slice_bounds-result-end : goal.slice_bounds-result-end
slice_bounds-result-end g c =
    let l = c.self.inside in
    let end =
    range_inside l.ranges.items l.bytes.items c.args.self.now c.args.place c.index-range.result.now c.self.invariant c.self.view_is
    c.requires c.index-range.ensures in
    omega (arith, end, c.deref.ensures.len, ap length c.deref.ensures.value)

pub returns : goal.returns
returns g c p there =
    let l = c.self.inside in
    rw c.deref.ensures.value (ap (λ (q : Patch). q.bytes)
    (range_patch l.ranges.items l.bytes.items c.args.self.now c.args.place c.index-range.result.now p c.self.view_is c.index-range.ensures
    there))
