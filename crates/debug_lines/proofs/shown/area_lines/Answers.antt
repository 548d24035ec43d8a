-- Each area adds its line.
use Rattle.std.proofs.Common.{◌<◌, length, string_bytes, arith}
use Rattle.debug_lines.specs.Shown.{area_line}
use Rattle.debug_lines.proofs.Rows.{item-more}
use Rattle.debug_lines.proofs.shown.area_lines.Goals as goal

pub loop-number-preserved : goal.loop-number-preserved
loop-number-preserved g c =
    let below : c.loop-number.number < length c.args.slots.now.registrations.in_effect =
    omega (arith, c.loop-number-test.true, c.count-number-end.ensures.len) in
    item-more area_line c.args.slots.now.registrations.in_effect c.loop-number.number (string_bytes c.loop-number.text)
    (string_bytes c.add_area_at.new.text) _
    below (c.in_ok-add_area_at.ensures {u = tt}) c.loop-number.invariant
