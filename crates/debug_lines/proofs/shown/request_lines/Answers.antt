-- Each request adds its line.
use Rattle.std.proofs.Common.{◌<◌, length, string_bytes, arith}
use Rattle.debug_lines.specs.Shown.{request_line}
use Rattle.debug_lines.proofs.Rows.{item-more}
use Rattle.debug_lines.proofs.shown.request_lines.Goals as goal

pub loop-number-preserved : goal.loop-number-preserved
loop-number-preserved g c =
    let below : c.loop-number.number < length c.args.requests.now.requests =
    omega (arith, c.loop-number-test.true, c.len-number-end.ensures.len) in
    item-more request_line c.args.requests.now.requests c.loop-number.number (string_bytes c.loop-number.text)
    (string_bytes c.add_request_at.new.text) _
    below (c.in_ok-add_request_at.ensures {u = tt}) c.loop-number.invariant
