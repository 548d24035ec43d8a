-- Each word adds its entry.
use Rattle.std.proofs.Common.{length, string_bytes}
use Rattle.std.specs.Prelude.{◌/◌}
use Rattle.debug_lines.specs.Shown.{word_entry}
use Rattle.debug_lines.proofs.Rows.{one-more, range-more}
use Rattle.debug_lines.proofs.shown.word_lines.Goals as goal

pub loop-at-preserved : goal.loop-at-preserved
loop-at-preserved g c =
    let n = length c.args.bytes.now / 4 in
    one-more (word_entry c.args.addr n c.args.bytes.now) c.loop-at.at _ _ (string_bytes c.loop-at.text) (string_bytes c.add_word.new.text) _
    (range-more c.loop-at.at n c.loop-at-test.true) (c.in_ok-add_word.ensures {u = tt}) c.loop-at.invariant
