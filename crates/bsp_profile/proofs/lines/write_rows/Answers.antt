-- The lines of the ranks are those of the rows, one after another.
use Rattle.std.proofs.Common.{List, ◌++◌, ◌∙◌, ap, string_bytes, arith}
use Rattle.std.specs.Prelude.{flat_map}
use Rattle.std.proofs.lemmas.List.{take_all}
use Rattle.bsp_profile.specs.declared.row.Row.{Row}
use Rattle.bsp_profile.specs.Lines.{row_line}
use Rattle.bsp_profile.specs.Moves.{rows}
use Rattle.bsp_profile.proofs.Texts.{next_line, length-rows-le}
use Rattle.bsp_profile.proofs.lines.write_rows.Goals as goal

pub loop-rank-preserved : goal.loop-rank-preserved
loop-rank-preserved g c =
    next_line row_line (rows c.args.machine.now) c.loop-rank.rank c.row_at-row.result (string_bytes c.args.text.now)
    (string_bytes c.loop-rank.text) (string_bytes c.writeln.new.self)
    c.row_at-row.ensures c.loop-rank.invariant c.in_ok-writeln.ensures.bytes

pub returns : goal.returns
returns g c =
    c.loop-rank.invariant
    ∙ ap (λ (rs : List Row). string_bytes c.args.text.now ++ flat_map row_line rs)
    (take_all c.loop-rank.rank (rows c.args.machine.now) (omega
    (arith, length-rows-le c.args.machine.now, c.requires.tally.long, c.loop-rank-test.false)))
