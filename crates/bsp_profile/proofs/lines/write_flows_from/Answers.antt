-- The lines of the ranks to which bytes go from one rank, one after another.
use Rattle.std.proofs.Common.{List, ◌∙◌, ap, string_bytes, refl, arith, ◌++◌, ℕ}
use Rattle.bsp_profile.specs.Lines.{flow_lines_between}
use Rattle.bsp_profile.proofs.Texts.{flow_no, flow_yes, next_of_range, same_text}
use Rattle.bsp_profile.proofs.lines.write_flows_from.Goals.{then-bytes-gt0+in_ok-writeln, else-bytes-gt0}
use Rattle.bsp_profile.proofs.lines.write_flows_from.Goals as goal

pub loop-to-preserved : goal.loop-to-preserved
loop-to-preserved g c =
    let m = c.args.machine.now in
    let t = c.args.tally.now in
    let from = c.args.from in
    let to = c.loop-to.to in
    let now = string_bytes c.loop-to.text in
    elim c.if-bytes-gt0.branch [
      | then-bytes-gt0+in_ok-writeln w ↦
          rw w.text-is
          (next_of_range (flow_lines_between m from) to (string_bytes c.args.text.now) now (string_bytes w.writeln.new.self)
          c.loop-to.invariant
          (w.in_ok-writeln.ensures.bytes
          ∙ ap (λ (bs : List ℕ). now ++ bs)
          (flow_yes m t.count t.cells.items c.requires.tally from to c.requires.from c.loop-to-test.true c.bytes-bytes.result
          w.superstep.result c.bytes-bytes.ensures.value w.superstep.ensures (omega (arith, w.if-bytes-gt0.true)))))
      | else-bytes-gt0 w ↦
          rw w.text-is (next_of_range (flow_lines_between m from) to (string_bytes c.args.text.now) now now c.loop-to.invariant
          (same_text now now (flow_lines_between m from to) refl
          (flow_no m t.count t.cells.items c.requires.tally from to c.requires.from c.loop-to-test.true c.bytes-bytes.result 0
          c.bytes-bytes.ensures.value (omega (arith, w.if-bytes-gt0.false)))))
    ]
