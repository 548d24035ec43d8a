-- Each rank but the rank itself is added.
use Rattle.std.proofs.Common.{ℕ, ◌+◌, ◌∙◌, sym, slice_index, arith}
use Rattle.bsp_profile.specs.Tally.{place}
use Rattle.bsp_profile.proofs.Others.{others_no, others_yes}
use Rattle.bsp_profile.proofs.tally.Tally.moved_out.Goals.{then-to-rank, else-to-rank}
use Rattle.bsp_profile.proofs.tally.Tally.moved_out.Goals as goal

pub overflow_add-all : goal.overflow_add-all
overflow_add-all g c = omega (arith, c.loop-to.invariant.bounded, c.bytes-all.ensures.bounded, c.requires.few, c.loop-to-test.true)

pub loop-to-preserved : goal.loop-to-preserved
loop-to-preserved g c =
    let t = c.args.self.now in
    let f = λ (to : ℕ). slice_index t.cells.items (place t.count (c.args.rank + 1) to) in
    elim c.if-to-rank.branch [
      | then-to-rank w ↦
          let more = others_yes f c.loop-to.to c.args.rank w.if-to-rank.true in
          rw w.all-is (record {
            sum = omega (arith, more, c.loop-to.invariant.sum, w.bytes-all.ensures.value);
            bounded = omega (arith, c.loop-to.invariant.bounded, w.bytes-all.ensures.bounded);
          })
      | else-to-rank w ↦
          let same = others_no f c.loop-to.to c.args.rank w.if-to-rank.false in
          rw w.all-is (record { sum = c.loop-to.invariant.sum ∙ sym same; bounded = omega (arith, c.loop-to.invariant.bounded) })
    ]
