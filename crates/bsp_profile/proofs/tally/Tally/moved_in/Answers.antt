-- Each rank but the rank itself is added.
use Rattle.std.proofs.Common.{ℕ, ◌+◌, ◌∙◌, sym, slice_index, arith}
use Rattle.bsp_profile.specs.Tally.{place}
use Rattle.bsp_profile.proofs.Others.{others_no, others_yes}
use Rattle.bsp_profile.proofs.tally.Tally.moved_in.Goals.{then-from-rank, else-from-rank}
use Rattle.bsp_profile.proofs.tally.Tally.moved_in.Goals as goal

pub overflow_add-all : goal.overflow_add-all
overflow_add-all g c = omega (arith, c.loop-from.invariant.bounded, c.bytes-all.ensures.bounded, c.requires.few, c.loop-from-test.true)

pub loop-from-preserved : goal.loop-from-preserved
loop-from-preserved g c =
    let t = c.args.self.now in
    let f = λ (from : ℕ). slice_index t.cells.items (place t.count (from + 1) c.args.rank) in
    elim c.if-from-rank.branch [
      | then-from-rank w ↦
          let more = others_yes f c.loop-from.from c.args.rank w.if-from-rank.true in
          rw w.all-is (record {
            sum = omega (arith, more, c.loop-from.invariant.sum, w.bytes-all.ensures.value);
            bounded = omega (arith, c.loop-from.invariant.bounded, w.bytes-all.ensures.bounded);
          })
      | else-from-rank w ↦
          let same = others_no f c.loop-from.from c.args.rank w.if-from-rank.false in
          rw w.all-is (record { sum = c.loop-from.invariant.sum ∙ sym same; bounded = omega (arith, c.loop-from.invariant.bounded) })
    ]
