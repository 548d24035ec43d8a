-- Each operand adds its number; no number is the fault at once, and one out of range is the fault if no such operand follows.
use Rattle.std.proofs.Common.{◌≡◌, ◌≢◌, [], Ok, append-nil, sym, ap, ◌∙◌, arith, rules}
use Rattle.std.specs.List.{list_all}
use Rattle.std.proofs.lemmas.Int.{ints}
use mir.Syntax.{w32, w64}
use mir.Val.{to_z, of_z}
use Rattle.asm_syntax.specs.declared.error.LineError.TheVariants.{OutOfRange}
use Rattle.asm_syntax.specs.Faults.{judged}
use Rattle.asm_syntax.specs.Operands.{number_in}
use Rattle.asm_syntax.specs.Ranges.{from_to, is_within}
use Rattle.asm_syntax.proofs.Gathered.{behind, gathered-ok, gathered-out, gathered-fault, gathered-last, one_or_more-all}
use Rattle.asm_syntax.proofs.data.numbers.Goals as goal
use Rattle.asm_syntax.proofs.data.numbers.Goals.{in-Ok+in_ok-push-in-Ok, in-Err+else-ne}

pub returns-then-ne-clause-err : goal.returns-then-ne-clause-err
returns-then-ne-clause-err g c =
    let ops = c.args.operands.now in
    let low : to_z w64 (of_z w64 c.args.low) ≡ c.args.low = search rules in
    let high : to_z w64 (of_z w64 c.args.high) ≡ c.args.high = search rules in
    let other : c.in-Err.fault ≢ OutOfRange = search rules in
    let so_far = rw (low, high) at c.loop-operand.invariant.1 in
    let found = rw (low, high) at c.in-Err.ensures.value in
    λ _. ap (judged (list_all (is_within (from_to c.args.low c.args.high)))) (one_or_more-all number_in ops c.loop-operand.invariant.0)
    ∙ (sym so_far
    ∙ gathered-fault (is_within (from_to c.args.low c.args.high)) number_in ops c.loop-operand.operand-index _ c.loop-operand.fits
    c.loop-operand.numbers.items c.in-Err.fault c.loop-operand-test.true (sym found) other)

pub loop-operand-preserved : goal.loop-operand-preserved
loop-operand-preserved g c =
    let ops = c.args.operands.now in
    let low : to_z w64 (of_z w64 c.args.low) ≡ c.args.low = search rules in
    let high : to_z w64 (of_z w64 c.args.high) ≡ c.args.high = search rules in
    let so_far = rw (low, high) at c.loop-operand.invariant.1 in (
      c.loop-operand.invariant.0,
      rw (low, high) (elim c.match-number_within.branch [
        | in-Ok+in_ok-push-in-Ok w ↦
            let found = rw (low, high) at w.in-Ok.ensures.value in
            let wide : to_z w64 (of_z w64 w.in-Ok.number) ≡ w.in-Ok.number = search rules in
            let within = rw (low, high) at w.in-Ok.ensures.within in
            let narrow : to_z w32 (of_z w32 w.in-Ok.number) ≡ w.in-Ok.number = omega (arith, ints, within.0, within.1) in
            let items = rw (wide, narrow) at w.in_ok-push-in-Ok.ensures.items in
            rw (w.fits-is, w.numbers-is, items)
            (gathered-ok (is_within (from_to c.args.low c.args.high)) number_in ops c.loop-operand.operand-index _ c.loop-operand.fits
            c.loop-operand.numbers.items w.in-Ok.number c.loop-operand-test.true (sym found) ∙ so_far)
        | in-Err+else-ne w ↦
            let found = rw (low, high) at w.in-Err.ensures.value in
            let out : w.in-Err.fault ≡ OutOfRange = search rules in
            rw (w.fits-is, w.numbers-is)
            (gathered-out (is_within (from_to c.args.low c.args.high)) number_in ops c.loop-operand.operand-index _ c.loop-operand.fits
            c.loop-operand.numbers.items c.loop-operand-test.true (rw out at (sym found)) ∙ so_far)
      ]),
    )

pub returns-then-fits-clause-ok : goal.returns-then-fits-clause-ok
returns-then-fits-clause-ok g c =
    let low : to_z w64 (of_z w64 c.args.low) ≡ c.args.low = search rules in
    let high : to_z w64 (of_z w64 c.args.high) ≡ c.args.high = search rules in
    let ops = c.args.operands.now in
    let so_far = rw (low, high) at c.loop-operand.invariant.1 in
    let all = gathered-last (is_within (from_to c.args.low c.args.high)) number_in ops c.loop-operand.operand-index c.loop-operand.fits
    c.loop-operand.numbers.items (omega arith) in
    ap (judged (list_all (is_within (from_to c.args.low c.args.high)))) (one_or_more-all number_in ops c.loop-operand.invariant.0)
    ∙ (sym so_far
    ∙ (all ∙ (ap (λ fits. behind (Ok []) fits c.loop-operand.numbers.items) c.if-fits.true
    ∙ ap Ok (append-nil c.loop-operand.numbers.items))))

pub returns-else-fits-clause-err : goal.returns-else-fits-clause-err
returns-else-fits-clause-err g c =
    let low : to_z w64 (of_z w64 c.args.low) ≡ c.args.low = search rules in
    let high : to_z w64 (of_z w64 c.args.high) ≡ c.args.high = search rules in
    let ops = c.args.operands.now in
    let so_far = rw (low, high) at c.loop-operand.invariant.1 in
    let all = gathered-last (is_within (from_to c.args.low c.args.high)) number_in ops c.loop-operand.operand-index c.loop-operand.fits
    c.loop-operand.numbers.items (omega arith) in
    λ _. ap (judged (list_all (is_within (from_to c.args.low c.args.high)))) (one_or_more-all number_in ops c.loop-operand.invariant.0)
    ∙ (sym so_far ∙ (all ∙ ap (λ fits. behind (Ok []) fits c.loop-operand.numbers.items) c.if-fits.false))
