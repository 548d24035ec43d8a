-- Each operand adds its target; no target is the fault at once, and one out of range is the fault if no such operand follows.
use Rattle.std.proofs.Common.{◌≡◌, ◌≢◌, [], Ok, map, append-nil, sym, ap, ◌∙◌, arith, rules}
use Rattle.std.specs.List.{list_all}
use Rattle.asm_syntax.specs.declared.error.LineError.TheVariants.{OutOfRange}
use Rattle.asm_syntax.specs.Faults.{judged}
use Rattle.asm_syntax.specs.Operands.{target_in, fits_target}
use Rattle.asm_syntax.specs.Views.{target_value}
use Rattle.asm_syntax.proofs.Gathered.{behind, pushed, skipped, gathered-fault, gathered-last, one_or_more-all}
use Rattle.asm_syntax.proofs.data.targets.Goals as goal
use Rattle.asm_syntax.proofs.data.targets.Goals.{in-Ok+in_ok-push-in-Ok, in-Err+else-ne}

pub returns-then-ne-clause-err : goal.returns-then-ne-clause-err
returns-then-ne-clause-err g c =
    let ops = c.args.operands.now in
    let other : c.in-Err.fault ≢ OutOfRange = search rules in
    λ _. ap (judged (list_all fits_target)) (one_or_more-all target_in ops c.loop-operand.invariant.0)
    ∙ (sym c.loop-operand.invariant.1
    ∙ gathered-fault fits_target target_in ops c.loop-operand.operand-index _ c.loop-operand.fits
    (map target_value c.loop-operand.targets.items) c.in-Err.fault c.loop-operand-test.true (sym c.in-Err.ensures) other)

pub loop-operand-preserved : goal.loop-operand-preserved
loop-operand-preserved g c =
    let ops = c.args.operands.now in (
      c.loop-operand.invariant.0,
      elim c.match-target.branch [
        | in-Ok+in_ok-push-in-Ok w ↦
            rw (w.fits-is, w.targets-is)
            (pushed target_value fits_target target_in ops c.loop-operand.operand-index _ c.loop-operand.fits
            c.loop-operand.targets.items w.push.new.self.items w.in-Ok.target _ c.loop-operand-test.true
            w.in_ok-push-in-Ok.ensures.items w.in-Ok.ensures c.loop-operand.invariant.1)
        | in-Err+else-ne w ↦
            let out : w.in-Err.fault ≡ OutOfRange = search rules in
            rw (w.fits-is, w.targets-is)
            (skipped fits_target target_in ops c.loop-operand.operand-index _ c.loop-operand.fits
            (map target_value c.loop-operand.targets.items) w.in-Err.fault _ c.loop-operand-test.true out w.in-Err.ensures
            c.loop-operand.invariant.1)
      ],
    )

pub returns-then-fits-clause-ok : goal.returns-then-fits-clause-ok
returns-then-fits-clause-ok g c =
    let ops = c.args.operands.now in
    let items = map target_value c.loop-operand.targets.items in
    let all = gathered-last fits_target target_in ops c.loop-operand.operand-index c.loop-operand.fits items (omega arith) in
    ap (judged (list_all fits_target)) (one_or_more-all target_in ops c.loop-operand.invariant.0)
    ∙ (sym c.loop-operand.invariant.1 ∙ (all ∙ (ap (λ fits. behind (Ok []) fits items) c.if-fits.true ∙ ap Ok (append-nil items))))

pub returns-clause-err : goal.returns-clause-err
returns-clause-err g c =
    let ops = c.args.operands.now in
    let items = map target_value c.loop-operand.targets.items in
    let all = gathered-last fits_target target_in ops c.loop-operand.operand-index c.loop-operand.fits items (omega arith) in
    λ _. ap (judged (list_all fits_target)) (one_or_more-all target_in ops c.loop-operand.invariant.0)
    ∙ (sym c.loop-operand.invariant.1 ∙ (all ∙ ap (λ fits. behind (Ok []) fits items) c.if-fits.false))
