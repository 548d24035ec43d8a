-- The first fault is that of the first pass, or else that of the second; without one, the program's bytes are the image of the text.
use Rattle.std.proofs.Common.{None, sym, subst}
use Rattle.std.proofs.lemmas.Result.{err_from_is_err_and}
use Rattle.asm_syntax.specs.Lines.{lines_of}
use Rattle.rv_asm.specs.Labels.{symbols}
use Rattle.rv_asm.specs.Text.{IsLaidOut}
use Rattle.rv_asm.proofs.Whole.{fault-first, fault-second, image-laid}
use Rattle.rv_asm.proofs.assembler.assemble.Goals as goal

pub returns-in_err-labels-clause-err : goal.returns-in_err-labels-clause-err
returns-in_err-labels-clause-err g c =
    let p = err_from_is_err_and c.from_residual.result c.from_residual.ensures.1 in
    rw (p.1, p.2) (λ other. fault-first c.args.extensions c.args.text.now _ (c.in_err-labels.ensures.err other))

pub returns-in_err-program-clause-err : goal.returns-in_err-program-clause-err
returns-in_err-program-clause-err g c =
    let p = err_from_is_err_and c.from_residual-in_err-program.result c.from_residual-in_err-program.ensures.1 in
    rw (p.1, p.2)
    (λ other. fault-second c.args.extensions c.args.text.now (symbols c.in_ok-labels.labels) _ c.in_ok-labels.ensures.ok
    c.in_ok-labels.ensures.labels (c.in_err-program.ensures.err other))

pub returns-clause-ok : goal.returns-clause-ok
returns-clause-ok g c =
    image-laid c.args.extensions c.args.text.now (symbols c.in_ok-labels.labels) c.in_ok-program.program.bytes.items
    c.in_ok-image_of.field-0
    c.in_ok-labels.ensures.labels
    (subst (IsLaidOut c.args.extensions (symbols c.in_ok-labels.labels) (lines_of c.args.text.now) c.in_ok-program.program.bytes.items)
    (sym c.in_ok-image_of.ensures.entry) c.in_ok-program.ensures.laid)
    c.in_ok-image_of.ensures.segments

pub returns-clause-faultless : goal.returns-clause-faultless
returns-clause-faultless g c =
    fault-second c.args.extensions c.args.text.now (symbols c.in_ok-labels.labels) None c.in_ok-labels.ensures.ok
    c.in_ok-labels.ensures.labels
    c.in_ok-program.ensures.ok
