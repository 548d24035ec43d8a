-- Part by part, the fault that is answered is the first of the file header, since all parts before it have none.
use Rattle.std.proofs.Common.{sym, ◌∙◌, arith}
use Rattle.std.proofs.lemmas.Bool.Decides.{nat_tests}
use Rattle.std.proofs.lemmas.Result.{err_from_is_err_and}
use Rattle.elf_image.proofs.Start.{no_magic, too_short, by_identity, by_layout}
use Rattle.elf_image.proofs.file.ElfFile.parse.Goals as goal

pub returns-then-not-starts_with-clause-fault : goal.returns-then-not-starts_with-clause-fault
returns-then-not-starts_with-clause-fault c =
    sym (no_magic c.args.bytes.now (sym c.starts_with.ensures.value ∙ c.if-not-starts_with.true))

pub returns-then-bytes-lt-EHDR_SIZE-clause-fault :
    goal.returns-then-bytes-lt-EHDR_SIZE-clause-fault
returns-then-bytes-lt-EHDR_SIZE-clause-fault c =
    sym (too_short c.args.bytes.now (sym c.starts_with.ensures.value ∙ c.if-not-starts_with.false) (grind (arith, nat_tests)))

pub returns-in_err-check_identity-clause-fault : goal.returns-in_err-check_identity-clause-fault
returns-in_err-check_identity-clause-fault c =
    let p = err_from_is_err_and c.from_residual.result c.from_residual.ensures.1 in
    let same = sym c.starts_with.ensures.value ∙ c.if-not-starts_with.false in
    rw (p.1, p.2)
    (by_identity c.args.bytes.now c.new-header.result _ same (omega arith) c.new-header.ensures c.in_err-check_identity.ensures)

pub returns-in_err-check_layout-clause-fault : goal.returns-in_err-check_layout-clause-fault
returns-in_err-check_layout-clause-fault c =
    let exit = c.from_residual-in_err-check_layout in
    let p = err_from_is_err_and exit.result exit.ensures.1 in
    let same = sym c.starts_with.ensures.value ∙ c.if-not-starts_with.false in
    rw (p.1, p.2)
    (by_layout c.args.bytes.now c.new-header.result _ same
    (omega arith) c.new-header.ensures c.in_ok-check_identity.ensures c.in_err-check_layout.ensures)

pub invariant_of-result : goal.invariant_of-result
invariant_of-result c =
    let same = sym c.starts_with.ensures.value ∙ c.if-not-starts_with.false in
    sym (by_layout c.args.bytes.now c.new-header.result _ same
    (omega arith) c.new-header.ensures c.in_ok-check_identity.ensures c.in_ok-check_layout.ensures)

pub returns-clause-fault : goal.returns-clause-fault
returns-clause-fault c =
    let same = sym c.starts_with.ensures.value ∙ c.if-not-starts_with.false in
    by_layout c.args.bytes.now c.new-header.result _ same
    (omega arith) c.new-header.ensures c.in_ok-check_identity.ensures c.in_ok-check_layout.ensures
