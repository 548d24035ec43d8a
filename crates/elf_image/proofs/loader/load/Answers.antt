-- The fault of the header, or else that of the table, is the file's; and memory is asked for only where it has none.
use Rattle.std.proofs.Common.{List, ℕ, Err, refl, sym, ap, ◌∙◌}
use Rattle.std.proofs.lemmas.Result.{err_from_is_err_and}
use Rattle.elf_image.specs.Faults.{first_fault, table_checks}
use Rattle.elf_image.proofs.Loads.{fault_of_header, fault_after_header, TellsFault-at_fault, TellsFault-at_memory, TellsFault-at_ok}
use Rattle.elf_image.proofs.Loads.{IfErr-from_TellsFault}
use Rattle.elf_image.proofs.loader.load.Goals as goal

pub returns-in_err-file-clause-fault : goal.returns-in_err-file-clause-fault
returns-in_err-file-clause-fault g c =
    let p = err_from_is_err_and c.from_residual.result c.from_residual.ensures.1 in
    TellsFault-at_fault c.args.large c.args.bytes.now c.from_residual.result c.in_err-file.field-0.0
    (fault_of_header c.args.large c.args.bytes.now _ c.in_err-file.ensures.fault) (p.1 ∙ ap Err p.2)

pub returns-in_err-check_table-clause-fault : goal.returns-in_err-check_table-clause-fault
returns-in_err-check_table-clause-fault g c =
    let exit = c.from_residual-in_err-check_table in
    let p = err_from_is_err_and exit.result exit.ensures.1 in
    let same = ap (λ (b : List ℕ). first_fault (table_checks c.args.large b)) c.in_ok-file.ensures.same in
    TellsFault-at_fault c.args.large c.args.bytes.now exit.result c.in_err-check_table.field-0.0
    (fault_after_header c.args.large c.args.bytes.now _ c.in_ok-file.ensures.fault (c.in_err-check_table.ensures ∙ same)) (p.1 ∙ ap Err p.2)

pub returns-in_err-image-clause-fault : goal.returns-in_err-image-clause-fault
returns-in_err-image-clause-fault g c =
    let exit = c.from_residual-in_err-image in
    let p = err_from_is_err_and exit.result exit.ensures.1 in
    let same = ap (λ (b : List ℕ). first_fault (table_checks c.args.large b)) c.in_ok-file.ensures.same in
    TellsFault-at_memory c.args.large c.args.bytes.now exit.result
    (fault_after_header c.args.large c.args.bytes.now _ c.in_ok-file.ensures.fault (c.in_ok-check_table.ensures ∙ same)) (p.1 ∙ ap Err p.2)

pub returns-clause-faultless : goal.returns-clause-faultless
returns-clause-faultless g c =
    let same = ap (λ (b : List ℕ). first_fault (table_checks c.args.large b)) c.in_ok-file.ensures.same in
    fault_after_header c.args.large c.args.bytes.now _ c.in_ok-file.ensures.fault (c.in_ok-check_table.ensures ∙ same)

pub returns-clause-fault : goal.returns-clause-fault
returns-clause-fault g c =
    let same = ap (λ (b : List ℕ). first_fault (table_checks c.args.large b)) c.in_ok-file.ensures.same in
    TellsFault-at_ok c.args.large c.args.bytes.now _ c.in_ok-image.image
    (fault_after_header c.args.large c.args.bytes.now _ c.in_ok-file.ensures.fault (c.in_ok-check_table.ensures ∙ same)) refl

pub returns-in_err-file-clause-err : goal.returns-in_err-file-clause-err
returns-in_err-file-clause-err g c = IfErr-from_TellsFault c.args.large c.args.bytes.now c.from_residual.result (returns-in_err-file-clause-fault g c)

pub returns-in_err-check_table-clause-err : goal.returns-in_err-check_table-clause-err
returns-in_err-check_table-clause-err g c =
    IfErr-from_TellsFault c.args.large c.args.bytes.now c.from_residual-in_err-check_table.result (returns-in_err-check_table-clause-fault g c)

pub returns-in_err-image-clause-err : goal.returns-in_err-image-clause-err
returns-in_err-image-clause-err g c =
    IfErr-from_TellsFault c.args.large c.args.bytes.now c.from_residual-in_err-image.result (returns-in_err-image-clause-fault g c)

pub image_of-requires : goal.image_of-requires
image_of-requires g c = (c.args.large, sym c.in_ok-check_table.ensures)
