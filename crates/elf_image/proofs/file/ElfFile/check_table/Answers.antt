-- Where no entry before has a fault, the fault of an entry is that of the table; and no entry has one where the loop ends.
use Rattle.std.proofs.Common.{◌<◌, ◌+◌, length, ap, ◌∙◌, arith}
use Rattle.std.proofs.lemmas.Result.{err_from_is_err_and}
use Rattle.elf_image.specs.Headers.{file_header}
use Rattle.elf_image.specs.Faults.{entry_checks}
use Rattle.elf_image.proofs.Checks.{none_more}
use Rattle.elf_image.proofs.Table.{phnum-is, filesz_step, fault_of_entry, fault_of_table, none_of_table}
use Rattle.elf_image.proofs.file.ElfFile.check_table.Goals as goal

pub returns-in_err-check_program_header : goal.returns-in_err-check_program_header
returns-in_err-check_program_header c =
    let p = err_from_is_err_and c.from_residual.result c.from_residual.ensures.1 in
    let bytes = c.args.self.now in
    let phnum = phnum-is bytes c.header.result c.e_phnum-phnum.result c.header.ensures.value c.e_phnum-phnum.ensures in
    let below : c.loop-i.i < (file_header bytes).e_phnum = omega arith in
    let total =
    filesz_step bytes c.loop-i.i _ _ c.program_header-header.result below c.program_header-header.ensures c.loop-i.invariant.total
    (ap (λ n. c.loop-i.so_far + n) (c.from-so_far.ensures ∙ c.loaded_filesz.ensures)) in
    rw (p.1, p.2)
    (fault_of_table c.args.large bytes c.loop-i.i _ below c.loop-i.invariant.none
    (fault_of_entry c.args.large bytes c.loop-i.i _ _ _ _ c.program_header-header.ensures
    (ap length c.self.view_is) total c.in_err-check_program_header.ensures))

pub loop-i-preserved : goal.loop-i-preserved
loop-i-preserved c =
    let bytes = c.args.self.now in
    let phnum = phnum-is bytes c.header.result c.e_phnum-phnum.result c.header.ensures.value c.e_phnum-phnum.ensures in
    let below : c.loop-i.i < (file_header bytes).e_phnum = omega arith in
    let total =
    filesz_step bytes c.loop-i.i _ _ c.program_header-header.result below c.program_header-header.ensures c.loop-i.invariant.total
    (ap (λ n. c.loop-i.so_far + n) (c.from-so_far.ensures ∙ c.loaded_filesz.ensures)) in
    record {
      total = total;
      bound = omega arith;
      none = none_more (entry_checks c.args.large bytes) c.loop-i.i c.loop-i.invariant.none
          (fault_of_entry c.args.large bytes c.loop-i.i _ _ _ _ c.program_header-header.ensures
          (ap length c.self.view_is) total c.in_ok-check_program_header.ensures);
    }

pub returns : goal.returns
returns c =
    let bytes = c.args.self.now in
    let phnum = phnum-is bytes c.header.result c.e_phnum-phnum.result c.header.ensures.value c.e_phnum-phnum.ensures in
    none_of_table c.args.large bytes c.loop-i.i (omega arith) c.loop-i.invariant.none
