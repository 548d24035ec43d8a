-- The four parts of the law, as `Readback` has them.
use Rattle.elf_image.proofs.Readback.{no_fault, short, presents, no_other}
use Rattle.elf_image.proofs.laws.the_spelling_of_an_image_presents_it_and_no_other.Goals as goal

pub returns-clause-no_fault : goal.returns-clause-no_fault
returns-clause-no_fault c = no_fault

pub returns-clause-short : goal.returns-clause-short
returns-clause-short c = short

pub returns-clause-presents : goal.returns-clause-presents
returns-clause-presents c = presents

pub returns-clause-no_other : goal.returns-clause-no_other
returns-clause-no_other c = no_other
