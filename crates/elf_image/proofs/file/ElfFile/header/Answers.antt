-- A file whose header has no fault is as long as a header.
use Rattle.elf_image.proofs.Table.{HasTable-from_none}
use Rattle.elf_image.proofs.file.ElfFile.header.Goals as goal

pub new-requires : goal.new-requires
new-requires c = (HasTable-from_none c.self.inside.bytes.now c.self.invariant).whole
