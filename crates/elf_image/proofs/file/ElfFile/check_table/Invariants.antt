-- `so_far` is the bytes that the entries so far load, at most 2^32 for each, and none of these entries has a fault.
use Rattle.std.proofs.Common.{◌≡◌, ◌≤◌, ◌*◌, ◌^◌, None}
use Rattle.std.specs.List.{flat_map, range_with_len}
use Rattle.elf_image.specs.Headers.{program_headers}
use Rattle.elf_image.specs.Faults.{first_fault, filesz_of, entry_checks}
use Rattle.elf_image.proofs.file.ElfFile.check_table.Given as goal

abbrev pub invariant-loop-i : goal.invariant-loop-i
invariant-loop-i l = record {
  total : l.so_far ≡ filesz_of l.i (program_headers l.self);
  bound : l.so_far ≤ l.i * 2 ^ 32;
  none : first_fault (flat_map (entry_checks l.large l.self) (range_with_len 0 l.i)) ≡ None;
}
