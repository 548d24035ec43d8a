-- Why a file is refused: the first of these checks that holds (own order). First those of the file header, then those of
-- each program header, header by header.
use Rattle.std.specs.Prelude.{ℕ, ◌+◌, ◌*◌, ◌^◌, ◌==◌, Bool, not, ◌&&◌, ◌||◌, nat_eq, nat_lt, List, [], ◌∷◌, ◌++◌, length, take, filter}
use Rattle.std.specs.Prelude.{sum_by, Option, Some, None, if◌then◌else◌, codes}
use Rattle.std.specs.List.{flat_map, range_with_len, starts_with}
use Rattle.elf_image.specs.declared.error.ElfError.{ElfError}
use Rattle.elf_image.specs.declared.error.ElfError.TheVariants.{NotElf, NotElf32Little, NotExecutable, NotRiscV, BadHeader, Truncated}
use Rattle.elf_image.specs.declared.error.ElfError.TheVariants.{Dynamic, BadSegment, NoMemory}
use Rattle.elf_image.specs.Headers.{FileHeader, ProgramHeader, elf_magic, ehdr_size, phdr_size, elfclass32, elfdata2lsb, ev_current}
use Rattle.elf_image.specs.Headers.{et_exec, em_riscv, pn_xnum, file_header, pt_dynamic, pt_interp, program_header_at, program_headers}
use Rattle.elf_image.specs.Headers.{is_load}

-- a test, and what a file is refused for where the test holds
abbrev pub Check : Type 0
Check = Bool × ElfError

-- the fault of the first check whose test holds
abbrev pub first_fault : List Check → Option ElfError
first_fault [] = None
first_fault (c ∷ checks) = if c.0 then Some c.1 else first_fault checks

-- the checks by the bytes alone: they are of an ELF file, and enough for a file header
abbrev pub start_checks : List ℕ → List Check
start_checks bytes = (not (starts_with nat_eq bytes elf_magic), NotElf) ∷ (nat_lt (length bytes) ehdr_size, Truncated) ∷ []

-- the checks of what the file is: an executable for RISC-V of 32 bits, little-endian
abbrev pub identity_checks : FileHeader → List Check
identity_checks h =
    (not (h.ei_class == elfclass32), NotElf32Little)
    ∷ (not (h.ei_data == elfdata2lsb), NotElf32Little)
    ∷ (not (h.ei_version == ev_current), NotElf32Little)
    ∷ (not (h.e_type == et_exec), NotExecutable)
    ∷ (not (h.e_machine == em_riscv), NotRiscV)
    ∷ []

-- the checks of its headers' version, sizes and number, and that the table of program headers lies in the file, which has
-- `len` bytes. A file may have no program header: e_phentsize and e_phoff then say nothing
abbrev pub layout_checks : ℕ → FileHeader → List Check
layout_checks len h =
    (not (h.e_version == ev_current), BadHeader)
    ∷ (not (h.e_ehsize == ehdr_size), BadHeader)
    ∷ (nat_lt 0 h.e_phnum && not (h.e_phentsize == phdr_size), BadHeader)
    ∷ (h.e_phnum == pn_xnum, BadHeader)
    ∷ (nat_lt 0 h.e_phnum && nat_lt len (h.e_phoff + h.e_phnum * h.e_phentsize), Truncated)
    ∷ []

-- the checks up to the first program header
unfoldable pub file_header_checks : List ℕ → List Check
file_header_checks bytes =
    start_checks bytes ++ (identity_checks (file_header bytes) ++ layout_checks (length bytes) (file_header bytes))

-- own limit: the bytes of all segments of an image, for a large machine and for any other
abbrev pub most_segment_bytes : Bool → ℕ
most_segment_bytes large = if large then 2 ^ 28 else 2 ^ 24

-- the checks of a program header in a file of `len` bytes, `so_far` being the sum of p_filesz over the PT_LOAD headers up
-- to and with this one: nothing is left to a dynamic linker; a segment has no more bytes in the file than in memory, ends
-- within the addresses of 32 bits, is within a number of bytes with those before it (own limit), and has its bytes in the file.
-- Where it has none, it may name any place. A header of another type is skipped (own rule; to the ABI all types are optional)
abbrev pub program_header_checks : Bool → ℕ → ℕ → ProgramHeader → List Check
program_header_checks large len so_far p =
    (p.p_type == pt_dynamic || p.p_type == pt_interp, Dynamic)
    ∷ (is_load p && nat_lt p.p_memsz p.p_filesz, BadSegment)
    ∷ (is_load p && nat_lt (2 ^ 32) (p.p_vaddr + p.p_memsz), BadSegment)
    ∷ (is_load p && nat_lt (most_segment_bytes large) so_far, BadSegment)
    ∷ (is_load p && nat_lt 0 p.p_filesz && nat_lt len (p.p_offset + p.p_filesz), Truncated)
    ∷ []

-- the sum of p_filesz over the PT_LOAD headers among the first n
abbrev pub filesz_of : ℕ → List ProgramHeader → ℕ
filesz_of n headers = sum_by (λ (p : ProgramHeader). p.p_filesz) (filter is_load (take n headers))

-- the checks of entry i of the table
unfoldable pub entry_checks : Bool → List ℕ → ℕ → List Check
entry_checks large bytes i =
    program_header_checks large (length bytes) (filesz_of (i + 1) (program_headers bytes)) (program_header_at bytes i)

-- the checks of the whole table
unfoldable pub table_checks : Bool → List ℕ → List Check
table_checks large bytes = flat_map (entry_checks large bytes) (range_with_len 0 (file_header bytes).e_phnum)

-- all checks of a file
unfoldable pub file_checks : Bool → List ℕ → List Check
file_checks large bytes = file_header_checks bytes ++ table_checks large bytes

-- what a file is refused for, if it is
abbrev pub file_fault : Bool → List ℕ → Option ElfError
file_fault large bytes = first_fault (file_checks large bytes)

-- what an error is called in a line to the user
abbrev pub name_of : ElfError → List ℕ
name_of NotElf = codes "NotElf"
name_of NotElf32Little = codes "NotElf32Little"
name_of NotExecutable = codes "NotExecutable"
name_of NotRiscV = codes "NotRiscV"
name_of BadHeader = codes "BadHeader"
name_of Truncated = codes "Truncated"
name_of Dynamic = codes "Dynamic"
name_of BadSegment = codes "BadSegment"
name_of NoMemory = codes "NoMemory"
