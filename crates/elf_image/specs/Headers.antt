-- The headers of an executable of 32 bits, read off its bytes (System V ABI, chapter 4 "Object Files", section "ELF
-- Header" and "ELF Identification", and chapter 5 "Program Loading and Dynamic Linking", section "Program Header"). Fields
-- and constants have the ABI's names; numbers stand with their least significant byte first (ELFDATA2LSB).
use Rattle.std.specs.Prelude.{ℕ, ◌+◌, ◌*◌, ◌==◌, Bool, List, ◌∷◌, map, codes}
use Rattle.std.specs.List.{range_with_len}
use Rattle.node_memory.specs.Bytes.{byte_at, bytes_at, half_at, word_at}

-- ---- the file header

-- EI_MAG0 to EI_MAG3: the four bytes that every ELF file begins with
abbrev pub elf_magic : List ℕ
elf_magic = 0x7F ∷ codes "ELF"

-- how many bytes a file header has, and a program header
abbrev pub ehdr_size : ℕ
ehdr_size = 52

abbrev pub phdr_size : ℕ
phdr_size = 32

-- objects of 32 bits; numbers whose least significant byte is first; the one version that there is
abbrev pub elfclass32 : ℕ
elfclass32 = 1

abbrev pub elfdata2lsb : ℕ
elfdata2lsb = 1

abbrev pub ev_current : ℕ
ev_current = 1

-- an executable file
abbrev pub et_exec : ℕ
et_exec = 2

-- RISC-V (RISC-V ELF psABI specification, "File Header")
abbrev pub em_riscv : ℕ
em_riscv = 243

-- PN_XNUM (elf(5)) in the place of a number of program headers: the number is too large for the field and stands elsewhere
abbrev pub pn_xnum : ℕ
pn_xnum = 0xFFFF

-- the file header, but for the fields of which this loader makes nothing
pub record FileHeader : Type 0 where
  -- e_ident[EI_CLASS], e_ident[EI_DATA], e_ident[EI_VERSION]
  pub ei_class : ℕ
  pub ei_data : ℕ
  pub ei_version : ℕ
  pub e_type : ℕ
  pub e_machine : ℕ
  pub e_version : ℕ
  pub e_entry : ℕ
  pub e_phoff : ℕ
  pub e_ehsize : ℕ
  pub e_phentsize : ℕ
  pub e_phnum : ℕ

-- the file header that the first 52 bytes of a file are
unfoldable pub file_header : List ℕ → FileHeader
file_header bytes = record {
  ei_class = byte_at bytes 4;
  ei_data = byte_at bytes 5;
  ei_version = byte_at bytes 6;
  e_type = half_at bytes 16;
  e_machine = half_at bytes 18;
  e_version = word_at bytes 20;
  e_entry = word_at bytes 24;
  e_phoff = word_at bytes 28;
  e_ehsize = half_at bytes 40;
  e_phentsize = half_at bytes 42;
  e_phnum = half_at bytes 44;
}

-- ---- the program headers

-- a segment to be loaded; what a dynamic linker is to do; the name of an interpreter
abbrev pub pt_load : ℕ
pt_load = 1

abbrev pub pt_dynamic : ℕ
pt_dynamic = 2

abbrev pub pt_interp : ℕ
pt_interp = 3

-- a program header, but for p_paddr, p_flags and p_align, of which this loader makes nothing
pub record ProgramHeader : Type 0 where
  pub p_type : ℕ
  pub p_offset : ℕ
  pub p_vaddr : ℕ
  pub p_filesz : ℕ
  pub p_memsz : ℕ

-- the program header that 32 bytes are
unfoldable pub program_header : List ℕ → ProgramHeader
program_header bytes = record {
  p_type = word_at bytes 0;
  p_offset = word_at bytes 4;
  p_vaddr = word_at bytes 8;
  p_filesz = word_at bytes 16;
  p_memsz = word_at bytes 20;
}

-- entry i of a file's table of program headers: the table begins at e_phoff, and each entry has e_phentsize bytes
abbrev pub program_header_at : List ℕ → ℕ → ProgramHeader
program_header_at bytes i =
    let h = file_header bytes in program_header (bytes_at bytes (h.e_phoff + i * h.e_phentsize) h.e_phentsize)

-- the table: e_phnum entries
unfoldable pub program_headers : List ℕ → List ProgramHeader
program_headers bytes = map (program_header_at bytes) (range_with_len 0 (file_header bytes).e_phnum)

-- whether a program header is of a segment to be loaded
abbrev pub is_load : ProgramHeader → Bool
is_load p = p.p_type == pt_load
