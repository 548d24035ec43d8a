-- The one file that an image is saved as: the file header, a PT_LOAD header for each segment, and then the bytes of the
-- segments, without gaps. The fields stand in the order of the System V ABI, chapter 4, section "ELF Header", and chapter
-- 5, section "Program Header"; e_shoff, e_flags and the fields of sections are 0 (own rule).
use Rattle.std.specs.Prelude.{ℕ, ◌+◌, ◌*◌, ◌^◌, ◌<◌, List, ◌∷◌, ◌++◌, length, replicate, sum_by, take, All}
use Rattle.std.specs.List.{flat_map, enumerate_from}
use Rattle.std.specs.Int.{w16, w32, to_le_bytes}
use Rattle.node_memory.specs.Image.{Image, Segment, IsSegment, IsWithinLimits}
use Rattle.elf_image.specs.Headers.{elf_magic, ehdr_size, phdr_size, elfclass32, elfdata2lsb, ev_current, et_exec, em_riscv, pt_load}

-- a number of two bytes, and of four
abbrev pub half : ℕ → List ℕ
half n = to_le_bytes w16 n

abbrev pub word : ℕ → List ℕ
word n = to_le_bytes w32 n

-- e_ident: what the file is, and nine zeros: that no system's extensions are used (EI_OSABI, EI_ABIVERSION), and padding
abbrev pub elf_ident : List ℕ
elf_ident = elf_magic ++ (elfclass32 ∷ elfdata2lsb ∷ ev_current ∷ replicate 9 0)

-- the file header of an image with `segments` segments: the table of program headers comes right after it, and there are no
-- sections
unfoldable pub spelled_file_header : ℕ → ℕ → List ℕ
spelled_file_header entry segments =
    elf_ident
    ++ half et_exec  -- e_type
    ++ half em_riscv  -- e_machine
    ++ word ev_current  -- e_version
    ++ word entry  -- e_entry
    ++ word ehdr_size  -- e_phoff
    ++ word 0  -- e_shoff
    ++ word 0  -- e_flags
    ++ half ehdr_size  -- e_ehsize
    ++ half phdr_size  -- e_phentsize
    ++ half segments  -- e_phnum
    ++ half 0  -- e_shentsize
    ++ half 0  -- e_shnum
    ++ half 0  -- e_shstrndx

-- where the bytes of segment n of an image begin: after the headers and the bytes of the segments before it
abbrev pub bytes_offset : Image → ℕ → ℕ
bytes_offset i n = ehdr_size + phdr_size * length i.segments + sum_by (λ (s : Segment). length s.bytes) (take n i.segments)

-- the program header of a segment whose bytes begin at `offset`. It may be read, written and executed (PF_R, PF_W and
-- PF_X), and lies at any address (an alignment of 1)
unfoldable pub spelled_program_header : ℕ → Segment → List ℕ
spelled_program_header offset s =
    word pt_load  -- p_type
    ++ word offset  -- p_offset
    ++ word s.addr  -- p_vaddr
    ++ word s.addr  -- p_paddr
    ++ word (length s.bytes)  -- p_filesz
    ++ word s.size  -- p_memsz
    ++ word 7  -- p_flags
    ++ word 1  -- p_align

-- segment n of an image, as its program header
abbrev pub spelled_entry : Image → ℕ × Segment → List ℕ
spelled_entry i entry = spelled_program_header (bytes_offset i entry.0) entry.1

-- the file that an image is saved as
unfoldable pub spelling_of : Image → List ℕ
spelling_of i =
    spelled_file_header i.entry (length i.segments)
    ++ flat_map (spelled_entry i) (enumerate_from 0 i.segments)
    ++ flat_map (λ (s : Segment). s.bytes) i.segments

-- what is asked of an image that is to be spelled: numbers of 32 bits, and the limits. Each image of a program has them
pub record IsImage (i : Image) : Type 0 where
  pub entry : i.entry < 2 ^ 32
  pub segments : All (λ (s : Segment). (s.addr < 2 ^ 32) × (s.size < 2 ^ 32) × IsSegment s) i.segments
  pub limits : IsWithinLimits i
