-- What a file whose headers have no fault says of its table of program headers.
use Rattle.std.proofs.Common.{◌≡◌, ◌≢◌, ℕ, zero, suc, ◌+◌, ◌*◌, ◌^◌, ◌<◌, ◌≤◌, Bool, true, false, cond, not, ◌&&◌, nat_lt, ◌==◌, List, []}
use Rattle.std.proofs.Common.{◌∷◌, ◌++◌, length, filter, take, get_or, Option, Some, None, refl, sym, ap, ◌∙◌, arith, sum_by}
use Rattle.std.proofs.lemmas.Bool.Decides.{nat_tests}
use Rattle.std.proofs.lemmas.List.FromFn.{length-map-range_with_len, get_or-map-range_with_len}
use Rattle.std.proofs.lemmas.List.Elements.{filter_more}
use Rattle.std.proofs.lemmas.List.Sums.{sum_by-append}
use Rattle.node_memory.specs.Bytes.{bytes_at}
use Rattle.std.specs.List.{flat_map, range_with_len}
use Rattle.elf_image.specs.declared.error.ElfError.{ElfError}
use Rattle.elf_image.specs.Headers.{FileHeader, ProgramHeader, ehdr_size, phdr_size, file_header, program_header, program_header_at}
use Rattle.elf_image.specs.Headers.{program_headers, is_load}
use Rattle.elf_image.specs.Faults.{first_fault, start_checks, identity_checks, layout_checks, file_header_checks, program_header_checks}
use Rattle.elf_image.specs.Faults.{most_segment_bytes, filesz_of, entry_checks, table_checks}
use Rattle.elf_image.proofs.Checks.{NoneHolds-from_none, none_of_append, none_at, fault_at}

-- the file header is whole, and the table lies in the file
pub record HasTable (len : ℕ) (h : FileHeader) : Type 0 where
  pub whole : ehdr_size ≤ len
  pub few : h.e_phnum ≢ 65535
  pub entry_size : 0 < h.e_phnum → h.e_phentsize ≡ phdr_size
  pub within : 0 < h.e_phnum → h.e_phoff + h.e_phnum * phdr_size ≤ len

entry_size_from : (h : FileHeader) → (nat_lt 0 h.e_phnum && not (h.e_phentsize == phdr_size)) ≡ false → 0 < h.e_phnum
    → h.e_phentsize ≡ phdr_size
entry_size_from h passed some = grind (arith, nat_tests)

within_from : (len : ℕ) (h : FileHeader) → (nat_lt 0 h.e_phnum && nat_lt len (h.e_phoff + h.e_phnum * h.e_phentsize)) ≡ false
    → h.e_phentsize ≡ phdr_size → 0 < h.e_phnum → h.e_phoff + h.e_phnum * phdr_size ≤ len
within_from len h passed size some = rw (← size) (grind (arith, nat_tests))

pub HasTable-from_none : (bytes : List ℕ) → first_fault (file_header_checks bytes) ≡ None → HasTable (length bytes) (file_header bytes)
unfolding file_header_checks
HasTable-from_none bytes none =
    let h = file_header bytes in
    let parts = none_of_append (start_checks bytes) (identity_checks h ++ layout_checks (length bytes) h) none in
    let starts = NoneHolds-from_none (start_checks bytes) parts.0 in
    let layout =
    NoneHolds-from_none (layout_checks (length bytes) h) (none_of_append (identity_checks h) (layout_checks (length bytes) h) parts.1).1 in
    record {
      whole = grind (arith, nat_tests, starts.1.0);
      few = grind (arith, nat_tests, layout.1.1.1.0);
      entry_size = entry_size_from h layout.1.1.0;
      within = λ some. within_from (length bytes) h layout.1.1.1.1.0 (entry_size_from h layout.1.1.0 some) some;
    }

-- entry i of the table is in the file
pub entry_within : (len i : ℕ) (h : FileHeader) → HasTable len h → i < h.e_phnum → h.e_phoff + i * phdr_size + phdr_size ≤ len
entry_within len i h table below =
    let within = table.within (omega arith) in omega arith

-- and is made of these bytes of it
pub program_header_at-is : (bytes : List ℕ) (i : ℕ) → HasTable (length bytes) (file_header bytes) → i < (file_header bytes).e_phnum
    → program_header_at bytes i ≡ program_header (bytes_at bytes ((file_header bytes).e_phoff + i * phdr_size) phdr_size)
program_header_at-is bytes i table below =
    let size = table.entry_size (omega arith) in
    ap (λ n. program_header (bytes_at bytes ((file_header bytes).e_phoff + i * n) n)) size

-- the number of entries, as the code reads it
pub phnum-is : (bytes : List ℕ) (h : FileHeader) (n : ℕ) → h ≡ file_header bytes → n ≡ h.e_phnum → n ≡ (file_header bytes).e_phnum
phnum-is bytes h n header number = number ∙ ap (λ (h : FileHeader). h.e_phnum) header

-- ---- the table as a list

pub length-program_headers : (bytes : List ℕ) → length (program_headers bytes) ≡ (file_header bytes).e_phnum
unfolding program_headers
length-program_headers bytes = length-map-range_with_len (program_header_at bytes) 0 (file_header bytes).e_phnum

pub get_or-program_headers : (bytes : List ℕ) (i : ℕ) (d : ProgramHeader) → i < (file_header bytes).e_phnum
    → get_or (program_headers bytes) i d ≡ program_header_at bytes i
unfolding program_headers
get_or-program_headers bytes i d h = get_or-map-range_with_len (program_header_at bytes) 0 (file_header bytes).e_phnum i i d h (omega arith)

-- the PT_LOAD headers up to one more
pub loads_more : (bytes : List ℕ) (i : ℕ) → i < (file_header bytes).e_phnum
    → filter is_load (take (i + 1) (program_headers bytes)) ≡ filter is_load (take i (program_headers bytes))
    ++ cond (is_load (program_header_at bytes i)) (program_header_at bytes i ∷ []) []
loads_more bytes i h =
    let d = program_header_at bytes i in
    let place = get_or-program_headers bytes i d h in
    filter_more is_load (program_headers bytes) i d (omega (arith, length-program_headers bytes))
    ∙ ap (λ (p : ProgramHeader). filter is_load (take i (program_headers bytes)) ++ cond (is_load p) (p ∷ []) []) place

filesz_push : (headers : List ProgramHeader) (loads : Bool) (header : ProgramHeader)
    → sum_by (λ (q : ProgramHeader). q.p_filesz) (headers ++ cond loads (header ∷ []) [])
    ≡ sum_by (λ (q : ProgramHeader). q.p_filesz) headers + cond loads header.p_filesz 0
filesz_push headers true header = sum_by-append (λ (q : ProgramHeader). q.p_filesz) headers (header ∷ []) ∙ omega arith
filesz_push headers false header = sum_by-append (λ (q : ProgramHeader). q.p_filesz) headers [] ∙ omega arith

pub filesz_of_more : (bytes : List ℕ) (i : ℕ) → i < (file_header bytes).e_phnum
    → filesz_of (i + 1) (program_headers bytes) ≡ filesz_of i (program_headers bytes) + cond (is_load (program_header_at bytes i))
    (program_header_at bytes i).p_filesz 0
filesz_of_more bytes i h =
    ap (sum_by (λ (q : ProgramHeader). q.p_filesz)) (loads_more bytes i h)
    ∙ filesz_push (filter is_load (take i (program_headers bytes))) (is_load (program_header_at bytes i)) (program_header_at bytes i)

-- ---- a table with no fault

-- a header of a segment that can be loaded from a file of `len` bytes, `so_far` with its own
pub record IsLoadable (len so_far : ℕ) (p : ProgramHeader) : Type 0 where
  pub holds_bytes : p.p_filesz ≤ p.p_memsz
  pub in_addresses : p.p_vaddr + p.p_memsz ≤ 2 ^ 32
  pub small : so_far ≤ 2 ^ 28
  pub in_file : 0 < p.p_filesz → p.p_offset + p.p_filesz ≤ len

load_test : (b c : Bool) → b ≡ true → (b && c) ≡ false → c ≡ false
load_test b c is passed = grind (arith, nat_tests)

in_file_from : (len : ℕ) (p : ProgramHeader) → is_load p ≡ true
    → (is_load p && nat_lt 0 p.p_filesz && nat_lt len (p.p_offset + p.p_filesz)) ≡ false → 0 < p.p_filesz → p.p_offset + p.p_filesz ≤ len
in_file_from len p is passed some = grind (arith, nat_tests)

few_from : (large : Bool) (so_far : ℕ) → nat_lt (most_segment_bytes large) so_far ≡ false → so_far ≤ 2 ^ 28
few_from true so_far few = grind (arith, nat_tests)
few_from false so_far few = grind (arith, nat_tests)

pub IsLoadable-from_none : (large : Bool) (len so_far : ℕ) (p : ProgramHeader) → first_fault (program_header_checks large len so_far p) ≡ None → is_load p ≡ true
    → IsLoadable len so_far p
IsLoadable-from_none large len so_far p none is =
    let tests = NoneHolds-from_none (program_header_checks large len so_far p) none in
    record {
      holds_bytes = grind (arith, nat_tests, load_test (is_load p) (nat_lt p.p_memsz p.p_filesz) is tests.1.0);
      in_addresses = grind (arith, nat_tests, load_test (is_load p) (nat_lt (2 ^ 32) (p.p_vaddr + p.p_memsz)) is tests.1.1.0);
      small = few_from large so_far (load_test (is_load p) (nat_lt (most_segment_bytes large) so_far) is tests.1.1.1.0);
      in_file = in_file_from len p is tests.1.1.1.1.0;
    }

pub loadable_at : (large : Bool) (bytes : List ℕ) (i : ℕ) → first_fault (table_checks large bytes) ≡ None → i < (file_header bytes).e_phnum
    → is_load (program_header_at bytes i) ≡ true
    → IsLoadable (length bytes) (filesz_of (i + 1) (program_headers bytes)) (program_header_at bytes i)
unfolding table_checks entry_checks
loadable_at large bytes i none h is =
    IsLoadable-from_none large (length bytes) (filesz_of (i + 1) (program_headers bytes)) (program_header_at bytes i)
    (none_at (entry_checks large bytes) (file_header bytes).e_phnum i h none) is

-- the segments of a table with no fault have few bytes
filesz_small_step : (large b : Bool) (bytes : List ℕ) (i : ℕ) → first_fault (table_checks large bytes) ≡ None → i < (file_header bytes).e_phnum
    → is_load (program_header_at bytes i) ≡ b → filesz_of i (program_headers bytes) ≤ 2 ^ 28
    → filesz_of (i + 1) (program_headers bytes) ≤ 2 ^ 28
filesz_small_step large true bytes i none h is before = (loadable_at large bytes i none h is).small
filesz_small_step large false bytes i none h is before =
    let more : filesz_of (i + 1) (program_headers bytes) ≡ filesz_of i (program_headers bytes) + 0 =
    filesz_of_more bytes i h ∙ ap (λ b. filesz_of i (program_headers bytes) + cond b (program_header_at bytes i).p_filesz 0) is in
    omega arith

pub filesz_small : (large : Bool) (bytes : List ℕ) (n : ℕ) → first_fault (table_checks large bytes) ≡ None → n ≤ (file_header bytes).e_phnum
    → filesz_of n (program_headers bytes) ≤ 2 ^ 28
filesz_small large bytes zero none h = omega arith
filesz_small large bytes (suc n) none h =
    let len : suc n ≡ n + 1 = omega arith in
    rw len (filesz_small_step large (is_load (program_header_at bytes n)) bytes n none (omega arith) refl
    (filesz_small large bytes n none (omega arith)))

-- ---- a step over the table: `p` is entry i, and `so_far` is what the headers up to and with it load

pub filesz_step : (bytes : List ℕ) (i before so_far : ℕ) (p : ProgramHeader) → i < (file_header bytes).e_phnum
    → p ≡ program_header_at bytes i → before ≡ filesz_of i (program_headers bytes) → so_far ≡ before + cond (is_load p) p.p_filesz 0
    → so_far ≡ filesz_of (i + 1) (program_headers bytes)
filesz_step bytes i before so_far p h is was now =
    let more = filesz_of_more bytes i h in
    let here : cond (is_load p) p.p_filesz 0 ≡ cond (is_load (program_header_at bytes i)) (program_header_at bytes i).p_filesz 0 =
    ap (λ (q : ProgramHeader). cond (is_load q) q.p_filesz 0) is in
    omega arith

pub fault_of_entry : (large : Bool) (bytes : List ℕ) (i len so_far : ℕ) (p : ProgramHeader) (o : Option ElfError) → p ≡ program_header_at bytes i
    → len ≡ length bytes → so_far ≡ filesz_of (i + 1) (program_headers bytes) → o ≡ first_fault (program_header_checks large len so_far p)
    → first_fault (entry_checks large bytes i) ≡ o
unfolding entry_checks
fault_of_entry large bytes i len so_far p o is size total found =
    sym (found
    ∙ ap (λ n. first_fault (program_header_checks large n so_far p)) size
    ∙ ap (λ n. first_fault (program_header_checks large (length bytes) n p)) total
    ∙ ap (λ (q : ProgramHeader). first_fault (program_header_checks large (length bytes) (filesz_of (i + 1) (program_headers bytes)) q)) is)

-- the fault of entry i, where none before it has one, is the table's
pub fault_of_table : (large : Bool) (bytes : List ℕ) (i : ℕ) (e : ElfError) → i < (file_header bytes).e_phnum
    → first_fault (flat_map (entry_checks large bytes) (range_with_len 0 i)) ≡ None → first_fault (entry_checks large bytes i) ≡ Some e
    → Some e ≡ first_fault (table_checks large bytes)
unfolding table_checks
fault_of_table large bytes i e h before here = sym (fault_at (entry_checks large bytes) (file_header bytes).e_phnum i e h before here)

pub none_of_table : (large : Bool) (bytes : List ℕ) (n : ℕ) → n ≡ (file_header bytes).e_phnum
    → first_fault (flat_map (entry_checks large bytes) (range_with_len 0 n)) ≡ None → None ≡ first_fault (table_checks large bytes)
unfolding table_checks
none_of_table large bytes n all none = sym none ∙ ap (λ k. first_fault (flat_map (entry_checks large bytes) (range_with_len 0 k))) all
