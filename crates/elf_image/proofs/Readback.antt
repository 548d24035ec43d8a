-- What a spelling reads as: the image that was spelled, with no fault.
use Rattle.std.proofs.Common.{Bool, sum_by}
use Rattle.std.proofs.Common.{◌≡◌, ℕ, zero, suc, ◌+◌, ◌*◌, ◌^◌, ◌<◌, ◌≤◌, true, false, cond, not, ◌&&◌, nat_lt, ◌==◌, List, [], ◌∷◌, ◌++◌}
use Rattle.std.proofs.Common.{length, map, filter, take, get_or, None, refl, sym, ap, ◌∙◌, arith}
use Rattle.std.specs.List.{range_with_len}
use Rattle.std.specs.Int.{w16, w32, to_le_bytes, from_le_bytes}
use Rattle.std.proofs.lemmas.Bool.Decides.{nat_tests}
use Rattle.std.proofs.lemmas.List.FromFn.{map-range_with_len_more, filter_of_map_range_with_len_more, fill_by_all}
use Rattle.std.proofs.lemmas.List.Elements.{All-get_or}
use Rattle.std.proofs.lemmas.List.{get_or_default}
use Rattle.std.proofs.lemmas.List.Sums.{sum_by-take-le}
use Rattle.std.proofs.lemmas.Nat.{from_le_bytes-to_le_bytes_2, from_le_bytes-to_le_bytes_4}
use Rattle.std.proofs.lemmas.Simd.{map-map}
use Rattle.node_memory.specs.Bytes.{bytes_at}
use Rattle.node_memory.specs.Image.{Image, Segment, IsSegment}
use Rattle.elf_image.specs.Headers.{FileHeader, ProgramHeader, ehdr_size, file_header, program_header, program_header_at, program_headers}
use Rattle.elf_image.specs.Headers.{is_load}
use Rattle.elf_image.specs.Presents.{segment_of, Presents}
use Rattle.elf_image.specs.Faults.{first_fault, start_checks, identity_checks, layout_checks, file_header_checks, program_header_checks}
use Rattle.elf_image.specs.Faults.{most_segment_bytes, filesz_of, entry_checks, table_checks, file_checks, file_fault}
use Rattle.elf_image.specs.Spelling.{spelled_file_header, spelled_program_header, bytes_offset, spelling_of, IsImage}
use Rattle.elf_image.proofs.Checks.{none_from_NoneHolds, none-append, none_all}
use Rattle.elf_image.proofs.Table.{filesz_of_more}
use Rattle.elf_image.proofs.Spelled.{bytes_offset-more}
use Rattle.elf_image.proofs.Pieces.{length-spelling_of, entry_at, segment_at, segment_ends, sizes_sum}

-- ---- the headers

abbrev pub header_of : ℕ → ℕ → FileHeader
header_of entry n =
    record {
      ei_class = 1;
      ei_data = 1;
      ei_version = 1;
      e_type = 2;
      e_machine = 243;
      e_version = 1;
      e_entry = entry;
      e_phoff = 52;
      e_ehsize = 52;
      e_phentsize = 32;
      e_phnum = n;
    }

as_read : (i : Image)
    → file_header (spelling_of i) ≡ header_of (from_le_bytes w32 (to_le_bytes w32 i.entry))
    (from_le_bytes w16 (to_le_bytes w16 (length i.segments)))
unfolding spelling_of spelled_file_header file_header
as_read i = refl

pub file_header-spelling_of : (i : Image) → IsImage i → file_header (spelling_of i) ≡ header_of i.entry (length i.segments)
file_header-spelling_of i fits =
    let few = fits.limits.few in
    as_read i
    ∙ ap (λ e. header_of e (from_le_bytes w16 (to_le_bytes w16 (length i.segments)))) (from_le_bytes-to_le_bytes_4 i.entry fits.entry)
    ∙ ap (header_of i.entry) (from_le_bytes-to_le_bytes_2 (length i.segments) (omega arith))

abbrev pub load_header : ℕ → Segment → ProgramHeader
load_header offset s = record { p_type = 1; p_offset = offset; p_vaddr = s.addr; p_filesz = length s.bytes; p_memsz = s.size }

abbrev reread : ℕ → ℕ
reread n = from_le_bytes w32 (to_le_bytes w32 n)

entry_as_read : (offset : ℕ) (s : Segment)
    → program_header (spelled_program_header offset s)
    ≡ record { p_type = 1; p_offset = reread offset; p_vaddr = reread s.addr; p_filesz = reread (length s.bytes); p_memsz = reread s.size }
unfolding spelled_program_header program_header
entry_as_read offset s = refl

entry_read : (offset : ℕ) (s : Segment) → offset < 2 ^ 32 → s.addr < 2 ^ 32 → length s.bytes < 2 ^ 32 → s.size < 2 ^ 32
    → program_header (spelled_program_header offset s) ≡ load_header offset s
entry_read offset s a b c d =
    entry_as_read offset s
    ∙ rw (
      from_le_bytes-to_le_bytes_4 offset a,
      from_le_bytes-to_le_bytes_4 s.addr b,
      from_le_bytes-to_le_bytes_4 (length s.bytes) c,
      from_le_bytes-to_le_bytes_4 s.size d,
    ) refl

-- no offset in the file passes 32 bits
shorter : (i : Image) → IsImage i → length (spelling_of i) ≤ 2 ^ 29
shorter i fits = omega (arith, length-spelling_of i, fits.limits.few, fits.limits.small)

pub short : (i : Image) → IsImage i → sum_by (λ (s : Segment). length s.bytes) i.segments ≤ 2 ^ 24 → length (spelling_of i) ≤ 2 ^ 25
short i fits small = omega (arith, length-spelling_of i, fits.limits.few, small)

abbrev no_segment : Segment
no_segment = record { addr = 0; bytes = []; size = 0 }

-- segment k of an image
abbrev segment : Image → ℕ → Segment
segment i k = get_or i.segments k no_segment

segment-is : (i : Image) (k : ℕ) → k < length i.segments → segment i k ≡ get_or i.segments k (segment i k)
segment-is i k h = get_or_default i.segments k no_segment (segment i k) h

-- entry k of the table is the header of segment k
pub entry-spelling_of : (i : Image) (k : ℕ) → IsImage i → k < length i.segments
    → program_header_at (spelling_of i) k ≡ load_header (bytes_offset i k) (segment i k)
entry-spelling_of i k fits h =
    let s = segment i k in
    let b = spelling_of i in
    let numbers =
    All-get_or (λ (s : Segment). (s.addr < 2 ^ 32) × (s.size < 2 ^ 32) × IsSegment s) i.segments k no_segment h fits.segments in
    let ends = segment_ends i k s h (segment-is i k h) in
    let len = shorter i fits in
    ap (λ (h : FileHeader). program_header (bytes_at b (h.e_phoff + k * h.e_phentsize) h.e_phentsize)) (file_header-spelling_of i fits)
    ∙ ap program_header (entry_at i k s h (segment-is i k h))
    ∙ entry_read (bytes_offset i k) s (omega arith) numbers.0 (omega arith) numbers.1

segment-spelling_of : (i : Image) (k : ℕ) → IsImage i → k < length i.segments
    → segment_of (spelling_of i) (program_header_at (spelling_of i) k) ≡ segment i k
segment-spelling_of i k fits h =
    let s = segment i k in
    let whole : List ℕ → Segment = λ bytes. record { addr = s.addr; bytes = bytes; size = s.size } in
    ap (segment_of (spelling_of i)) (entry-spelling_of i k fits h) ∙ ap whole (segment_at i k s h (segment-is i k h))

-- ---- the image

filter_all : (f : ℕ → ProgramHeader) (n : ℕ) → ((k : ℕ) → k < n → is_load (f k) ≡ true)
    → filter is_load (map f (range_with_len 0 n)) ≡ map f (range_with_len 0 n)
filter_all f zero all = refl
filter_all f (suc n) all =
    let len : suc n ≡ n + 1 = omega arith in
    let before = filter_all f n (λ k h. all k (omega arith)) in
    let last = all n (omega arith) in
    ap (λ k. filter is_load (map f (range_with_len 0 k))) len
    ∙ filter_of_map_range_with_len_more is_load f 0 n n (omega arith)
    ∙ ap (λ (ps : List ProgramHeader). ps ++ cond (is_load (f n)) (f n ∷ []) []) before
    ∙ ap (λ b. map f (range_with_len 0 n) ++ cond b (f n ∷ []) []) last
    ∙ sym (map-range_with_len_more f 0 n n (omega arith))
    ∙ ap (λ k. map f (range_with_len 0 k)) (sym len)

load-spelling_of : (i : Image) (k : ℕ) → IsImage i → k < length i.segments → is_load (program_header_at (spelling_of i) k) ≡ true
load-spelling_of i k fits h = ap is_load (entry-spelling_of i k fits h)

segments-spelling_of : (i : Image) → IsImage i
    → i.segments ≡ map (segment_of (spelling_of i)) (filter is_load (program_headers (spelling_of i)))
unfolding program_headers
segments-spelling_of i fits =
    let b = spelling_of i in
    let n = length i.segments in
    let f : ℕ → ProgramHeader = program_header_at b in
    let number : (file_header b).e_phnum ≡ n = ap (λ (h : FileHeader). h.e_phnum) (file_header-spelling_of i fits) in
    fill_by_all (λ k. segment_of b (f k)) i.segments n no_segment refl (λ k h. sym (segment-spelling_of i k fits h))
    ∙ sym (map-map (segment_of b) f (range_with_len 0 n))
    ∙ ap (map (segment_of b)) (sym (filter_all f n (λ k h. load-spelling_of i k fits h)))
    ∙ ap (λ k. map (segment_of b) (filter is_load (map f (range_with_len 0 k)))) (sym number)

pub presents : (i : Image) → IsImage i → Presents (spelling_of i) i
presents i fits = record {
  entry = ap (λ (h : FileHeader). h.e_entry) (sym (file_header-spelling_of i fits));
  segments = segments-spelling_of i fits;
}

pub no_other : (i j : Image) → IsImage i → Presents (spelling_of i) j → j ≡ i
no_other i j fits other =
    let mine = presents i fits in
    let entry : j.entry ≡ i.entry = other.entry ∙ sym mine.entry in
    let segments : j.segments ≡ i.segments = other.segments ∙ sym mine.segments in
    let whole : ℕ → List Segment → Image = λ e ss. record { entry = e; segments = ss } in
    ap (λ e. whole e j.segments) entry ∙ ap (whole i.entry) segments

-- ---- no fault

starts : (i : Image) → IsImage i → first_fault (start_checks (spelling_of i)) ≡ None
unfolding spelling_of spelled_file_header
starts i fits =
    let long : nat_lt (length (spelling_of i)) ehdr_size ≡ false = grind (arith, nat_tests, length-spelling_of i) in
    none_from_NoneHolds (start_checks (spelling_of i)) (refl, (long, tt))

lays_out : (entry n len : ℕ) → n ≤ 65534 → 52 + n * 32 ≤ len → first_fault (layout_checks len (header_of entry n)) ≡ None
lays_out entry n len few long =
    let size : (nat_lt 0 n && not (32 == 32)) ≡ false = grind (arith, nat_tests) in
    let counted : (n == 65535) ≡ false = grind (arith, nat_tests) in
    let within : (nat_lt 0 n && nat_lt len (52 + n * 32)) ≡ false = grind (arith, nat_tests) in
    none_from_NoneHolds (layout_checks len (header_of entry n)) (refl, (refl, (size, (counted, (within, tt)))))

header_has_none : (i : Image) → IsImage i → first_fault (file_header_checks (spelling_of i)) ≡ None
unfolding file_header_checks
header_has_none i fits =
    let b = spelling_of i in
    let h = file_header-spelling_of i fits in
    let identity : first_fault (identity_checks (file_header b)) ≡ None = ap (λ (h : FileHeader). first_fault (identity_checks h)) h in
    let layout : first_fault (layout_checks (length b) (file_header b)) ≡ None =
    ap (λ (h : FileHeader). first_fault (layout_checks (length b) h)) h ∙ lays_out i.entry (length i.segments) (length b) fits.limits.few
    (omega (arith, length-spelling_of i)) in
    none-append (start_checks b) (identity_checks (file_header b) ++ layout_checks (length b) (file_header b)) (starts i fits)
    (none-append (identity_checks (file_header b)) (layout_checks (length b) (file_header b)) identity layout)

filesz-spelling_of : (i : Image) (k : ℕ) → IsImage i → k ≤ length i.segments
    → filesz_of k (program_headers (spelling_of i)) ≡ sizes_sum (take k i.segments)
filesz-spelling_of i zero fits h = refl
filesz-spelling_of i (suc k) fits h =
    let b = spelling_of i in
    let s = segment i k in
    let len : suc k ≡ k + 1 = omega arith in
    let within : k < length i.segments = omega arith in
    let number : (file_header b).e_phnum ≡ length i.segments = ap (λ (h : FileHeader). h.e_phnum) (file_header-spelling_of i fits) in
    let here : cond (is_load (program_header_at b k)) (program_header_at b k).p_filesz 0 ≡ length s.bytes =
    ap (λ (p : ProgramHeader). cond (is_load p) p.p_filesz 0) (entry-spelling_of i k fits within) in
    let before = filesz-spelling_of i k fits (omega arith) in
    let of_headers = filesz_of_more b k (omega arith) in
    let of_segments = bytes_offset-more i k s within (segment-is i k within) in
    rw len (omega (arith, here, before, of_headers, of_segments))

entry_passes : (large : Bool) (len so_far offset : ℕ) (s : Segment) → IsSegment s → so_far ≤ 2 ^ 24 → offset + length s.bytes ≤ len
    → first_fault (program_header_checks large len so_far (load_header offset s)) ≡ None
entry_passes large len so_far offset s valid small within =
    let holds : nat_lt s.size (length s.bytes) ≡ false = grind (arith, nat_tests, valid.holds_bytes) in
    let ends : nat_lt (2 ^ 32) (s.addr + s.size) ≡ false = grind (arith, nat_tests, valid.in_addresses) in
    let few : nat_lt (most_segment_bytes large) so_far ≡ false = few_by large in
    let in_file : (nat_lt 0 (length s.bytes) && nat_lt len (offset + length s.bytes)) ≡ false = grind (arith, nat_tests) in
    none_from_NoneHolds (program_header_checks large len so_far (load_header offset s)) (refl, (holds, (ends, (few, (in_file, tt)))))
  where
    few_by : (l : Bool) → nat_lt (most_segment_bytes l) so_far ≡ false
    few_by true = grind (arith, nat_tests)
    few_by false = grind (arith, nat_tests)

-- the bytes of the segments of an image
abbrev image_size : Image → ℕ
image_size i = sum_by (λ (s : Segment). length s.bytes) i.segments

table_has_none : (large : Bool) (i : Image) → IsImage i → image_size i ≤ 2 ^ 24 → first_fault (table_checks large (spelling_of i)) ≡ None
unfolding table_checks entry_checks
table_has_none large i fits small =
    let b = spelling_of i in
    let number : (file_header b).e_phnum ≡ length i.segments = ap (λ (h : FileHeader). h.e_phnum) (file_header-spelling_of i fits) in
    let at : (k : ℕ) → k < (file_header b).e_phnum → first_fault (entry_checks large b k) ≡ None = λ k h.
    let within : k < length i.segments = omega arith in
    let s = segment i k in
    let numbers =
    All-get_or (λ (s : Segment). (s.addr < 2 ^ 32) × (s.size < 2 ^ 32) × IsSegment s) i.segments k no_segment within fits.segments in
    let so_far = filesz-spelling_of i (k + 1) fits (omega arith) in
    let total = sum_by-take-le (λ (t : Segment). length t.bytes) i.segments (k + 1) in
    ap (λ (p : ProgramHeader). first_fault (program_header_checks large (length b) (filesz_of (k + 1) (program_headers b)) p))
    (entry-spelling_of i k fits within)
    ∙ entry_passes large (length b) (filesz_of (k + 1) (program_headers b)) (bytes_offset i k) s numbers.2
    (omega (arith, so_far, total, small)) (segment_ends i k s within (segment-is i k within))
    in
    none_all (entry_checks large b) (file_header b).e_phnum at

pub no_fault : (large : Bool) (i : Image) → IsImage i → sum_by (λ (s : Segment). length s.bytes) i.segments ≤ 2 ^ 24
    → file_fault large (spelling_of i) ≡ None
unfolding file_checks
no_fault large i fits small =
    none-append (file_header_checks (spelling_of i)) (table_checks large (spelling_of i)) (header_has_none i fits)
    (table_has_none large i fits small)
