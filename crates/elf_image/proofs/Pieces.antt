-- Where the pieces of a spelling lie in it.
use Rattle.std.proofs.Common.{◌≡◌, ℕ, suc, ◌+◌, ◌*◌, ◌-◌, ◌<◌, ◌≤◌, List, [], ◌∷◌, ◌++◌, length, take, drop, get_or, refl, sym, ap, ◌∙◌}
use Rattle.std.proofs.Common.{arith, append_assoc, sum_by, length-take, length-append}
use Rattle.std.specs.List.{flat_map, enumerate_from}
use Rattle.std.proofs.lemmas.List.{take_at, drop_at, take-append-drop, drop_more}
use Rattle.std.proofs.lemmas.List.Concat.{flat_map-append, length-flat_map}
use Rattle.std.proofs.lemmas.List.Sums.{sum_by-append, sum_by-cons}
use Rattle.node_memory.specs.Bytes.{bytes_at}
use Rattle.node_memory.specs.Image.{Image, Segment}
use Rattle.elf_image.specs.Spelling.{spelled_file_header, spelled_program_header, spelled_entry, bytes_offset, spelling_of}
use Rattle.elf_image.proofs.Spelled.{table_before}

-- the bytes between two others
pub bytes_between : (bytes front middle rest : List ℕ) (at len : ℕ) → bytes ≡ front ++ (middle ++ rest) → length front ≡ at
    → length middle ≡ len → bytes_at bytes at len ≡ middle
bytes_between bytes front middle rest at len is start size =
    let n : at + len - at ≡ len = omega arith in
    ap (λ (b : List ℕ). bytes_at b at len) is
    ∙ ap (λ (b : List ℕ). take (at + len - at) b) (drop_at front (middle ++ rest) at start)
    ∙ ap (λ k. take k (middle ++ rest)) n
    ∙ take_at middle rest len size

-- ---- lengths

pub length-file_header : (entry n : ℕ) → length (spelled_file_header entry n) ≡ 52
unfolding spelled_file_header
length-file_header entry n = refl

pub length-program_header : (offset : ℕ) (s : Segment) → length (spelled_program_header offset s) ≡ 32
unfolding spelled_program_header
length-program_header offset s = refl

entries_len : (i : Image) (a : ℕ) (ss : List Segment) → length (flat_map (spelled_entry i) (enumerate_from a ss)) ≡ length ss * 32
entries_len i a [] = refl
entries_len i a (s ∷ ss) =
    let rest = entries_len i (a + 1) ss in
    omega (
      arith,
      rest,
      length-append (spelled_entry i (a, s)) (flat_map (spelled_entry i) (enumerate_from (a + 1) ss)),
      length-program_header (bytes_offset i a) s,
    )

abbrev pub segments_bytes : List Segment → List ℕ
segments_bytes ss = flat_map (λ (s : Segment). s.bytes) ss

abbrev pub sizes_sum : List Segment → ℕ
sizes_sum ss = sum_by (λ (s : Segment). length s.bytes) ss

pub length-spelling_of : (i : Image) → length (spelling_of i) ≡ 52 + length i.segments * 32 + sizes_sum i.segments
unfolding spelling_of
length-spelling_of i =
    let h = spelled_file_header i.entry (length i.segments) in
    let t = flat_map (spelled_entry i) (enumerate_from 0 i.segments) in
    let d = segments_bytes i.segments in
    omega (
      arith,
      length-append (h ++ t) d,
      length-append h t,
      length-file_header i.entry (length i.segments),
      entries_len i 0 i.segments,
      length-flat_map (λ (s : Segment). s.bytes) i.segments,
    )

-- ---- places

enumerate_from-append : {X : Type 0} → (n : ℕ) (xs ys : List X)
    → enumerate_from n (xs ++ ys) ≡ enumerate_from n xs ++ enumerate_from (n + length xs) ys
enumerate_from-append n [] ys = ap (λ k. enumerate_from k ys) (omega arith)
enumerate_from-append n (x ∷ xs) ys =
    let place : n + 1 + length xs ≡ n + suc (length xs) = omega arith in
    ap (λ es. (n, x) ∷ es) (enumerate_from-append (n + 1) xs ys ∙ ap (λ k. enumerate_from (n + 1) xs ++ enumerate_from k ys) place)

-- a list as what stands before place k, the element there and the rest
around : {X : Type 0} → (xs : List X) (k : ℕ) (x : X) → k < length xs → x ≡ get_or xs k x → xs ≡ take k xs ++ (x ∷ drop (k + 1) xs)
around xs k x h is =
    sym (take-append-drop k xs) ∙ ap (λ ys. take k xs ++ ys) (drop_more xs k x h ∙ ap (λ y. y ∷ drop (k + 1) xs) (sym is))

table_around : (i : Image) (k : ℕ) (s : Segment) → k < length i.segments → s ≡ get_or i.segments k s
    → flat_map (spelled_entry i) (enumerate_from 0 i.segments) ≡ table_before i k
    ++ (spelled_program_header (bytes_offset i k) s ++ flat_map (spelled_entry i) (enumerate_from (k + 1) (drop (k + 1) i.segments)))
table_around i k s h is =
    let before = take k i.segments in
    let after = drop (k + 1) i.segments in
    let place : 0 + length before ≡ k = omega (arith, length-take k i.segments) in
    ap (λ (ss : List Segment). flat_map (spelled_entry i) (enumerate_from 0 ss)) (around i.segments k s h is)
    ∙ ap (flat_map (spelled_entry i))
    (enumerate_from-append 0 before (s ∷ after) ∙ ap (λ n. enumerate_from 0 before ++ enumerate_from n (s ∷ after)) place)
    ∙ flat_map-append (spelled_entry i) (enumerate_from 0 before) (enumerate_from k (s ∷ after))

-- entry k of the table lies behind the file header and the entries before it
pub entry_at : (i : Image) (k : ℕ) (s : Segment) → k < length i.segments → s ≡ get_or i.segments k s
    → bytes_at (spelling_of i) (52 + k * 32) 32 ≡ spelled_program_header (bytes_offset i k) s
unfolding spelling_of
entry_at i k s h is =
    let header = spelled_file_header i.entry (length i.segments) in
    let entry = spelled_program_header (bytes_offset i k) s in
    let rest = flat_map (spelled_entry i) (enumerate_from (k + 1) (drop (k + 1) i.segments)) in
    let bytes = segments_bytes i.segments in
    let parts : header ++ flat_map (spelled_entry i) (enumerate_from 0 i.segments) ++ bytes ≡ (header ++ table_before i k)
    ++ (entry ++ (rest ++ bytes)) = ap (λ (t : List ℕ). header ++ t ++ bytes) (table_around i k s h is) ∙ simp append_assoc in
    let start : length (header ++ table_before i k) ≡ 52 + k * 32 =
    omega (
      arith,
      length-append header (table_before i k),
      length-file_header i.entry (length i.segments),
      entries_len i 0 (take k i.segments),
      length-take k i.segments,
    ) in
    bytes_between (spelling_of i) (header ++ table_before i k) entry (rest ++ bytes) (52 + k * 32) 32 parts start
    (length-program_header (bytes_offset i k) s)

-- the bytes of segment k lie at its offset
pub segment_at : (i : Image) (k : ℕ) (s : Segment) → k < length i.segments → s ≡ get_or i.segments k s
    → bytes_at (spelling_of i) (bytes_offset i k) (length s.bytes) ≡ s.bytes
unfolding spelling_of
segment_at i k s h is =
    let header = spelled_file_header i.entry (length i.segments) in
    let table = flat_map (spelled_entry i) (enumerate_from 0 i.segments) in
    let before = segments_bytes (take k i.segments) in
    let rest = segments_bytes (drop (k + 1) i.segments) in
    let bytes : segments_bytes i.segments ≡ before ++ (s.bytes ++ rest) =
    ap segments_bytes (around i.segments k s h is) ∙ flat_map-append (λ (s : Segment). s.bytes) (take k i.segments)
    (s ∷ drop (k + 1) i.segments) in
    let parts : header ++ table ++ segments_bytes i.segments ≡ (header ++ table ++ before) ++ (s.bytes ++ rest) =
    ap (λ (b : List ℕ). header ++ table ++ b) bytes ∙ sym (append_assoc (header ++ table) before (s.bytes ++ rest)) in
    let start : length (header ++ table ++ before) ≡ bytes_offset i k =
    omega (
      arith,
      length-append (header ++ table) before,
      length-append header table,
      length-file_header i.entry (length i.segments),
      entries_len i 0 i.segments,
      length-flat_map (λ (s : Segment). s.bytes) (take k i.segments),
    ) in
    bytes_between (spelling_of i) (header ++ table ++ before) s.bytes rest (bytes_offset i k) (length s.bytes) parts start refl

-- and end in the file
pub segment_ends : (i : Image) (k : ℕ) (s : Segment) → k < length i.segments → s ≡ get_or i.segments k s
    → bytes_offset i k + length s.bytes ≤ length (spelling_of i)
segment_ends i k s h is =
    let parts =
    ap sizes_sum (around i.segments k s h is) ∙ sum_by-append (λ (s : Segment). length s.bytes) (take k i.segments)
    (s ∷ drop (k + 1) i.segments) in
    omega (arith, length-spelling_of i, parts, sum_by-cons (λ (t : Segment). length t.bytes) s (drop (k + 1) i.segments))
