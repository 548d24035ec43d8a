-- The spelling of an image, piece by piece as it is written.
use Rattle.std.proofs.Common.{◌≡◌, ℕ, suc, ◌+◌, ◌*◌, ◌^◌, ◌<◌, ◌≤◌, Fits, w16, w32, w64, List, [], ◌∷◌, ◌++◌, length, take, get_or, sym, ap}
use Rattle.std.proofs.Common.{◌∙◌, arith, append_assoc, sum_by, length-take}
use Rattle.std.specs.List.{flat_map, enumerate_from}
use Rattle.std.proofs.lemmas.List.{take_more, take_all, append-nil, flat_map_more}
use Rattle.std.proofs.lemmas.List.Concat.{flat_map-append}
use Rattle.std.proofs.lemmas.List.Sums.{sum_by-append, sum_by-take-le, get_or-le-sum_by}
use Rattle.node_memory.specs.Image.{Image, Segment, IsSegment, IsWithinLimits}
use Rattle.elf_image.specs.Spelling.{spelled_file_header, spelled_program_header, spelled_entry, bytes_offset, spelling_of}

pub four_appends : (out one two three four with_one with_two with_three : List ℕ) → with_one ≡ out ++ one → with_two ≡ with_one ++ two
    → with_three ≡ with_two ++ three → with_three ++ four ≡ out ++ (one ++ (two ++ (three ++ four)))
four_appends out one two three four with_one with_two with_three first second third = rw (third, second, first) (simp append_assoc)

pub enumerate_from-push : {X : Type 0} → (n : ℕ) (xs : List X) (x : X)
    → enumerate_from n (xs ++ x ∷ []) ≡ enumerate_from n xs ++ (n + length xs, x) ∷ []
enumerate_from-push n [] x = ap (λ k. (k, x) ∷ []) (omega arith)
enumerate_from-push n (y ∷ xs) x =
    let place : n + 1 + length xs ≡ n + suc (length xs) = omega arith in
    ap (λ es. (n, y) ∷ es) (enumerate_from-push (n + 1) xs x ∙ ap (λ k. enumerate_from (n + 1) xs ++ (k, x) ∷ []) place)

-- what stands before entry n of a spelling's table
abbrev pub table_before : Image → ℕ → List ℕ
table_before i n = flat_map (spelled_entry i) (enumerate_from 0 (take n i.segments))

-- what stands before the segments' bytes
abbrev pub headers_of : Image → List ℕ
headers_of i = spelled_file_header i.entry (length i.segments) ++ flat_map (spelled_entry i) (enumerate_from 0 i.segments)

pub table_before-more : (i : Image) (n : ℕ) (s : Segment) → n < length i.segments → s ≡ get_or i.segments n s
    → table_before i (n + 1) ≡ table_before i n ++ spelled_program_header (bytes_offset i n) s
table_before-more i n s h is =
    let more : take (n + 1) i.segments ≡ take n i.segments ++ s ∷ [] =
    take_more i.segments n s h ∙ ap (λ (x : Segment). take n i.segments ++ x ∷ []) (sym is) in
    let place : 0 + length (take n i.segments) ≡ n = omega (arith, length-take n i.segments) in
    ap (λ (ss : List Segment). flat_map (spelled_entry i) (enumerate_from 0 ss)) more
    ∙ ap (flat_map (spelled_entry i))
    (enumerate_from-push 0 (take n i.segments) s ∙ ap (λ k. enumerate_from 0 (take n i.segments) ++ (k, s) ∷ []) place)
    ∙ flat_map-append (spelled_entry i) (enumerate_from 0 (take n i.segments)) ((n, s) ∷ [])
    ∙ ap (λ (b : List ℕ). table_before i n ++ b) (append-nil (spelled_program_header (bytes_offset i n) s))

pub bytes_offset-more : (i : Image) (n : ℕ) (s : Segment) → n < length i.segments → s ≡ get_or i.segments n s
    → bytes_offset i (n + 1) ≡ bytes_offset i n + length s.bytes
bytes_offset-more i n s h is =
    let more : take (n + 1) i.segments ≡ take n i.segments ++ s ∷ [] =
    take_more i.segments n s h ∙ ap (λ (x : Segment). take n i.segments ++ x ∷ []) (sym is) in
    let sum =
    ap (sum_by (λ (t : Segment). length t.bytes)) more ∙ sum_by-append (λ (t : Segment). length t.bytes) (take n i.segments) (s ∷ []) in
    omega (arith, sum)

-- a program header is written behind those before it
pub entry_written : (i : Image) (n offset : ℕ) (s : Segment) (before after : List ℕ) → n < length i.segments → s ≡ get_or i.segments n s
    → offset ≡ bytes_offset i n → before ≡ spelled_file_header i.entry (length i.segments) ++ table_before i n
    → after ≡ before ++ spelled_program_header offset s → after ≡ spelled_file_header i.entry (length i.segments) ++ table_before i (n + 1)
entry_written i n offset s before after h is at was now =
    now
    ∙ ap (λ (b : List ℕ). b ++ spelled_program_header offset s) was
    ∙ ap (λ k. (spelled_file_header i.entry (length i.segments) ++ table_before i n) ++ spelled_program_header k s) at
    ∙ append_assoc (spelled_file_header i.entry (length i.segments)) (table_before i n) (spelled_program_header (bytes_offset i n) s)
    ∙ ap (λ (t : List ℕ). spelled_file_header i.entry (length i.segments) ++ t) (sym (table_before-more i n s h is))

pub spelling_written : (i : Image) (n : ℕ) (out : List ℕ) → length i.segments ≤ n
    → out ≡ spelled_file_header i.entry (length i.segments) ++ flat_map (spelled_entry i) (enumerate_from 0 i.segments)
    ++ flat_map (λ (s : Segment). s.bytes) (take n i.segments) → out ≡ spelling_of i
unfolding spelling_of
spelling_written i n out all is =
    is ∙ ap (λ (ss : List Segment). spelled_file_header i.entry (length i.segments) ++ flat_map (spelled_entry i)
    (enumerate_from 0 i.segments) ++ flat_map (λ (s : Segment). s.bytes) ss) (take_all n i.segments all)

-- ---- what `save` computes. `read` are an image's segments as it reads them, and `inside` is a value's own form

pub count_fits : (read segments : List Segment) → read ≡ segments → length segments ≤ 65534 → Fits w16 (length read)
count_fits read segments same few = rw same (omega arith)

pub table_fits : (read segments : List Segment) → read ≡ segments → length segments ≤ 65534 → Fits w64 (52 + length read * 32)
table_fits read segments same few = rw same (omega arith)

pub offset_fits : (i inside : Image) (n offset : ℕ) → inside ≡ i → IsWithinLimits inside → offset ≡ bytes_offset i n → Fits w32 offset
offset_fits i inside n offset same limits at =
    let few : length i.segments ≤ 65534 = rw (← same) limits.few in
    let small : sum_by (λ (s : Segment). length s.bytes) i.segments ≤ 2 ^ 28 = rw (← same) limits.small in
    let so_far = sum_by-take-le (λ (s : Segment). length s.bytes) i.segments n in
    omega arith

pub next_offset_fits : (offset len : ℕ) (s : Segment) → Fits w32 offset → len ≡ length s.bytes → IsSegment s → Fits w64 (offset + len)
next_offset_fits offset len s fits is segment = omega (arith, segment.holds_bytes, segment.in_addresses)

pub bytes_small : (read segments : List Segment) (n : ℕ) (s : Segment) → read ≡ segments → n < length read → s ≡ get_or read n s
    → sum_by (λ (t : Segment). length t.bytes) segments ≤ 2 ^ 28 → length s.bytes < 2 ^ 32
bytes_small read segments n s same h is small =
    let most : sum_by (λ (t : Segment). length t.bytes) read ≤ 2 ^ 28 = rw same small in
    let part = get_or-le-sum_by (λ (t : Segment). length t.bytes) read n s h in
    omega (arith, ap (λ (t : Segment). length t.bytes) is)

pub header_written : (i inside : Image) (read : List Segment) (before after : List ℕ) → inside ≡ i → read ≡ inside.segments → before ≡ []
    → after ≡ before ++ spelled_file_header inside.entry (length read) → after ≡ spelled_file_header i.entry (length i.segments) ++ []
header_written i inside read before after same segments none now =
    now
    ∙ ap (λ (b : List ℕ). b ++ spelled_file_header inside.entry (length read)) none
    ∙ ap (λ (ss : List Segment). spelled_file_header inside.entry (length ss)) segments
    ∙ ap (λ (j : Image). spelled_file_header j.entry (length j.segments)) same
    ∙ sym (append-nil (spelled_file_header i.entry (length i.segments)))

pub bytes_offset-first : (i : Image) (read : List Segment) → read ≡ i.segments → 52 + length read * 32 ≡ bytes_offset i 0
bytes_offset-first i read same = rw same (omega arith)

pub offset_more : (i : Image) (n : ℕ) (s : Segment) (offset len : ℕ) → n < length i.segments → s ≡ get_or i.segments n s
    → len ≡ length s.bytes → offset ≡ bytes_offset i n → offset + len ≡ bytes_offset i (n + 1)
offset_more i n s offset len h is own at = omega (arith, bytes_offset-more i n s h is)

pub table_written : (i : Image) (n : ℕ) (out : List ℕ) → length i.segments ≤ n
    → out ≡ spelled_file_header i.entry (length i.segments) ++ table_before i n → out ≡ headers_of i ++ []
table_written i n out all is =
    is
    ∙ ap (λ (ss : List Segment). spelled_file_header i.entry (length i.segments) ++ flat_map (spelled_entry i) (enumerate_from 0 ss))
    (take_all n i.segments all)
    ∙ sym (append-nil (headers_of i))

-- a segment's bytes are written behind those before it
pub bytes_written : (image : Image) (index : ℕ) (segment inside : Segment) (before after bytes : List ℕ) → index < length image.segments
    → segment ≡ get_or image.segments index segment → inside ≡ segment → bytes ≡ inside.bytes
    → before ≡ headers_of image ++ flat_map (λ (t : Segment). t.bytes) (take index image.segments) → after ≡ before ++ bytes
    → after ≡ headers_of image ++ flat_map (λ (t : Segment). t.bytes) (take (index + 1) image.segments)
bytes_written image index segment inside before after bytes h is same own was now =
    let more : take (index + 1) image.segments ≡ take index image.segments ++ segment ∷ [] =
    take_more image.segments index segment h ∙ ap (λ (x : Segment). take index image.segments ++ x ∷ []) (sym is) in
    now
    ∙ ap (λ (b : List ℕ). b ++ bytes) was
    ∙ ap (λ (b : List ℕ). (headers_of image ++ flat_map (λ (t : Segment). t.bytes) (take index image.segments)) ++ b)
    (own ∙ ap (λ (t : Segment). t.bytes) same)
    ∙ flat_map_more (λ (t : Segment). t.bytes) (headers_of image) (take index image.segments) segment
    ∙ ap (λ (ss : List Segment). headers_of image ++ flat_map (λ (t : Segment). t.bytes) ss) (sym more)
