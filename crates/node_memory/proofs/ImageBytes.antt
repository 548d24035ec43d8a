-- Images byte by byte, and what a laid segment changes.
use Rattle.std.proofs.Common.{◌≡◌, ℕ, ◌+◌, ◌*◌, ◌/◌, ◌<◌, ◌≤◌, Bool, true, false, cond, List, [], ◌∷◌, ◌++◌, length, get_or, take, reverse}
use Rattle.std.proofs.Common.{replicate, refl, sym, ap, ◌∙◌, arith, Option, Some}
use Rattle.node_memory.specs.Bytes.{is_memory_size}
use Rattle.std.specs.Option.{option_map_or}
use Rattle.std.proofs.lemmas.List.{places, reverse-append, take_more, take_all, length-replicate, get_or-replicate}
use Rattle.std.proofs.lemmas.List.FromFn.{length-map-range_with_len, get_or-map-range_with_len, fill_by_all}
use Rattle.std.proofs.lemmas.Bool.Decides.{nat_tests}
use Rattle.std.proofs.lemmas.List.Folds.{list_any_at}
use Rattle.std.specs.List.{find, list_any}
use Rattle.node_memory.specs.Image.{Image, Segment, IsSegment, covers, ends_past, segment_byte, image_byte, image_bytes, with_segment}
use Rattle.node_memory.specs.Image.{is_segment_outside}

-- an image has as many bytes as are asked for
pub length-image_bytes : (i : Image) (size : ℕ) → length (image_bytes i size) ≡ size
unfolding image_bytes
length-image_bytes i size = length-map-range_with_len (image_byte i) 0 size

pub get_or-image_bytes : (i : Image) (size k : ℕ) → k < size → get_or (image_bytes i size) k 0 ≡ image_byte i k
unfolding image_bytes
get_or-image_bytes i size k h = get_or-map-range_with_len (image_byte i) 0 size k k 0 h (omega arith)

-- a list of that length is an image's bytes where each byte of it is
pub image_bytes_by_byte : (i : Image) (m : List ℕ) (size : ℕ) → length m ≡ size → ((k : ℕ) → k < size → get_or m k 0 ≡ image_byte i k)
    → m ≡ image_bytes i size
unfolding image_bytes
image_bytes_by_byte i m size n h = fill_by_all (image_byte i) m size 0 n h

-- an image by its parts
abbrev pub image_of : ℕ → List Segment → Image
image_of entry segments = record { entry = entry; segments = segments }

-- a choice moves out of a default
option_map_or-cond : (f : Segment → ℕ) (b : Bool) (s : Segment) (o : Option Segment)
    → option_map_or f (cond b (Some s) o) 0 ≡ cond b (f s) (option_map_or f o 0)
option_map_or-cond f true s o = refl
option_map_or-cond f false s o = refl

-- the segment that comes last counts first
image_byte-push : (e : ℕ) (xs : List Segment) (s : Segment) (k : ℕ)
    → image_byte (image_of e (xs ++ s ∷ [])) k ≡ cond (covers k s) (segment_byte k s) (image_byte (image_of e xs) k)
image_byte-push e xs s k =
    ap (λ (ys : List Segment). option_map_or (segment_byte k) (find (covers k) ys) 0) (reverse-append xs (s ∷ []))
    ∙ option_map_or-cond (segment_byte k) (covers k s) s (find (covers k) (reverse xs))

-- the byte of an image with the segment at `i` as its last
image_byte_more : (e i : ℕ) (segments : List Segment) (s : Segment) (k : ℕ) → i < length segments → s ≡ get_or segments i s
    → image_byte (image_of e (take (i + 1) segments)) k ≡ cond (covers k s) (segment_byte k s) (image_byte (image_of e (take i segments)) k)
image_byte_more e i segments s k h is =
    ap (λ (xs : List Segment). image_byte (image_of e xs) k) (take_more segments i s h ∙ ap (λ x. take i segments ++ x ∷ []) (sym is))
    ∙ image_byte-push e (take i segments) s k

-- a byte of a laid segment, and the old byte beside it
get_or-with_segment : (m : List ℕ) (s : Segment) (k : ℕ) → IsSegment s → ends_past (length m) s ≡ false → k < length m
    → get_or (with_segment m s) k 0 ≡ cond (covers k s) (segment_byte k s) (get_or m k 0)
get_or-with_segment m s k segment fits h = grind (arith, places, nat_tests)

length-with_segment : (m : List ℕ) (s : Segment) → IsSegment s → ends_past (length m) s ≡ false → length (with_segment m s) ≡ length m
length-with_segment m s segment fits = grind (arith, places, nat_tests)

-- an image of no segment is all zeros
pub image_bytes_none : (e size : ℕ) → replicate size 0 ≡ image_bytes (image_of e []) size
image_bytes_none e size = image_bytes_by_byte (image_of e []) _ size (length-replicate size 0) (λ k h. get_or-replicate size k 0 0 h)

-- where none ends past the memory, one does not
ends_past-at : (size i : ℕ) (segments : List Segment) (s : Segment) → list_any (ends_past size) segments ≡ false → i < length segments
    → s ≡ get_or segments i s → ends_past size s ≡ false
ends_past-at size i segments s none h is = grind (arith, list_any_at (ends_past size) segments i s h)

-- so a segment fits, which a loop reads among `items`, over the memory `m` before it
pub lay_fits : (e size i : ℕ) (items segments : List Segment) (s : Segment) (m : List ℕ) → items ≡ segments → i < length items
    → s ≡ get_or items i s → false ≡ is_segment_outside (image_of e segments) size → m ≡ image_bytes (image_of e (take i segments)) size
    → ends_past (length m) s ≡ false
lay_fits e size i items segments s m same h is none was =
    let n : length m ≡ size = ap length was ∙ length-image_bytes (image_of e (take i segments)) size in
    rw n (ends_past-at size i items s (ap (list_any (ends_past size)) same ∙ sym none) h is)

-- a step of the laying: `items` are the image's segments as a loop reads them, `m` is the memory before it, `laid` after it
pub image_bytes_more : (e size i : ℕ) (items segments : List Segment) (s : Segment) (m laid : List ℕ) → laid ≡ with_segment m s
    → items ≡ segments → i < length items → s ≡ get_or items i s → IsSegment s → false ≡ is_segment_outside (image_of e segments) size
    → m ≡ image_bytes (image_of e (take i segments)) size → laid ≡ image_bytes (image_of e (take (i + 1) segments)) size
image_bytes_more e size i items segments s m laid after same h is segment none was =
    let n : length m ≡ size = ap length was ∙ length-image_bytes (image_of e (take i segments)) size in
    let within : i < length segments = rw (← same) h in
    let place : s ≡ get_or segments i s = is ∙ ap (λ (xs : List Segment). get_or xs i s) same in
    let fits = lay_fits e size i items segments s m same h is none was in
    let old : (k : ℕ) → k < size → get_or m k 0 ≡ image_byte (image_of e (take i segments)) k =
    λ k below. ap (λ (xs : List ℕ). get_or xs k 0) was ∙ get_or-image_bytes (image_of e (take i segments)) size k below in
    let new : (k : ℕ) → k < size → get_or (with_segment m s) k 0 ≡ image_byte (image_of e (take (i + 1) segments)) k =
    λ k below. get_or-with_segment m s k segment fits (omega arith) ∙ ap (cond (covers k s) (segment_byte k s)) (old k below)
    ∙ sym (image_byte_more e i segments s k within place) in
    after ∙ image_bytes_by_byte (image_of e (take (i + 1) segments)) _ size (length-with_segment m s segment fits ∙ n) new

-- the memory when all were laid
pub all_laid : (e size n : ℕ) (items segments : List Segment) (m : List ℕ) → items ≡ segments → length items ≤ n
    → m ≡ image_bytes (image_of e (take n segments)) size → m ≡ image_bytes (image_of e segments) size
all_laid e size n items segments m same all was =
    was ∙ ap (λ (xs : List Segment). image_bytes (image_of e xs) size) (take_all n segments (rw (← same) all))

-- a memory's size is in whole pages
pub whole_pages : (n : ℕ) → is_memory_size n ≡ true → n / 4096 * 4096 ≡ n
whole_pages n valid = grind (arith, nat_tests)
