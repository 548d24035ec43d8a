-- What a table of pages shows as a memory: the pages' bytes one after another, and which pages are private. `f` gives a page's
-- bytes, and `g` says whether it is private.
use Rattle.std.proofs.Common.{◌≡◌, ℕ, ◌+◌, ◌*◌, ◌/◌, ◌%◌, ◌<◌, ◌≤◌, ◌^◌, Bool, true, false, List, [], ◌∷◌, ◌++◌, length, get_or, set, take}
use Rattle.std.proofs.Common.{map, replicate, refl, sym, ap, ◌∙◌, arith, Some, None}
use Rattle.std.specs.Prelude.{slice_get, IsTrue, if◌then◌else◌}
use Rattle.std.specs.List.{flat_map}
use Rattle.std.proofs.lemmas.List.{length-map, map-set, map_push, take_more, append-nil, get_or-map, set-get_or, length_push}
use Rattle.std.proofs.lemmas.List.{replicate_more, replicate-append-replicate}
use Rattle.std.proofs.lemmas.List.Concat.{flat_map-append}
use Rattle.std.proofs.lemmas.List.Elements.{All-push, All-nil, All-get_or}
use Rattle.std.proofs.lemmas.Option.{same_Some, slice_get_read, slice_get_within}
use Rattle.std.proofs.lemmas.Grind.{common_steps}
use Rattle.std.proofs.lemmas.Bool.Decides.{nat_tests}
use Rattle.node_memory.specs.Bytes.{is_memory_size, fits, bytes_at, with_bytes, byte_at, half_at, word_at, double_word_at}
use Rattle.node_memory.specs.Pages.{PagedMemory, none_private}
use Rattle.node_memory.proofs.Flat.{AllWhole, length-flat, get_or-flat_at, bytes_at-flat, flat-set, flat-set_same}
use Rattle.node_memory.proofs.WordBytes.{half_read, word_read}

pub record Shows {X : Type 0} (f : X → List ℕ) (g : X → Bool) (xs : List X) (m : PagedMemory) : Type 0 where
  pub bytes : flat_map f xs ≡ m.bytes
  pub private : map g xs ≡ m.private
  pub whole : AllWhole f xs
  pub sized : IsTrue (is_memory_size (length xs * 4096))

pub size-shown : {X : Type 0} {f : X → List ℕ} {g : X → Bool} {xs : List X} {m : PagedMemory} → Shows f g xs m
    → length xs * 4096 ≡ length m.bytes
size-shown {X} {f} {g} {xs} {m} h = sym (length-flat f xs h.whole) ∙ ap length h.bytes

pub most-shown : {X : Type 0} {f : X → List ℕ} {g : X → Bool} {xs : List X} {m : PagedMemory} → Shows f g xs m → length m.bytes ≤ 2 ^ 31
most-shown {X} {f} {g} {xs} {m} h =
    let size = size-shown h in
    let sized = h.sized in
    grind (arith, nat_tests)

pub pages-shown : {X : Type 0} {f : X → List ℕ} {g : X → Bool} {xs : List X} {m : PagedMemory} → Shows f g xs m → length m.private
    ≡ length xs
pages-shown {X} {f} {g} {xs} {m} h = sym (ap length h.private) ∙ length-map xs g

-- a page of the memory is one of the table, of which a vector has `len`
pub page-shown : {X : Type 0} {f : X → List ℕ} {g : X → Bool} {xs : List X} {m : PagedMemory} → Shows f g xs m → (i len : ℕ)
    → len ≡ length xs → i < length m.private → i < len
page-shown {X} {f} {g} {xs} {m} h i len long in' =
    let pages = pages-shown h in
    omega arith

pub make_page_private-shown : {X : Type 0} {f : X → List ℕ} {g : X → Bool} {xs : List X} {m : PagedMemory} → Shows f g xs m → (i len : ℕ)
    → len ≡ length xs → slice_get m.private i ≡ Some true → i < len
make_page_private-shown {X} {f} {g} {xs} {m} h i len long private = page-shown h i len long (slice_get_within m.private i true private)

-- an end that does not lie past the table's pages lies in the memory, and one that does lies past it
pub end_within-shown : {X : Type 0} {f : X → List ℕ} {g : X → Bool} {xs : List X} {m : PagedMemory} → Shows f g xs m → (end len : ℕ)
    → len ≡ length xs → end ≤ len * 4096 → end ≤ length m.bytes
end_within-shown {X} {f} {g} {xs} {m} h end len long within =
    let size = size-shown h in
    omega arith

pub end_past-shown : {X : Type 0} {f : X → List ℕ} {g : X → Bool} {xs : List X} {m : PagedMemory} → Shows f g xs m → (end len : ℕ)
    → len ≡ length xs → len * 4096 < end → length m.bytes < end
end_past-shown {X} {f} {g} {xs} {m} h end len long past =
    let size = size-shown h in
    omega arith

-- the memory's size by its flags
pub paged-shown : {X : Type 0} {f : X → List ℕ} {g : X → Bool} {xs : List X} {m : PagedMemory} → Shows f g xs m
    → length m.private * 4096 ≡ length m.bytes
paged-shown {X} {f} {g} {xs} {m} h = ap (λ k. k * 4096) (pages-shown h) ∙ size-shown h

-- no flag of a memory is set
pub none_private-paged : (m : PagedMemory) (bytes : List ℕ) (n : ℕ) → m.bytes ≡ bytes → m.private ≡ replicate n false
    → n * 4096 ≡ length bytes → m ≡ record { bytes = bytes; private = none_private (length bytes) }
none_private-paged m bytes n is flags size =
    let count : length bytes / 4096 ≡ n = omega arith in
    let all : m.private ≡ none_private (length bytes) = flags ∙ ap (λ k. replicate k false) (sym count) in
    ap (λ bs. record { bytes = bs; private = m.private }) is ∙ ap (λ fs. record { bytes = bytes; private = fs }) all

-- a range within a page that is private lies in the memory
pub private_range-within : {X : Type 0} {f : X → List ℕ} {g : X → Bool} {xs : List X} {m : PagedMemory} → Shows f g xs m → (addr len : ℕ)
    → slice_get m.private (addr / 4096) ≡ Some true → addr % 4096 + len ≤ 4096 → addr + len ≤ length m.bytes
private_range-within h addr len private one_page =
    let page = make_page_private-shown h (addr / 4096) _ refl private in
    omega (arith, page, size-shown h)

pub byte-shown : {X : Type 0} {f : X → List ℕ} {g : X → Bool} {xs : List X} {m : PagedMemory} → Shows f g xs m → (addr : ℕ) (x : X)
    → addr / 4096 < length xs → x ≡ get_or xs (addr / 4096) x → get_or (f x) (addr % 4096) 0 ≡ get_or m.bytes addr 0
byte-shown {X} {f} {g} {xs} {m} h addr x in' is =
    ap (λ y. get_or (f y) (addr % 4096) 0) is ∙ sym (get_or-flat_at f xs addr x h.whole (omega arith)) ∙ ap (λ bs. get_or bs addr 0) h.bytes

pub range-shown : {X : Type 0} {f : X → List ℕ} {g : X → Bool} {xs : List X} {m : PagedMemory} → Shows f g xs m → (addr n : ℕ) (x : X)
    → addr / 4096 < length xs → addr % 4096 + n ≤ 4096 → x ≡ get_or xs (addr / 4096) x
    → bytes_at (f x) (addr % 4096) n ≡ bytes_at m.bytes addr n
range-shown {X} {f} {g} {xs} {m} h addr n x in' within is =
    ap (λ y. bytes_at (f y) (addr % 4096) n) is ∙ sym (bytes_at-flat f xs addr n x h.whole in' within)
    ∙ ap (λ bs. bytes_at bs addr n) h.bytes

pub write-shown : {X : Type 0} {f : X → List ℕ} {g : X → Bool} {xs : List X} {m : PagedMemory} → Shows f g xs m
    → (addr : ℕ) (bytes : List ℕ) (x p : X) → addr / 4096 < length xs → addr % 4096 + length bytes ≤ 4096 → x ≡ get_or xs (addr / 4096) x
    → f p ≡ with_bytes (f x) (addr % 4096) bytes → flat_map f (set xs (addr / 4096) p) ≡ with_bytes m.bytes addr bytes
write-shown {X} {f} {g} {xs} {m} h addr bytes x p in' within is new =
    flat-set f xs p addr bytes x h.whole in' within (new ∙ ap (λ y. with_bytes (f y) (addr % 4096) bytes) is)
    ∙ ap (λ bs. with_bytes bs addr bytes) h.bytes

pub copy-shown : {X : Type 0} {f : X → List ℕ} {g : X → Bool} {xs : List X} {m : PagedMemory} → Shows f g xs m → (i : ℕ) (x p : X)
    → i < length xs → x ≡ get_or xs i x → f p ≡ f x → flat_map f (set xs i p) ≡ m.bytes
copy-shown {X} {f} {g} {xs} {m} h i x p in' is same = flat-set_same f xs i p x in' (same ∙ ap f is) ∙ h.bytes

pub flags-set : {X : Type 0} {f : X → List ℕ} {g : X → Bool} {xs : List X} {m : PagedMemory} → Shows f g xs m → (i : ℕ) (p : X) (b : Bool)
    → g p ≡ b → map g (set xs i p) ≡ set m.private i b
flags-set {X} {f} {g} {xs} {m} h i p b is = map-set g xs i p ∙ ap (λ c. set (map g xs) i c) is ∙ ap (λ bs. set bs i b) h.private

-- the flag of a page
pub flag-shown : {X : Type 0} {f : X → List ℕ} {g : X → Bool} {xs : List X} {m : PagedMemory} → Shows f g xs m → (i : ℕ) (x : X)
    → i < length xs → x ≡ get_or xs i x → g x ≡ get_or m.private i (g x)
flag-shown {X} {f} {g} {xs} {m} h i x in' is = ap g is ∙ sym (get_or-map g xs i x (g x) in') ∙ ap (λ bs. get_or bs i (g x)) h.private

pub flag-is : {X : Type 0} {f : X → List ℕ} {g : X → Bool} {xs : List X} {m : PagedMemory} → Shows f g xs m → (i : ℕ) (x : X)
    → i < length xs → x ≡ get_or xs i x → slice_get m.private i ≡ Some (g x)
flag-is {X} {f} {g} {xs} {m} h i x in' is =
    let n = pages-shown h in
    slice_get_read m.private (length m.private) i (g x) refl (omega arith) (flag-shown h i x in' is)

-- setting a flag to what it is
pub flags-same : {X : Type 0} {f : X → List ℕ} {g : X → Bool} {xs : List X} {m : PagedMemory} → Shows f g xs m
    → (i : ℕ) (x p : X) (b : Bool) → i < length xs → x ≡ get_or xs i x → g x ≡ b → set m.private i b ≡ m.private
flags-same {X} {f} {g} {xs} {m} h i x p b in' is flag =
    ap (λ c. set m.private i c) (sym flag ∙ flag-shown h i x in' is) ∙ set-get_or m.private i (g x)

pub flags-kept : {X : Type 0} {f : X → List ℕ} {g : X → Bool} {xs : List X} {m : PagedMemory} → Shows f g xs m
    → (i : ℕ) (x p : X) (b : Bool) → i < length xs → x ≡ get_or xs i x → g x ≡ b → g p ≡ b → map g (set xs i p) ≡ m.private
flags-kept h i x p b in' is old new = flags-set h i p b new ∙ flags-same h i x p b in' is old

pub next-shown : {X : Type 0} {f : X → List ℕ} {g : X → Bool} {xs : List X} {m : PagedMemory} → Shows f g xs m → (addr n : ℕ) (x : X)
    → addr / 4096 < length xs → addr % 4096 + n < 4096 → x ≡ get_or xs (addr / 4096) x
    → get_or (f x) (addr % 4096 + n) 0 ≡ get_or m.bytes (addr + n) 0
next-shown {X} {f} {g} {xs} {m} h addr n x in' within is =
    let page : (addr + n) / 4096 ≡ addr / 4096 = omega arith in
    let offset : (addr + n) % 4096 ≡ addr % 4096 + n = omega arith in
    ap (λ k. get_or (f x) k 0) (sym offset) ∙ byte-shown h (addr + n) x (omega arith) (is ∙ ap (λ k. get_or xs k x) (sym page))

-- a number within a page
pub half-shown : {X : Type 0} {f : X → List ℕ} {g : X → Bool} {xs : List X} {m : PagedMemory} → Shows f g xs m → (addr value : ℕ) (x : X)
    → addr / 4096 < length xs → addr % 4096 + 2 ≤ 4096 → x ≡ get_or xs (addr / 4096) x
    → value ≡ get_or (f x) (addr % 4096) 0 + get_or (f x) (addr % 4096 + 1) 0 * 256
    → Some value ≡ (if fits (length m.bytes) addr 2 then Some (half_at m.bytes addr) else None)
half-shown {X} {f} {g} {xs} {m} h addr value x in' within is read =
    let size = size-shown h in
    let b0 : get_or (f x) (addr % 4096) 0 ≡ get_or m.bytes addr 0 = byte-shown h addr x in' is in
    let b1 : get_or (f x) (addr % 4096 + 1) 0 ≡ get_or m.bytes (addr + 1) 0 = next-shown h addr 1 x in' (omega arith) is in
    half_read m.bytes m.bytes addr value refl (omega arith) (read ∙ cc)

pub word-shown : {X : Type 0} {f : X → List ℕ} {g : X → Bool} {xs : List X} {m : PagedMemory} → Shows f g xs m → (addr value : ℕ) (x : X)
    → addr / 4096 < length xs → addr % 4096 + 4 ≤ 4096 → x ≡ get_or xs (addr / 4096) x
    → value ≡ get_or (f x) (addr % 4096) 0 + get_or (f x) (addr % 4096 + 1) 0 * 256 + get_or (f x) (addr % 4096 + 2) 0 * 65536
    + get_or (f x) (addr % 4096 + 3) 0 * 16777216
    → Some value ≡ (if fits (length m.bytes) addr 4 then Some (word_at m.bytes addr) else None)
word-shown {X} {f} {g} {xs} {m} h addr value x in' within is read =
    let size = size-shown h in
    let b0 : get_or (f x) (addr % 4096) 0 ≡ get_or m.bytes addr 0 = byte-shown h addr x in' is in
    let b1 : get_or (f x) (addr % 4096 + 1) 0 ≡ get_or m.bytes (addr + 1) 0 = next-shown h addr 1 x in' (omega arith) is in
    let b2 : get_or (f x) (addr % 4096 + 2) 0 ≡ get_or m.bytes (addr + 2) 0 = next-shown h addr 2 x in' (omega arith) is in
    let b3 : get_or (f x) (addr % 4096 + 3) 0 ≡ get_or m.bytes (addr + 3) 0 = next-shown h addr 3 x in' (omega arith) is in
    word_read m.bytes m.bytes addr value refl (omega arith) (read ∙ cc)

-- two words within a page
pub double_word-shown : {X : Type 0} {f : X → List ℕ} {g : X → Bool} {xs : List X} {m : PagedMemory} → Shows f g xs m
    → (addr low high : ℕ) (x : X) → addr / 4096 < length xs → addr % 4096 + 8 ≤ 4096 → x ≡ get_or xs (addr / 4096) x
    → low ≡ get_or (f x) (addr % 4096) 0 + get_or (f x) (addr % 4096 + 1) 0 * 256 + get_or (f x) (addr % 4096 + 2) 0 * 65536
    + get_or (f x) (addr % 4096 + 3) 0 * 16777216
    → high ≡ get_or (f x) (addr % 4096 + 4) 0 + get_or (f x) (addr % 4096 + 4 + 1) 0 * 256 + get_or (f x) (addr % 4096 + 4 + 2) 0 * 65536
    + get_or (f x) (addr % 4096 + 4 + 3) 0 * 16777216
    → (IsTrue (fits (length m.bytes) addr 8)) × (low + high * 4294967296 ≡ double_word_at m.bytes addr)
double_word-shown {X} {f} {g} {xs} {m} h addr low high x in' within is low_read high_read =
    let size = size-shown h in
    let page : (addr + 4) / 4096 ≡ addr / 4096 = omega arith in
    let offset : (addr + 4) % 4096 ≡ addr % 4096 + 4 = omega arith in
    let all : fits (length m.bytes) addr 8 ≡ true = grind (arith, nat_tests) in
    let first : fits (length m.bytes) addr 4 ≡ true = grind (arith, nat_tests) in
    let second : fits (length m.bytes) (addr + 4) 4 ≡ true = grind (arith, nat_tests) in
    let at_low = rw first at (word-shown h addr low x in' (omega arith) is low_read) in
    let at_high =
    rw second at
    (word-shown h (addr + 4) high x (omega arith) (omega arith) (is ∙ ap (λ k. get_or xs k x) (sym page)) (rw offset high_read)) in
    let a : low ≡ word_at m.bytes addr = same_Some _ _ at_low in
    let b : high ≡ word_at m.bytes (addr + 4) = same_Some _ _ at_high in
    (rw all refl, rw (a, b) refl)

-- the lower half of a word in a page is the half-word there
pub low-shown : {X : Type 0} {f : X → List ℕ} {g : X → Bool} {xs : List X} {m : PagedMemory} → Shows f g xs m → (addr value : ℕ) (x : X)
    → addr / 4096 < length xs → addr % 4096 + 4 ≤ 4096 → x ≡ get_or xs (addr / 4096) x
    → value % 2 ^ 16 ≡ get_or (f x) (addr % 4096) 0 + get_or (f x) (addr % 4096 + 1) 0 * 256
    → value % 2 ^ 16 ≡ half_at m.bytes addr
low-shown {X} {f} {g} {xs} {m} h addr value x in' within is read =
    let size = size-shown h in
    let fit : fits (length m.bytes) addr 2 ≡ true = grind (arith, nat_tests) in
    let half = half-shown h addr (value % 2 ^ 16) x in' (omega arith) is read in
    let here = rw fit at half in
    grind (arith, common_steps, here)

pub load-shown : {X : Type 0} {f : X → List ℕ} {g : X → Bool} {xs : List X} {m : PagedMemory} → Shows f g xs m → (addr value : ℕ) (x : X)
    → addr / 4096 < length xs → x ≡ get_or xs (addr / 4096) x → value ≡ get_or (f x) (addr % 4096) 0
    → Some value ≡ (if fits (length m.bytes) addr 1 then Some (byte_at m.bytes addr) else None)
load-shown {X} {f} {g} {xs} {m} h addr value x in' is read =
    let size = size-shown h in
    let byte : value ≡ get_or m.bytes addr 0 = read ∙ byte-shown h addr x in' is in
    let within : addr + 1 ≤ length m.bytes = omega arith in
    grind (arith, common_steps)

pub no_load-shown : {X : Type 0} {f : X → List ℕ} {g : X → Bool} {xs : List X} {m : PagedMemory} → Shows f g xs m → (addr : ℕ)
    → length xs ≤ addr / 4096 → None ≡ (if fits (length m.bytes) addr 1 then Some (byte_at m.bytes addr) else None)
no_load-shown {X} {f} {g} {xs} {m} h addr out =
    let size = size-shown h in
    let past : length m.bytes < addr + 1 = omega arith in
    grind (arith, common_steps)

-- pages that were pushed so far: their bytes, and that none is private
pub record AllShared {X : Type 0} (f : X → List ℕ) (g : X → Bool) (pages : List X) (bytes : List ℕ) (n : ℕ) : Type 0 where
  pub bytes_are : flat_map f pages ≡ bytes
  pub shared : map g pages ≡ replicate n false
  pub whole : AllWhole f pages
  pub count : length pages ≡ n

pub AllShared-none : {X : Type 0} (f : X → List ℕ) (g : X → Bool) (pages : List X) (bytes : List ℕ) → pages ≡ [] → bytes ≡ []
    → AllShared f g pages bytes 0
AllShared-none f g pages bytes e b =
    rw (e, b) (record { bytes_are = refl; shared = refl; whole = All-nil (λ x. length (f x) ≡ 4096); count = refl })

pub AllShared-more : {X : Type 0} {f : X → List ℕ} {g : X → Bool} {pages : List X} {bytes : List ℕ} {n : ℕ} → AllShared f g pages bytes n
    → (p : X) (now : List X) (more : List ℕ) → now ≡ pages ++ p ∷ [] → g p ≡ false → length (f p) ≡ 4096 → more ≡ bytes ++ f p
    → AllShared f g now more (n + 1)
AllShared-more {X} {f} {g} {pages} {bytes} {n} h p now more is shared long b =
    rw (is, b) (record {
      bytes_are = flat_map-append f pages (p ∷ []) ∙ ap (λ bs. bs ++ flat_map f (p ∷ [])) h.bytes_are
          ∙ ap (λ bs. bytes ++ bs) (append-nil (f p));
      shared = map_push g pages p ∙ ap (λ bs. bs ++ g p ∷ []) h.shared ∙ ap (λ b'. replicate n false ++ b' ∷ []) shared
          ∙ replicate_more n false;
      whole = All-push (λ x. length (f x) ≡ 4096) pages p h.whole long;
      count = length_push pages p ∙ ap (λ k. k + 1) h.count;
    })

-- one page more of a table
pub flat_map-take_more : {X : Type 0} (f : X → List ℕ) (xs : List X) (i : ℕ) (x : X) (new : List ℕ) → i < length xs → x ≡ get_or xs i x
    → new ≡ f x → flat_map f (take (i + 1) xs) ≡ flat_map f (take i xs) ++ new
flat_map-take_more f xs i x new in' is same =
    ap (flat_map f) (take_more xs i x in') ∙ flat_map-append f (take i xs) (get_or xs i x ∷ [])
    ∙ ap (λ bs. flat_map f (take i xs) ++ bs) (append-nil (f (get_or xs i x)) ∙ ap f (sym is) ∙ sym same)

pub replicate-page : (n : ℕ) (new : List ℕ) → new ≡ replicate 4096 0 → replicate ((n + 1) * 4096) 0 ≡ replicate (n * 4096) 0 ++ new
replicate-page n new is =
    let count : (n + 1) * 4096 ≡ n * 4096 + 4096 = omega arith in
    rw is (ap (λ k. replicate k 0) count ∙ sym (replicate-append-replicate (n * 4096) 4096 0))

-- the table of pages that were all pushed, as a memory
pub AllShared-view : {X : Type 0} {f : X → List ℕ} {g : X → Bool} {pages : List X} {bytes : List ℕ} {n : ℕ} → AllShared f g pages bytes n
    → (b : List ℕ) → bytes ≡ b → length b ≡ n * 4096
    → ◌≡◌ {A = PagedMemory} (record { bytes = flat_map f pages; private = map g pages })
    (record { bytes = b; private = none_private (length b) })
AllShared-view {X} {f} {g} {pages} {bytes} {n} h b is size =
    let count : length b / 4096 ≡ n = omega arith in
    let flags : map g pages ≡ none_private (length b) = h.shared ∙ ap (λ k. replicate k false) (sym count) in
    ap (λ bs. record { bytes = bs; private = map g pages }) (h.bytes_are ∙ is) ∙ ap (λ fs. record { bytes = b; private = fs }) flags

pub whole-at : {X : Type 0} (f : X → List ℕ) (xs ys : List X) (i : ℕ) (x : X) → AllWhole f xs → ys ≡ xs → i < length ys → x ≡ get_or ys i x
    → length (f x) ≡ 4096
whole-at f xs ys i x whole same in' is =
    ap (λ y. length (f y)) (is ∙ ap (λ zs. get_or zs i x) same) ∙ All-get_or (λ y. length (f y) ≡ 4096) xs i x (rw (← same) in') whole

-- a range that fits
pub fits-shown : {X : Type 0} {f : X → List ℕ} {g : X → Bool} {xs : List X} {m : PagedMemory} → Shows f g xs m → (addr len : ℕ)
    → IsTrue (fits (length m.bytes) addr len) → addr + len ≤ length m.private * 4096
fits-shown h addr len within =
    let size = size-shown h in
    let pages = pages-shown h in
    grind (arith, nat_tests)
