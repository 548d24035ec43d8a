-- A table of pages of 4,096 bytes each as the list of all their bytes. `f` gives the bytes of a page.
use Rattle.std.proofs.Common.{◌≡◌, ℕ, ◌+◌, ◌-◌, ◌*◌, ◌/◌, ◌%◌, ◌<◌, ◌≤◌, ◌⊎◌, ◌≢◌, ⊎_elim, List, [], ◌∷◌, ◌++◌, length, get_or, set, refl}
use Rattle.std.proofs.Common.{sym, ap, ◌∙◌, arith, zero, suc}
use Rattle.std.specs.List.{All, flat_map}
use Rattle.std.proofs.lemmas.List.{places, length-append, length-set, get_or_append_left, get_or-append_right, get_or-set_same}
use Rattle.std.proofs.lemmas.List.{get_or-set_other}
use Rattle.std.proofs.lemmas.List.Elements.{All-head, All-tail, All-set, All-get_or}
use Rattle.std.proofs.lemmas.Bool.{cases_eq}
use Rattle.std.proofs.lemmas.Grind.{same_number_lists}
use Rattle.node_memory.specs.Bytes.{bytes_at, with_bytes}

-- each page has 4,096 bytes
abbrev pub AllWhole : {X : Type 0} → (X → List ℕ) → List X → Type 0
AllWhole f xs = All (λ x. length (f x) ≡ 4096) xs

pub length-flat : {X : Type 0} (f : X → List ℕ) (xs : List X) → AllWhole f xs → length (flat_map f xs) ≡ length xs * 4096
length-flat f [] h = refl
length-flat f (x ∷ xs) h =
    let here : length (f x) ≡ 4096 = All-head (λ y. length (f y) ≡ 4096) x xs h in
    let rest : length (flat_map f xs) ≡ length xs * 4096 = length-flat f xs (All-tail (λ y. length (f y) ≡ 4096) x xs h) in
    omega (arith, length-append (f x) (flat_map f xs))

-- byte j of page i
pub get_or-flat : {X : Type 0} (f : X → List ℕ) (xs : List X) (i j : ℕ) (d : X) → AllWhole f xs → i < length xs → j < 4096
    → get_or (flat_map f xs) (i * 4096 + j) 0 ≡ get_or (f (get_or xs i d)) j 0
get_or-flat f [] i j d h in' below = absurd (omega arith)
get_or-flat f (x ∷ xs) zero j d h in' below =
    let here : length (f x) ≡ 4096 = All-head (λ y. length (f y) ≡ 4096) x xs h in
    let place : zero * 4096 + j ≡ j = omega arith in
    ap (λ k. get_or (f x ++ flat_map f xs) k 0) place ∙ get_or_append_left (f x) (flat_map f xs) 0 j (omega arith)
get_or-flat f (x ∷ xs) (suc i) j d h in' below =
    let here : length (f x) ≡ 4096 = All-head (λ y. length (f y) ≡ 4096) x xs h in
    let rest : get_or (flat_map f xs) (i * 4096 + j) 0 ≡ get_or (f (get_or xs i d)) j 0 =
    get_or-flat f xs i j d (All-tail (λ y. length (f y) ≡ 4096) x xs h) (omega arith) below in
    let place : suc i * 4096 + j - 4096 ≡ i * 4096 + j = omega arith in
    get_or-append_right (f x) (flat_map f xs) 4096 (suc i * 4096 + j) 0 here (omega arith) ∙ ap (λ k. get_or (flat_map f xs) k 0) place
    ∙ rest

-- the byte at an address
pub get_or-flat_at : {X : Type 0} (f : X → List ℕ) (xs : List X) (k : ℕ) (d : X) → AllWhole f xs → k < length xs * 4096
    → get_or (flat_map f xs) k 0 ≡ get_or (f (get_or xs (k / 4096) d)) (k % 4096) 0
get_or-flat_at f xs k d h in' =
    let place : k ≡ k / 4096 * 4096 + k % 4096 = omega arith in
    ap (λ n. get_or (flat_map f xs) n 0) place ∙ get_or-flat f xs (k / 4096) (k % 4096) d h (omega arith) (omega arith)

-- the byte at an address that lies in page i
pub get_or-flat_in : {X : Type 0} (f : X → List ℕ) (xs : List X) (k i j : ℕ) (d : X) → AllWhole f xs → i < length xs → j < 4096
    → k ≡ i * 4096 + j → get_or (flat_map f xs) k 0 ≡ get_or (f (get_or xs i d)) j 0
get_or-flat_in f xs k i j d h in' below place = ap (λ n. get_or (flat_map f xs) n 0) place ∙ get_or-flat f xs i j d h in' below

-- a range of bytes within a page
pub bytes_at-flat : {X : Type 0} (f : X → List ℕ) (xs : List X) (addr n : ℕ) (d : X) → AllWhole f xs → addr / 4096 < length xs
    → addr % 4096 + n ≤ 4096 → bytes_at (flat_map f xs) addr n ≡ bytes_at (f (get_or xs (addr / 4096) d)) (addr % 4096) n
bytes_at-flat f xs addr n d h in' within =
    let size : length (flat_map f xs) ≡ length xs * 4096 = length-flat f xs h in
    let one : length (f (get_or xs (addr / 4096) d)) ≡ 4096 = All-get_or (λ y. length (f y) ≡ 4096) xs (addr / 4096) d in' h in
    let place : addr ≡ addr / 4096 * 4096 + addr % 4096 = omega arith in
    same_number_lists _ _ (grind (arith, places)) (λ k below.
    let many : k < n = grind (arith, places) in
    let byte : get_or (flat_map f xs) (addr + k) 0 ≡ get_or (f (get_or xs (addr / 4096) d)) (addr % 4096 + k) 0 =
    get_or-flat_in f xs (addr + k) (addr / 4096) (addr % 4096 + k) d h in' (omega arith) (omega arith) in
    grind (arith, places))

-- a byte of a list that differs by a range of one of its pages: in that page, and in another
get_or-page_written : (all old new bytes : List ℕ) (addr a k j base : ℕ) → new ≡ with_bytes old a bytes → addr ≡ base + a → k ≡ base + j
    → a + length bytes ≤ length old → base + length old ≤ length all → j < length old → get_or all k 0 ≡ get_or old j 0
    → get_or new j 0 ≡ get_or (with_bytes all addr bytes) k 0
get_or-page_written all old new bytes addr a k j base is at place within inside below was = rw is (grind (arith, places))

apart : (q r i a k addr n : ℕ) → q ≢ i → k ≡ q * 4096 + r → addr ≡ i * 4096 + a → r < 4096 → a + n ≤ 4096 → (k < addr) ⊎ (addr + n ≤ k)
apart q r i a k addr n other is place r_in within = grind arith

get_or-page_kept : (all bytes : List ℕ) (addr k : ℕ) → addr + length bytes ≤ length all → k < length all
    → (k < addr) ⊎ (addr + length bytes ≤ k) → get_or all k 0 ≡ get_or (with_bytes all addr bytes) k 0
get_or-page_kept all bytes addr k within below out = grind (arith, places)

-- a page with other contents of its own, which differ by a range
pub flat-set : {X : Type 0} (f : X → List ℕ) (xs : List X) (p : X) (addr : ℕ) (bytes : List ℕ) (d : X) → AllWhole f xs
    → addr / 4096 < length xs → addr % 4096 + length bytes ≤ 4096 → f p ≡ with_bytes (f (get_or xs (addr / 4096) d)) (addr % 4096) bytes
    → flat_map f (set xs (addr / 4096) p) ≡ with_bytes (flat_map f xs) addr bytes
flat-set f xs p addr bytes d h in' within is =
    let i : ℕ = addr / 4096 in
    let size : length (flat_map f xs) ≡ length xs * 4096 = length-flat f xs h in
    let one : length (f (get_or xs (addr / 4096) d)) ≡ 4096 = All-get_or (λ y. length (f y) ≡ 4096) xs (addr / 4096) d in' h in
    let new : length (f p) ≡ 4096 = rw is (grind (arith, places)) in
    let whole = All-set (λ y. length (f y) ≡ 4096) xs (addr / 4096) p new h in
    let size_new : length (flat_map f (set xs (addr / 4096) p)) ≡ length xs * 4096 =
    length-flat f (set xs (addr / 4096) p) whole ∙ ap (λ n. n * 4096) (length-set xs (addr / 4096) p) in
    let place : addr ≡ addr / 4096 * 4096 + addr % 4096 = omega arith in
    same_number_lists _ _ (grind (arith, places)) (λ k below.
    let in_all : k < length xs * 4096 = omega arith in
    let now : get_or (flat_map f (set xs (addr / 4096) p)) k 0 ≡ get_or (f (get_or (set xs (addr / 4096) p) (k / 4096) d)) (k % 4096) 0 =
    get_or-flat_at f (set xs (addr / 4096) p) k d whole (rw (length-set xs (addr / 4096) p) in_all) in
    let was : get_or (flat_map f xs) k 0 ≡ get_or (f (get_or xs (k / 4096) d)) (k % 4096) 0 = get_or-flat_at f xs k d h in_all in
    ⊎_elim
    (λ (same : k / 4096 ≡ addr / 4096).
    let page : f (get_or (set xs (addr / 4096) p) (k / 4096) d) ≡ f p =
    ap (λ n. f (get_or (set xs (addr / 4096) p) n d)) same ∙ ap f (get_or-set_same xs (addr / 4096) p d in') in
    let old : get_or (flat_map f xs) k 0 ≡ get_or (f (get_or xs (addr / 4096) d)) (k % 4096) 0 =
    was ∙ ap (λ n. get_or (f (get_or xs n d)) (k % 4096) 0) same in
    now ∙ ap (λ bs. get_or bs (k % 4096) 0) page
    ∙ get_or-page_written (flat_map f xs) (f (get_or xs (addr / 4096) d)) (f p) bytes addr (addr % 4096) k (k % 4096)
    (addr / 4096 * 4096) is place (omega arith) (omega arith) (omega arith) (omega arith) old)
    (λ (other : k / 4096 ≢ addr / 4096).
    let page : f (get_or (set xs (addr / 4096) p) (k / 4096) d) ≡ f (get_or xs (k / 4096) d) =
    ap f (get_or-set_other xs (addr / 4096) (k / 4096) p d other) in
    now ∙ ap (λ bs. get_or bs (k % 4096) 0) page ∙ sym was
    ∙ get_or-page_kept (flat_map f xs) bytes addr k (omega arith) (omega arith)
    (apart (k / 4096) (k % 4096) (addr / 4096) (addr % 4096) k addr (length bytes) other (omega arith) place (omega arith) within))
    (cases_eq (k / 4096) (addr / 4096)))

-- a page of the same bytes
pub flat-set_same : {X : Type 0} (f : X → List ℕ) (xs : List X) (i : ℕ) (p d : X) → i < length xs → f p ≡ f (get_or xs i d)
    → flat_map f (set xs i p) ≡ flat_map f xs
flat-set_same f [] i p d in' same = refl
flat-set_same f (x ∷ xs) zero p d in' same = ap (λ bs. bs ++ flat_map f xs) same
flat-set_same f (x ∷ xs) (suc i) p d in' same = ap (λ bs. f x ++ bs) (flat-set_same f xs i p d (omega arith) same)
