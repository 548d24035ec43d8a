-- Memories whose shared pages are all zeros.
use Rattle.std.proofs.Common.{◌≡◌, ℕ, ◌+◌, ◌-◌, ◌*◌, ◌/◌, ◌%◌, ◌^◌, min, max, ◌<◌, ◌≤◌, ◌⊎◌, ◌≢◌, ⊎_elim, inl, inr, Bool, true, false, List}
use Rattle.std.proofs.Common.{length, get_or, set, replicate, refl, sym, ap, ◌∙◌, arith, Some, Fits, w64}
use Rattle.std.specs.Prelude.{slice_get}
use Rattle.std.specs.List.{flat_map}
use Rattle.std.proofs.lemmas.List.{places, length-replicate}
use Rattle.std.proofs.lemmas.Option.{slice_get-get_or, slice_get_within, same_Some}
use Rattle.std.proofs.lemmas.Bool.{cases_eq, cases_lt, false≢true}
use Rattle.std.proofs.lemmas.Grind.{same_number_lists}
use Rattle.node_memory.specs.Bytes.{with_bytes}
use Rattle.node_memory.specs.Pages.{PagedMemory, IsPrivate, IsShared, Owns, KeepsPrivate, OwnsMore, SharesZeros}
use Rattle.node_memory.proofs.Owned.{slice_get-set_other, IsPrivate-at}
use Rattle.node_memory.proofs.Shown.{Shows, write-shown, whole-at}
use Rattle.node_memory.proofs.Writes.{clear_more, length-with_bytes}

private_and_shared : (private : List Bool) (page : ℕ) → IsPrivate private page → IsShared private page → ⊥
private_and_shared private page is shared = false≢true (same_Some _ _ (sym shared ∙ is))

private_by_flag : (private : List Bool) (page : ℕ) (b : Bool) → slice_get private page ≡ Some b → (IsShared private page → ⊥)
    → IsPrivate private page
private_by_flag private page true is unshared = is
private_by_flag private page false is unshared = absurd (unshared is)

-- a byte beside a range that was written
beside : (m bytes : List ℕ) (addr k : ℕ) → addr + length bytes ≤ length m → (k < addr) ⊎ (addr + length bytes ≤ k)
    → get_or (with_bytes m addr bytes) k 0 ≡ get_or m k 0
beside m bytes addr k within out = grind (arith, places)

zero_in_zeros : (n k : ℕ) → ◌≡◌ {A = ℕ} (get_or (replicate n 0) k 0) 0
zero_in_zeros n k = grind (arith, places)

-- a byte of a range that was cleared
zero_in_cleared : (m : List ℕ) (addr n k : ℕ) → addr + n ≤ length m → addr ≤ k → k < addr + n
    → get_or (with_bytes m addr (replicate n 0)) k 0 ≡ 0
zero_in_cleared m addr n k within from to = grind (arith, places)

-- a range that need not be cleared
pub cleared_already : (m : List ℕ) (addr n : ℕ) → addr + n ≤ length m → ((k : ℕ) → addr ≤ k → k < addr + n → get_or m k 0 ≡ 0)
    → m ≡ with_bytes m addr (replicate n 0)
cleared_already m addr n within zeros =
    same_number_lists _ _ (grind (arith, places)) (λ k below. ⊎_elim
    (λ (before : k < addr). grind (arith, places))
    (λ (from : addr ≤ k). ⊎_elim
    (λ (in' : k < addr + n). zeros k from in' ∙ sym (zero_in_cleared m addr n k within from in'))
    (λ (past : addr + n ≤ k). grind (arith, places))
    (cases_lt k (addr + n)))
    (cases_lt k addr))

-- how many of the `len` bytes from `addr` on lie below a page
abbrev pub below_page : ℕ → ℕ → ℕ → ℕ
below_page addr len page = min (page * 4096 - addr) len

-- the bytes of a range below a page are cleared, and then those in it
pub cleared_more : (m now after : List ℕ) (addr len page from to : ℕ) → now ≡ with_bytes m addr (replicate (below_page addr len page) 0)
    → from ≡ max addr (page * 4096) → to ≡ min (addr + len) (page * 4096 + 4096) → after ≡ with_bytes now from (replicate (to - from) 0)
    → addr / 4096 ≤ page → page < (addr + len - 1) / 4096 + 1 → 0 < len → addr + len ≤ length m
    → after ≡ with_bytes m addr (replicate (below_page addr len (page + 1)) 0)
cleared_more m now after addr len page from to was begins ends then low high some within =
    let start : from ≡ addr + below_page addr len page = omega arith in
    let both : below_page addr len page + (to - from) ≡ below_page addr len (page + 1) = omega arith in
    clear_more m now after (replicate (to - from) 0) addr from (below_page addr len page) (to - from) was start refl then (omega arith)
    ∙ ap (λ n. with_bytes m addr (replicate n 0)) both

-- those in a shared page are zeros
pub cleared_shared : (m now : PagedMemory) (addr len page : ℕ)
    → now.bytes ≡ with_bytes m.bytes addr (replicate (below_page addr len page) 0) → SharesZeros now → IsShared now.private page
    → addr / 4096 ≤ page → page < (addr + len - 1) / 4096 + 1 → 0 < len → addr + len ≤ length m.bytes
    → now.bytes ≡ with_bytes m.bytes addr (replicate (below_page addr len (page + 1)) 0)
cleared_shared m now addr len page was zeros shared low high some within =
    let n : length (replicate {A = ℕ} (below_page addr len page) 0) ≡ below_page addr len page =
    length-replicate {A = ℕ} (below_page addr len page) 0 in
    let size : length now.bytes ≡ length m.bytes =
    ap length was ∙ length-with_bytes m.bytes addr (replicate (below_page addr len page) 0) (omega arith) in
    let already =
    cleared_already now.bytes (max addr (page * 4096)) (min (addr + len) (page * 4096 + 4096) - max addr (page * 4096)) (omega arith)
    (λ k above below.
    let same : k / 4096 ≡ page = omega arith in
    zeros k (rw same shared)) in
    cleared_more m.bytes now.bytes now.bytes addr len page (max addr (page * 4096)) (min (addr + len) (page * 4096 + 4096)) was refl refl
    already low high some within

-- no bytes of a range are below its first page, and all below the page after its last
pub below_first : (addr len : ℕ) → below_page addr len (addr / 4096) ≡ 0
below_first addr len = omega arith

pub below_end : (addr len page : ℕ) → (addr + len - 1) / 4096 + 1 ≤ page → below_page addr len page ≡ len
below_end addr len page past = omega arith

pub cleared_none : (m : List ℕ) (addr n : ℕ) → n ≡ 0 → addr ≤ length m → m ≡ with_bytes m addr (replicate n 0)
cleared_none m addr n none within = cleared_already m addr n (omega arith) (λ k from to. absurd (omega arith))

-- the pages of a range, of which none begins past 2 ^ 31
pub end_page-fits : (end size : ℕ) → end ≤ size → size ≤ 2 ^ 31 → Fits w64 ((end - 1) / 4096 + 1)
end_page-fits end size within most = omega arith

pub page_start-fits : (end size page : ℕ) → page < (end - 1) / 4096 + 1 → end ≤ size → size ≤ 2 ^ 31 → Fits w64 (page * 4096)
page_start-fits end size page before within most = omega arith

-- the part of a range that lies in a page
pub part-ordered : (addr len page from to : ℕ) → from ≡ max addr (page * 4096) → to ≡ min (addr + len) (page * 4096 + 4096)
    → addr / 4096 ≤ page → page < (addr + len - 1) / 4096 + 1 → (len ≡ 0 → ⊥) → from ≤ to
part-ordered addr len page from to begins ends low high some = omega arith

pub part-in_page : (addr len page from to : ℕ) → from ≡ max addr (page * 4096) → to ≡ min (addr + len) (page * 4096 + 4096)
    → addr / 4096 ≤ page → page < (addr + len - 1) / 4096 + 1 → (len ≡ 0 → ⊥) → from % 4096 + (to - from) ≤ 4096
part-in_page addr len page from to begins ends low high some = omega arith

pub start-within : (addr len size : ℕ) → addr + len ≤ size → addr ≤ size
start-within addr len size within = omega arith

pub some-end : (addr len : ℕ) → (len ≡ 0 → ⊥) → 1 ≤ addr + len
some-end addr len some = omega arith

pub private_or_shared : (private : List Bool) (page : ℕ) → page < length private → (IsShared private page → ⊥) → IsPrivate private page
private_or_shared private page in' unshared = private_by_flag private page _ (slice_get-get_or private page false in') unshared

-- a new memory
pub SharesZeros-new : (m : PagedMemory) (n : ℕ) → m.bytes ≡ replicate n 0 → SharesZeros m
SharesZeros-new m n is = λ k shared. ap (λ bs. get_or bs k 0) is ∙ zero_in_zeros n k

was_shared : (old new : List Bool) (page : ℕ) (b : Bool) → slice_get old page ≡ Some b → KeepsPrivate old new → IsShared new page
    → IsShared old page
was_shared old new page true is keeps shared = absurd (private_and_shared new page (keeps.kept page is) shared)
was_shared old new page false is keeps shared = is

-- pages have become private
pub SharesZeros-owned : (old new : PagedMemory) (addr len : ℕ) → SharesZeros old → OwnsMore addr len old.private new.private → new.bytes
    ≡ old.bytes
    → SharesZeros new
SharesZeros-owned old new addr len zeros more same = λ k shared.
    let in' : k / 4096 < length new.private = slice_get_within new.private (k / 4096) false shared in
    let count = more.keeps.pages in
    let flag = slice_get-get_or old.private (k / 4096) false (omega arith) in
    ap (λ bs. get_or bs k 0) same ∙ zeros k (was_shared old.private new.private (k / 4096) _ flag more.keeps shared)

out_of_owned : (private : List Bool) (addr len k : ℕ) → Owns private addr len → IsShared private (k / 4096) → (k < addr) ⊎ (addr + len ≤ k)
out_of_owned private addr len k owns shared = ⊎_elim
    (λ (before : k < addr). inl before)
    (λ (from : addr ≤ k). ⊎_elim
    (λ (in' : k < addr + len). absurd (private_and_shared private (k / 4096) (IsPrivate-at private addr len k owns from in') shared))
    (λ (past : addr + len ≤ k). inr past)
    (cases_lt k (addr + len)))
    (cases_lt k addr)

-- a range of private pages was written
pub SharesZeros-written : (old new : PagedMemory) (addr : ℕ) (bytes : List ℕ) → SharesZeros old → Owns old.private addr (length bytes)
    → addr + length bytes ≤ length old.bytes → new.bytes ≡ with_bytes old.bytes addr bytes → new.private ≡ old.private → SharesZeros new
SharesZeros-written old new addr bytes zeros owns within is same = λ k shared.
    let was : IsShared old.private (k / 4096) = rw (← same) shared in
    ap (λ bs. get_or bs k 0) is ∙ beside old.bytes bytes addr k within (out_of_owned old.private addr (length bytes) k owns was)
    ∙ zeros k was

pub SharesZeros-zeroed : (old new : PagedMemory) (addr n : ℕ) → SharesZeros old → Owns old.private addr n → addr + n ≤ length old.bytes
    → new.bytes ≡ with_bytes old.bytes addr (replicate n 0) → new.private ≡ old.private → SharesZeros new
SharesZeros-zeroed old new addr n zeros owns within is same =
    let count : length (replicate {A = ℕ} n 0) ≡ n = length-replicate {A = ℕ} n 0 in
    SharesZeros-written old new addr (replicate n 0) zeros (rw count owns) (rw count within) is same

-- the page of zeros has come into the place of a page
pub SharesZeros-cleared : (old new : PagedMemory) (page : ℕ) → SharesZeros old → page * 4096 + 4096 ≤ length old.bytes
    → new.bytes ≡ with_bytes old.bytes (page * 4096) (replicate 4096 0) → new.private ≡ set old.private page false → SharesZeros new
SharesZeros-cleared old new page zeros within is flags = λ k shared.
    let n : length (replicate {A = ℕ} 4096 0) ≡ 4096 = length-replicate {A = ℕ} 4096 0 in
    ap (λ bs. get_or bs k 0) is ∙ ⊎_elim
    (λ (same : k / 4096 ≡ page). zero_in_cleared old.bytes (page * 4096) 4096 k within (omega arith) (omega arith))
    (λ (other : k / 4096 ≢ page).
    let now : IsShared (set old.private page false) (k / 4096) = rw (← flags) shared in
    let was : IsShared old.private (k / 4096) = sym (slice_get-set_other old.private page (k / 4096) false other) ∙ now in
    beside old.bytes (replicate 4096 0) (page * 4096) k (omega arith)
    (⊎_elim (λ (below : k < page * 4096). inl below) (λ (above : page * 4096 ≤ k). inr (omega arith)) (cases_lt k (page * 4096)))
    ∙ zeros k was)
    (cases_eq (k / 4096) page)

-- a page of zeros in the place of another: as a list, and in a table
zeros_over_page : (old new : List ℕ) (a n : ℕ) → length old ≡ n → new ≡ replicate n 0 → a ≡ 0 → new ≡ with_bytes old a (replicate n 0)
zeros_over_page old new a n long is at =
    is ∙ rw at (same_number_lists _ _ (grind (arith, places)) (λ k below. grind (arith, places)))

pub page_cleared-shown : {X : Type 0} {f : X → List ℕ} {g : X → Bool} {xs : List X} {m : PagedMemory} → Shows f g xs m
    → (page : ℕ) (x p : X) → page < length xs → x ≡ get_or xs page x → f p ≡ replicate 4096 0
    → flat_map f (set xs page p) ≡ with_bytes m.bytes (page * 4096) (replicate 4096 0)
page_cleared-shown {X} {f} {g} {xs} {m} h page x p in' is zeros =
    let at : page * 4096 / 4096 ≡ page = omega arith in
    let start : page * 4096 % 4096 ≡ 0 = omega arith in
    let n : length (replicate {A = ℕ} 4096 0) ≡ 4096 = length-replicate {A = ℕ} 4096 0 in
    let long : length (f x) ≡ 4096 = whole-at f xs xs page x h.whole refl in' is in
    ap (λ i. flat_map f (set xs i p)) (sym at)
    ∙ write-shown h (page * 4096) (replicate 4096 0) x p (rw at in') (omega arith) (rw at is)
    (zeros_over_page (f x) (f p) (page * 4096 % 4096) 4096 long zeros start)
