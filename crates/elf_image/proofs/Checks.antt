-- Lists of checks: none of them holds, or which is the first that does.
use Rattle.std.proofs.Common.{◌≡◌, ℕ, zero, suc, ◌+◌, ◌-◌, ◌<◌, Bool, true, false, cond, List, [], ◌∷◌, ◌++◌, Option, Some, None, refl, sym}
use Rattle.std.proofs.Common.{ap, ◌∙◌, arith}
use Rattle.std.specs.List.{flat_map, range_with_len}
use Rattle.std.specs.Option.{option_or}
use Rattle.std.proofs.lemmas.List.Concat.{flat_map-append}
use Rattle.elf_image.specs.declared.error.ElfError.{ElfError}
use Rattle.elf_image.specs.Faults.{Check, first_fault}

-- no test holds; at a list that is written out, the tests one by one
abbrev pub NoneHolds : List Check → Type 0
NoneHolds [] = Unit {0}
NoneHolds (c ∷ cs) = (c.0 ≡ false) × NoneHolds cs

none_first : (b : Bool) (e : ElfError) (rest : Option ElfError) → cond b (Some e) rest ≡ None → (b ≡ false) × (rest ≡ None)
none_first true e rest h = absurd cc
none_first false e rest h = (refl, h)

pub NoneHolds-from_none : (cs : List Check) → first_fault cs ≡ None → NoneHolds cs
NoneHolds-from_none [] h = tt
NoneHolds-from_none (c ∷ cs) h =
    let first = none_first c.0 c.1 (first_fault cs) h in (first.0, NoneHolds-from_none cs first.1)

pub none_from_NoneHolds : (cs : List Check) → NoneHolds cs → first_fault cs ≡ None
none_from_NoneHolds [] h = refl
none_from_NoneHolds (c ∷ cs) h = rw h.0 (none_from_NoneHolds cs h.1)

cond-option_or : (test : Bool) (error : ElfError) (first rest : Option ElfError)
    → cond test (Some error) (option_or first rest) ≡ option_or (cond test (Some error) first) rest
cond-option_or true error first rest = refl
cond-option_or false error first rest = refl

pub first_fault-append : (xs ys : List Check) → first_fault (xs ++ ys) ≡ option_or (first_fault xs) (first_fault ys)
first_fault-append [] ys = refl
first_fault-append (c ∷ cs) ys =
    ap (cond c.0 (Some c.1)) (first_fault-append cs ys) ∙ cond-option_or c.0 c.1 (first_fault cs) (first_fault ys)

none_both : (x y : Option ElfError) → option_or x y ≡ None → (x ≡ None) × (y ≡ None)
none_both None y h = (refl, h)
none_both (Some e) y h = absurd cc

-- neither of two lists has a fault
pub none_of_append : (xs ys : List Check) → first_fault (xs ++ ys) ≡ None → (first_fault xs ≡ None) × (first_fault ys ≡ None)
none_of_append xs ys h = none_both _ _ (sym (first_fault-append xs ys) ∙ h)

pub none-append : (xs ys : List Check) → first_fault xs ≡ None → first_fault ys ≡ None → first_fault (xs ++ ys) ≡ None
none-append xs ys a b = first_fault-append xs ys ∙ rw (a, b) refl

-- ---- checks entry by entry

range_with_len-append : (a m n : ℕ) → range_with_len a (m + n) ≡ range_with_len a m ++ range_with_len (a + m) n
range_with_len-append a zero n = ap (λ k. range_with_len a k) (omega arith) ∙ ap (λ k. range_with_len k n) (omega arith)
range_with_len-append a (suc m) n =
    let len : suc m + n ≡ suc (m + n) = omega arith in
    let start : a + 1 + m ≡ a + suc m = omega arith in
    ap (range_with_len a) len
    ∙ ap (λ (xs : List ℕ). a ∷ xs) (range_with_len-append (a + 1) m n ∙ ap (λ k. range_with_len (a + 1) m ++ range_with_len k n) start)

-- the entries before an entry, that entry, and those after it
entries : (checks : ℕ → List Check) (count entry : ℕ) → entry < count
    → flat_map checks (range_with_len 0 count) ≡ flat_map checks (range_with_len 0 entry)
    ++ (checks entry ++ flat_map checks (range_with_len (entry + 1) (count - entry - 1)))
entries checks count entry h =
    let len : count ≡ entry + suc (count - entry - 1) = omega arith in
    let start : 0 + entry ≡ entry = omega arith in
    ap (λ k. flat_map checks (range_with_len 0 k)) len
    ∙ ap (flat_map checks) (range_with_len-append 0 entry (suc (count - entry - 1)))
    ∙ flat_map-append checks (range_with_len 0 entry) (range_with_len (0 + entry) (suc (count - entry - 1)))
    ∙ ap (λ k. flat_map checks (range_with_len 0 entry) ++ flat_map checks (range_with_len k (suc (count - entry - 1)))) start

-- the first fault is that of an entry where no entry before it has one
pub fault_at : (checks : ℕ → List Check) (count entry : ℕ) (error : ElfError) → entry < count
    → first_fault (flat_map checks (range_with_len 0 entry)) ≡ None → first_fault (checks entry) ≡ Some error
    → first_fault (flat_map checks (range_with_len 0 count)) ≡ Some error
fault_at checks count entry error h before here =
    ap first_fault (entries checks count entry h)
    ∙ first_fault-append (flat_map checks (range_with_len 0 entry))
    (checks entry ++ flat_map checks (range_with_len (entry + 1) (count - entry - 1)))
    ∙ rw (before, first_fault-append (checks entry) (flat_map checks (range_with_len (entry + 1) (count - entry - 1))), here) refl

pub none_more : (f : ℕ → List Check) (i : ℕ) → first_fault (flat_map f (range_with_len 0 i)) ≡ None → first_fault (f i) ≡ None
    → first_fault (flat_map f (range_with_len 0 (i + 1))) ≡ None
none_more f i before here =
    let last : i + 1 - i - 1 ≡ 0 = omega arith in
    let after : first_fault (flat_map f (range_with_len (i + 1) (i + 1 - i - 1))) ≡ None =
    ap (λ k. first_fault (flat_map f (range_with_len (i + 1) k))) last in
    ap first_fault (entries f (i + 1) i (omega arith))
    ∙ none-append (flat_map f (range_with_len 0 i)) (f i ++ flat_map f (range_with_len (i + 1) (i + 1 - i - 1))) before
    (none-append (f i) (flat_map f (range_with_len (i + 1) (i + 1 - i - 1))) here after)

-- no entry has a fault
pub none_at : (f : ℕ → List Check) (n i : ℕ) → i < n → first_fault (flat_map f (range_with_len 0 n)) ≡ None → first_fault (f i) ≡ None
none_at f n i h none =
    let after = flat_map f (range_with_len (i + 1) (n - i - 1)) in
    let parts = none_of_append (flat_map f (range_with_len 0 i)) (f i ++ after) (sym (ap first_fault (entries f n i h)) ∙ none) in
    (none_of_append (f i) after parts.1).0

pub none_all : (f : ℕ → List Check) (n : ℕ) → ((i : ℕ) → i < n → first_fault (f i) ≡ None)
    → first_fault (flat_map f (range_with_len 0 n)) ≡ None
none_all f zero all = refl
none_all f (suc n) all =
    let len : suc n ≡ n + 1 = omega arith in
    ap (λ k. first_fault (flat_map f (range_with_len 0 k))) len
    ∙ none_more f n (none_all f n (λ i h. all i (omega arith))) (all n (omega arith))
