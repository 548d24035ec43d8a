-- Which pages are private, as a list of flags.
use Rattle.std.proofs.Common.{◌≡◌, ℕ, ◌+◌, ◌-◌, ◌*◌, ◌/◌, ◌%◌, ◌<◌, ◌≤◌, ◌⊎◌, ◌≢◌, ⊎_elim, inl, inr, Bool, true, false, List, [], ◌∷◌}
use Rattle.std.proofs.Common.{length, replicate, set, refl, sym, ap, ◌∙◌, arith, zero, suc, Some, Ok, Err}
use Rattle.std.specs.Prelude.{slice_get, OnErr}
use Rattle.std.specs.Result.{IsErrAnd}
use Rattle.std.specs.declared.result.Result.{Result}
use Rattle.node_memory.specs.declared.memory.WriteError.{WriteError}
use Rattle.node_memory.specs.declared.memory.WriteError.TheVariants.{Outside, NoMemory}
use Rattle.std.proofs.lemmas.List.{length-set}
use Rattle.std.proofs.lemmas.Option.{slice_get_within}
use Rattle.std.proofs.lemmas.Bool.{cases_eq, cases_lt}
use Rattle.node_memory.specs.Pages.{IsPrivate, HasOneOf, Owns, KeepsPrivate, OwnsMore}

slice_get-set_same : (xs : List Bool) (i : ℕ) (y : Bool) → i < length xs → slice_get (set xs i y) i ≡ Some y
slice_get-set_same [] i y h = absurd (omega arith)
slice_get-set_same (x ∷ xs) zero y h = refl
slice_get-set_same (x ∷ xs) (suc i) y h = slice_get-set_same xs i y (omega arith)

pub slice_get-set_other : (xs : List Bool) (i k : ℕ) (y : Bool) → k ≢ i → slice_get (set xs i y) k ≡ slice_get xs k
slice_get-set_other [] i k y h = refl
slice_get-set_other (x ∷ xs) zero zero y h = absurd (h refl)
slice_get-set_other (x ∷ xs) zero (suc k) y h = refl
slice_get-set_other (x ∷ xs) (suc i) zero y h = refl
slice_get-set_other (x ∷ xs) (suc i) (suc k) y h = slice_get-set_other xs i k y (omega arith)

same_from_slice_get : (xs ys : List Bool) → ((k : ℕ) → slice_get xs k ≡ slice_get ys k) → xs ≡ ys
same_from_slice_get [] [] h = refl
same_from_slice_get [] (y ∷ ys) h = let e = h 0 in cc
same_from_slice_get (x ∷ xs) [] h = let e = h 0 in cc
same_from_slice_get (x ∷ xs) (y ∷ ys) h =
    let e = h 0 in
    let rest : xs ≡ ys = same_from_slice_get xs ys (λ k. h (suc k)) in
    cc

-- the pages from `first` up to `page` have become private, and the others are as they were
pub record PrivateUpTo (old new : List Bool) (first page : ℕ) : Type 0 where
  pub pages : length new ≡ length old
  pub now_private : (k : ℕ) → first ≤ k → k < page → IsPrivate new k
  pub others : (k : ℕ) → (k < first) ⊎ (page ≤ k) → slice_get new k ≡ slice_get old k

pub PrivateUpTo-none : (private : List Bool) (first : ℕ) → PrivateUpTo private private first first
PrivateUpTo-none private first = record { pages = refl; now_private = λ k a b. absurd (omega arith); others = λ k h. refl }

-- a page that is private anyway
pub PrivateUpTo-read : (private : List Bool) (first page : ℕ) → PrivateUpTo private private first page → first ≤ page
    → IsPrivate private page
    → PrivateUpTo private private first (page + 1)
PrivateUpTo-read private first page h le is =
    record {
      pages = refl;
      now_private = λ k a b. ⊎_elim (λ (e : k ≡ page). rw e is) (λ (n : k ≢ page). h.now_private k a (omega arith)) (cases_eq k page);
      others = λ k out. refl;
    }

other_page : (first page k : ℕ) → first ≤ page → (k < first) ⊎ (page + 1 ≤ k) → k ≢ page
other_page first page k le out = ⊎_elim (λ (b : k < first). omega arith) (λ (p : page + 1 ≤ k). omega arith) out

pub PrivateUpTo-more : (old before after : List Bool) (first page : ℕ) → PrivateUpTo old before first page → first ≤ page
    → page < length before
    → after ≡ set before page true → PrivateUpTo old after first (page + 1)
PrivateUpTo-more old before after first page h le in' is =
    record {
      pages = rw is (length-set before page true ∙ h.pages);
      now_private = λ k a b. rw is (⊎_elim
          (λ (e : k ≡ page). rw e (slice_get-set_same before page true in'))
          (λ (n : k ≢ page). slice_get-set_other before page k true n ∙ h.now_private k a (omega arith))
          (cases_eq k page));
      others =
          λ k out. rw is (slice_get-set_other before page k true (other_page first page k le out)
          ∙ h.others k (⊎_elim (λ (b : k < first). inl b) (λ (p : page + 1 ≤ k). inr (omega arith)) out));
    }

pub Owns-from_up_to : (old new : List Bool) (addr len page : ℕ) → PrivateUpTo old new (addr / 4096) page → page ≡
    (addr + len - 1) / 4096 + 1
    → 0 < len → addr + len ≤ length old * 4096 → Owns new addr len
Owns-from_up_to old new addr len page h end some within =
    record {
      within = rw h.pages within;
      pages = λ k has. h.now_private k (let e = has.ends_after_begin in omega arith) (let b = has.begins_before_end in omega arith);
    }

pub OwnsMore-from_up_to : (old new : List Bool) (addr len page : ℕ) → PrivateUpTo old new (addr / 4096) page
    → page ≤ (addr + len - 1) / 4096 + 1 → 0 < len → OwnsMore addr len old new
OwnsMore-from_up_to old new addr len page h end some =
    record {
      keeps = record {
        pages = h.pages;
        kept = λ k private. ⊎_elim
            (λ (below : k < addr / 4096). h.others k (inl below) ∙ private)
            (λ (above : addr / 4096 ≤ k). ⊎_elim
            (λ (in' : k < page). h.now_private k above in')
            (λ (past : page ≤ k). h.others k (inr past) ∙ private)
            (cases_lt k page))
            (cases_lt k (addr / 4096));
      };
      others = λ k none. ⊎_elim
          (λ (below : k < addr / 4096). h.others k (inl below))
          (λ (above : addr / 4096 ≤ k). ⊎_elim
          (λ (in' : k < page). absurd (none (record { some = some; begins_before_end = omega arith; ends_after_begin = omega arith })))
          (λ (past : page ≤ k). h.others k (inr past))
          (cases_lt k page))
          (cases_lt k (addr / 4096));
    }

pub same_private-from_up_to : (old new : List Bool) (addr len page : ℕ) → PrivateUpTo old new (addr / 4096) page
    → page ≤ (addr + len - 1) / 4096 + 1 → 0 < len → Owns old addr len → new ≡ old
same_private-from_up_to old new addr len page h end some owns =
    same_from_slice_get new old (λ k. ⊎_elim
    (λ (below : k < addr / 4096). h.others k (inl below))
    (λ (above : addr / 4096 ≤ k). ⊎_elim
    (λ (in' : k < page). h.now_private k above in'
    ∙ sym (owns.pages k (record { some = some; begins_before_end = omega arith; ends_after_begin = omega arith })))
    (λ (past : page ≤ k). h.others k (inr past))
    (cases_lt k page))
    (cases_lt k (addr / 4096)))

-- a page of the range that is not private shows that the range is not
pub not_Owns-from_up_to : (old now : List Bool) (addr len page : ℕ) → PrivateUpTo old now (addr / 4096) page → addr / 4096 ≤ page
    → page < (addr + len - 1) / 4096 + 1 → 0 < len → slice_get now page ≡ Some false → Owns old addr len → ⊥
not_Owns-from_up_to old now addr len page h from end some shared owns =
    let private : slice_get old page ≡ Some true =
    owns.pages page (record { some = some; begins_before_end = omega arith; ends_after_begin = omega arith }) in
    let same = h.others page (inr (omega arith)) in
    cc

one_page : (addr len k : ℕ) → addr % 4096 + len ≤ 4096 → HasOneOf addr len k → k ≡ addr / 4096
one_page addr len k within has =
    let b = has.begins_before_end in
    let e = has.ends_after_begin in
    omega arith

-- a range within one page
pub Owns-one_page : (private : List Bool) (addr len : ℕ) → addr % 4096 + len ≤ 4096 → IsPrivate private (addr / 4096)
    → Owns private addr len
Owns-one_page private addr len within is =
    let in' : addr / 4096 < length private = slice_get_within private (addr / 4096) true is in
    record { within = omega arith; pages = λ k has. let e : k ≡ addr / 4096 = one_page addr len k within has in rw e is }

pub OwnsMore-same : (addr len : ℕ) (old new : List Bool) → new ≡ old → OwnsMore addr len old new
OwnsMore-same addr len old new e = rw e (record { keeps = record { pages = refl; kept = λ k h. h }; others = λ k n. refl })

-- the first pages are shared, and there are as many as before
pub record SharedUpTo (old new : List Bool) (page : ℕ) : Type 0 where
  pub pages : length new ≡ length old
  pub now_shared : (k : ℕ) → k < page → slice_get new k ≡ Some false

pub SharedUpTo-none : (private : List Bool) → SharedUpTo private private 0
SharedUpTo-none private = record { pages = refl; now_shared = λ k b. absurd (omega arith) }

pub SharedUpTo-more : (old before after : List Bool) (page : ℕ) → SharedUpTo old before page → page < length before
    → after ≡ set before page false → SharedUpTo old after (page + 1)
SharedUpTo-more old before after page h in' is =
    record {
      pages = rw is (length-set before page false ∙ h.pages);
      now_shared = λ k b. rw is (⊎_elim
          (λ (e : k ≡ page). rw e (slice_get-set_same before page false in'))
          (λ (n : k ≢ page). slice_get-set_other before page k false n ∙ h.now_shared k (omega arith))
          (cases_eq k page));
    }

none_of_all : (flags : List Bool) → ((k : ℕ) → k < length flags → slice_get flags k ≡ Some false) → flags ≡ replicate (length flags) false
none_of_all [] h = refl
none_of_all (x ∷ xs) h =
    let e = h 0 (omega arith) in
    let rest : xs ≡ replicate (length xs) false = none_of_all xs (λ k b. h (suc k) (omega arith)) in
    cc

-- where these are all pages, none is private
pub SharedUpTo-all : (old new : List Bool) (page : ℕ) → SharedUpTo old new page → length old ≤ page → new ≡ replicate (length old) false
SharedUpTo-all old new page h all =
    none_of_all new (λ k b. let n = h.pages in h.now_shared k (omega arith)) ∙ ap (λ n. replicate n false) h.pages

-- an empty range
pub Owns-empty : (private : List Bool) (addr len : ℕ) → len ≡ 0 → addr + len ≤ length private * 4096 → Owns private addr len
Owns-empty private addr len none within = record { within = within; pages = λ k has. absurd (let s = has.some in omega arith) }

pub Owns-none : (private now : List Bool) (size addr len : ℕ) → length private * 4096 ≡ size → length now ≡ length private
    → addr + len ≤ size → len ≤ 0
    → Owns now addr len
Owns-none private now size addr len paged same within none = Owns-empty now addr len (omega arith) (rw (same, paged) within)

-- part of an owned range
pub Owns-part : (private : List Bool) (addr len at n : ℕ) → Owns private addr len → addr ≤ at → at + n ≤ addr + len → Owns private at n
Owns-part private addr len at n h from to =
    record {
      within = let w = h.within in omega arith;
      pages =
          λ k has. h.pages k (record {
            some = let s = has.some in omega arith;
            begins_before_end = let b = has.begins_before_end in omega arith;
            ends_after_begin = let e = has.ends_after_begin in omega arith;
          });
    }

-- the page of a byte of an owned range
pub IsPrivate-at : (private : List Bool) (addr len at : ℕ) → Owns private addr len → addr ≤ at → at < addr + len → IsPrivate private
    (at / 4096)
IsPrivate-at private addr len at h from to =
    h.pages (at / 4096) (record { some = omega arith; begins_before_end = omega arith; ends_after_begin = omega arith })

pub IsPrivate-past : (private now : List Bool) (addr len done : ℕ) → Owns private addr len → now ≡ private → done < len → IsPrivate now
    ((addr + done) / 4096)
IsPrivate-past private now addr len done owns same lt = rw same
    (IsPrivate-at private addr len (addr + done) owns (omega arith) (omega arith))

-- what was private is private still, over two changes and for a range
pub KeepsPrivate-same : (private : List Bool) → KeepsPrivate private private
KeepsPrivate-same private = record { pages = refl; kept = λ k h. h }

pub KeepsPrivate-then : (a b c : List Bool) → KeepsPrivate a b → KeepsPrivate b c → KeepsPrivate a c
KeepsPrivate-then a b c first second = record { pages = second.pages ∙ first.pages; kept = λ k h. second.kept k (first.kept k h) }

pub Owns-kept : (old new : List Bool) (addr len : ℕ) → KeepsPrivate old new → Owns old addr len → Owns new addr len
Owns-kept old new addr len keeps owns = record { within = rw keeps.pages owns.within; pages = λ k has. keeps.kept k (owns.pages k has) }

-- an owned range lies in the memory
pub Owns-fits : (private : List Bool) (size addr len : ℕ) → length private * 4096 ≡ size → size < addr + len → Owns private addr len → ⊥
Owns-fits private size addr len paged past owns = let w = owns.within in omega arith

-- what holds anyway holds of an error
pub on_err-given : {T E P : Type 0} (answer : Result T E) → P → OnErr answer P
on_err-given (Ok x) p = tt
on_err-given (Err e) p = p

-- what was written is no error, a range outside is no refused memory, and this is no range outside
pub ok-no_err : {T E : Type 0} (x : T) (e : E) → ◌≡◌ {A = Result T E} (Ok x) (Err e) → ⊥
ok-no_err x e h = cc

pub outside-not_refused : {T : Type 0} → ◌≡◌ {A = Result T WriteError} (Err Outside) (Err NoMemory) → ⊥
outside-not_refused h = cc

pub refused-not_outside : {T : Type 0} (answer : Result T WriteError) → IsErrAnd answer (λ e. e ≡ NoMemory) → answer ≡ Err Outside → ⊥
refused-not_outside (Ok x) refused h = absurd refused
refused-not_outside (Err e) refused h = cc
