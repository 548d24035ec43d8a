-- The calls of a superstep, parted into unbuffered ones and all others, and the pairs of them that are met.
use Rattle.std.proofs.Common.{◌≡◌, ℕ, inl, inr, zero, suc, Bool, true, false, not, cond, List, [], ◌∷◌, sym, subst, ◌∙◌, ap, arith}
use Rattle.std.specs.Prelude.{Contains, IsPermutation, IsTrue, filter, if◌then◌else◌}
use Rattle.std.proofs.lemmas.Bool.{cases_Bool}
use Rattle.std.proofs.lemmas.List.Elements.{All-contains, All-contains_itself, All-filter}
use Rattle.std.proofs.lemmas.List.Sorted.{Contains-permutation, IsPermutation-sym}
use Rattle.exposed_bytes.specs.declared.call.Call.{Call}
use Rattle.exposed_bytes.specs.declared.exposure.Exposure.{Exposure}
use Rattle.exposed_bytes.specs.Exposed.{Exposes, is_unbuffered, reads_before}
use Rattle.exposed_bytes.specs.Found.{AreExposures, IsTold}
use Rattle.exposed_bytes.specs.Search.{AddsFrom}

kept : (p : Call → Bool) (xs : List Call) (x : Call) → Contains xs x → p x ≡ true → Contains (filter p xs) x
kept p [] x there passes = absurd (omega (arith, there.1))
kept p (y ∷ ys) x (zero, within, is) passes =
    subst (λ b. Contains (cond b (y ∷ filter p ys) (filter p ys)) x) (sym (ap p is ∙ passes)) (0, omega arith, is)
kept p (y ∷ ys) x (suc k, within, is) passes =
    let rest = kept p ys x (k, omega (arith, within), is) passes in
    elim (cases_Bool (p y)) [
      | inl pass ↦
          subst (λ b. Contains (cond b (y ∷ filter p ys) (filter p ys)) x) (sym pass) (suc rest.0, omega (arith, rest.1), rest.2)
      | inr drop ↦ subst (λ b. Contains (cond b (y ∷ filter p ys) (filter p ys)) x) (sym drop) rest
    ]

-- a side has calls of the superstep, and all of them that pass its test
pub from_side : (p : Call → Bool) (calls side : List Call) → IsPermutation (filter p calls) side → (c : Call) → Contains side c
    → Contains calls c
from_side p calls side moved c there =
    All-contains (Contains calls) (filter p calls) c (All-filter p (Contains calls) calls (All-contains_itself calls))
    (Contains-permutation side (filter p calls) c (IsPermutation-sym (filter p calls) side moved) there)

pub to_side : (p : Call → Bool) (calls side : List Call) → IsPermutation (filter p calls) side → (c : Call) → Contains calls c
    → p c ≡ true → Contains side c
to_side p calls side moved c there passes = Contains-permutation (filter p calls) side c moved (kept p calls c there passes)

abbrev pub is_free : Call → Bool
is_free c = is_unbuffered c.sort

abbrev pub is_other : Call → Bool
is_other c = not (is_unbuffered c.sort)

-- all that some readers and writers expose was added
pub record AreMet (readers writers : List Call) (old new : List Exposure) : Type 0 where
  pub told : (a b : Call) (rank addr : ℕ) → Contains readers a → Contains writers b → Exposes rank addr a b → IsTold new a.place b.place
  pub adds : AddsFrom readers writers old new

-- the same of lists by other names
pub are_met : (rs rs' ws ws' : List Call) (old old' new : List Exposure) → rs ≡ rs' → ws ≡ ws' → old ≡ old'
    → ((a b : Call) (rank addr : ℕ) → Contains rs a → Contains ws b → Exposes rank addr a b → IsTold new a.place b.place)
    → AddsFrom rs ws old new → AreMet rs' ws' old' new
are_met rs rs' ws ws' old old' new r w o told adds =
    let met : AreMet rs ws old new = record { told = told; adds = adds } in
    subst (λ x. AreMet x ws' old' new) r (subst (λ x. AreMet rs x old' new) w (subst (λ x. AreMet rs ws x new) o met))

-- where the writer is not unbuffered, the reader is
reader-is_free : (rank addr : ℕ) (a b : Call) → Exposes rank addr a b → is_unbuffered b.sort ≡ false → is_unbuffered a.sort ≡ true
reader-is_free rank addr a b exposes bound =
    subst (λ b'. IsTrue (if b' then not (reads_before a b) else is_unbuffered a.sort)) bound exposes.free

module _ (calls free_readers free_writers other_readers other_writers : List Call) (first second third : List Exposure)
    (fr : IsPermutation (filter is_free calls) free_readers) (fw : IsPermutation (filter is_free calls) free_writers)
    (or : IsPermutation (filter is_other calls) other_readers) (ow : IsPermutation (filter is_other calls) other_writers)
    (one : AreMet free_readers free_writers [] first) (two : AreMet other_readers free_writers first second)
    (three : AreMet free_readers other_writers second third) where
  all-told : (a b : Call) (rank addr : ℕ) → Contains calls a → Contains calls b → Exposes rank addr a b → IsTold third a.place b.place
  all-told a b rank addr of_a of_b exposes =
      elim (cases_Bool (is_unbuffered b.sort)) [
        | inl b_free ↦
            let there = to_side is_free calls free_writers fw b of_b b_free in
            elim (cases_Bool (is_unbuffered a.sort)) [
              | inl a_free ↦ three.adds.keeps a.place b.place (two.adds.keeps a.place b.place
                  (one.told a b rank addr (to_side is_free calls free_readers fr a of_a a_free) there exposes))
              | inr a_bound ↦ three.adds.keeps a.place b.place
                  (two.told a b rank addr (to_side is_other calls other_readers or a of_a (ap not a_bound)) there exposes)
            ]
        | inr b_bound ↦
            three.told a b rank addr (to_side is_free calls free_readers fr a of_a (reader-is_free rank addr a b exposes b_bound))
            (to_side is_other calls other_writers ow b of_b (ap not b_bound)) exposes
      ]

  pub all-are : AreExposures calls third
  all-are = record {
    sound = three.adds.sound calls (from_side is_free calls free_readers fr) (from_side is_other calls other_writers ow)
        (two.adds.sound calls (from_side is_other calls other_readers or) (from_side is_free calls free_writers fw)
        (one.adds.sound calls (from_side is_free calls free_readers fr) (from_side is_free calls free_writers fw)
        (λ k d within. absurd (omega (arith, within)))));
    told = all-told;
    once = three.adds.once (two.adds.once (one.adds.once (λ i j d before within. absurd (omega (arith, within)))));
  }
