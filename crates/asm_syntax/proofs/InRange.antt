-- What is judged to be in range is.
use Rattle.std.proofs.Common.{◌≡◌, ◌<◌, Bool, true, false, List, [], ◌∷◌, length, ℤ, Option, Some, None, Result, Ok, Err, sym, ap, ◌∙◌}
use Rattle.std.proofs.Common.{arith, inl, inr, ◌⊎◌}
use Rattle.std.specs.List.{list_all, All}
use Rattle.std.specs.Prelude.{int_le}
use Rattle.std.proofs.lemmas.Bool.{cases_Bool, and_parts}
use Rattle.std.proofs.lemmas.Float.{T_from_true}
use Rattle.std.specs.Int.Signed.{le_z_yes}
use Rattle.std.proofs.lemmas.List.Sums.{AllPass-from_list_all}
use Rattle.asm_syntax.specs.declared.error.LineError.{LineError}
use Rattle.asm_syntax.specs.Faults.{judged}
use Rattle.asm_syntax.specs.Operands.{Target, offset_range, fits_target, IsTarget}
use Rattle.asm_syntax.specs.Ranges.{Range, is_within, IsWithin}
use Rattle.asm_syntax.specs.Shapes.{all_of, one_or_more, with_both}
use Rattle.asm_syntax.specs.Tokens.{Token}

pub is_within-true : (range : Range) (n : ℤ) → is_within range n ≡ true → IsWithin range n
is_within-true range n h =
    let parts = and_parts (int_le range.low n) (int_le n range.high) h in
    (le_z_yes (T_from_true _ parts.0), le_z_yes (T_from_true _ parts.1))

pub fits_target-true : (t : Target) → fits_target t ≡ true → IsTarget t
fits_target-true t h = is_within-true (offset_range t.label) t.offset h

pub judged-ok : {X : Type 0} (fits : X → Bool) (o : Option X) (x : X) → judged fits o ≡ Ok x → (o ≡ Some x) × (fits x ≡ true)
judged-ok {X} fits None x h = absurd (none h) where
  none : {e : LineError} → ◌≡◌ {A = Result X LineError} (Err e) (Ok x) → ⊥
  none h = cc
judged-ok {X} fits (Some y) x h = by_test (cases_Bool (fits y)) where
  none : {e : LineError} → ◌≡◌ {A = Result X LineError} (Err e) (Ok x) → ⊥
  none h = cc

  by_test : (fits y ≡ true) ⊎ (fits y ≡ false) → (◌≡◌ {A = Option X} (Some y) (Some x)) × (fits x ≡ true)
  by_test (inl passes) =
      let e = rw passes at h in
      let is : y ≡ x = cc in
      (ap Some is, ap fits (sym is) ∙ passes)
  by_test (inr fails) = absurd (none (rw fails at h))

-- there is one operand or more
one_or_more-some : {X : Type 0} (read : List Token → Option X) (ops : List (List Token)) (xs : List X) → one_or_more read ops ≡ Some xs
    → 0 < length xs
one_or_more-some {X} read [] xs h = absurd (none h) where
  none : ◌≡◌ {A = Option (List X)} None (Some xs) → ⊥
  none h = cc
one_or_more-some {X} read (operand ∷ rest) xs h = by_read (read operand) (all_of read rest) h where
  none : ◌≡◌ {A = Option (List X)} None (Some xs) → ⊥
  none h = cc

  by_read : (o : Option X) (others : Option (List X)) → with_both o others (λ y ys. y ∷ ys) ≡ Some xs → 0 < length xs
  by_read None others h = absurd (none h)
  by_read (Some y) None h = absurd (none h)
  by_read (Some y) (Some ys) h =
      let is : (y ∷ ys) ≡ xs = cc in
      rw (← is) (omega arith)

-- one or more operands that are judged to be in range
pub judged-each : {X : Type 0} (fits : X → Bool) (read : List Token → Option X) (ops : List (List Token)) (xs : List X)
    → judged (list_all fits) (one_or_more read ops) ≡ Ok xs → (0 < length xs) × All (λ x. fits x ≡ true) xs
judged-each fits read ops xs h =
    let found = judged-ok (list_all fits) (one_or_more read ops) xs h in
    (one_or_more-some read ops xs found.0, AllPass-from_list_all fits xs found.1)
