-- Of two landings only these two can differ, and so only at the addresses that both cover; and two landings may change places.
use Rattle.std.proofs.Common.{◌≡◌, ℕ, ◌⊎◌, inl, inr, zero, suc, [], ◌∷◌, refl, sym, ap, subst, ◌∙◌, arith}
use Rattle.std.specs.Prelude.{Contains}
use Rattle.std.proofs.lemmas.List.Sorted.{IsPermutation-refl, IsPermutation-to_front}
use Rattle.bsp_exchange.specs.Landings.{Landing, landing_byte}
use Rattle.contested_bytes.specs.Contested.{Differ, IsAllowedOrder, IsContested}
use Rattle.contested_bytes.specs.Examples.{put_by_0, alike_by_2, other_by_2, behind_by_2, get_by_1}
use Rattle.contested_bytes.proofs.Compared.{reaches-rank, reaches-start, reaches-end}
use Rattle.contested_bytes.proofs.Swept.{differ-itself, differ-sym}
use Rattle.contested_bytes.proofs.laws.examples.Goals as goal

one-of : (x y l : Landing) → Contains (x ∷ y ∷ []) l → (x ≡ l) ⊎ (y ≡ l)
one-of x y l (zero, within, is) = inl is
one-of x y l (suc zero, within, is) = inr is
one-of x y l (suc (suc k), within, is) = absurd (omega (arith, within))

-- of two landings these two differ
both : (x y : Landing) (rank addr : ℕ) → IsContested (x ∷ y ∷ []) rank addr → Differ rank addr x y
both x y rank addr c =
    elim (one-of x y c.0 c.2) [
      | inl first ↦ elim (one-of x y c.1 c.3) [
        | inl second ↦
            absurd (differ-itself rank addr x
            (subst (Differ rank addr x) (sym second) (subst (λ a. Differ rank addr a c.1) (sym first) c.4)))
        | inr second ↦ subst (Differ rank addr x) (sym second) (subst (λ a. Differ rank addr a c.1) (sym first) c.4)
      ]
      | inr first ↦ elim (one-of x y c.1 c.3) [
        | inl second ↦
            differ-sym rank addr y x (subst (Differ rank addr y) (sym second) (subst (λ a. Differ rank addr a c.1) (sym first) c.4))
        | inr second ↦
            absurd (differ-itself rank addr y
            (subst (Differ rank addr y) (sym second) (subst (λ a. Differ rank addr a c.1) (sym first) c.4)))
      ]
    ]

pub returns-clause-alike : goal.returns-clause-alike
returns-clause-alike c = λ rank addr contested.
    let differ = both put_by_0 alike_by_2 rank addr contested in
    let at : addr ≡ 19 = omega (arith, reaches-end rank addr put_by_0 differ.first, reaches-start rank addr alike_by_2 differ.second) in
    differ.bytes (ap (λ n. landing_byte n put_by_0) at ∙ sym (ap (λ n. landing_byte n alike_by_2) at))

pub returns-clause-touching : goal.returns-clause-touching
returns-clause-touching c = λ rank addr contested.
    let differ = both put_by_0 behind_by_2 rank addr contested in
    omega (arith, reaches-end rank addr put_by_0 differ.first, reaches-start rank addr behind_by_2 differ.second)

different-at : IsContested (put_by_0 ∷ other_by_2 ∷ []) 1 19
different-at = (
  put_by_0,
  other_by_2,
  (0, omega arith, refl),
  (1, omega arith, refl),
  record { first = refl; second = refl; bytes = λ same. omega (arith, same) },
)

pub returns-clause-different : goal.returns-clause-different
returns-clause-different c = λ rank addr. (
  λ contested.
      let differ = both put_by_0 other_by_2 rank addr contested in (
        sym (reaches-rank rank addr put_by_0 differ.first),
        omega (arith, reaches-end rank addr put_by_0 differ.first, reaches-start rank addr other_by_2 differ.second),
      ),
  λ at. subst (λ r. IsContested (put_by_0 ∷ other_by_2 ∷ []) r addr) (sym at.0)
      (subst (IsContested (put_by_0 ∷ other_by_2 ∷ []) 1) (sym at.1) different-at),
)

pub returns-clause-put_and_get : goal.returns-clause-put_and_get
returns-clause-put_and_get c = (
  put_by_0,
  get_by_1,
  (0, omega arith, refl),
  (1, omega arith, refl),
  record { first = refl; second = refl; bytes = λ same. omega (arith, same) },
)

-- the other order of two
swapped : (x y : Landing) → IsAllowedOrder (x ∷ y ∷ []) (y ∷ x ∷ [])
swapped x y = IsPermutation-to_front (x ∷ []) y

pub returns-clause-one_order : goal.returns-clause-one_order
returns-clause-one_order c = (IsPermutation-refl (put_by_0 ∷ other_by_2 ∷ []), refl)

pub returns-clause-other_order : goal.returns-clause-other_order
returns-clause-other_order c = (swapped put_by_0 other_by_2, refl)
