-- Sums over all ranks but one.
use Rattle.std.proofs.Common.{◌≡◌, ℕ, zero, suc, ◌+◌, ◌<◌, not, cond, eqb, [], ◌∷◌}
use Rattle.std.proofs.Common.{◌++◌, sym, ap, ◌∙◌, refl, arith, subst, add-one, inl, inr, append-nil}
use Rattle.std.specs.Prelude.{filter, sum_by}
use Rattle.std.specs.List.{range_with_len}
use Rattle.std.proofs.lemmas.Bool.{cases_eq, eq-eqb, ne_eqb}
use Rattle.std.proofs.lemmas.List.{map-id}
use Rattle.std.proofs.lemmas.List.FromFn.{filter_of_map_range_with_len_more}
use Rattle.std.proofs.lemmas.List.Sums.{sum_by_push}
use Rattle.bsp_profile.specs.Moves.{others}

others-more : (n rank : ℕ) → others (n + 1) rank ≡ others n rank ++ cond (not (eqb n rank)) (n ∷ []) []
others-more n rank =
    ap (filter (λ k. not (eqb k rank))) (sym (map-id (range_with_len 0 (n + 1))))
    ∙ filter_of_map_range_with_len_more (λ k. not (eqb k rank)) (λ k. k) 0 n n (omega arith)
    ∙ ap (λ ks. filter (λ k. not (eqb k rank)) ks ++ cond (not (eqb n rank)) (n ∷ []) []) (map-id (range_with_len 0 n))

pub others_yes : (f : ℕ → ℕ) (n rank : ℕ) → (n ≡ rank → ⊥) → sum_by f (others (n + 1) rank) ≡ sum_by f (others n rank) + f n
others_yes f n rank other =
    ap (sum_by f) (others-more n rank ∙ ap (λ b. others n rank ++ cond (not b) (n ∷ []) []) (ne_eqb n rank other))
    ∙ sum_by_push f (others n rank) n

pub others_no : (f : ℕ → ℕ) (n rank : ℕ) → n ≡ rank → sum_by f (others (n + 1) rank) ≡ sum_by f (others n rank)
others_no f n rank same =
    ap (sum_by f)
    (others-more n rank ∙ ap (λ b. others n rank ++ cond (not b) (n ∷ []) []) (eq-eqb n rank same) ∙ append-nil (others n rank))

-- functions with the same values below n have the same sum
pub others_same : (f g : ℕ → ℕ) (n rank : ℕ) → ((k : ℕ) → k < n → f k ≡ g k) → sum_by f (others n rank) ≡ sum_by g (others n rank)
others_same f g zero rank each = refl
others_same f g (suc n) rank each =
    let before : sum_by f (others n rank) ≡ sum_by g (others n rank) = others_same f g n rank (λ k below. each k (omega arith)) in
    let here : f n ≡ g n = each n (omega arith) in
    let next : sum_by f (others (n + 1) rank) ≡ sum_by g (others (n + 1) rank) = elim (cases_eq n rank) [
      | inl same ↦ others_no f n rank same ∙ before ∙ sym (others_no g n rank same)
      | inr other ↦
          let fs = others_yes f n rank other in
          let gs = others_yes g n rank other in
          omega (arith, fs, gs, before, here)
    ] in
    subst (λ (k : ℕ). sum_by f (others k rank) ≡ sum_by g (others k rank)) (add-one n) next
