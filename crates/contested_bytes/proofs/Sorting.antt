-- What a sort by rank and address leaves.
use Rattle.std.proofs.Common.{◌≡◌, ℕ, ◌<◌, inl, inr, false, List, get_or, refl, sym, arith}
use Rattle.std.specs.List.{AllPairs}
use Rattle.std.specs.List.Sorted.{IsSortedByKey}
use Rattle.std.specs.Ordering.{MatchOrdering, nat_cmp, ordering_then, is_lt}
use Rattle.std.specs.declared.cmp.Ordering.{Ordering}
use Rattle.std.specs.declared.cmp.Ordering.TheVariants.{Less, Equal, Greater}
use Rattle.std.proofs.lemmas.Bool.{true≢false}
use Rattle.std.proofs.lemmas.Cmp.{nat_cmp_total, on_total, then_total, ranked}
use Rattle.std.proofs.lemmas.List.Sorted.{ranks_by, sorted_far}
use Rattle.contested_bytes.specs.Places.{IsNoLater}

-- by rank, and then by address
abbrev pub by_place : ℕ × ℕ → ℕ × ℕ → Ordering
by_place p q = ordering_then (nat_cmp p.0 q.0) (nat_cmp p.1 q.1)

not_less : (a b x y : ℕ) (by_rank by_addr : Ordering) → MatchOrdering by_rank (a < b) (a ≡ b) (b < a)
    → MatchOrdering by_addr (x < y) (x ≡ y) (y < x) → is_lt (ordering_then by_rank by_addr) ≡ false → IsNoLater b y a x
not_less a b x y Less by_addr rank addr is = absurd (true≢false is)
not_less a b x y Equal Less rank addr is = absurd (true≢false is)
not_less a b x y Equal Equal rank addr is = inr (sym rank, omega (arith, addr))
not_less a b x y Equal Greater rank addr is = inr (sym rank, omega (arith, addr))
not_less a b x y Greater by_addr rank addr is = inl rank

pub in_order : {X : Type 0} (rank addr : X → ℕ) (xs : List X) → IsSortedByKey (λ x. (rank x, addr x)) by_place xs
    → AllPairs (λ (x y : X). IsNoLater (rank x) (addr x) (rank y) (addr y)) xs
in_order rank addr xs sorted i j d before within =
    let total = then_total (on_total (λ (p : ℕ × ℕ). p.0) nat_cmp_total) (on_total (λ (p : ℕ × ℕ). p.1) nat_cmp_total) in
    let far = sorted_far _ (ranks_by total (λ x. (rank x, addr x))) xs sorted i j d (omega (arith, before)) within in
    let x = get_or xs j d in
    let y = get_or xs i d in
    not_less (rank x) (rank y) (addr x) (addr y) (nat_cmp (rank x) (rank y)) (nat_cmp (addr x) (addr y))
    (ranked (rank x) (rank y) (nat_cmp (rank x) (rank y)) refl) (ranked (addr x) (addr y) (nat_cmp (addr x) (addr y)) refl) far
