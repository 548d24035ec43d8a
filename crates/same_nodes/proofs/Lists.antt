-- Lists that are the same at each place.
use Rattle.std.proofs.Common.{◌≡◌, ℕ, suc, ◌<◌, Bool, true, nat_eq, List, [], ◌∷◌, length, Some, refl, arith}
use Rattle.std.specs.Prelude.{slice_get}
use Rattle.std.specs.Cmp.Lexicographic.{pointwise}
use Rattle.std.proofs.lemmas.Bool.Decides.{Decides-eqb}
use Rattle.std.proofs.lemmas.Grind.{common_steps}
use Rattle.std.proofs.lemmas.Slice.Eq.{slice_eq-Decides}
use Rattle.node_memory.specs.Bytes.{bytes_at}

pub same-lists : {X : Type 0} (xs ys : List X) → length xs ≡ length ys → ((k : ℕ) → k < length xs → slice_get xs k ≡ slice_get ys k)
    → xs ≡ ys
same-lists [] [] same each = refl
same-lists [] (y ∷ ys) same each = absurd (omega (arith, same))
same-lists (x ∷ xs) [] same each = absurd (omega (arith, same))
same-lists (x ∷ xs) (y ∷ ys) same each =
    let first : Some x ≡ Some y = each 0 (omega arith) in
    let rest : xs ≡ ys = same-lists xs ys (omega (arith, same)) (λ k below. each (suc k) (omega (arith, below))) in
    cc

-- a test that two lists of numbers are the same
pub same-numbers : (xs ys : List ℕ) (b : Bool) → b ≡ pointwise nat_eq xs ys → b ≡ true → xs ≡ ys
same-numbers xs ys b is holds = (slice_eq-Decides Decides-eqb xs ys b is).0 holds

-- all bytes of a memory
pub bytes_at-whole : (m : List ℕ) (size : ℕ) → size ≡ length m → bytes_at m 0 size ≡ m
bytes_at-whole m size all = grind (arith, common_steps)
