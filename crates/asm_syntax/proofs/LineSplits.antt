-- The first line of a text, and the lines behind it.
use Rattle.std.proofs.Common.{◌≡◌, ℕ, ◌+◌, ◌<◌, ◌≤◌, ◌⊎◌, List, [], ◌∷◌, Bool, true, false, ltb, length, take, drop, Some, None, refl, sym}
use Rattle.std.proofs.Common.{ap, ◌∙◌, arith, inl, inr}
use Rattle.std.specs.List.{slice_split, position, position_or_len}
use Rattle.std.proofs.lemmas.Bool.{cases_Bool, ltb-true, ltb-false}
use Rattle.std.proofs.lemmas.List.Sums.{fails_before_first}
use Rattle.std.proofs.lemmas.Option.{same_Some}
use Rattle.std.proofs.lemmas.List.Splits.{slice_split_first, slice_split_none, length-slice_split}
use Rattle.asm_syntax.specs.Bytes.{is_line_feed}
use Rattle.asm_syntax.specs.Lines.{lines_of, without_return, without_returns}

-- where the first element that passes stands, if one does
pub position_or_len-found : (p : ℕ → Bool) (xs : List ℕ) (at : ℕ) → Some at ≡ position p xs → (position_or_len p xs ≡ at) × (at < length xs)
position_or_len-found p xs at h = found (cases_Bool (ltb (position_or_len p xs) (length xs))) where
  found : (ltb (position_or_len p xs) (length xs) ≡ true) ⊎ (ltb (position_or_len p xs) (length xs) ≡ false)
      → (position_or_len p xs ≡ at) × (at < length xs)
  found (inl passes) = let e : at ≡ position_or_len p xs = same_Some _ _ (rw passes at h) in (sym e, rw e (ltb-true _ _ passes))
  found (inr fails) = let e = rw fails at h in cc

position_or_len-absent : (p : ℕ → Bool) (xs : List ℕ) → None ≡ position p xs → length xs ≤ position_or_len p xs
position_or_len-absent p xs h = absent (cases_Bool (ltb (position_or_len p xs) (length xs))) where
  absent : (ltb (position_or_len p xs) (length xs) ≡ true) ⊎ (ltb (position_or_len p xs) (length xs) ≡ false)
      → length xs ≤ position_or_len p xs
  absent (inl passes) = let e = rw passes at h in cc
  absent (inr fails) = ltb-false _ _ fails

-- a line that others follow was ended by a line feed
without_returns-more : (line : List ℕ) (more : List (List ℕ)) → 0 < length more
    → without_returns (line ∷ more) ≡ without_return line ∷ without_returns more
without_returns-more line [] some = absurd (omega arith)
without_returns-more line (next ∷ rest) some = refl

-- a text with a line feed
pub lines_of-found : (text : List ℕ) (at : ℕ) → Some at ≡ position is_line_feed text
    → lines_of text ≡ without_return (take at text) ∷ lines_of (drop (at + 1) text)
unfolding lines_of
lines_of-found text at h =
    let found = position_or_len-found is_line_feed text at h in
    let first = slice_split_first is_line_feed text 0 (omega arith) in
    let parts : slice_split is_line_feed text ≡ take at text ∷ slice_split is_line_feed (drop (at + 1) text) = rw found.0 at first in
    ap without_returns parts ∙ without_returns-more (take at text) _ (omega (arith, length-slice_split is_line_feed (drop (at + 1) text)))

-- a text without one
pub lines_of-absent : (text : List ℕ) → None ≡ position is_line_feed text → lines_of text ≡ text ∷ []
unfolding lines_of
lines_of-absent text h =
    ap without_returns
    (slice_split_none is_line_feed text
    (λ k d within. fails_before_first is_line_feed text k d (omega (arith, position_or_len-absent is_line_feed text h))))
