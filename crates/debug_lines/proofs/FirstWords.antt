-- The first word of a line.
use Rattle.std.proofs.Common.{◌≡◌, ℕ, suc, ◌+◌, ◌<◌, ◌≤◌, Bool, true, false, not, List, [], ◌∷◌, length, take, drop, refl, sym, ap, ◌∙◌}
use Rattle.std.proofs.Common.{arith, inl, inr}
use Rattle.std.proofs.lemmas.Bool.{cases_Bool}
use Rattle.std.proofs.lemmas.List.Sums.{prefix_len-le-length}
use Rattle.std.specs.List.{filter, position_or_len, slice_split, prefix_len}
use Rattle.debug_lines.specs.Words.{is_space, has_bytes, words}

pub prefix_is_within : (p : ℕ → Bool) (xs : List ℕ) → prefix_len p xs ≤ length xs
prefix_is_within p xs = prefix_len-le-length p xs

one_more : (n : ℕ) → 1 + n ≡ suc n
one_more n = omega arith

-- what stands before the first space is the first part, and the words behind it are those of the other parts
record IsFirstPart (xs : List ℕ) : Type 0 where
  rest : List (List ℕ)
  parts : slice_split is_space xs ≡ take (position_or_len is_space xs) xs ∷ rest
  others : filter has_bytes rest ≡ words (drop (position_or_len is_space xs) xs)

at_space : (b : ℕ) (xs : List ℕ) → is_space b ≡ true → IsFirstPart (b ∷ xs)
at_space b xs space = record { rest = slice_split is_space xs; parts = rw space refl; others = rw space (rw space refl) }

onto : (b : ℕ) (xs : List ℕ) → is_space b ≡ false → IsFirstPart xs → IsFirstPart (b ∷ xs)
onto b xs other part =
    let next = one_more (position_or_len is_space xs) in
    record { rest = part.rest; parts = rw other (rw part.parts (rw next refl)); others = rw other (rw next part.others) }

first_part : (xs : List ℕ) → IsFirstPart xs
first_part [] = record { rest = []; parts = refl; others = refl }
first_part (b ∷ xs) =
    elim (cases_Bool (is_space b)) [
      | inl space ↦ at_space b xs space
      | inr other ↦ onto b xs other (first_part xs)
    ]

-- behind a space, the spaces that a line begins with end where they end without it
skipped : (b : ℕ) (xs : List ℕ) → is_space b ≡ true → drop (prefix_len is_space (b ∷ xs)) (b ∷ xs) ≡ drop (prefix_len is_space xs) xs
skipped b xs space = rw space (rw (one_more (prefix_len is_space xs)) refl)

kept : (b : ℕ) (xs : List ℕ) → is_space b ≡ false → drop (prefix_len is_space (b ∷ xs)) (b ∷ xs) ≡ b ∷ xs
kept b xs other = rw other refl

-- spaces that a line begins with count for nothing
behind_spaces : (xs : List ℕ) → words xs ≡ words (drop (prefix_len is_space xs) xs)
behind_spaces [] = refl
behind_spaces (b ∷ xs) =
    elim (cases_Bool (is_space b)) [
      | inl space ↦ rw (skipped b xs space) (rw space (behind_spaces xs))
      | inr other ↦ rw (kept b xs other) refl
    ]

-- a line begins with a word
begins_word : List ℕ → Bool
begins_word [] = false
begins_word (b ∷ xs) = not (is_space b)

begins_behind_spaces : (xs : List ℕ) → 0 < length (drop (prefix_len is_space xs) xs) → begins_word (drop (prefix_len is_space xs) xs) ≡ true
unfolding begins_word
begins_behind_spaces [] some = absurd (omega arith)
begins_behind_spaces (b ∷ xs) some =
    elim (cases_Bool (is_space b)) [
      | inl space ↦
          let here : 0 < length (drop (prefix_len is_space xs) xs) = rw (sym (skipped b xs space)) some in
          rw (skipped b xs space) (begins_behind_spaces xs here)
      | inr other ↦ rw (kept b xs other) (rw other refl)
    ]

has_first : (b : ℕ) (xs : List ℕ) → has_bytes (b ∷ xs) ≡ true
has_first b xs = grind arith

word_first : (xs : List ℕ) → begins_word xs ≡ true
    → words xs ≡ take (position_or_len is_space xs) xs ∷ words (drop (position_or_len is_space xs) xs)
unfolding begins_word
word_first [] begins = absurd (no_true begins) where
  no_true : false ≡ true → ⊥
  no_true h = cc
word_first (b ∷ xs) begins =
    let other : is_space b ≡ false = grind arith in
    let part = onto b xs other (first_part xs) in
    let longer : has_bytes (take (position_or_len is_space (b ∷ xs)) (b ∷ xs)) ≡ true =
    rw other (rw (one_more (position_or_len is_space xs)) (has_first b (take (position_or_len is_space xs) xs))) in
    ap (filter has_bytes) part.parts ∙ rw longer (rw part.others refl)

-- a line of spaces alone has no words
pub no_word : (xs : List ℕ) → length (drop (prefix_len is_space xs) xs) ≡ 0 → words xs ≡ []
no_word xs none = behind_spaces xs ∙ of_none (drop (prefix_len is_space xs) xs) none where
  of_none : (ys : List ℕ) → length ys ≡ 0 → words ys ≡ []
  of_none [] none = refl
  of_none (y ∷ ys) none = absurd (omega arith)

-- behind the spaces that a line begins with stand its first word, which is as long as it can be, and the other words
pub first_word : (xs : List ℕ) → 0 < length (drop (prefix_len is_space xs) xs)
    → words xs ≡ take (position_or_len is_space (drop (prefix_len is_space xs) xs)) (drop (prefix_len is_space xs) xs)
    ∷ words (drop (position_or_len is_space (drop (prefix_len is_space xs) xs)) (drop (prefix_len is_space xs) xs))
first_word xs some = behind_spaces xs ∙ word_first (drop (prefix_len is_space xs) xs) (begins_behind_spaces xs some)
