-- A value with two registers and an offset in its free bits is a B-type word of them, and no other word is.
use Rattle.std.proofs.Common.{◌≡◌, ℕ, ◌+◌, ◌*◌, ◌^◌, ◌<◌, Some, ℤ, ap, sym, ◌∙◌, arith, bit_and}
use Rattle.std.proofs.lemmas.Int.{ints}
use Rattle.rv_tables.proofs.Masks.{under_707F}
use Rattle.rv_tables.specs.Fields.{bits, sign_extended, b_immediate}
use Rattle.rv_tables.specs.Words.{IsBWord, IsOnlyWord}

-- the offset's field, before its sign is extended
abbrev offset : ℕ → ℕ
offset w = bits w 31 31 * 2 ^ 12 + bits w 7 7 * 2 ^ 11 + bits w 30 25 * 2 ^ 5 + bits w 11 8 * 2

same_from_extended : (x y : ℕ) → x < 2 ^ 13 → y < 2 ^ 13 → sign_extended 13 x ≡ sign_extended 13 y → x ≡ y
same_from_extended x y x_in y_in e = grind (arith, ints)

offset-from_parts : (x y : ℕ) → bits x 31 25 ≡ bits y 31 25 → bits x 11 7 ≡ bits y 11 7 → offset x ≡ offset y
offset-from_parts x y high low =
    let sign : bits x 31 31 ≡ bits y 31 31 = omega arith in
    let top : bits x 30 25 ≡ bits y 30 25 = omega arith in
    let middle : bits x 7 7 ≡ bits y 7 7 = omega arith in
    let rest : bits x 11 8 ≡ bits y 11 8 = omega arith in
    omega (arith, sign, top, middle, rest)

-- the two parts of a word in which the offset stands, from the field
parts-from_offset : (x y : ℕ) → offset x ≡ offset y → (bits x 31 25 ≡ bits y 31 25) × (bits x 11 7 ≡ bits y 11 7)
parts-from_offset x y e = (omega arith, omega arith)

pub IsOnlyWord-b : (v a b p n : ℕ) (imm : ℤ) → bit_and v 0x707F ≡ v → a < 32 → b < 32 → b_immediate p ≡ imm
    → p ≡ bits p 31 25 * 2 ^ 25 + bits p 11 7 * 2 ^ 7 → n ≡ v + a * 2 ^ 15 + b * 2 ^ 20 + p → IsOnlyWord (IsBWord v a b imm) (Some n)
IsOnlyWord-b v a b p n imm own a_in b_in extends alone is_n =
    let of_v = under_707F v in
    let of_n = under_707F n in
    let same_offset = offset-from_parts n p (omega arith) (omega arith) in (
      (omega arith, omega arith, omega arith, ap (sign_extended 13) same_offset ∙ extends),
      λ w fits of_operands.
          let same_field = same_from_extended (offset w) (offset p) (omega arith) (omega arith) (of_operands.3 ∙ sym extends) in
          let same_parts = parts-from_offset w p same_field in
          ap Some (same w fits of_operands.0 of_operands.1 of_operands.2 same_parts.0 same_parts.1),
    ) where
      same : (w : ℕ) → w < 2 ^ 32 → bit_and w 0x707F ≡ v → bits w 19 15 ≡ a → bits w 24 20 ≡ b → bits w 31 25 ≡ bits p 31 25
          → bits w 11 7 ≡ bits p 11 7 → n ≡ w
      same w fits met is_a is_b high low = let of_w = under_707F w in omega arith
