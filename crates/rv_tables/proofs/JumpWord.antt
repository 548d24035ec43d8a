-- A value with a register and an offset in its free bits is a J-type word of them, and no other word is.
use Rattle.std.proofs.Common.{◌≡◌, ℕ, ◌+◌, ◌*◌, ◌^◌, ◌<◌, Some, ℤ, ap, sym, ◌∙◌, arith, bit_and}
use Rattle.std.proofs.lemmas.Int.{ints}
use Rattle.rv_tables.proofs.Masks.{under_7F}
use Rattle.rv_tables.specs.Fields.{bits, sign_extended, j_immediate}
use Rattle.rv_tables.specs.Words.{IsJWord, IsOnlyWord}

-- the offset's field, before its sign is extended
abbrev offset : ℕ → ℕ
offset w = bits w 31 31 * 2 ^ 20 + bits w 19 12 * 2 ^ 12 + bits w 20 20 * 2 ^ 11 + bits w 30 21 * 2

same_from_extended : (x y : ℕ) → x < 2 ^ 21 → y < 2 ^ 21 → sign_extended 21 x ≡ sign_extended 21 y → x ≡ y
same_from_extended x y x_in y_in e = grind (arith, ints)

offset-from_high : (x y : ℕ) → bits x 31 12 ≡ bits y 31 12 → offset x ≡ offset y
offset-from_high x y high =
    let sign : bits x 31 31 ≡ bits y 31 31 = omega arith in
    let low : bits x 30 21 ≡ bits y 30 21 = omega arith in
    let middle : bits x 20 20 ≡ bits y 20 20 = omega arith in
    let rest : bits x 19 12 ≡ bits y 19 12 = omega arith in
    omega (arith, sign, low, middle, rest)

-- the part of a word in which the offset stands, from the field
high-from_offset : (x y : ℕ) → offset x ≡ offset y → bits x 31 12 ≡ bits y 31 12
high-from_offset x y e = omega arith

pub IsOnlyWord-j : (v d p n : ℕ) (imm : ℤ) → bit_and v 0x7F ≡ v → d < 32 → j_immediate p ≡ imm → p ≡ bits p 31 12 * 2 ^ 12
    → n ≡ v + d * 2 ^ 7 + p → IsOnlyWord (IsJWord v d imm) (Some n)
IsOnlyWord-j v d p n imm own d_in extends alone is_n =
    let of_v = under_7F v in
    let of_n = under_7F n in
    let same_offset = offset-from_high n p (omega arith) in (
      (omega arith, omega arith, ap (sign_extended 21) same_offset ∙ extends),
      λ w fits of_operands.
          let same_field = same_from_extended (offset w) (offset p) (omega arith) (omega arith) (of_operands.2 ∙ sym extends) in
          ap Some (same w fits of_operands.0 of_operands.1 (high-from_offset w p same_field)),
    ) where
      same : (w : ℕ) → w < 2 ^ 32 → bit_and w 0x7F ≡ v → bits w 11 7 ≡ d → bits w 31 12 ≡ bits p 31 12 → n ≡ w
      same w fits met is_d high = let of_w = under_7F w in omega arith
