-- The words of the base formats: a row's value with operands in its free bits is the only word of the row with them.
use Rattle.std.proofs.Common.{◌≡◌, ℕ, ◌+◌, ◌*◌, ◌/◌, ◌%◌, ◌^◌, ◌<◌, Some, ℤ, pos, negsuc, refl, ap, sym, ◌∙◌, arith, bit_and, ◌-◌}
use Rattle.std.proofs.lemmas.Int.{ints}
use Rattle.rv_tables.proofs.BranchWord.{IsOnlyWord-b}
use Rattle.rv_tables.proofs.Masks.{under_7F, under_707F, under_FE00707F}
use Rattle.rv_tables.specs.Fields.{bits, sign_extended}
use Rattle.rv_tables.specs.Operands.{IsSigned, IsEven}
use Rattle.rv_tables.specs.Words.{IsRWord, IsIWord, IsSWord, IsBWord, IsUWord, IsJWord, IsOnlyWord}

-- a word that is the only one with a property
pub record OnlyWord (P : ℕ → Type 0) : Type 0 where
  pub word : ℕ
  pub fits : word < 2 ^ 32
  pub only : IsOnlyWord P (Some word)

-- the field of `width` bits whose sign extension is a number
record FieldOf (width : ℕ) (imm : ℤ) : Type 0 where
  field : ℕ
  fits : field < 2 ^ width
  extends : sign_extended width field ≡ imm
  even : IsEven imm → field % 2 ≡ 0

field_12 : (imm : ℤ) → IsSigned 12 imm → FieldOf 12 imm
field_12 (pos n) h = record { field = n; fits = grind (arith, ints); extends = grind (arith, ints); even = λ e. grind (arith, ints) }
field_12 (negsuc n) h = record { field = 4095 - n; fits = omega arith; extends = grind (arith, ints); even = λ e. grind (arith, ints) }

field_13 : (imm : ℤ) → IsSigned 13 imm → FieldOf 13 imm
field_13 (pos n) h = record { field = n; fits = grind (arith, ints); extends = grind (arith, ints); even = λ e. grind (arith, ints) }
field_13 (negsuc n) h = record { field = 8191 - n; fits = omega arith; extends = grind (arith, ints); even = λ e. grind (arith, ints) }

field_21 : (imm : ℤ) → IsSigned 21 imm → FieldOf 21 imm
field_21 (pos n) h = record { field = n; fits = grind (arith, ints); extends = grind (arith, ints); even = λ e. grind (arith, ints) }
field_21 (negsuc n) h = record { field = 2097151 - n; fits = omega arith; extends = grind (arith, ints); even = λ e. grind (arith, ints) }

same_12 : (x y : ℕ) → x < 2 ^ 12 → y < 2 ^ 12 → sign_extended 12 x ≡ sign_extended 12 y → x ≡ y
same_12 x y x_in y_in e = grind (arith, ints)

same_21 : (x y : ℕ) → x < 2 ^ 21 → y < 2 ^ 21 → sign_extended 21 x ≡ sign_extended 21 y → x ≡ y
same_21 x y x_in y_in e = grind (arith, ints)

abbrev j_field : ℕ → ℕ
j_field w = bits w 31 31 * 2 ^ 20 + bits w 19 12 * 2 ^ 12 + bits w 20 20 * 2 ^ 11 + bits w 30 21 * 2

pub r_format : (value rd rs1 rs2 : ℕ) → bit_and value 0xFE00707F ≡ value → rd < 32 → rs1 < 32 → rs2 < 32
    → OnlyWord (IsRWord value rd rs1 rs2)
r_format value rd rs1 rs2 private rd_in rs1_in rs2_in =
    let n = value + rd * 2 ^ 7 + rs1 * 2 ^ 15 + rs2 * 2 ^ 20 in
    let of_value = under_FE00707F value in
    let of_n = under_FE00707F n in
    record {
      word = n;
      fits = omega arith;
      only = ((omega arith, omega arith, omega arith, omega arith), λ w w_in h. ap Some (same w w_in h.0 h.1 h.2 h.3));
    } where
      same : (w : ℕ) → w < 2 ^ 32 → bit_and w 0xFE00707F ≡ value → bits w 11 7 ≡ rd → bits w 19 15 ≡ rs1 → bits w 24 20 ≡ rs2
          → value + rd * 2 ^ 7 + rs1 * 2 ^ 15 + rs2 * 2 ^ 20 ≡ w
      same w w_in met is_rd is_rs1 is_rs2 = let of_w = under_FE00707F w in omega arith

pub i_format : (value rd rs1 : ℕ) (imm : ℤ) → bit_and value 0x707F ≡ value → rd < 32 → rs1 < 32 → IsSigned 12 imm
    → OnlyWord (IsIWord value rd rs1 imm)
i_format value rd rs1 imm private rd_in rs1_in signed =
    let f = field_12 imm signed in
    i_word f.field f.fits f.extends
  where
    i_word : (f : ℕ) → f < 2 ^ 12 → sign_extended 12 f ≡ imm → OnlyWord (IsIWord value rd rs1 imm)
    i_word f f_in extends =
        let n = value + rd * 2 ^ 7 + rs1 * 2 ^ 15 + f * 2 ^ 20 in
        let of_value = under_707F value in
        let of_n = under_707F n in
        let field : bits n 31 20 ≡ f = omega arith in
        record {
          word = n;
          fits = omega arith;
          only = (
            (omega arith, omega arith, omega arith, ap (sign_extended 12) field ∙ extends),
            λ w w_in h. ap Some (same w w_in h.0 h.1 h.2 (same_12 (bits w 31 20) f (omega arith) f_in (h.3 ∙ sym extends))),
          );
        } where
          same : (w : ℕ) → w < 2 ^ 32 → bit_and w 0x707F ≡ value → bits w 11 7 ≡ rd → bits w 19 15 ≡ rs1 → bits w 31 20 ≡ f
              → value + rd * 2 ^ 7 + rs1 * 2 ^ 15 + f * 2 ^ 20 ≡ w
          same w w_in met is_rd is_rs1 is_f = let of_w = under_707F w in omega arith

pub s_format : (value rs1 rs2 : ℕ) (imm : ℤ) → bit_and value 0x707F ≡ value → rs1 < 32 → rs2 < 32 → IsSigned 12 imm
    → OnlyWord (IsSWord value rs1 rs2 imm)
s_format value rs1 rs2 imm private rs1_in rs2_in signed =
    let f = field_12 imm signed in
    s_word f.field f.fits f.extends
  where
    s_word : (f : ℕ) → f < 2 ^ 12 → sign_extended 12 f ≡ imm → OnlyWord (IsSWord value rs1 rs2 imm)
    s_word f f_in extends =
        let n = value + f % 2 ^ 5 * 2 ^ 7 + rs1 * 2 ^ 15 + rs2 * 2 ^ 20 + f / 2 ^ 5 * 2 ^ 25 in
        let of_value = under_707F value in
        let of_n = under_707F n in
        let field : bits n 31 25 * 2 ^ 5 + bits n 11 7 ≡ f = omega arith in
        record {
          word = n;
          fits = omega arith;
          only = (
            (omega arith, omega arith, omega arith, ap (sign_extended 12) field ∙ extends),
            λ w w_in h.
                ap Some (same w w_in h.0 h.1 h.2 (same_12 (bits w 31 25 * 2 ^ 5 + bits w 11 7) f (omega arith) f_in (h.3 ∙ sym extends))),
          );
        } where
          same : (w : ℕ) → w < 2 ^ 32 → bit_and w 0x707F ≡ value → bits w 19 15 ≡ rs1 → bits w 24 20 ≡ rs2
              → bits w 31 25 * 2 ^ 5 + bits w 11 7 ≡ f
              → value + f % 2 ^ 5 * 2 ^ 7 + rs1 * 2 ^ 15 + rs2 * 2 ^ 20 + f / 2 ^ 5 * 2 ^ 25 ≡ w
          same w w_in met is_rs1 is_rs2 is_f = let of_w = under_707F w in omega arith

pub u_format : (value rd imm : ℕ) → bit_and value 0x7F ≡ value → rd < 32 → imm < 2 ^ 20 → OnlyWord (IsUWord value rd imm)
u_format value rd imm private rd_in imm_in =
    let n = value + rd * 2 ^ 7 + imm * 2 ^ 12 in
    let of_value = under_7F value in
    let of_n = under_7F n in
    record {
      word = n;
      fits = omega arith;
      only = ((omega arith, omega arith, omega arith), λ w w_in h. ap Some (same w w_in h.0 h.1 h.2));
    } where
      same : (w : ℕ) → w < 2 ^ 32 → bit_and w 0x7F ≡ value → bits w 11 7 ≡ rd → bits w 31 12 ≡ imm → value + rd * 2 ^ 7 + imm * 2 ^ 12 ≡ w
      same w w_in met is_rd is_f = let of_w = under_7F w in omega arith

pub b_format : (value rs1 rs2 : ℕ) (imm : ℤ) → bit_and value 0x707F ≡ value → rs1 < 32 → rs2 < 32 → IsSigned 13 imm → IsEven imm
    → OnlyWord (IsBWord value rs1 rs2 imm)
b_format value rs1 rs2 imm private rs1_in rs2_in signed even =
    let f = field_13 imm signed in
    b_word f.field f.fits f.extends (f.even even)
  where
    b_word : (f : ℕ) → f < 2 ^ 13 → sign_extended 13 f ≡ imm → f % 2 ≡ 0 → OnlyWord (IsBWord value rs1 rs2 imm)
    b_word f f_in extends f_even =
        let p = f / 2 ^ 12 * 2 ^ 31 + f / 2 ^ 5 % 2 ^ 6 * 2 ^ 25 + f / 2 % 2 ^ 4 * 2 ^ 8 + f / 2 ^ 11 % 2 * 2 ^ 7 in
        let of_value = under_707F value in
        let field : bits p 31 31 * 2 ^ 12 + bits p 7 7 * 2 ^ 11 + bits p 30 25 * 2 ^ 5 + bits p 11 8 * 2 ≡ f = omega arith in
        record {
          word = value + rs1 * 2 ^ 15 + rs2 * 2 ^ 20 + p;
          fits = omega arith;
          only = IsOnlyWord-b value rs1 rs2 p _ imm private rs1_in rs2_in (ap (sign_extended 13) field ∙ extends) (omega arith) refl;
        }

pub j_format : (value rd : ℕ) (imm : ℤ) → bit_and value 0x7F ≡ value → rd < 32 → IsSigned 21 imm → IsEven imm
    → OnlyWord (IsJWord value rd imm)
j_format value rd imm private rd_in signed even =
    let f = field_21 imm signed in
    j_word f.field f.fits f.extends (f.even even)
  where
    j_word : (f : ℕ) → f < 2 ^ 21 → sign_extended 21 f ≡ imm → f % 2 ≡ 0 → OnlyWord (IsJWord value rd imm)
    j_word f f_in extends f_even =
        let n =
        value + rd * 2 ^ 7 + f / 2 ^ 12 % 2 ^ 8 * 2 ^ 12 + f / 2 ^ 11 % 2 * 2 ^ 20 + f / 2 % 2 ^ 10 * 2 ^ 21 + f / 2 ^ 20 * 2 ^ 31 in
        let of_value = under_7F value in
        let of_n = under_7F n in
        let field : j_field n ≡ f = omega arith in
        record {
          word = n;
          fits = omega arith;
          only = (
            (omega arith, omega arith, ap (sign_extended 21) field ∙ extends),
            λ w w_in h. ap Some (same w w_in h.0 h.1 (same_21 (j_field w) f (omega arith) f_in (h.2 ∙ sym extends))),
          );
        } where
          same : (w : ℕ) → w < 2 ^ 32 → bit_and w 0x7F ≡ value → bits w 11 7 ≡ rd → j_field w ≡ f
              → value + rd * 2 ^ 7 + f / 2 ^ 12 % 2 ^ 8 * 2 ^ 12 + f / 2 ^ 11 % 2 * 2 ^ 20 + f / 2 % 2 ^ 10 * 2 ^ 21 + f / 2 ^ 20 * 2 ^ 31
              ≡ w
          same w w_in met is_rd is_f = let of_w = under_7F w in omega arith
