-- Each instruction of floating point whose operands fit has a word, and no second one.
use Rattle.std.proofs.Common.{◌≡◌, ℕ, ◌+◌, ◌*◌, ◌^◌, ◌<◌, Some, sym, ap, ◌∙◌, arith, bit_and}
use Rattle.rv_tables.proofs.Masks.{under_707F}
use Rattle.rv_tables.specs.Words.{IsOnlyWord}
use Rattle.rv_float_tables.specs.declared.instr.FloatInstr.{FloatInstr}
use Rattle.rv_float_tables.specs.declared.instr.FloatInstr.TheVariants.{Load, Store, Fused, Arithmetic, SquareRoot, Sign, MinMax, Compare}
use Rattle.rv_float_tables.specs.declared.instr.FloatInstr.TheVariants.{Class, ToWord, FromWord, ToFormat, MoveToInteger, MoveFromInteger}
use Rattle.rv_float_tables.specs.declared.instr.FloatInstr.TheVariants.{Csr, CsrImmediate}
use Rattle.rv_float_tables.specs.declared.instr.RoundingField.{RoundingField}
use Rattle.rv_float_tables.specs.declared.instr.FloatCsr.{FloatCsr}
use Rattle.rv_float_tables.specs.Fields.{rounding_code, csr_number}
use Rattle.rv_float_tables.specs.Operands.{IsEncodable}
use Rattle.rv_float_tables.specs.Rows.{float_instruction_of}
use Rattle.rv_float_tables.specs.Words.{IsR4Word, IsRoundedWord, IsRoundedUnaryWord, IsUnaryWord, IsCsrWord}
use Rattle.rv_float_tables.proofs.Masks.{under_600007F, under_FE00007F, under_FFF0007F, under_FFF0707F}
use Rattle.rv_float_tables.proofs.OnlyWords.{only_load, only_store, only_fused, only_arithmetic, only_rounded_unary, only_binary}
use Rattle.rv_float_tables.proofs.OnlyWords.{only_unary, only_csr}
use Rattle.rv_float_tables.proofs.RowReads.{IsEncodable-float_instruction_of}
use Rattle.rv_float_tables.proofs.RowValues as row
use Rattle.rv_asm.proofs.FormatWords.{OnlyWord, r_format, i_format, s_format}

-- ---- the words of the formats that whole numbers have not

r4_format : (value d m a b c : ℕ) → bit_and value 0x600007F ≡ value → d < 32 → m < 2 ^ 3 → a < 32 → b < 32 → c < 32
    → OnlyWord (IsR4Word value d m a b c)
r4_format value d m a b c own d_in m_in a_in b_in c_in =
    let n = value + d * 2 ^ 7 + m * 2 ^ 12 + a * 2 ^ 15 + b * 2 ^ 20 + c * 2 ^ 27 in
    let of_value = under_600007F value in
    let of_n = under_600007F n in
    record {
      word = n;
      fits = omega arith;
      only = (
        (omega arith, omega arith, omega arith, omega arith, omega arith, omega arith),
        λ w w_in h. let of_w = under_600007F w in ap Some (omega (arith, h.0, h.1, h.2, h.3, h.4, h.5)),
      );
    }

rounded_format : (value d m a b : ℕ) → bit_and value 0xFE00007F ≡ value → d < 32 → m < 2 ^ 3 → a < 32 → b < 32
    → OnlyWord (IsRoundedWord value d m a b)
rounded_format value d m a b own d_in m_in a_in b_in =
    let n = value + d * 2 ^ 7 + m * 2 ^ 12 + a * 2 ^ 15 + b * 2 ^ 20 in
    let of_value = under_FE00007F value in
    let of_n = under_FE00007F n in
    record {
      word = n;
      fits = omega arith;
      only = (
        (omega arith, omega arith, omega arith, omega arith, omega arith),
        λ w w_in h. let of_w = under_FE00007F w in ap Some (omega (arith, h.0, h.1, h.2, h.3, h.4)),
      );
    }

rounded_unary_format : (value d m a : ℕ) → bit_and value 0xFFF0007F ≡ value → d < 32 → m < 2 ^ 3 → a < 32
    → OnlyWord (IsRoundedUnaryWord value d m a)
rounded_unary_format value d m a own d_in m_in a_in =
    let n = value + d * 2 ^ 7 + m * 2 ^ 12 + a * 2 ^ 15 in
    let of_value = under_FFF0007F value in
    let of_n = under_FFF0007F n in
    record {
      word = n;
      fits = omega arith;
      only = (
        (omega arith, omega arith, omega arith, omega arith),
        λ w w_in h. let of_w = under_FFF0007F w in ap Some (omega (arith, h.0, h.1, h.2, h.3)),
      );
    }

unary_format : (value d a : ℕ) → bit_and value 0xFFF0707F ≡ value → d < 32 → a < 32 → OnlyWord (IsUnaryWord value d a)
unary_format value d a own d_in a_in =
    let n = value + d * 2 ^ 7 + a * 2 ^ 15 in
    let of_value = under_FFF0707F value in
    let of_n = under_FFF0707F n in
    record {
      word = n;
      fits = omega arith;
      only = (
        (omega arith, omega arith, omega arith),
        λ w w_in h. let of_w = under_FFF0707F w in ap Some (omega (arith, h.0, h.1, h.2)),
      );
    }

csr_format : (value d a number : ℕ) → bit_and value 0x707F ≡ value → d < 32 → a < 32 → number < 32 → OnlyWord (IsCsrWord value d a number)
csr_format value d a number own d_in a_in number_in =
    let n = value + d * 2 ^ 7 + a * 2 ^ 15 + number * 2 ^ 20 in
    let of_value = under_707F value in
    let of_n = under_707F n in
    record {
      word = n;
      fits = omega arith;
      only = (
        (omega arith, omega arith, omega arith, omega arith),
        λ w w_in h. let of_w = under_707F w in ap Some (omega (arith, h.0, h.1, h.2, h.3)),
      );
    }

-- ---- codes that fit their fields

rounding_fits : (rm : RoundingField) → rounding_code rm < 2 ^ 3
rounding_fits rm = grind arith

csr_fits : (csr : FloatCsr) → csr_number csr < 32
csr_fits csr = grind arith

-- ---- instructions

-- a word that is the only one of a form's format is the only one of the instruction
of_format : (P : ℕ → Type 0) (i : FloatInstr) → OnlyWord P
    → ((result : ℕ) → IsOnlyWord P (Some result) → IsOnlyWord (λ w. float_instruction_of w ≡ Some i) (Some result))
    → OnlyWord (λ w. float_instruction_of w ≡ Some i)
of_format P i f spells = record { word = f.word; fits = f.fits; only = spells f.word f.only }

pub the_word : (i : FloatInstr) → IsEncodable i → OnlyWord (λ w. float_instruction_of w ≡ Some i)
the_word (Load format d a imm) h =
    let value = row.load format in
    of_format _ _ (i_format _ d a imm value.own h.0 h.1 h.2)
    (λ w. only_load _ d a imm format (Some w) value)
the_word (Store format a b imm) h =
    let value = row.store format in
    of_format _ _ (s_format _ a b imm value.own h.0 h.1 h.2)
    (λ w. only_store _ a b imm format (Some w) value)
the_word (Fused op format d a b c rm) h =
    let value = row.fused op format in
    of_format _ _ (r4_format _ d (rounding_code rm) a b c value.own h.0 (rounding_fits rm) h.1 h.2 h.3)
    (λ w. only_fused _ d a b c rm op format (Some w) value)
the_word (Arithmetic op format d a b rm) h =
    let value = row.arithmetic op format in
    of_format _ _ (rounded_format _ d (rounding_code rm) a b value.own h.0 (rounding_fits rm) h.1 h.2)
    (λ w. only_arithmetic _ d a b rm op format (Some w) value)
the_word (SquareRoot format d a rm) h =
    let value = row.square_root format in
    of_format _ _ (rounded_unary_format _ d (rounding_code rm) a value.own h.0 (rounding_fits rm) h.1)
    (λ w. only_rounded_unary (SquareRoot format) (λ _ _ _ _ _ _ e. (cc, cc, cc)) _ _ d a rm (Some w) value)
the_word (Sign op format d a b) h =
    let value = row.sign op format in
    of_format _ _ (r_format _ d a b value.own h.0 h.1 h.2)
    (λ w. only_binary (Sign op format) (λ _ _ _ _ _ _ e. (cc, cc, cc)) _ _ d a b (Some w) value)
the_word (MinMax op format d a b) h =
    let value = row.min_max op format in
    of_format _ _ (r_format _ d a b value.own h.0 h.1 h.2)
    (λ w. only_binary (MinMax op format) (λ _ _ _ _ _ _ e. (cc, cc, cc)) _ _ d a b (Some w) value)
the_word (Compare op format d a b) h =
    let value = row.compare op format in
    of_format _ _ (r_format _ d a b value.own h.0 h.1 h.2)
    (λ w. only_binary (Compare op format) (λ _ _ _ _ _ _ e. (cc, cc, cc)) _ _ d a b (Some w) value)
the_word (Class format d a) h =
    let value = row.class format in
    of_format _ _ (unary_format _ d a value.own h.0 h.1)
    (λ w. only_unary (Class format) (λ _ _ _ _ e. (cc, cc)) _ _ d a (Some w) value)
the_word (ToWord kind format d a rm) h =
    let value = row.to_word kind format in
    of_format _ _ (rounded_unary_format _ d (rounding_code rm) a value.own h.0 (rounding_fits rm) h.1)
    (λ w. only_rounded_unary (ToWord kind format) (λ _ _ _ _ _ _ e. (cc, cc, cc)) _ _ d a rm (Some w) value)
the_word (FromWord kind format d a rm) h =
    let value = row.from_word kind format in
    of_format _ _ (rounded_unary_format _ d (rounding_code rm) a value.own h.0 (rounding_fits rm) h.1)
    (λ w. only_rounded_unary (FromWord kind format) (λ _ _ _ _ _ _ e. (cc, cc, cc)) _ _ d a rm (Some w) value)
the_word (ToFormat format d a rm) h =
    let value = row.to_format format in
    of_format _ _ (rounded_unary_format _ d (rounding_code rm) a value.own h.0 (rounding_fits rm) h.1)
    (λ w. only_rounded_unary (ToFormat format) (λ _ _ _ _ _ _ e. (cc, cc, cc)) _ _ d a rm (Some w) value)
the_word (MoveToInteger d a) h =
    let value = row.move_to_integer in
    of_format _ _ (unary_format _ d a value.own h.0 h.1)
    (λ w. only_unary MoveToInteger (λ _ _ _ _ e. (cc, cc)) _ _ d a (Some w) value)
the_word (MoveFromInteger d a) h =
    let value = row.move_from_integer in
    of_format _ _ (unary_format _ d a value.own h.0 h.1)
    (λ w. only_unary MoveFromInteger (λ _ _ _ _ e. (cc, cc)) _ _ d a (Some w) value)
the_word (Csr op csr d a) h =
    let value = row.csr op in
    of_format _ _ (csr_format _ d a (csr_number csr) value.own h.0 h.1 (csr_fits csr))
    (λ w. only_csr (Csr op) (λ _ _ _ _ _ _ e. (cc, cc, cc)) _ _ d a csr (Some w) value)
the_word (CsrImmediate op csr d a) h =
    let value = row.csr_immediate op in
    of_format _ _ (csr_format _ d a (csr_number csr) value.own h.0 h.1 (csr_fits csr))
    (λ w. only_csr (CsrImmediate op) (λ _ _ _ _ _ _ e. (cc, cc, cc)) _ _ d a csr (Some w) value)

pub one_float_word : (i : FloatInstr) (v w : ℕ) → v < 2 ^ 32 → w < 2 ^ 32 → float_instruction_of v ≡ Some i
    → float_instruction_of w ≡ Some i → v ≡ w
one_float_word i v w v_in w_in h k =
    let only = the_word i (IsEncodable-float_instruction_of v i h) in
    some_injective (only.only.1 v v_in h) ∙ sym (some_injective (only.only.1 w w_in k))
  where
    some_injective : {x y : ℕ} → Some x ≡ Some y → y ≡ x
    some_injective e = cc
