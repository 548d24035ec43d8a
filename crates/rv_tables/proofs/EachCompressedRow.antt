-- The instruction of a halfword of the rows that share quadrant 1 and funct3 3 or 4, by the fields that the code reads.
use Rattle.std.proofs.Common.{◌≡◌, ◌≢◌, ℕ, false, if◌then◌else◌, nat_lt, Some, None, ◌∙◌, arith, inl, inr}
use Rattle.std.proofs.lemmas.Bool.{ne_eqb, eq-eqb, le-ltb, lt-ltb, cases_eq}
use Rattle.std.proofs.lemmas.Bool.Decides.{nat_tests}
use Rattle.rv_tables.specs.declared.instr.Instr.TheVariants.{I, Shift, Upper}
use Rattle.rv_tables.specs.declared.instr.IOp.TheVariants.{Addi, Andi}
use Rattle.rv_tables.specs.declared.instr.ShiftOp.TheVariants.{Srli, Srai}
use Rattle.rv_tables.specs.declared.instr.UpperOp.TheVariants.{Lui}
use Rattle.rv_tables.specs.Fields.{bits, sign_extended}
use Rattle.rv_tables.specs.Halfwords.{quadrant, funct3, rd, rs1_prime, immediate, small_layout, addi16sp_layout, lui_layout, upper_field}
use Rattle.rv_tables.specs.Compressed.{compressed_rows, expansion_of, small_is_0}
use Rattle.rv_tables.specs.CompressedTables.{has}
use Rattle.rv_tables.proofs.CompressedLookup.{expansion_at, at_fields}

-- a field of two parts is 0 where both are
small_not_0 : (h : ℕ) → immediate h small_layout ≢ 0 → has h small_is_0 ≡ false
small_not_0 h n = grind (arith, nat_tests)

pub no_large : (h : ℕ) → quadrant h ≡ 1 → funct3 h ≡ 3 → immediate h small_layout ≡ 0 → expansion_of h ≡ None
unfolding expansion_at compressed_rows
no_large h q f z =
    let high : bits h 12 12 ≡ 0 = omega arith in
    let low : bits h 6 2 ≡ 0 = omega arith in
    at_fields h 1 3 q f ∙ elim (cases_eq (rd h) 2) [ inl e ↦ rw (e, high, low) | inr n ↦ rw (ne_eqb (rd h) 2 n, high, low) ]

pub addi16sp : (h : ℕ) → quadrant h ≡ 1 → funct3 h ≡ 3 → immediate h small_layout ≢ 0 → rd h ≡ 2
    → expansion_of h ≡ Some (I Addi 2 2 (sign_extended 10 (immediate h addi16sp_layout)))
unfolding expansion_at compressed_rows
addi16sp h q f n e = at_fields h 1 3 q f ∙ rw (e, small_not_0 h n)

pub lui : (h : ℕ) → quadrant h ≡ 1 → funct3 h ≡ 3 → immediate h small_layout ≢ 0 → rd h ≢ 2
    → expansion_of h ≡ Some (Upper Lui (rd h) (upper_field (sign_extended 18 (immediate h lui_layout))))
unfolding expansion_at compressed_rows
lui h q f n m = at_fields h 1 3 q f ∙ rw (ne_eqb (rd h) 2 m, small_not_0 h n)

pub srli : (h : ℕ) → quadrant h ≡ 1 → funct3 h ≡ 4 → bits h 11 10 ≡ 0
    → expansion_of h
    ≡ (if nat_lt (immediate h small_layout) 32 then Some (Shift Srli (rs1_prime h) (rs1_prime h) (immediate h small_layout)) else None)
unfolding expansion_at compressed_rows
srli h q f k =
    at_fields h 1 4 q f ∙ elim (cases_eq (bits h 12 12) 1) [
      | inl e ↦
          let n : bits h 12 12 ≢ 0 = omega arith in
          rw (k, eq-eqb (bits h 12 12) 1 e, ne_eqb (bits h 12 12) 0 n, le-ltb (immediate h small_layout) 32 (omega arith))
      | inr n ↦ rw (k, ne_eqb (bits h 12 12) 1 n, lt-ltb (immediate h small_layout) 32 (omega arith))
    ]

pub srai : (h : ℕ) → quadrant h ≡ 1 → funct3 h ≡ 4 → bits h 11 10 ≡ 1
    → expansion_of h
    ≡ (if nat_lt (immediate h small_layout) 32 then Some (Shift Srai (rs1_prime h) (rs1_prime h) (immediate h small_layout)) else None)
unfolding expansion_at compressed_rows
srai h q f k =
    at_fields h 1 4 q f ∙ elim (cases_eq (bits h 12 12) 1) [
      | inl e ↦
          let n : bits h 12 12 ≢ 0 = omega arith in
          rw (k, eq-eqb (bits h 12 12) 1 e, ne_eqb (bits h 12 12) 0 n, le-ltb (immediate h small_layout) 32 (omega arith))
      | inr n ↦ rw (k, ne_eqb (bits h 12 12) 1 n, lt-ltb (immediate h small_layout) 32 (omega arith))
    ]

pub andi : (h : ℕ) → quadrant h ≡ 1 → funct3 h ≡ 4 → bits h 11 10 ≡ 2
    → expansion_of h ≡ Some (I Andi (rs1_prime h) (rs1_prime h) (sign_extended 6 (immediate h small_layout)))
unfolding expansion_at compressed_rows
andi h q f k = at_fields h 1 4 q f ∙ rw k

pub ruleset large = (addi16sp, lui, no_large)

pub ruleset arithmetic = (srli, srai, andi)
