-- What the rows read off words: operands in the ranges of their forms, and one mnemonic for each row.
use Rattle.std.proofs.Common.{◌≡◌, ℕ, List, Option, Some, None, refl, arith}
use Rattle.std.specs.List.{All}
use Rattle.std.specs.Option.{option_map}
use Rattle.std.proofs.lemmas.List.Elements.{All-from_recursion, All-contains}
use Rattle.std.proofs.lemmas.Option.{same_Some}
use Rattle.rv_tables.specs.Fields.{rd, rs1, rs2, i_immediate, s_immediate}
use Rattle.rv_tables.specs.Operands.{IsFound}
use Rattle.rv_tables.proofs.RowReads.{IsImmediate-i_immediate, IsImmediate-s_immediate}
use Rattle.rv_tables.proofs.Tables.{found}
use Rattle.rv_float_tables.specs.declared.instr.FloatInstr.{FloatInstr}
use Rattle.rv_float_tables.specs.declared.instr.FloatInstr.TheVariants.{Load, Store, Fused, Arithmetic, SquareRoot, Sign, MinMax, Compare}
use Rattle.rv_float_tables.specs.declared.instr.FloatInstr.TheVariants.{Class, ToWord, FromWord, ToFormat, MoveToInteger, MoveFromInteger}
use Rattle.rv_float_tables.specs.declared.instr.FloatInstr.TheVariants.{Csr, CsrImmediate}
use Rattle.rv_float_tables.specs.declared.instr.Format.{Format}
use Rattle.rv_float_tables.specs.declared.instr.RoundingField.{RoundingField}
use Rattle.rv_float_tables.specs.declared.instr.ArithmeticOp.{ArithmeticOp}
use Rattle.rv_float_tables.specs.declared.instr.FusedOp.{FusedOp}
use Rattle.rv_float_tables.specs.declared.instr.SignOp.{SignOp}
use Rattle.rv_float_tables.specs.declared.instr.MinMaxOp.{MinMaxOp}
use Rattle.rv_float_tables.specs.declared.instr.CompareOp.{CompareOp}
use Rattle.rv_float_tables.specs.declared.instr.WordKind.{WordKind}
use Rattle.rv_float_tables.specs.declared.instr.CsrOp.{CsrOp}
use Rattle.rv_float_tables.specs.declared.instr.FloatCsr.{FloatCsr}
use Rattle.rv_float_tables.specs.Fields.{rs3, rm, csr, uimm, rounding_of, csr_of}
use Rattle.rv_float_tables.specs.Mnemonics.{float_mnemonic_of, sample}
use Rattle.rv_float_tables.specs.Operands.{IsEncodable}
use Rattle.rv_float_tables.specs.Rows.{float_encodings, Spells, float_instruction_of, rounded, on_csr, load_of, store_of, fused_of}
use Rattle.rv_float_tables.specs.Rows.{arithmetic_of, square_root_of, sign_of, min_max_of, compare_of, class_of, to_word_of, from_word_of}
use Rattle.rv_float_tables.specs.Rows.{to_format_of, move_to_integer_of, move_from_integer_of, csr_instruction_of, csr_immediate_of}
use Rattle.rv_float_tables.proofs.Spelling.{Spells-from_instruction}

-- the operands of an instruction are in range, and it has this mnemonic
abbrev Suits : Option (List ℕ) → FloatInstr → Type 0
Suits name i = IsEncodable i × (name ≡ Some (float_mnemonic_of i))

-- whatever the word, what is read off it suits the mnemonic of what is read off another one
abbrev ReadsAlike : (ℕ → Option FloatInstr) → Type 0
ReadsAlike read = (w : ℕ) (i : FloatInstr) → read w ≡ Some i → Suits (option_map float_mnemonic_of (read sample)) i

-- what is read off each word
plainly : (name : Option (List ℕ)) (i j : FloatInstr) → Some j ≡ Some i → Suits name j → Suits name i
plainly name i j e suits = rw (← same_Some j i e) suits

with_rounding : (name : Option (List ℕ)) (w : ℕ) (make : RoundingField → FloatInstr) (i : FloatInstr) → rounded w make ≡ Some i
    → ((r : RoundingField) → Suits name (make r)) → Suits name i
with_rounding name w make i e suits = by_mode (rounding_of (rm w)) e where
  by_mode : (o : Option RoundingField) → option_map make o ≡ Some i → Suits name i
  by_mode None e = cc
  by_mode (Some r) e = rw (← same_Some (make r) i e) (suits r)

with_csr : (name : Option (List ℕ)) (w : ℕ) (make : FloatCsr → FloatInstr) (i : FloatInstr) → on_csr w make ≡ Some i
    → ((c : FloatCsr) → Suits name (make c)) → Suits name i
with_csr name w make i e suits = by_csr (csr_of (csr w)) e where
  by_csr : (o : Option FloatCsr) → option_map make o ≡ Some i → Suits name i
  by_csr None e = cc
  by_csr (Some c) e = rw (← same_Some (make c) i e) (suits c)

load : (format : Format) → ReadsAlike (load_of format)
load format w i e =
    plainly _ i (Load format (rd w) (rs1 w) (i_immediate w)) e ((omega arith, omega arith, IsImmediate-i_immediate w), refl)

store : (format : Format) → ReadsAlike (store_of format)
store format w i e =
    plainly _ i (Store format (rs1 w) (rs2 w) (s_immediate w)) e ((omega arith, omega arith, IsImmediate-s_immediate w), refl)

fused : (op : FusedOp) (format : Format) → ReadsAlike (fused_of op format)
fused op format w i e =
    with_rounding _ w (Fused op format (rd w) (rs1 w) (rs2 w) (rs3 w)) i e
    (λ r. ((omega arith, omega arith, omega arith, omega arith), refl))

arithmetic : (op : ArithmeticOp) (format : Format) → ReadsAlike (arithmetic_of op format)
arithmetic op format w i e =
    with_rounding _ w (Arithmetic op format (rd w) (rs1 w) (rs2 w)) i e (λ r. ((omega arith, omega arith, omega arith), refl))

square_root : (format : Format) → ReadsAlike (square_root_of format)
square_root format w i e = with_rounding _ w (SquareRoot format (rd w) (rs1 w)) i e (λ r. ((omega arith, omega arith), refl))

sign : (op : SignOp) (format : Format) → ReadsAlike (sign_of op format)
sign op format w i e =
    plainly _ i (Sign op format (rd w) (rs1 w) (rs2 w)) e ((omega arith, omega arith, omega arith), refl)

min_max : (op : MinMaxOp) (format : Format) → ReadsAlike (min_max_of op format)
min_max op format w i e =
    plainly _ i (MinMax op format (rd w) (rs1 w) (rs2 w)) e ((omega arith, omega arith, omega arith), refl)

compare : (op : CompareOp) (format : Format) → ReadsAlike (compare_of op format)
compare op format w i e =
    plainly _ i (Compare op format (rd w) (rs1 w) (rs2 w)) e ((omega arith, omega arith, omega arith), refl)

class : (format : Format) → ReadsAlike (class_of format)
class format w i e = plainly _ i (Class format (rd w) (rs1 w)) e ((omega arith, omega arith), refl)

to_word : (kind : WordKind) (format : Format) → ReadsAlike (to_word_of kind format)
to_word kind format w i e = with_rounding _ w (ToWord kind format (rd w) (rs1 w)) i e (λ r. ((omega arith, omega arith), refl))

from_word : (kind : WordKind) (format : Format) → ReadsAlike (from_word_of kind format)
from_word kind format w i e = with_rounding _ w (FromWord kind format (rd w) (rs1 w)) i e (λ r. ((omega arith, omega arith), refl))

to_format : (format : Format) → ReadsAlike (to_format_of format)
to_format format w i e = with_rounding _ w (ToFormat format (rd w) (rs1 w)) i e (λ r. ((omega arith, omega arith), refl))

move_to_integer : ReadsAlike move_to_integer_of
move_to_integer w i e = plainly _ i (MoveToInteger (rd w) (rs1 w)) e ((omega arith, omega arith), refl)

move_from_integer : ReadsAlike move_from_integer_of
move_from_integer w i e = plainly _ i (MoveFromInteger (rd w) (rs1 w)) e ((omega arith, omega arith), refl)

on_register : (op : CsrOp) → ReadsAlike (csr_instruction_of op)
on_register op w i e = with_csr _ w (λ c. Csr op c (rd w) (rs1 w)) i e (λ c. ((omega arith, omega arith), refl))

on_immediate : (op : CsrOp) → ReadsAlike (csr_immediate_of op)
on_immediate op w i e = with_csr _ w (λ c. CsrImmediate op c (rd w) (uimm w)) i e (λ c. ((omega arith, omega arith), refl))

each_row : All (λ e. ReadsAlike e.read) float_encodings
unfolding float_encodings
each_row =
    All-from_recursion (λ e. ReadsAlike e.read) float_encodings
    (search (
      load,
      store,
      fused,
      arithmetic,
      square_root,
      sign,
      min_max,
      compare,
      class,
      to_word,
      from_word,
      to_format,
      move_to_integer,
      move_from_integer,
      on_register,
      on_immediate,
    ) parts 60 fits 10000)

-- what a word spells has operands in range, and the mnemonic of the row
pub Suits-spelled : (w : ℕ) (i : FloatInstr) (s : Spells w i) → Suits (option_map float_mnemonic_of (s.encoding.read sample)) i
Suits-spelled w i s = All-contains (λ f. ReadsAlike f.read) float_encodings s.encoding each_row s.listed w i s.operands

pub IsEncodable-float_instruction_of : (w : ℕ) (i : FloatInstr) → float_instruction_of w ≡ Some i → IsEncodable i
IsEncodable-float_instruction_of w i h = (Suits-spelled w i (Spells-from_instruction w i h)).0

pub found_word : (w : ℕ) (r : Option FloatInstr) → r ≡ float_instruction_of w → IsFound IsEncodable (float_instruction_of w) r
found_word w r e = found IsEncodable (float_instruction_of w) r (IsEncodable-float_instruction_of w) e
