-- What the rows read off words: operands in the ranges of their forms, and one mnemonic for each row.
use Rattle.std.proofs.Common.{◌≡◌, ℕ, Option, Some, refl, sym, ap, ◌∙◌, arith}
use Rattle.std.specs.List.{All, Contains}
use Rattle.std.proofs.lemmas.Int.{ints}
use Rattle.std.proofs.lemmas.List.Elements.{All-from_recursion, All-contains}
use Rattle.rv_tables.specs.declared.instr.Instr.{Instr}
use Rattle.rv_tables.specs.declared.instr.Instr.TheVariants.{R, I, Shift, Load, Store, Branch, Upper, Jal, Jalr, Plain}
use Rattle.rv_tables.specs.declared.instr.ROp.{ROp}
use Rattle.rv_tables.specs.declared.instr.IOp.{IOp}
use Rattle.rv_tables.specs.declared.instr.ShiftOp.{ShiftOp}
use Rattle.rv_tables.specs.declared.instr.LoadOp.{LoadOp}
use Rattle.rv_tables.specs.declared.instr.StoreOp.{StoreOp}
use Rattle.rv_tables.specs.declared.instr.BranchOp.{BranchOp}
use Rattle.rv_tables.specs.declared.instr.UpperOp.{UpperOp}
use Rattle.rv_tables.specs.declared.instr.PlainOp.{PlainOp}
use Rattle.rv_tables.specs.Fields.{rd, rs1, rs2, shamt, i_immediate, s_immediate, b_immediate, u_immediate, j_immediate}
use Rattle.rv_tables.specs.Mnemonics.{mnemonic_of}
use Rattle.rv_tables.specs.Operands.{IsEncodable, IsFound, IsImmediate, IsBranchOffset, IsJumpOffset}
use Rattle.rv_tables.specs.Rows.{Encoding, encodings, Spells, instruction_of}
use Rattle.rv_tables.proofs.Spelling.{Spells-from_instruction}
use Rattle.rv_tables.proofs.Tables.{found}

pub IsImmediate-i_immediate : (w : ℕ) → IsImmediate (i_immediate w)
IsImmediate-i_immediate w = grind (arith, ints)

pub IsImmediate-s_immediate : (w : ℕ) → IsImmediate (s_immediate w)
IsImmediate-s_immediate w = grind (arith, ints)

IsBranchOffset-b_immediate : (w : ℕ) → IsBranchOffset (b_immediate w)
IsBranchOffset-b_immediate w = grind (arith, ints)

IsJumpOffset-j_immediate : (w : ℕ) → IsJumpOffset (j_immediate w)
IsJumpOffset-j_immediate w = grind (arith, ints)

-- whatever the word, the operands are in range and the mnemonic is the same
abbrev ReadsAlike : (ℕ → Instr) → Type 0
ReadsAlike read = (w : ℕ) → IsEncodable (read w) × (mnemonic_of (read w) ≡ mnemonic_of (read 0))

r : (op : ROp) → ReadsAlike (λ w. R op (rd w) (rs1 w) (rs2 w))
r op w = ((omega arith, omega arith, omega arith), refl)

i : (op : IOp) → ReadsAlike (λ w. I op (rd w) (rs1 w) (i_immediate w))
i op w = ((omega arith, omega arith, IsImmediate-i_immediate w), refl)

shift : (op : ShiftOp) → ReadsAlike (λ w. Shift op (rd w) (rs1 w) (shamt w))
shift op w = ((omega arith, omega arith, omega arith), refl)

load : (op : LoadOp) → ReadsAlike (λ w. Load op (rd w) (rs1 w) (i_immediate w))
load op w = ((omega arith, omega arith, IsImmediate-i_immediate w), refl)

store : (op : StoreOp) → ReadsAlike (λ w. Store op (rs1 w) (rs2 w) (s_immediate w))
store op w = ((omega arith, omega arith, IsImmediate-s_immediate w), refl)

branch : (op : BranchOp) → ReadsAlike (λ w. Branch op (rs1 w) (rs2 w) (b_immediate w))
branch op w = ((omega arith, omega arith, IsBranchOffset-b_immediate w), refl)

upper : (op : UpperOp) → ReadsAlike (λ w. Upper op (rd w) (u_immediate w))
upper op w = ((omega arith, omega arith), refl)

jal : ReadsAlike (λ w. Jal (rd w) (j_immediate w))
jal w = ((omega arith, IsJumpOffset-j_immediate w), refl)

jalr : ReadsAlike (λ w. Jalr (rd w) (rs1 w) (i_immediate w))
jalr w = ((omega arith, omega arith, IsImmediate-i_immediate w), refl)

plain : (op : PlainOp) → ReadsAlike (λ w. Plain op)
plain op w = (tt, refl)

each_row : All (λ e. ReadsAlike e.read) encodings
unfolding encodings
each_row =
    All-from_recursion (λ e. ReadsAlike e.read) encodings
    (search (r, i, shift, load, store, branch, upper, jal, jalr, plain) parts 60 fits 10000)

reads_alike : (e : Encoding) → Contains encodings e → ReadsAlike e.read
reads_alike e listed = All-contains (λ f. ReadsAlike f.read) encodings e each_row listed

pub IsEncodable-instruction_of : (w : ℕ) (i : Instr) → instruction_of w ≡ Some i → IsEncodable i
IsEncodable-instruction_of w i h =
    let s = Spells-from_instruction w i h in
    rw (← s.operands) (reads_alike s.encoding s.listed w).0

pub found_word : (w : ℕ) (r : Option Instr) → r ≡ instruction_of w → IsFound IsEncodable (instruction_of w) r
found_word w r e = found IsEncodable (instruction_of w) r (IsEncodable-instruction_of w) e

-- a row that reads an instruction off some word has its mnemonic
pub mnemonic_of-spelled : (w : ℕ) (i : Instr) (s : Spells w i) → mnemonic_of i ≡ mnemonic_of (s.encoding.read 0)
mnemonic_of-spelled w i s = ap mnemonic_of (sym s.operands) ∙ (reads_alike s.encoding s.listed w).1
