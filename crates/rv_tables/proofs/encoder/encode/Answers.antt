-- Each form's word is the only one of its row with its operands, so it is the only one that spells the instruction.
use Rattle.std.proofs.Common.{◌≡◌, ◌↔◌, ℕ, ◌^◌, ◌<◌, Option, Some, IsSome, IfSome, w32, rules}
use Rattle.std.proofs.lemmas.Int.{to_z-of_z}
use Rattle.rv_tables.specs.declared.instr.Instr.{Instr}
use Rattle.rv_tables.specs.declared.instr.Instr.TheVariants.{Plain}
use Rattle.rv_tables.specs.declared.instr.PlainOp.TheVariants.{Fence, FenceI}
use Rattle.rv_tables.specs.Operands.{IsEncodable, IsFence}
use Rattle.rv_tables.specs.Rows.{instruction_of}
use Rattle.rv_tables.specs.Words.{IsOnlyWord}
use Rattle.rv_tables.proofs.OnlyWords.{only_r, only_i, only_shift, only_load, only_store, only_branch, only_upper, only_jal, only_jalr}
use Rattle.rv_tables.proofs.encoder.encode.Goals as goal

-- what is to be shown of the word of an instruction, clause by clause
abbrev Clauses : Instr → Option ℕ → Type 0
Clauses i r = record {
  encodable : IsSome r ↔ IsEncodable i;
  decodes : IfSome r (λ w. instruction_of w ≡ Some i);
  only_word : (w : ℕ) → w < 2 ^ 32 → instruction_of w ≡ Some i → ¬ IsFence i → r ≡ Some w;
  fence : i ≡ Plain Fence → r ≡ Some 0x0FF0000F;
  fence_i : i ≡ Plain FenceI → r ≡ Some 0x100F;
}

clauses : (i j : Instr) (r : Option ℕ) → j ≡ i → IsSome r ↔ IsEncodable i → IsOnlyWord (λ w. instruction_of w ≡ Some i) r → ¬ IsFence i
    → Clauses j r
clauses i j r is encodable only no_fence =
    rw is (record {
      encodable = encodable;
      decodes = only.0;
      only_word = λ w fits h _. only.1 w fits h;
      fence = λ e. absurd (no_fence (rw e tt));
      fence_i = λ e. absurd (no_fence (rw e tt));
    })

pub returns-in-R : goal.returns-in-R
returns-in-R c =
    clauses _ _ _ c.in-R.is c.r_word.ensures.encodable (only_r _ _ _ _ _ _ c.r_value.ensures.row c.r_word.ensures.word) (λ h. h)

pub returns-in-I : goal.returns-in-I
returns-in-I c =
    let imm = to_z-of_z w32 c.in-I.imm (search rules) in
    clauses _ _ _ c.in-I.is (rw imm at c.i_word.ensures.encodable)
    (only_i _ _ _ _ _ _ c.i_value.ensures.row (rw imm at c.i_word.ensures.word)) (λ h. h)

pub returns-in-Shift : goal.returns-in-Shift
returns-in-Shift c =
    clauses _ _ _ c.in-Shift.is c.r_word-in-Shift.ensures.encodable
    (only_shift _ _ _ _ _ _ c.shift_value.ensures.row c.r_word-in-Shift.ensures.word) (λ h. h)

pub returns-in-Load : goal.returns-in-Load
returns-in-Load c =
    let imm = to_z-of_z w32 c.in-Load.imm (search rules) in
    clauses _ _ _ c.in-Load.is (rw imm at c.i_word-in-Load.ensures.encodable)
    (only_load _ _ _ _ _ _ c.load_value.ensures.row (rw imm at c.i_word-in-Load.ensures.word)) (λ h. h)

pub returns-in-Store : goal.returns-in-Store
returns-in-Store c =
    let imm = to_z-of_z w32 c.in-Store.imm (search rules) in
    clauses _ _ _ c.in-Store.is (rw imm at c.s_word.ensures.encodable)
    (only_store _ _ _ _ _ _ c.store_value.ensures.row (rw imm at c.s_word.ensures.word)) (λ h. h)

pub returns-in-Branch : goal.returns-in-Branch
returns-in-Branch c =
    let imm = to_z-of_z w32 c.in-Branch.imm (search rules) in
    clauses _ _ _ c.in-Branch.is (rw imm at c.b_word.ensures.encodable)
    (only_branch _ _ _ _ _ _ c.branch_value.ensures.row (rw imm at c.b_word.ensures.word)) (λ h. h)

pub returns-in-Upper : goal.returns-in-Upper
returns-in-Upper c =
    clauses _ _ _ c.in-Upper.is c.u_word.ensures.encodable (only_upper _ _ _ _ _ c.upper_value.ensures.row c.u_word.ensures.word) (λ h. h)

pub returns-in-Jal : goal.returns-in-Jal
returns-in-Jal c =
    let imm = to_z-of_z w32 c.in-Jal.imm (search rules) in
    clauses _ _ _ c.in-Jal.is (rw imm at c.j_word.ensures.encodable) (only_jal _ _ _ (rw imm at c.j_word.ensures.word)) (λ h. h)

pub returns-in-Jalr : goal.returns-in-Jalr
returns-in-Jalr c =
    let imm = to_z-of_z w32 c.in-Jalr.imm (search rules) in
    clauses _ _ _ c.in-Jalr.is (rw imm at c.i_word-in-Jalr.ensures.encodable) (only_jalr _ _ _ _ (rw imm at c.i_word-in-Jalr.ensures.word))
    (λ h. h)
