-- Each instruction whose operands fit has a word, and no second one.
use Rattle.std.proofs.Common.{◌≡◌, ◌≢◌, ℕ, ◌^◌, ◌<◌, Some, refl, sym, ◌∙◌, lit<}
use Rattle.rv_tables.specs.declared.instr.Instr.{Instr}
use Rattle.rv_tables.specs.declared.instr.Instr.TheVariants.{R, I, Shift, Load, Store, Branch, Upper, Jal, Jalr, Plain}
use Rattle.rv_tables.specs.declared.instr.PlainOp.TheVariants.{Fence, FenceI, Ecall, Ebreak}
use Rattle.rv_tables.specs.Operands.{IsEncodable, IsFence}
use Rattle.rv_tables.specs.Rows.{instruction_of, encodings}
use Rattle.rv_tables.specs.Words.{IsOnlyWord}
use Rattle.rv_tables.proofs.OnlyWords.{only_r, only_i, only_shift, only_load, only_store, only_branch, only_upper, only_jal, only_jalr}
use Rattle.rv_tables.proofs.OnlyWords.{only_ecall, only_ebreak}
use Rattle.rv_tables.proofs.RowReads.{IsEncodable-instruction_of}
use Rattle.rv_asm.specs.Layout.{IsWordOf}
use Rattle.rv_asm.proofs.FormatWords.{r_format, i_format, s_format, b_format, u_format, j_format}
use Rattle.rv_tables.proofs.RowValues.{r_value, i_value, shift_value, load_value, store_value, branch_value, upper_value}

some_injective : (v w : ℕ) → Some v ≡ Some w → w ≡ v
some_injective v w e = cc

-- a word of an instruction that is the only one to decode to it, unless it is a fence
record TheWord (i : Instr) (w : ℕ) : Type 0 where
  is : IsWordOf i w
  only : (v : ℕ) → v < 2 ^ 32 → instruction_of v ≡ Some i → ¬ IsFence i → v ≡ w

of_only : (i : Instr) (w : ℕ) → w < 2 ^ 32 → IsOnlyWord (λ v. instruction_of v ≡ Some i) (Some w) → i ≢ Plain Fence → i ≢ Plain FenceI
    → TheWord i w
of_only i w fits only no_fence no_fence_i = record {
  is = record { fits = fits; decodes = only.0; fence = λ e. absurd (no_fence e); fence_i = λ e. absurd (no_fence_i e) };
  only = λ v v_in h _. some_injective w v (only.1 v v_in h);
}

fence_word : instruction_of 0x0FF0000F ≡ Some (Plain Fence)
unfolding instruction_of encodings
fence_word = refl

fence_i_word : instruction_of 0x100F ≡ Some (Plain FenceI)
unfolding instruction_of encodings
fence_i_word = refl

ecall_word : instruction_of 0x73 ≡ Some (Plain Ecall)
unfolding instruction_of encodings
ecall_word = refl

ebreak_word : instruction_of 0x100073 ≡ Some (Plain Ebreak)
unfolding instruction_of encodings
ebreak_word = refl

the_word : (i : Instr) → IsEncodable i → (w : ℕ) × TheWord i w
the_word (R op d a b) h =
    let row = r_value op in let f = r_format row.value d a b row.own h.0 h.1 h.2 in
    (f.word, of_only (R op d a b) f.word f.fits (only_r row.value d a b op (Some f.word) row.named f.only) (λ e. cc) (λ e. cc))
the_word (I op d a imm) h =
    let row = i_value op in let f = i_format row.value d a imm row.own h.0 h.1 h.2 in
    (f.word, of_only (I op d a imm) f.word f.fits (only_i row.value d a imm op (Some f.word) row.named f.only) (λ e. cc) (λ e. cc))
the_word (Shift op d a n) h =
    let row = shift_value op in let f = r_format row.value d a n row.own h.0 h.1 h.2 in
    (f.word, of_only (Shift op d a n) f.word f.fits (only_shift row.value d a n op (Some f.word) row.named f.only) (λ e. cc) (λ e. cc))
the_word (Load op d a imm) h =
    let row = load_value op in let f = i_format row.value d a imm row.own h.0 h.1 h.2 in
    (f.word, of_only (Load op d a imm) f.word f.fits (only_load row.value d a imm op (Some f.word) row.named f.only) (λ e. cc) (λ e. cc))
the_word (Store op a b imm) h =
    let row = store_value op in let f = s_format row.value a b imm row.own h.0 h.1 h.2 in
    (f.word, of_only (Store op a b imm) f.word f.fits (only_store row.value a b imm op (Some f.word) row.named f.only) (λ e. cc) (λ e. cc))
the_word (Branch op a b imm) h =
    let row = branch_value op in let f = b_format row.value a b imm row.own h.0 h.1 h.2.0 h.2.1 in (
      f.word,
      of_only (Branch op a b imm) f.word f.fits (only_branch row.value a b imm op (Some f.word) row.named f.only) (λ e. cc)
          (λ e. cc),
    )
the_word (Upper op d imm) h =
    let row = upper_value op in let f = u_format row.value d imm row.own h.0 h.1 in
    (f.word, of_only (Upper op d imm) f.word f.fits (only_upper row.value d imm op (Some f.word) row.named f.only) (λ e. cc) (λ e. cc))
the_word (Jal d imm) h =
    let f = j_format 0x6F d imm refl h.0 h.1.0 h.1.1 in
    (f.word, of_only (Jal d imm) f.word f.fits (only_jal d imm (Some f.word) f.only) (λ e. cc) (λ e. cc))
the_word (Jalr d a imm) h =
    let f = i_format 0x67 d a imm refl h.0 h.1 h.2 in
    (f.word, of_only (Jalr d a imm) f.word f.fits (only_jalr d a imm (Some f.word) f.only) (λ e. cc) (λ e. cc))
the_word (Plain Fence) h = (
  0x0FF0000F,
  record {
    is = record { fits = lit< tt; decodes = fence_word; fence = λ e. refl; fence_i = λ e. cc };
    only = λ v v_in e no. absurd (no tt);
  },
)
the_word (Plain FenceI) h = (
  0x100F,
  record {
    is = record { fits = lit< tt; decodes = fence_i_word; fence = λ e. cc; fence_i = λ e. refl };
    only = λ v v_in e no. absurd (no tt);
  },
)
the_word (Plain Ecall) h = (
  0x73,
  record {
    is = record { fits = lit< tt; decodes = ecall_word; fence = λ e. cc; fence_i = λ e. cc };
    only = λ v v_in e no. sym (only_ecall v v_in e);
  },
)
the_word (Plain Ebreak) h = (
  0x100073,
  record {
    is = record { fits = lit< tt; decodes = ebreak_word; fence = λ e. cc; fence_i = λ e. cc };
    only = λ v v_in e no. sym (only_ebreak v v_in e);
  },
)

pub word_of : (i : Instr) → IsEncodable i → (w : ℕ) × IsWordOf i w
word_of i h = let t = the_word i h in (t.0, t.1.is)

not_two : (i : Instr) (v w : ℕ) → ¬ IsFence i → IsWordOf i v → IsWordOf i w → v ≡ w
not_two i v w no_fence h k =
    let t = the_word i (IsEncodable-instruction_of v i h.decodes) in
    t.1.only v h.fits h.decodes no_fence ∙ sym (t.1.only w k.fits k.decodes no_fence)

pub one_word : (i : Instr) (v w : ℕ) → IsWordOf i v → IsWordOf i w → v ≡ w
one_word (Plain Fence) v w h k = h.fence refl ∙ sym (k.fence refl)
one_word (Plain FenceI) v w h k = h.fence_i refl ∙ sym (k.fence_i refl)
one_word (Plain Ecall) v w h k = not_two (Plain Ecall) v w (λ no. no) h k
one_word (Plain Ebreak) v w h k = not_two (Plain Ebreak) v w (λ no. no) h k
one_word (R op d a b) v w h k = not_two (R op d a b) v w (λ no. no) h k
one_word (I op d a imm) v w h k = not_two (I op d a imm) v w (λ no. no) h k
one_word (Shift op d a n) v w h k = not_two (Shift op d a n) v w (λ no. no) h k
one_word (Load op d a imm) v w h k = not_two (Load op d a imm) v w (λ no. no) h k
one_word (Store op a b imm) v w h k = not_two (Store op a b imm) v w (λ no. no) h k
one_word (Branch op a b imm) v w h k = not_two (Branch op a b imm) v w (λ no. no) h k
one_word (Upper op d imm) v w h k = not_two (Upper op d imm) v w (λ no. no) h k
one_word (Jal d imm) v w h k = not_two (Jal d imm) v w (λ no. no) h k
one_word (Jalr d a imm) v w h k = not_two (Jalr d a imm) v w (λ no. no) h k
