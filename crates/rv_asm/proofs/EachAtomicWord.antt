-- Each instruction of A whose registers fit has a word, and no second one.
use Rattle.std.proofs.Common.{◌≡◌, ℕ, ◌^◌, ◌<◌, Some, refl, sym, ◌∙◌, arith}
use Rattle.rv_tables.specs.Words.{IsOnlyWord}
use Rattle.rv_atomics.specs.declared.instr.AtomicInstr.{AtomicInstr}
use Rattle.rv_atomics.specs.declared.instr.AtomicInstr.TheVariants.{LoadReserved, StoreConditional, Amo}
use Rattle.rv_atomics.specs.Operands.{IsEncodable}
use Rattle.rv_atomics.specs.Rows.{atomic_instruction_of}
use Rattle.rv_atomics.proofs.OnlyWords.{only_load_reserved, only_store_conditional, only_amo, with_order-own}
use Rattle.rv_atomics.proofs.RowReads.{IsEncodable-atomic_instruction_of}
use Rattle.rv_atomics.proofs.RowValues as row
use Rattle.rv_asm.proofs.FormatWords.{OnlyWord, r_format}

-- a word that is the only one of format R is the only one of the instruction
of_format : (P : ℕ → Type 0) (i : AtomicInstr) → OnlyWord P
    → ((result : ℕ) → IsOnlyWord P (Some result) → IsOnlyWord (λ w. atomic_instruction_of w ≡ Some i) (Some result))
    → OnlyWord (λ w. atomic_instruction_of w ≡ Some i)
of_format P i f spells = record { word = f.word; fits = f.fits; only = spells f.word f.only }

pub the_atomic_word : (i : AtomicInstr) → IsEncodable i → OnlyWord (λ w. atomic_instruction_of w ≡ Some i)
the_atomic_word (LoadReserved order d a) h =
    of_format _ _ (r_format _ d a 0 (with_order-own 0x1000202F order refl) h.0 h.1 (omega arith))
    (λ w. only_load_reserved d a order (Some w))
the_atomic_word (StoreConditional order d a b) h =
    of_format _ _ (r_format _ d a b (with_order-own 0x1800202F order refl) h.0 h.1 h.2)
    (λ w. only_store_conditional d a b order (Some w))
the_atomic_word (Amo op order d a b) h =
    let value = row.amo op in
    of_format _ _ (r_format _ d a b (with_order-own _ order value.own) h.0 h.1 h.2)
    (λ w. only_amo _ d a b op order (Some w) value)

pub one_atomic_word : (i : AtomicInstr) (v w : ℕ) → v < 2 ^ 32 → w < 2 ^ 32 → atomic_instruction_of v ≡ Some i
    → atomic_instruction_of w ≡ Some i → v ≡ w
one_atomic_word i v w v_in w_in h k =
    let only = the_atomic_word i (IsEncodable-atomic_instruction_of v i h) in
    some_injective (only.only.1 v v_in h) ∙ sym (some_injective (only.only.1 w w_in k))
  where
    some_injective : {x y : ℕ} → Some x ≡ Some y → y ≡ x
    some_injective e = cc
