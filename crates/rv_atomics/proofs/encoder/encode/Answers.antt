-- Each form's word is the only one of its row with its operands, so it is the only one that spells the instruction.
use Rattle.std.proofs.Common.{◌≡◌, ◌↔◌, ℕ, ◌+◌, Option, Some, IsSome, ap, arith}
use Rattle.rv_tables.specs.Operands.{IsRegister}
use Rattle.rv_tables.specs.Words.{IsOnlyWord, IsEncoded}
use Rattle.rv_atomics.specs.declared.instr.AtomicInstr.{AtomicInstr}
use Rattle.rv_atomics.specs.Operands.{IsEncodable}
use Rattle.rv_atomics.specs.Rows.{atomic_instruction_of}
use Rattle.rv_atomics.proofs.OnlyWords.{only_load_reserved, only_store_conditional, only_amo, with_order-own, with_order-fits}
use Rattle.rv_atomics.proofs.encoder.encode.Goals as goal

-- what is to be shown of the word of an instruction
clauses : (i j : AtomicInstr) (r : Option ℕ) → j ≡ i → IsSome r ↔ IsEncodable i → IsOnlyWord (λ w. atomic_instruction_of w ≡ Some i) r
    → IsEncoded (IsEncodable j) (λ w. atomic_instruction_of w ≡ Some j) r
clauses i j r is encodable only = rw is (record { encodable = encodable; word = only })

-- LR has x0 where the others have rs2
with_x0 : (d a : ℕ) (r : Option ℕ) → IsSome r ↔ (IsRegister d × IsRegister a × IsRegister 0) → IsSome r ↔ (IsRegister d × IsRegister a)
with_x0 d a r both = (λ some. let fit = both.0 some in (fit.0, fit.1), λ fit. both.1 (fit.0, fit.1, omega arith))

pub r_word-requires-in-Amo : goal.r_word-requires-in-Amo
r_word-requires-in-Amo c = rw c.order_bits-in-Amo.ensures (with_order-own c.amo_row.result c.in-Amo.order c.amo_row.ensures.own)

pub returns-in-LoadReserved : goal.returns-in-LoadReserved
returns-in-LoadReserved c =
    clauses _ _ _ c.in-LoadReserved.is (with_x0 _ _ _ c.r_word.ensures.encodable)
    (only_load_reserved _ _ _ _ (rw c.order_bits.ensures at c.r_word.ensures.word))

pub returns-in-StoreConditional : goal.returns-in-StoreConditional
returns-in-StoreConditional c =
    clauses _ _ _ c.in-StoreConditional.is c.r_word-in-StoreConditional.ensures.encodable
    (only_store_conditional _ _ _ _ _ (rw c.order_bits-in-StoreConditional.ensures at c.r_word-in-StoreConditional.ensures.word))

pub returns-in-Amo : goal.returns-in-Amo
returns-in-Amo c =
    clauses _ _ _ c.in-Amo.is c.r_word-in-Amo.ensures.encodable
    (only_amo _ _ _ _ _ _ _ c.amo_row.ensures (rw c.order_bits-in-Amo.ensures at c.r_word-in-Amo.ensures.word))
