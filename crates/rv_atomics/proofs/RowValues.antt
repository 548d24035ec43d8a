-- The row of each atomic memory operation has a value without bits outside the row's mask.
use Rattle.std.proofs.Common.{ℕ, Option, Some, None, arith}
use Rattle.rv_atomics.specs.declared.instr.AmoOp.{AmoOp}
use Rattle.rv_atomics.specs.declared.instr.AtomicForm.TheVariants as form
use Rattle.rv_atomics.specs.Mnemonics.{amo_name, atomic_row_named}
use Rattle.rv_atomics.specs.Rows.{AtomicEncoding, atomic_encodings, amo_of}
use Rattle.rv_atomics.specs.Words.{IsRowValue}

pub value_in : Option AtomicEncoding → ℕ
value_in None = 0
value_in (Some e) = e.row.value

pub amo : (op : AmoOp) → IsRowValue 0xF800707F form.Amo (amo_of op) (amo_name op) (value_in (atomic_row_named (amo_name op)))
unfolding atomic_row_named atomic_encodings value_in
amo op = record { row = grind arith; own = grind arith }
