-- Each name has a row, whose value has no bits outside the row's mask.
use Rattle.std.proofs.Common.{◌≡◌, ℕ, List, Option, Some, None, bit_and, arith}
use Rattle.rv_tables.specs.declared.instr.ROp.{ROp}
use Rattle.rv_tables.specs.declared.instr.IOp.{IOp}
use Rattle.rv_tables.specs.declared.instr.ShiftOp.{ShiftOp}
use Rattle.rv_tables.specs.declared.instr.LoadOp.{LoadOp}
use Rattle.rv_tables.specs.declared.instr.StoreOp.{StoreOp}
use Rattle.rv_tables.specs.declared.instr.BranchOp.{BranchOp}
use Rattle.rv_tables.specs.declared.instr.UpperOp.{UpperOp}
use Rattle.rv_tables.specs.Mnemonics.{row_named, r_mnemonic, i_mnemonic, shift_mnemonic, load_mnemonic, store_mnemonic, branch_mnemonic}
use Rattle.rv_tables.specs.Mnemonics.{upper_mnemonic}
use Rattle.rv_tables.specs.Rows.{Encoding, encodings}
use Rattle.rv_tables.specs.Words.{r_row_of, i_row_of, shift_row_of, load_row_of, store_row_of, branch_row_of, upper_row_of}

-- the value with which a name has its row, and which has no bits outside the row's mask
pub record RowValue (mask : ℕ) (name : List ℕ) (row : ℕ → Encoding) : Type 0 where
  pub value : ℕ
  pub named : row_named name ≡ Some (row value)
  pub own : bit_and value mask ≡ value

value_in : Option Encoding → ℕ
value_in None = 0
value_in (Some e) = e.row.value

r_named : (op : ROp) → row_named (r_mnemonic op) ≡ Some (r_row_of (value_in (row_named (r_mnemonic op))) op)
unfolding row_named encodings value_in
r_named op = grind arith

r_own : (op : ROp) → bit_and (value_in (row_named (r_mnemonic op))) 0xFE00707F ≡ value_in (row_named (r_mnemonic op))
unfolding row_named encodings value_in
r_own op = grind arith

pub r_value : (op : ROp) → RowValue 0xFE00707F (r_mnemonic op) (λ v. r_row_of v op)
r_value op = record { value = value_in (row_named (r_mnemonic op)); named = r_named op; own = r_own op }

i_named : (op : IOp) → row_named (i_mnemonic op) ≡ Some (i_row_of (value_in (row_named (i_mnemonic op))) op)
unfolding row_named encodings value_in
i_named op = grind arith

i_own : (op : IOp) → bit_and (value_in (row_named (i_mnemonic op))) 0x707F ≡ value_in (row_named (i_mnemonic op))
unfolding row_named encodings value_in
i_own op = grind arith

pub i_value : (op : IOp) → RowValue 0x707F (i_mnemonic op) (λ v. i_row_of v op)
i_value op = record { value = value_in (row_named (i_mnemonic op)); named = i_named op; own = i_own op }

shift_named : (op : ShiftOp) → row_named (shift_mnemonic op) ≡ Some (shift_row_of (value_in (row_named (shift_mnemonic op))) op)
unfolding row_named encodings value_in
shift_named op = grind arith

shift_own : (op : ShiftOp) → bit_and (value_in (row_named (shift_mnemonic op))) 0xFE00707F ≡ value_in (row_named (shift_mnemonic op))
unfolding row_named encodings value_in
shift_own op = grind arith

pub shift_value : (op : ShiftOp) → RowValue 0xFE00707F (shift_mnemonic op) (λ v. shift_row_of v op)
shift_value op = record { value = value_in (row_named (shift_mnemonic op)); named = shift_named op; own = shift_own op }

load_named : (op : LoadOp) → row_named (load_mnemonic op) ≡ Some (load_row_of (value_in (row_named (load_mnemonic op))) op)
unfolding row_named encodings value_in
load_named op = grind arith

load_own : (op : LoadOp) → bit_and (value_in (row_named (load_mnemonic op))) 0x707F ≡ value_in (row_named (load_mnemonic op))
unfolding row_named encodings value_in
load_own op = grind arith

pub load_value : (op : LoadOp) → RowValue 0x707F (load_mnemonic op) (λ v. load_row_of v op)
load_value op = record { value = value_in (row_named (load_mnemonic op)); named = load_named op; own = load_own op }

store_named : (op : StoreOp) → row_named (store_mnemonic op) ≡ Some (store_row_of (value_in (row_named (store_mnemonic op))) op)
unfolding row_named encodings value_in
store_named op = grind arith

store_own : (op : StoreOp) → bit_and (value_in (row_named (store_mnemonic op))) 0x707F ≡ value_in (row_named (store_mnemonic op))
unfolding row_named encodings value_in
store_own op = grind arith

pub store_value : (op : StoreOp) → RowValue 0x707F (store_mnemonic op) (λ v. store_row_of v op)
store_value op = record { value = value_in (row_named (store_mnemonic op)); named = store_named op; own = store_own op }

branch_named : (op : BranchOp) → row_named (branch_mnemonic op) ≡ Some (branch_row_of (value_in (row_named (branch_mnemonic op))) op)
unfolding row_named encodings value_in
branch_named op = grind arith

branch_own : (op : BranchOp) → bit_and (value_in (row_named (branch_mnemonic op))) 0x707F ≡ value_in (row_named (branch_mnemonic op))
unfolding row_named encodings value_in
branch_own op = grind arith

pub branch_value : (op : BranchOp) → RowValue 0x707F (branch_mnemonic op) (λ v. branch_row_of v op)
branch_value op = record { value = value_in (row_named (branch_mnemonic op)); named = branch_named op; own = branch_own op }

upper_named : (op : UpperOp) → row_named (upper_mnemonic op) ≡ Some (upper_row_of (value_in (row_named (upper_mnemonic op))) op)
unfolding row_named encodings value_in
upper_named op = grind arith

upper_own : (op : UpperOp) → bit_and (value_in (row_named (upper_mnemonic op))) 0x7F ≡ value_in (row_named (upper_mnemonic op))
unfolding row_named encodings value_in
upper_own op = grind arith

pub upper_value : (op : UpperOp) → RowValue 0x7F (upper_mnemonic op) (λ v. upper_row_of v op)
upper_value op = record { value = value_in (row_named (upper_mnemonic op)); named = upper_named op; own = upper_own op }
