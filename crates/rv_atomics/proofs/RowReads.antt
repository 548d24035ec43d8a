-- What the rows read off words: operands in the ranges of their forms, and one name for each row.
use Rattle.std.proofs.Common.{◌≡◌, ℕ, Option, Some, refl, sym, ap, ◌∙◌, arith}
use Rattle.std.specs.List.{All, Contains}
use Rattle.std.proofs.lemmas.List.Elements.{All-from_recursion, All-contains}
use Rattle.rv_tables.specs.Operands.{IsFound}
use Rattle.rv_tables.proofs.Tables.{found}
use Rattle.rv_atomics.specs.declared.instr.AmoOp.{AmoOp}
use Rattle.rv_atomics.specs.declared.instr.AtomicInstr.{AtomicInstr}
use Rattle.rv_atomics.specs.Mnemonics.{row_name}
use Rattle.rv_atomics.specs.Operands.{IsEncodable}
use Rattle.rv_atomics.specs.Rows.{AtomicEncoding, atomic_encodings, atomic_instruction_of, load_reserved_of, store_conditional_of, amo_of}
use Rattle.rv_atomics.specs.Rows.{Spells}
use Rattle.rv_atomics.proofs.Spelling.{Spells-from_instruction}

-- whatever the word, the operands are in range and the name of the row is the same
abbrev ReadsAlike : (ℕ → AtomicInstr) → Type 0
ReadsAlike read = (w : ℕ) → IsEncodable (read w) × (row_name (read w) ≡ row_name (read 0))

load_reserved : ReadsAlike load_reserved_of
load_reserved w = ((omega arith, omega arith), refl)

store_conditional : ReadsAlike store_conditional_of
store_conditional w = ((omega arith, omega arith, omega arith), refl)

amo : (op : AmoOp) → ReadsAlike (amo_of op)
amo op w = ((omega arith, omega arith, omega arith), refl)

each_row : All (λ e. ReadsAlike e.read) atomic_encodings
unfolding atomic_encodings
each_row =
    All-from_recursion (λ e. ReadsAlike e.read) atomic_encodings (search (load_reserved, store_conditional, amo) parts 60 fits 10000)

reads_alike : (e : AtomicEncoding) → Contains atomic_encodings e → ReadsAlike e.read
reads_alike e listed = All-contains (λ f. ReadsAlike f.read) atomic_encodings e each_row listed

pub IsEncodable-atomic_instruction_of : (w : ℕ) (i : AtomicInstr) → atomic_instruction_of w ≡ Some i → IsEncodable i
IsEncodable-atomic_instruction_of w i h =
    let s = Spells-from_instruction w i h in
    rw (← s.operands) (reads_alike s.encoding s.listed w).0

-- a row that reads an instruction off some word has its name
pub row_name-spelled : (w : ℕ) (i : AtomicInstr) (s : Spells w i) → row_name i ≡ row_name (s.encoding.read 0)
row_name-spelled w i s = ap row_name (sym s.operands) ∙ (reads_alike s.encoding s.listed w).1

pub found_word : (w : ℕ) (r : Option AtomicInstr) → r ≡ atomic_instruction_of w → IsFound IsEncodable (atomic_instruction_of w) r
found_word w r e = found IsEncodable (atomic_instruction_of w) r (IsEncodable-atomic_instruction_of w) e
