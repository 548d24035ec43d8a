-- Each form's word is the only one of its row with its operands, so it is the only one that spells the instruction.
use Rattle.std.proofs.Common.{◌≡◌, ◌↔◌, ℕ, Option, Some, IsSome, refl, w32, rules}
use Rattle.std.proofs.lemmas.Int.{to_z-of_z}
use Rattle.rv_tables.specs.Words.{IsOnlyWord, IsEncoded}
use Rattle.rv_float_tables.specs.declared.instr.FloatInstr.{FloatInstr}
use Rattle.rv_float_tables.specs.declared.instr.FloatInstr.TheVariants.{SquareRoot, Sign, MinMax, Compare, Class, ToWord, FromWord}
use Rattle.rv_float_tables.specs.declared.instr.FloatInstr.TheVariants.{ToFormat, MoveToInteger, MoveFromInteger, Csr, CsrImmediate}
use Rattle.rv_float_tables.specs.Mnemonics.{float_row_named}
use Rattle.rv_float_tables.specs.Operands.{IsEncodable}
use Rattle.rv_float_tables.specs.Rows.{float_encodings, float_instruction_of}
use Rattle.rv_float_tables.proofs.OnlyWords.{only_load, only_store, only_fused, only_arithmetic, only_rounded_unary, only_binary}
use Rattle.rv_float_tables.proofs.OnlyWords.{only_unary, only_csr}
use Rattle.rv_float_tables.proofs.encoder.encode.Goals as goal

-- what is to be shown of the word of an instruction
clauses : (i j : FloatInstr) (r : Option ℕ) → j ≡ i → IsSome r ↔ IsEncodable i → IsOnlyWord (λ w. float_instruction_of w ≡ Some i) r
    → IsEncoded (IsEncodable j) (λ w. float_instruction_of w ≡ Some j) r
clauses i j r is encodable only = rw is (record { encodable = encodable; word = only })

pub returns-in-Load : goal.returns-in-Load
returns-in-Load c =
    let imm = to_z-of_z w32 c.in-Load.imm (search rules) in
    clauses _ _ _ c.in-Load.is (rw imm at c.i_word.ensures.encodable)
    (only_load _ _ _ _ _ _ c.load_value.ensures (rw imm at c.i_word.ensures.word))

pub returns-in-Store : goal.returns-in-Store
returns-in-Store c =
    let imm = to_z-of_z w32 c.in-Store.imm (search rules) in
    clauses _ _ _ c.in-Store.is (rw imm at c.s_word.ensures.encodable)
    (only_store _ _ _ _ _ _ c.store_value.ensures (rw imm at c.s_word.ensures.word))

pub returns-in-Fused : goal.returns-in-Fused
returns-in-Fused c =
    clauses _ _ _ c.in-Fused.is c.r4_word.ensures.encodable
    (only_fused _ _ _ _ _ _ _ _ _ c.fused_value.ensures (rw c.rounding_code.ensures at c.r4_word.ensures.word))

pub returns-in-Arithmetic : goal.returns-in-Arithmetic
returns-in-Arithmetic c =
    clauses _ _ _ c.in-Arithmetic.is c.rounded_word.ensures.encodable
    (only_arithmetic _ _ _ _ _ _ _ _ c.arithmetic_value.ensures (rw c.rounding_code-in-Arithmetic.ensures at c.rounded_word.ensures.word))

pub returns-in-SquareRoot : goal.returns-in-SquareRoot
returns-in-SquareRoot c =
    clauses _ _ _ c.in-SquareRoot.is c.rounded_unary_word.ensures.encodable
    (only_rounded_unary (SquareRoot c.in-SquareRoot.format) (λ _ _ _ _ _ _ e. (cc, cc, cc)) _ _ _ _ _ _ c.square_root_value.ensures
    (rw c.rounding_code-in-SquareRoot.ensures at c.rounded_unary_word.ensures.word))

pub returns-in-Sign : goal.returns-in-Sign
returns-in-Sign c =
    clauses _ _ _ c.in-Sign.is c.r_word.ensures.encodable
    (only_binary (Sign c.in-Sign.op c.in-Sign.format) (λ _ _ _ _ _ _ e. (cc, cc, cc)) _ _ _ _ _ _ c.sign_value.ensures
    c.r_word.ensures.word)

pub returns-in-MinMax : goal.returns-in-MinMax
returns-in-MinMax c =
    clauses _ _ _ c.in-MinMax.is c.r_word-in-MinMax.ensures.encodable
    (only_binary (MinMax c.in-MinMax.op c.in-MinMax.format) (λ _ _ _ _ _ _ e. (cc, cc, cc)) _ _ _ _ _ _ c.min_max_value.ensures
    c.r_word-in-MinMax.ensures.word)

pub returns-in-Compare : goal.returns-in-Compare
returns-in-Compare c =
    clauses _ _ _ c.in-Compare.is c.r_word-in-Compare.ensures.encodable
    (only_binary (Compare c.in-Compare.op c.in-Compare.format)
    (λ _ _ _ _ _ _ e. (cc, cc, cc)) _ _ _ _ _ _ c.compare_value.ensures c.r_word-in-Compare.ensures.word)

pub returns-in-Class : goal.returns-in-Class
returns-in-Class c =
    clauses _ _ _ c.in-Class.is c.unary_word.ensures.encodable
    (only_unary (Class c.in-Class.format) (λ _ _ _ _ e. (cc, cc)) _ _ _ _ _ c.class_value.ensures c.unary_word.ensures.word)

pub returns-in-ToWord : goal.returns-in-ToWord
returns-in-ToWord c =
    clauses _ _ _ c.in-ToWord.is c.rounded_unary_word-in-ToWord.ensures.encodable
    (only_rounded_unary (ToWord c.in-ToWord.kind c.in-ToWord.format) (λ _ _ _ _ _ _ e. (cc, cc, cc)) _ _ _ _ _ _ c.to_word_value.ensures
    (rw c.rounding_code-in-ToWord.ensures at c.rounded_unary_word-in-ToWord.ensures.word))

pub returns-in-FromWord : goal.returns-in-FromWord
returns-in-FromWord c =
    clauses _ _ _ c.in-FromWord.is c.rounded_unary_word-in-FromWord.ensures.encodable
    (only_rounded_unary (FromWord c.in-FromWord.kind c.in-FromWord.format)
    (λ _ _ _ _ _ _ e. (cc, cc, cc)) _ _ _ _ _ _ c.from_word_value.ensures
    (rw c.rounding_code-in-FromWord.ensures at c.rounded_unary_word-in-FromWord.ensures.word))

pub returns-in-ToFormat : goal.returns-in-ToFormat
returns-in-ToFormat c =
    clauses _ _ _ c.in-ToFormat.is c.rounded_unary_word-in-ToFormat.ensures.encodable
    (only_rounded_unary (ToFormat c.in-ToFormat.format) (λ _ _ _ _ _ _ e. (cc, cc, cc)) _ _ _ _ _ _ c.to_format_value.ensures
    (rw c.rounding_code-in-ToFormat.ensures at c.rounded_unary_word-in-ToFormat.ensures.word))

pub returns-in-MoveToInteger : goal.returns-in-MoveToInteger
unfolding float_row_named float_encodings
returns-in-MoveToInteger c =
    clauses _ _ _ c.in-MoveToInteger.is c.unary_word-in-MoveToInteger.ensures.encodable
    (only_unary MoveToInteger (λ _ _ _ _ e. (cc, cc)) _ _ _ _ _
    (record { row = refl; own = refl }) c.unary_word-in-MoveToInteger.ensures.word)

pub returns-in-MoveFromInteger : goal.returns-in-MoveFromInteger
unfolding float_row_named float_encodings
returns-in-MoveFromInteger c =
    clauses _ _ _ c.in-MoveFromInteger.is c.unary_word-in-MoveFromInteger.ensures.encodable
    (only_unary MoveFromInteger (λ _ _ _ _ e. (cc, cc)) _ _ _ _ _
    (record { row = refl; own = refl }) c.unary_word-in-MoveFromInteger.ensures.word)

pub returns-in-Csr : goal.returns-in-Csr
returns-in-Csr c =
    clauses _ _ _ c.in-Csr.is c.csr_word.ensures.encodable
    (only_csr (Csr c.in-Csr.op) (λ _ _ _ _ _ _ e. (cc, cc, cc)) _ _ _ _ _ _ c.csr_value.ensures
    (rw c.csr_number.ensures at c.csr_word.ensures.word))

pub returns-in-CsrImmediate : goal.returns-in-CsrImmediate
returns-in-CsrImmediate c =
    clauses _ _ _ c.in-CsrImmediate.is c.csr_word-in-CsrImmediate.ensures.encodable
    (only_csr (CsrImmediate c.in-CsrImmediate.op) (λ _ _ _ _ _ _ e. (cc, cc, cc)) _ _ _ _ _ _ c.csr_immediate_value.ensures
    (rw c.csr_number-in-CsrImmediate.ensures at c.csr_word-in-CsrImmediate.ensures.word))
