-- What the operands of a statement are written as, from the form in which the code holds them.
use Rattle.std.specs.Prelude.{ℕ, List, [], ◌∷◌, ◌++◌, codes}
use Rattle.std.specs.Fmt.{signed_decimal}
use Rattle.rv_listing.specs.declared.statement.Operand.{Operand}
use Rattle.rv_listing.specs.declared.statement.Operand.TheVariants.{Register, Number, Upper, Relative, Target}
use Rattle.rv_listing.specs.declared.statement.Operands.{Operands}
use Rattle.rv_listing.specs.declared.statement.Operands.TheVariants.{None, Two, Three}
use Rattle.rv_listing.specs.Numerals.{hexadecimal, eight_digits}
use Rattle.rv_listing.specs.Statement.{register, relative}

-- an operand
abbrev pub operand_text : Operand → List ℕ
operand_text (Register number) = register number
operand_text (Number number) = signed_decimal number
operand_text (Upper imm) = codes "0x" ++ hexadecimal imm
operand_text (Relative imm base) = relative imm base
operand_text (Target address) = codes "0x" ++ eight_digits address

-- the operands of an instruction, each as it is written
abbrev pub operand_texts : Operands → List (List ℕ)
operand_texts None = []
operand_texts (Two first last) = register first ∷ operand_text last ∷ []
operand_texts (Three first second last) = register first ∷ register second ∷ operand_text last ∷ []
