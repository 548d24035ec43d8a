-- What a user is shown of a fault (own texts).
use Rattle.std.specs.Prelude.{ℕ, List, ◌++◌, codes, decimal}
use Rattle.rv_asm.specs.declared.errors.AsmError.{AsmError}
use Rattle.rv_asm.specs.declared.errors.AsmKind.{AsmKind}
use Rattle.rv_asm.specs.declared.errors.AsmKind.TheVariants.{BadToken, UnknownMnemonic, BadOperand, OutOfRange, DuplicateLabel}
use Rattle.rv_asm.specs.declared.errors.AsmKind.TheVariants.{UndefinedLabel, TooLarge, NoMemory}

-- the name of a kind
abbrev pub kind_name : AsmKind → List ℕ
kind_name BadToken = codes "BadToken"
kind_name UnknownMnemonic = codes "UnknownMnemonic"
kind_name BadOperand = codes "BadOperand"
kind_name OutOfRange = codes "OutOfRange"
kind_name DuplicateLabel = codes "DuplicateLabel"
kind_name UndefinedLabel = codes "UndefinedLabel"
kind_name TooLarge = codes "TooLarge"
kind_name NoMemory = codes "NoMemory"

-- the number of the line in decimal, and the kind's name
abbrev pub error_text : AsmError → List ℕ
error_text e = codes "line " ++ decimal e.line ++ codes ": " ++ kind_name e.kind
