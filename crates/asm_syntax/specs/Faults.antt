-- Faults of a line (own language), in the order of `LineError`.
use Rattle.std.specs.Prelude.{Bool, if◌then◌else◌, Option, Some, None, Result, Ok, Err}
use Rattle.asm_syntax.specs.declared.error.LineError.{LineError}
use Rattle.asm_syntax.specs.declared.error.LineError.TheVariants.{BadOperand, OutOfRange}

-- what is made of a result that is no fault
abbrev pub if_ok : {X Y : Type 0} → (X → Y) → Result X LineError → Result Y LineError
if_ok f (Ok x) = Ok (f x)
if_ok f (Err fault) = Err fault

-- operands that are as many as wanted and each of its kind, or none; then their ranges are tested
abbrev pub judged : {X : Type 0} → (X → Bool) → Option X → Result X LineError
judged fits None = Err BadOperand
judged fits (Some x) = if fits x then Ok x else Err OutOfRange
