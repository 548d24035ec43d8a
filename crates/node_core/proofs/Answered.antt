-- Answers that are Ok, and those that are Some.
use Rattle.std.proofs.Common.{◌≡◌, Ok, Err, Option, Some, None}
use Rattle.std.specs.Prelude.{OnOk, OnErr, IfSome, IsSome, IsTrue, is_ok}
use Rattle.std.specs.declared.result.Result.{Result}

-- what holds at Ok holds, where the answer is Ok
pub at_ok : {T E : Type 0} (answer : Result T E) (P : Type 0) → OnOk answer P → IsTrue (is_ok answer) → P
at_ok (Ok x) P holds is = holds
at_ok (Err e) P holds is = absurd (cc)

-- what is said of errors is said of none, where the answer is Ok
pub not_err : {T E : Type 0} (answer : Result T E) (P : Type 0) → IsTrue (is_ok answer) → OnErr answer P
not_err (Ok x) P is = tt
not_err (Err e) P is = absurd (cc)

-- what holds anyway holds at an error
pub on_err : {T E : Type 0} (answer : Result T E) (P : Type 0) → P → OnErr answer P
on_err (Ok x) P holds = tt
on_err (Err e) P holds = holds

-- what is no claim holds of any answer
pub any-some : {T : Type 0} (answer : Option T) → IfSome answer (λ x. Unit {0})
any-some (Some x) = tt
any-some None = tt

-- an answer that is Some is not None
pub not-none : {T P : Type 0} (answer : Option T) → IsSome answer → answer ≡ None → P
not-none (Some x) some none = absurd (cc)
not-none None some none = absurd (cc)
