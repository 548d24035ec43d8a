-- The first judging of a line, case by case.
use Rattle.std.proofs.Common.{◌≡◌, ◌≢◌, ℕ, ◌^◌, ◌≤◌, Bool, true, false, nat_lt}
use Rattle.std.proofs.Common.{List, Option, Some, None, Ok, IfErr, if◌then◌else◌, refl, arith}
use Rattle.std.specs.Option.{option_map_or, SomeIff, ok_or}
use Rattle.asm_syntax.specs.Statements.{Line}
use Rattle.rv_asm.specs.declared.errors.AsmKind.{AsmKind}
use Rattle.rv_asm.specs.declared.errors.AsmKind.TheVariants.{OutOfRange, DuplicateLabel, TooLarge, NoMemory}
use Rattle.rv_asm.specs.Faults.{fault_of_line, has_duplicate}
use Rattle.rv_asm.specs.Places.{end_of_statement}
use Rattle.rv_asm.specs.Symbols.{no_symbols}
use Rattle.rv_asm.specs.Targets.{is_out_of_reach}

abbrev pub by_tests : Bool → Bool → Bool → Option AsmKind
by_tests reach duplicate large =
    if reach then Some OutOfRange else (if duplicate then Some DuplicateLabel else (if large then Some TooLarge else None))

pub fault_by_tests : (address : ℕ) (known : List ℕ → Bool) (line : Line) (reach duplicate large : Bool)
    → option_map_or (is_out_of_reach no_symbols address) line.statement false ≡ reach → has_duplicate known line.labels ≡ duplicate
    → nat_lt (2 ^ 24) (end_of_statement address line.statement) ≡ large
    → fault_of_line address known (Ok line) ≡ by_tests reach duplicate large
fault_by_tests address known line reach duplicate large p q r = λ i. by_tests (p i) (q i) (r i)

pub duplicate_fault : (address : ℕ) (known : List ℕ → Bool) (line : Line)
    → option_map_or (is_out_of_reach no_symbols address) line.statement false ≡ false → has_duplicate known line.labels ≡ true
    → fault_of_line address known (Ok line) ≡ Some DuplicateLabel
duplicate_fault address known line p q = fault_by_tests address known line false true _ p q refl

pub large_fault : (address : ℕ) (known : List ℕ → Bool) (line : Line) (result : Option ℕ)
    → option_map_or (is_out_of_reach no_symbols address) line.statement false ≡ false → has_duplicate known line.labels ≡ false
    → SomeIff result (end_of_statement address line.statement ≤ 2 ^ 24) (end_of_statement address line.statement)
    → IfErr (ok_or result TooLarge) (λ kind. kind ≢ NoMemory → fault_of_line address known (Ok line) ≡ Some kind)
large_fault address known line None p q past = λ _.
    let above : nat_lt (2 ^ 24) (end_of_statement address line.statement) ≡ true = search (arith, past) in
    fault_by_tests address known line false false true p q above
large_fault address known line (Some end) p q past = tt
