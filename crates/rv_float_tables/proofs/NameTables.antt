-- The names of the registers, and their numbers.
use Rattle.std.proofs.Common.{◌≡◌, ℕ, zero, suc, ◌+◌, Bool, true, false, ◌&&◌, nat_eq}
use Rattle.std.proofs.Common.{List, [], ◌∷◌, slice_get, arith, Option, Some, None, refl, ap}
use Rattle.std.specs.Prelude.{IfSome}
use Rattle.std.proofs.lemmas.Bool.{eqb-true, and_parts, false≢true}
use Rattle.std.proofs.lemmas.Option.{same_Some}
use Rattle.rv_tables.specs.Operands.{IsRegister}
use Rattle.rv_tables.proofs.NameTables.{IsRegister-named_by}
use Rattle.rv_float_tables.specs.Registers.{float_register_names, float_register_number, float_register_name, convention_names}

-- each number of the definition is a register's
pub IsRegister-float_register_number : (name : List ℕ) (r : Option ℕ) → r ≡ float_register_number name → IfSome r IsRegister
unfolding float_register_number float_register_names
IsRegister-float_register_number = IsRegister-named_by float_register_names refl

abbrev is_number : Option ℕ → ℕ → Bool
is_number None n = false
is_number (Some m) n = nat_eq m n

-- the test whether the names of the calling convention have these numbers, from the first of them on
abbrev are_numbered_from : ℕ → List (List ℕ) → Bool
are_numbered_from n [] = true
are_numbered_from n (name ∷ names) = is_number (float_register_number name) n && are_numbered_from (suc n) names

same_number : (o : Option ℕ) (n : ℕ) → is_number o n ≡ true → o ≡ Some n
same_number None n e = absurd (false≢true e)
same_number (Some m) n e = ap Some (eqb-true m n e)

numbered : (first n : ℕ) (names : List (List ℕ)) (name : List ℕ) → are_numbered_from first names ≡ true → slice_get names n ≡ Some name
    → float_register_number name ≡ Some (first + n)
numbered first n [] name e at = cc
numbered first zero (x ∷ names) name e at =
    let parts = and_parts (is_number (float_register_number x) first) (are_numbered_from (suc first) names) e in
    let here : first + 0 ≡ first = omega arith in
    rw (here, ← same_Some x name at) (same_number (float_register_number x) first parts.0)
numbered first (suc n) (x ∷ names) name e at =
    let parts = and_parts (is_number (float_register_number x) first) (are_numbered_from (suc first) names) e in
    let next : suc first + n ≡ first + suc n = omega arith in
    rw (← next) (numbered (suc first) n names name parts.1 at)

pub number_of_name : (n : ℕ) (name : List ℕ) → float_register_name n ≡ Some name → float_register_number name ≡ Some n
unfolding convention_names float_register_number float_register_names
number_of_name n name at =
    let from_0 : 0 + n ≡ n = omega arith in
    rw from_0 at (numbered 0 n convention_names name refl at)
