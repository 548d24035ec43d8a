-- What is read of operands: where it is some, it is in its range, and none of its faults is want of memory.
use Rattle.std.proofs.Common.{◌≡◌, ◌≢◌, ℕ, ◌≤◌, Bool, true, false, List, [], ◌∷◌, ℤ, pos, negsuc, nat_abs, Option, Some, None, Result, Ok}
use Rattle.std.proofs.Common.{Err, refl, sym, ap, arith, inl, inr, ◌⊎◌}
use Rattle.std.specs.Option.{option_map, option_and_then}
use Rattle.std.proofs.lemmas.Bool.{cases_Bool}
use Rattle.std.proofs.lemmas.Int.{ints}
use Rattle.std.proofs.lemmas.Option.{same_Some}
use Rattle.rv_tables.specs.Operands.{IsRegister, IsImmediate}
use Rattle.rv_tables.specs.Registers.{register_number}
use Rattle.rv_tables.proofs.RegisterNames.{IsRegister-register_number}
use Rattle.asm_syntax.specs.declared.error.LineError.{LineError}
use Rattle.asm_syntax.specs.declared.error.LineError.TheVariants.{OutOfRange, NoMemory}
use Rattle.asm_syntax.specs.Faults.{if_ok, judged}
use Rattle.asm_syntax.specs.Operands.{Based, Address, register_in, based_in, address_in}
use Rattle.asm_syntax.specs.Ranges.{up_to, signed, IsWithin}
use Rattle.asm_syntax.specs.Shapes.{one, two, three, with_both}
use Rattle.asm_syntax.specs.Tokens.{Token, name}

pub no_ok : {X : Type 0} {e : LineError} {x : X} → ◌≡◌ {A = Result X LineError} (Err e) (Ok x) → ⊥
no_ok h = cc

pub if_ok-ok : {X Y : Type 0} (f : X → Y) (r : Result X LineError) (y : Y) → if_ok f r ≡ Ok y → (x : X) × (r ≡ Ok x) × (f x ≡ y)
if_ok-ok {X} {Y} f (Err e) y h = absurd (no_ok h)
if_ok-ok {X} {Y} f (Ok x) y h = (x, refl, same h) where
  same : ◌≡◌ {A = Result Y LineError} (Ok (f x)) (Ok y) → f x ≡ y
  same h = cc

pub no_some : {X : Type 0} {x : X} → ◌≡◌ {A = Option X} None (Some x) → ⊥
no_some h = cc

pub one-some : {X : Type 0} (read : List Token → Option X) (os : List (List Token)) (x : X) → one read os ≡ Some x
    → (a : List Token) × (read a ≡ Some x)
one-some read (a ∷ []) x h = (a, h)
one-some read _ x h = absurd (no_some h)

pub pair_some : {X Y : Type 0} (o : Option X) (q : Option Y) (p : X × Y) → with_both o q (λ x y. (x, y)) ≡ Some p
    → (o ≡ Some p.0) × (q ≡ Some p.1)
pair_some None q p h = absurd (no_some h)
pair_some (Some x) None p h = absurd (no_some h)
pair_some {X} {Y} (Some x) (Some y) p h =
    let is = same_Some _ _ h in
    (ap (λ (r : X × Y). Some r.0) is, ap (λ (r : X × Y). Some r.1) is)

pub triple_some : {X Y Z : Type 0} (o : Option X) (q : Option Y) (r : Option Z) (p : X × Y × Z)
    → option_and_then (λ x. with_both q r (λ y z. (x, y, z))) o ≡ Some p → (o ≡ Some p.0) × (q ≡ Some p.1) × (r ≡ Some p.2)
triple_some None q r p h = absurd (no_some h)
triple_some (Some x) None r p h = absurd (no_some h)
triple_some (Some x) (Some y) None p h = absurd (no_some h)
triple_some {X} {Y} {Z} (Some x) (Some y) (Some z) p h =
    let is = same_Some _ _ h in
    (ap (λ (r : X × Y × Z). Some r.0) is, ap (λ (r : X × Y × Z). Some r.1) is, ap (λ (r : X × Y × Z). Some r.2) is)

pub two-some : {X Y : Type 0} (first : List Token → Option X) (second : List Token → Option Y) (os : List (List Token)) (p : X × Y)
    → two first second os ≡ Some p → (a b : List Token) × (first a ≡ Some p.0) × (second b ≡ Some p.1)
two-some first second (a ∷ b ∷ []) p h = let parts = pair_some (first a) (second b) p h in (a, b, parts.0, parts.1)
two-some first second _ p h = absurd (no_some h)

pub three-some : {X Y Z : Type 0} (first : List Token → Option X) (second : List Token → Option Y) (third : List Token → Option Z)
    (os : List (List Token)) (p : X × Y × Z) → three first second third os ≡ Some p
    → (a b c : List Token) × (first a ≡ Some p.0) × (second b ≡ Some p.1) × (third c ≡ Some p.2)
three-some first second third (a ∷ b ∷ c ∷ []) p h =
    let parts = triple_some (first a) (second b) (third c) p h in (a, b, c, parts.0, parts.1, parts.2)
three-some first second third _ p h = absurd (no_some h)

pub register_number-some : (r : List ℕ) (n : ℕ) → register_number r ≡ Some n → IsRegister n
register_number-some r n h = IsRegister-register_number r (Some n) (sym h)

pub register_in-some : (ts : List Token) (n : ℕ) → register_in ts ≡ Some n → IsRegister n
register_in-some (name r ∷ []) n h = register_number-some r n h
register_in-some _ n h = absurd (no_some h)

pub address_in-some : (ts : List Token) (a : Address) → address_in ts ≡ Some a → IsRegister a.base
address_in-some ts a h = by_based (based_in ts) h where
  by_number : (offset : ℤ) (o : Option ℕ) (r : List ℕ) → register_number r ≡ o
      → option_map (λ base. record { offset = offset; base = base }) o ≡ Some a → IsRegister a.base
  by_number offset None r e h = absurd (no_some h)
  by_number offset (Some n) r e h = rw (← (ap (λ (x : Address). x.base) (same_Some _ _ h))) (register_number-some r n e)

  by_based : (o : Option Based)
      → option_and_then (λ b. option_map (λ base. record { offset = b.number; base = base }) (register_number b.base)) o ≡ Some a
      → IsRegister a.base
  by_based None h = absurd (no_some h)
  by_based (Some b) h = by_number b.number (register_number b.base) b.base refl h

pub immediate : (n : ℤ) → IsWithin (signed 12) n → IsImmediate n
immediate n h = (omega (arith, ints, h.0), omega (arith, ints, h.1))

pub magnitude : (m : ℕ) (n : ℤ) → IsWithin (up_to m) n → nat_abs n ≤ m
magnitude m (pos k) h = omega (arith, ints, h.1)
magnitude m (negsuc k) h = absurd (omega (arith, ints, h.0))

-- no fault is want of memory
pub if_ok-fault : {X Y : Type 0} (f : X → Y) (r : Result X LineError) → r ≢ Err NoMemory → if_ok f r ≢ Err NoMemory
if_ok-fault f (Ok x) other h = cc
if_ok-fault {X} f (Err e) other h = other (ap Err (same h)) where
  same : {Y : Type 0} → ◌≡◌ {A = Result Y LineError} (Err e) (Err NoMemory) → e ≡ NoMemory
  same h = cc

pub judged-fault : {X : Type 0} (fits : X → Bool) (o : Option X) → judged fits o ≢ Err NoMemory
judged-fault fits None h = cc
judged-fault {X} fits (Some x) h = by_test (cases_Bool (fits x)) where
  ok : ◌≡◌ {A = Result X LineError} (Ok x) (Err NoMemory) → ⊥
  ok h = cc

  out : ◌≡◌ {A = Result X LineError} (Err OutOfRange) (Err NoMemory) → ⊥
  out h = cc

  by_test : (fits x ≡ true) ⊎ (fits x ≡ false) → ⊥
  by_test (inl passes) = ok (rw passes at h)
  by_test (inr fails) = out (rw fails at h)
