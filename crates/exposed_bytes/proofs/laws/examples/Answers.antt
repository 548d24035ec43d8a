-- Of one or two calls each is known, and so is what it reads and writes.
use Rattle.std.proofs.Common.{◌≡◌, ℕ, ◌⊎◌, inl, inr, zero, suc, false, [], ◌∷◌, refl, sym, subst, arith}
use Rattle.std.specs.Prelude.{Contains}
use Rattle.std.proofs.lemmas.Bool.{both_ways}
use Rattle.exposed_bytes.specs.declared.call.Call.{Call}
use Rattle.exposed_bytes.specs.Examples.{get_by_0, hpget_by_0, put_by_2, moved_by_0, kept_by_0, put_by_0, later_by_0, send_by_0, put_to_0}
use Rattle.exposed_bytes.specs.Exposed.{Exposes, IsExposed}
use Rattle.exposed_bytes.proofs.laws.examples.Goals as goal

only : (x c : Call) → Contains (x ∷ []) c → x ≡ c
only x c (zero, within, is) = is
only x c (suc k, within, is) = absurd (omega (arith, within))

one-of : (x y c : Call) → Contains (x ∷ y ∷ []) c → (x ≡ c) ⊎ (y ≡ c)
one-of x y c (zero, within, is) = inl is
one-of x y c (suc zero, within, is) = inr is
one-of x y c (suc (suc k), within, is) = absurd (omega (arith, within))

-- what none of the four pairs of two calls exposes
none-of : (x y : Call) (rank addr : ℕ) → (Exposes rank addr x x → ⊥) → (Exposes rank addr x y → ⊥) → (Exposes rank addr y x → ⊥)
    → (Exposes rank addr y y → ⊥) → IsExposed (x ∷ y ∷ []) rank addr → ⊥
none-of x y rank addr xx xy yx yy is =
    let first = one-of x y is.0 is.2 in
    let second = one-of x y is.1 is.3 in
    elim first [
      | inl a ↦
          let exposes = subst (λ (r : Call). Exposes rank addr r is.1) (sym a) is.4 in
          elim second
          [ inl b ↦ xx (subst (Exposes rank addr x) (sym b) exposes) | inr b ↦ xy (subst (Exposes rank addr x) (sym b) exposes) ]
      | inr a ↦
          let exposes = subst (λ (r : Call). Exposes rank addr r is.1) (sym a) is.4 in
          elim second
          [ inl b ↦ yx (subst (Exposes rank addr y) (sym b) exposes) | inr b ↦ yy (subst (Exposes rank addr y) (sym b) exposes) ]
    ]

pub returns-clause-get_and_put : goal.returns-clause-get_and_put
returns-clause-get_and_put c = λ rank addr is. none-of get_by_0 put_by_2 rank addr (λ e. both_ways false refl e.free)
    (λ e. both_ways false refl e.free) (λ e. both_ways false refl e.free) (λ e. both_ways false refl e.free) is

pub returns-clause-hpget_and_put : goal.returns-clause-hpget_and_put
returns-clause-hpget_and_put c = (
  hpget_by_0,
  put_by_2,
  (0, omega arith, refl),
  (1, omega arith, refl),
  record {
    read = record { there = refl; from = omega arith; to = omega arith };
    written = record { changes = refl; there = refl; from = omega arith; to = omega arith };
    free = refl;
  },
)

pub returns-clause-a_byte_further : goal.returns-clause-a_byte_further
returns-clause-a_byte_further c = λ rank addr. (
  λ is.
      let reader = only moved_by_0 is.0 is.2 in
      let writer = only moved_by_0 is.1 is.3 in
      let e : Exposes rank addr moved_by_0 moved_by_0 =
      subst (Exposes rank addr moved_by_0) (sym writer) (subst (λ (r : Call). Exposes rank addr r is.1) (sym reader) is.4) in
      (sym e.read.there, e.written.from, e.read.to),
  λ at. (
    moved_by_0,
    moved_by_0,
    (0, omega arith, refl),
    (0, omega arith, refl),
    record {
      read = record { there = sym at.0; from = omega arith; to = at.2 };
      written = record { changes = refl; there = sym at.0; from = at.1; to = omega (arith, at.2) };
      free = refl;
    },
  ),
)

pub returns-clause-in_place : goal.returns-clause-in_place
returns-clause-in_place c = λ rank addr is.
    let writer = only kept_by_0 is.1 is.3 in
    let e = subst (Exposes rank addr is.0) (sym writer) is.4 in
    both_ways false refl e.written.changes

pub returns-clause-earlier_put : goal.returns-clause-earlier_put
returns-clause-earlier_put c = λ rank addr is. none-of put_by_0 hpget_by_0 rank addr
    (λ e. both_ways false refl e.free)
    (λ e. both_ways false refl e.free)
    (λ e. omega (arith, e.read.there, e.written.there))
    (λ e. omega (arith, e.read.there, e.written.there))
    is

pub returns-clause-later_put : goal.returns-clause-later_put
returns-clause-later_put c = (
  later_by_0,
  hpget_by_0,
  (0, omega arith, refl),
  (1, omega arith, refl),
  record {
    read = record { there = refl; from = omega arith; to = omega arith };
    written = record { changes = refl; there = refl; from = omega arith; to = omega arith };
    free = refl;
  },
)

pub returns-clause-message : goal.returns-clause-message
returns-clause-message c = (
  send_by_0,
  put_to_0,
  (0, omega arith, refl),
  (1, omega arith, refl),
  record {
    read = record { there = refl; from = omega arith; to = omega arith };
    written = record { changes = refl; there = refl; from = omega arith; to = omega arith };
    free = refl;
  },
)
