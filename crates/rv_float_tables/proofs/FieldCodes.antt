-- The codes of rounding modes and CSRs, both ways.
use Rattle.std.proofs.Common.{◌≡◌, ℕ, ◌==◌, if◌then◌else◌, Option, Some, refl, sym, ap, ◌∙◌, inl, inr}
use Rattle.std.proofs.lemmas.Option.{same_Some}
use Rattle.std.proofs.lemmas.Bool.{cases_eq, eq-eqb, ne_eqb}
use Rattle.rv_float_tables.specs.declared.instr.RoundingField.{RoundingField}
use Rattle.rv_float_tables.specs.declared.instr.RoundingField.TheVariants.{Rne, Rtz, Rdn, Rup, Rmm, Dyn}
use Rattle.rv_float_tables.specs.declared.instr.FloatCsr.{FloatCsr}
use Rattle.rv_float_tables.specs.declared.instr.FloatCsr.TheVariants.{Fflags, Frm, Fcsr}
use Rattle.rv_float_tables.specs.Fields.{rounding_code, rounding_of, csr_number, csr_of}

-- a test of a chain that looks a number up: it is the number, and what is found there, or the search goes on
code-from_found : {V : Type 0} (n k : ℕ) (code : V → ℕ) (v w : V) (rest : Option V) → code v ≡ k → (rest ≡ Some w → n ≡ code w)
    → (if n == k then Some v else rest) ≡ Some w → n ≡ code w
code-from_found n k code v w rest is_code otherwise h =
    elim (cases_eq n k) [
      | inl e ↦ let here : Some v ≡ Some w = rw (eq-eqb n k e) at h in e ∙ sym is_code ∙ ap code (same_Some v w here)
      | inr ne ↦ otherwise (rw (ne_eqb n k ne) at h)
    ]

pub rounding_of-code : (r : RoundingField) → rounding_of (rounding_code r) ≡ Some r
rounding_of-code Rne = refl
rounding_of-code Rtz = refl
rounding_of-code Rdn = refl
rounding_of-code Rup = refl
rounding_of-code Rmm = refl
rounding_of-code Dyn = refl

pub csr_of-number : (c : FloatCsr) → csr_of (csr_number c) ≡ Some c
csr_of-number Fflags = refl
csr_of-number Frm = refl
csr_of-number Fcsr = refl

pub rounding_code-from_of : (n : ℕ) (r : RoundingField) → rounding_of n ≡ Some r → n ≡ rounding_code r
rounding_code-from_of n r h =
    code-from_found n 0 rounding_code Rne r _ refl
    (code-from_found n 1 rounding_code Rtz r _ refl
    (code-from_found n 2 rounding_code Rdn r _ refl
    (code-from_found n 3 rounding_code Rup r _ refl
    (code-from_found n 4 rounding_code Rmm r _ refl (code-from_found n 7 rounding_code Dyn r _ refl (λ e. cc)))))) h

pub csr_number-from_of : (n : ℕ) (c : FloatCsr) → csr_of n ≡ Some c → n ≡ csr_number c
csr_number-from_of n c h =
    code-from_found n 1 csr_number Fflags c _ refl
    (code-from_found n 2 csr_number Frm c _ refl (code-from_found n 3 csr_number Fcsr c _ refl (λ e. cc))) h
