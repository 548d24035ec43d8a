-- Where the writer is not unbuffered, the reader is.
use Rattle.std.proofs.Common.{not, inl, inr, subst}
use Rattle.std.specs.Prelude.{IsTrue, if◌then◌else◌}
use Rattle.std.proofs.lemmas.Bool.{cases_Bool}
use Rattle.exposed_bytes.specs.Exposed.{is_unbuffered, reads_before}
use Rattle.exposed_bytes.proofs.laws.unbuffered_calls_alone_expose.Goals as goal

pub returns : goal.returns
returns c = λ calls rank addr is. elim (cases_Bool (is_unbuffered is.1.sort)) [
  | inl free ↦ (is.1, is.3, free)
  | inr bound ↦ (
    is.0,
    is.2,
    subst (λ b. IsTrue (if b then not (reads_before is.0 is.1) else is_unbuffered is.0.sort)) bound is.4.free,
  )
]
