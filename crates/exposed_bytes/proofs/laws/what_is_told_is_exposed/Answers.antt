-- The bytes of a range are what its two calls expose; and calls with places of their own are known by these.
use Rattle.std.proofs.Common.{◌≡◌, sym, subst, arith}
use Rattle.std.proofs.lemmas.List.Elements.{All-contains}
use Rattle.exposed_bytes.specs.declared.call.Call.{Call}
use Rattle.exposed_bytes.specs.Exposed.{Exposes}
use Rattle.exposed_bytes.specs.Found.{IsOf}
use Rattle.exposed_bytes.proofs.laws.what_is_told_is_exposed.Goals as goal

pub returns-clause-exposed : goal.returns-clause-exposed
returns-clause-exposed c = λ calls found rank addr are is.
    let of = All-contains (IsOf calls) found is.0 are.sound is.1 in
    (is.0.reader, is.0.writer, of.reader, of.writer, (of.whole.exact rank addr).0 is.2)

pub returns-clause-none : goal.returns-clause-none
returns-clause-none c = λ calls rank addr are is.
    let told = are.told is.0 is.1 rank addr is.2 is.3 is.4 in
    omega (arith, told.1.1)

pub returns-clause-all : goal.returns-clause-all
returns-clause-all c = λ calls found rank addr own are is.
    let told = are.told is.0 is.1 rank addr is.2 is.3 is.4 in
    let e = told.0 in
    let of = All-contains (IsOf calls) found e are.sound told.1 in
    let reader : is.0 ≡ e.reader = own is.0 e.reader is.2 of.reader (sym told.2) in
    let writer : is.1 ≡ e.writer = own is.1 e.writer is.3 of.writer (sym told.3) in (
      e,
      told.1,
      (of.whole.exact rank addr).1
          (subst (λ (b : Call). Exposes rank addr e.reader b) writer (subst (λ (a : Call). Exposes rank addr a is.1) reader is.4)),
    )
