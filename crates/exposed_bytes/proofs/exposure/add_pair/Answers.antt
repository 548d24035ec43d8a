-- The range is whole, and its calls are these two; where there is none they expose nothing.
use Rattle.std.proofs.Common.{ℕ, sym, subst}
use Rattle.std.specs.Prelude.{Contains}
use Rattle.exposed_bytes.specs.Exposed.{Exposes}
use Rattle.exposed_bytes.proofs.exposure.add_pair.Goals as goal

pub returns-in_ok-add_exposure-clause-adds : goal.returns-in_ok-add_exposure-clause-adds
returns-in_ok-add_exposure-clause-adds g c = λ readers writers first second.
    let added = c.in_ok-add_exposure.ensures in
    let is = c.in-Some.ensures in
    record {
      keeps = added.keeps;
      sound = λ calls of_readers of_writers all. added.sound calls (record {
        reader = subst (Contains calls) (sym is.1) (of_readers c.args.reader.now first);
        writer = subst (Contains calls) (sym is.2) (of_writers c.args.writer.now second);
        whole = is.0;
      }) all;
      once = added.once;
    }

pub returns-in_default-clause-told : goal.returns-in_default-clause-told
returns-in_default-clause-told g c = λ rank addr exposes.
    let none : (rank addr : ℕ) → Exposes rank addr c.args.reader.now c.args.writer.now → ⊥ = rw c.in_default.is at c.exposed_by.ensures in
    absurd (none rank addr exposes)
