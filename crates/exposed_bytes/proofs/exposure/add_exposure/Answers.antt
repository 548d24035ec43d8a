-- A range more, which is of two calls, comes behind ranges that are.
use Rattle.std.proofs.Common.{sym, subst}
use Rattle.std.specs.Prelude.{All}
use Rattle.std.proofs.lemmas.List.Elements.{All-push}
use Rattle.exposed_bytes.specs.Found.{IsOf}
use Rattle.exposed_bytes.proofs.exposure.add_exposure.Goals as goal

pub returns-in_ok-push-clause-sound : goal.returns-in_ok-push-clause-sound
returns-in_ok-push-clause-sound g c = λ calls is all.
    subst (All (IsOf calls)) (sym c.in_ok-push.ensures.items) (All-push (IsOf calls) c.args.found.now.items c.args.range all is)
