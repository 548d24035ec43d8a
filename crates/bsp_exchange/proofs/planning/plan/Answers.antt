-- The drafted parts can land when all nodes are prepared; if a step is refused, the nodes' states are as they were, and the error is handed
-- on.
use Rattle.std.proofs.Common.{◌≡◌, refl}
use Rattle.std.proofs.lemmas.Result.{IfOk-from_err, err_from_is_err_and}
use Rattle.bsp_exchange.specs.Exchange.{states}
use Rattle.bsp_exchange.specs.Faults.{exchange_fault}
use Rattle.bsp_exchange.proofs.KeepsPrivate.{EachKeepsPrivate-same}
use Rattle.bsp_exchange.proofs.Refusals.{NamesFault-handed, NamesFault-refused}
use Rattle.bsp_exchange.proofs.planning.plan.Goals as goal

pub returns-in_err-drafted-clause-private : goal.returns-in_err-drafted-clause-private
returns-in_err-drafted-clause-private g c = EachKeepsPrivate-same c.args.nodes.now

pub returns-in_err-drafted-clause-fault : goal.returns-in_err-drafted-clause-fault
returns-in_err-drafted-clause-fault g c f =
    let refused = err_from_is_err_and c.from_residual.result c.from_residual.ensures.1 in
    let same : refused.0 ≡ c.in_err-drafted.field-0.0 = refused.2 in
    rw refused.1
    (rw same (NamesFault-handed c.in_err-drafted.field-0.0 (exchange_fault (states c.args.nodes.now)) c.in_err-drafted.ensures.fault f))

pub prepare_all-requires : goal.prepare_all-requires
prepare_all-requires g c = rw c.deref.ensures.value c.in_ok-drafted.ensures.ready

pub returns-in_err-drafted-clause-same : goal.returns-in_err-drafted-clause-same
returns-in_err-drafted-clause-same g c = refl

pub returns-in_err-drafted-clause-parts : goal.returns-in_err-drafted-clause-parts
returns-in_err-drafted-clause-parts g c = IfOk-from_err c.from_residual.result _ c.from_residual.ensures.0

pub returns-in_err-drafted-clause-prepared : goal.returns-in_err-drafted-clause-prepared
returns-in_err-drafted-clause-prepared g c = IfOk-from_err c.from_residual.result _ c.from_residual.ensures.0

pub returns-in_err-drafted-clause-exchanges : goal.returns-in_err-drafted-clause-exchanges
returns-in_err-drafted-clause-exchanges g c = IfOk-from_err c.from_residual.result _ c.from_residual.ensures.0

pub returns-in_err-drafted-clause-traffic : goal.returns-in_err-drafted-clause-traffic
returns-in_err-drafted-clause-traffic g c = IfOk-from_err c.from_residual.result _ c.from_residual.ensures.0

pub returns-in_err-drafted-clause-bounded : goal.returns-in_err-drafted-clause-bounded
returns-in_err-drafted-clause-bounded g c = IfOk-from_err c.from_residual.result _ c.from_residual.ensures.0

pub returns-in_err-prepare_all-clause-same : goal.returns-in_err-prepare_all-clause-same
returns-in_err-prepare_all-clause-same g c = c.in_err-prepare_all.ensures.same

pub returns-in_err-prepare_all-clause-private : goal.returns-in_err-prepare_all-clause-private
returns-in_err-prepare_all-clause-private g c = c.in_err-prepare_all.ensures.private

pub returns-in_err-prepare_all-clause-parts : goal.returns-in_err-prepare_all-clause-parts
returns-in_err-prepare_all-clause-parts g c =
    IfOk-from_err c.from_residual-in_err-prepare_all.result _ c.from_residual-in_err-prepare_all.ensures.0

pub returns-in_err-prepare_all-clause-prepared : goal.returns-in_err-prepare_all-clause-prepared
returns-in_err-prepare_all-clause-prepared g c =
    IfOk-from_err c.from_residual-in_err-prepare_all.result _ c.from_residual-in_err-prepare_all.ensures.0

pub returns-in_err-prepare_all-clause-exchanges : goal.returns-in_err-prepare_all-clause-exchanges
returns-in_err-prepare_all-clause-exchanges g c =
    IfOk-from_err c.from_residual-in_err-prepare_all.result _ c.from_residual-in_err-prepare_all.ensures.0

pub returns-in_err-prepare_all-clause-traffic : goal.returns-in_err-prepare_all-clause-traffic
returns-in_err-prepare_all-clause-traffic g c =
    IfOk-from_err c.from_residual-in_err-prepare_all.result _ c.from_residual-in_err-prepare_all.ensures.0

pub returns-in_err-prepare_all-clause-bounded : goal.returns-in_err-prepare_all-clause-bounded
returns-in_err-prepare_all-clause-bounded g c =
    IfOk-from_err c.from_residual-in_err-prepare_all.result _ c.from_residual-in_err-prepare_all.ensures.0

pub returns-in_err-prepare_all-clause-fault : goal.returns-in_err-prepare_all-clause-fault
returns-in_err-prepare_all-clause-fault g c =
    NamesFault-refused c.from_residual-in_err-prepare_all.result (exchange_fault (states c.args.nodes.now))
    c.from_residual-in_err-prepare_all.ensures.1 c.in_ok-drafted.ensures.exchanges.faultless

pub returns-clause-same : goal.returns-clause-same
returns-clause-same g c = c.in_ok-prepare_all.ensures.same

pub returns-clause-private : goal.returns-clause-private
returns-clause-private g c = c.in_ok-prepare_all.ensures.private

pub returns-clause-prepared : goal.returns-clause-prepared
returns-clause-prepared g c = rw c.deref.ensures.value at c.in_ok-prepare_all.ensures.ok

pub returns-clause-parts : goal.returns-clause-parts
returns-clause-parts g c = c.in_ok-drafted.ensures.parts

pub returns-clause-exchanges : goal.returns-clause-exchanges
returns-clause-exchanges g c = c.in_ok-drafted.ensures.exchanges

pub returns-clause-traffic : goal.returns-clause-traffic
returns-clause-traffic g c = c.in_ok-drafted.ensures.traffic

pub returns-clause-bounded : goal.returns-clause-bounded
returns-clause-bounded g c = c.in_ok-drafted.ensures.bounded

pub returns-clause-fault : goal.returns-clause-fault
returns-clause-fault g c = c.in_ok-drafted.ensures.fault
