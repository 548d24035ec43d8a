-- When the parts of the plan have landed, the row is the one after the exchange; if the plan is refused, so is the exchange, for the same
-- reason.
use Rattle.std.proofs.Common.{◌≡◌, List, ap₂, ◌∙◌, rules}
use Rattle.std.proofs.lemmas.Result.{IfOk-from_err, err_from_is_err_and}
use Rattle.node_core.specs.Node.{NodeState}
use Rattle.bsp_exchange.specs.Exchange.{states}
use Rattle.bsp_exchange.specs.Parts.{PartState, landed}
use Rattle.bsp_exchange.proofs.KeepsPrivate.{EachKeepsPrivate-then}
use Rattle.bsp_exchange.specs.Faults.{exchange_fault}
use Rattle.bsp_exchange.proofs.Refusals.{NamesFault-handed, NamesFault-made}
use Rattle.bsp_exchange.proofs.PartOrder.{landed_whole}
use Rattle.bsp_exchange.proofs.barrier.exchange.Goals as goal

pub returns-in_err-traffic-clause-fault : goal.returns-in_err-traffic-clause-fault
returns-in_err-traffic-clause-fault g c f =
    let refused = err_from_is_err_and c.from_residual.result c.from_residual.ensures.1 in
    let same : refused.0 ≡ c.in_err-traffic.field-0.0 = refused.2 in
    rw refused.1
    (rw same (NamesFault-handed c.in_err-traffic.field-0.0 (exchange_fault (states c.args.nodes.now)) c.in_err-traffic.ensures.fault f))

pub returns-clause-ok : goal.returns-clause-ok
returns-clause-ok g c =
    c.land_all.ensures.nodes
    ∙ ap₂ (λ (parts : List PartState) (nodes : List NodeState). landed parts nodes)
    (c.deref_mut.ensures.value ∙ c.in_ok-traffic.ensures.parts) c.in_ok-traffic.ensures.same
    ∙ landed_whole (states c.args.nodes.now) c.in_ok-traffic.ensures.exchanges

pub returns-clause-private : goal.returns-clause-private
returns-clause-private g c =
    EachKeepsPrivate-then c.args.nodes.now c.plan.new.nodes c.land_all.new.nodes c.in_ok-traffic.ensures.private c.land_all.ensures.private

pub returns-clause-err : goal.returns-clause-err
returns-clause-err g c = search rules

pub returns-in_err-traffic-clause-ok : goal.returns-in_err-traffic-clause-ok
returns-in_err-traffic-clause-ok g c = IfOk-from_err c.from_residual.result _ c.from_residual.ensures.0

pub returns-in_err-traffic-clause-unready : goal.returns-in_err-traffic-clause-unready
returns-in_err-traffic-clause-unready g c = IfOk-from_err c.from_residual.result _ c.from_residual.ensures.0

pub returns-in_err-traffic-clause-traffic : goal.returns-in_err-traffic-clause-traffic
returns-in_err-traffic-clause-traffic g c = IfOk-from_err c.from_residual.result _ c.from_residual.ensures.0

pub returns-in_err-traffic-clause-bounded : goal.returns-in_err-traffic-clause-bounded
returns-in_err-traffic-clause-bounded g c = IfOk-from_err c.from_residual.result _ c.from_residual.ensures.0

pub returns-in_err-traffic-clause-private : goal.returns-in_err-traffic-clause-private
returns-in_err-traffic-clause-private g c = c.in_err-traffic.ensures.private

pub land_all-requires : goal.land_all-requires
land_all-requires g c = rw c.deref_mut.ensures.value c.in_ok-traffic.ensures.prepared

pub returns-clause-unready : goal.returns-clause-unready
returns-clause-unready g c = c.land_all.ensures.unready

pub returns-clause-traffic : goal.returns-clause-traffic
returns-clause-traffic g c = c.in_ok-traffic.ensures.traffic

pub returns-clause-bounded : goal.returns-clause-bounded
returns-clause-bounded g c = c.in_ok-traffic.ensures.bounded

pub returns-clause-fault : goal.returns-clause-fault
returns-clause-fault g c = NamesFault-made _ (exchange_fault (states c.args.nodes.now)) c.in_ok-traffic.ensures.exchanges.faultless
