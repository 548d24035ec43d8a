-- What was gathered without a fault makes parts that keep to their limits, and these are the parts of the definition, for which nodes can
-- be prepared.
use Rattle.std.proofs.Common.{List, sym, subst, ◌∙◌}
use Rattle.std.specs.List.{AllZip}
use Rattle.bsp_exchange.specs.Exchange.{states}
use Rattle.bsp_exchange.specs.Parts.{CanExchange, CanPrepare, PartState}
use Rattle.bsp_exchange.proofs.Planned.{bounded_planned, bytes_planned, can_prepare_each, few_planned, parts_planned, queues_planned}
use Rattle.bsp_exchange.specs.Faults.{exchange_fault}
use Rattle.bsp_exchange.proofs.Refusals.{NamesFault-told}
use Rattle.bsp_exchange.proofs.planning.draft.Goals as goal

pub returns-in_default-clause-fault : goal.returns-in_default-clause-fault
returns-in_default-clause-fault g c fault =
    NamesFault-told c.refusal.result (exchange_fault (states c.args.nodes.now)) c.refusal.ensures fault

pub parts_from-requires-clause-few : goal.parts_from-requires-clause-few
parts_from-requires-clause-few g c =
    few_planned c.args.nodes.now c.in-Ok.field-0.arrivals.items
    (record { row = c.requires; faultless = c.in-Ok.ensures.faultless; sound = c.in-Ok.ensures.sound }) c.in-Ok.ensures.parts

pub parts_from-requires-clause-queues : goal.parts_from-requires-clause-queues
parts_from-requires-clause-queues g c =
    queues_planned c.args.nodes.now c.in-Ok.field-0.arrivals.items
    (record { row = c.requires; faultless = c.in-Ok.ensures.faultless; sound = c.in-Ok.ensures.sound }) c.in-Ok.ensures.parts

pub parts_from-requires-clause-bytes : goal.parts_from-requires-clause-bytes
parts_from-requires-clause-bytes g c =
    bytes_planned c.args.nodes.now c.in-Ok.field-0.arrivals.items
    (record { row = c.requires; faultless = c.in-Ok.ensures.faultless; sound = c.in-Ok.ensures.sound }) c.in-Ok.ensures.parts

pub returns-clause-parts : goal.returns-clause-parts
returns-clause-parts g c = c.in_ok-parts.ensures ∙ parts_planned c.args.nodes.now c.in-Ok.field-0.arrivals.items c.in-Ok.ensures.parts

pub returns-clause-exchanges : goal.returns-clause-exchanges
returns-clause-exchanges g c = record { row = c.requires; faultless = c.in-Ok.ensures.faultless; sound = c.in-Ok.ensures.sound }

pub returns-clause-ready : goal.returns-clause-ready
returns-clause-ready g c =
    let nodes = states c.args.nodes.now in
    let can : CanExchange nodes = record { row = c.requires; faultless = c.in-Ok.ensures.faultless; sound = c.in-Ok.ensures.sound } in
    let parts = c.in_ok-parts.ensures ∙ parts_planned c.args.nodes.now c.in-Ok.field-0.arrivals.items c.in-Ok.ensures.parts in
    subst (λ (ps : List PartState). AllZip CanPrepare ps nodes) (sym parts) (can_prepare_each nodes can)

pub returns-clause-traffic : goal.returns-clause-traffic
returns-clause-traffic g c = c.in-Ok.ensures.traffic

pub returns-clause-bounded : goal.returns-clause-bounded
returns-clause-bounded g c =
    let can : CanExchange (states c.args.nodes.now) =
    record { row = c.requires; faultless = c.in-Ok.ensures.faultless; sound = c.in-Ok.ensures.sound } in
    bounded_planned (states c.args.nodes.now) c.in-Ok.field-0.traffic can c.in-Ok.ensures.traffic
