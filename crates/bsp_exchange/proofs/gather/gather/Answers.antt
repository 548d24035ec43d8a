-- Without a mismatch, and with every request inside its area, the exchange has no fault; the parts and traffic are those of the
-- definitions.
use Rattle.std.proofs.Common.{◌≡◌, ℕ, ◌^◌, List, length, map, replicate, refl, ap, sym, ◌∙◌, arith}
use Rattle.std.proofs.lemmas.List.{length-map, length-replicate, with_items_is}
use Rattle.std.proofs.lemmas.List.Elements.{All-same, All-replicate}
use Rattle.std.specs.List.{range_with_len}
use Rattle.node_core.specs.Node.{PreparedNode}
use Rattle.bsp_exchange.specs.Exchange.{states}
use Rattle.bsp_exchange.specs.Issued.{issued}
use Rattle.bsp_exchange.specs.Loads.{IsWithin, greatest, no_load}
use Rattle.bsp_exchange.specs.Arrivals.{Received, nothing, received_at, with_issued}
use Rattle.bsp_exchange.proofs.Finds.{none_tested}
use Rattle.bsp_exchange.proofs.Gathered.{length-states, length-with_issued, whole}
use Rattle.bsp_exchange.proofs.Gathering.{gathered}
use Rattle.bsp_exchange.proofs.Refusals.{fault_of_requests}
use Rattle.bsp_exchange.proofs.Tallies.{traffic_is}
use Rattle.bsp_exchange.proofs.gather.gather.Goals as goal

pub add_all_requests-requires-clause-parts : goal.add_all_requests-requires-clause-parts
add_all_requests-requires-clause-parts g c =
    ap length (c.deref_mut.ensures.value ∙ c.in_ok-arrivals.ensures) ∙ length-replicate (length c.args.nodes.now) nothing

pub returns-clause-parts : goal.returns-clause-parts
returns-clause-parts g c =
    let nodes = states c.args.nodes.now in
    let parts = c.deref_mut.result.now in
    let new = c.in_ok-add_all_requests.ensures.ok in
    let same : length parts ≡ length c.add_all_requests.new.parts = sym (ap length new ∙ length-with_issued nodes parts (issued nodes)) in
    let states_are : length nodes ≡ length c.args.nodes.now = length-states c.args.nodes.now in
    let all = gathered nodes in
    whole c.in_ok-arrivals.arrivals.len c.add_all_requests.new.parts _ (sym c.deref_mut.ensures.len ∙ same)
    ∙ new
    ∙ ap (λ (ps : List Received). with_issued nodes ps (issued nodes))
    (c.deref_mut.ensures.value ∙ c.in_ok-arrivals.ensures ∙ ap (λ (n : ℕ). replicate n nothing) (sym states_are))
    ∙ all
    ∙ ap (λ (n : ℕ). map (received_at nodes) (range_with_len 0 n)) states_are

pub returns-clause-faultless : goal.returns-clause-faultless
returns-clause-faultless g c =
    sym (fault_of_requests (states c.args.nodes.now)
    (sym c.tag_mismatch.ensures ∙ none_tested c.tag_mismatch.result (sym c.is_some.ensures ∙ c.if-is_some.false))
    (sym c.slot_mismatch.ensures ∙ none_tested c.slot_mismatch.result (sym c.is_some-else-is_some.ensures ∙ c.if-is_some-2.false)))
    ∙ c.in_ok-add_all_requests.ensures.inside

pub add_all_requests-requires-clause-ranks : goal.add_all_requests-requires-clause-ranks
add_all_requests-requires-clause-ranks g c =
    ap length (c.deref_mut-2.ensures.value ∙ c.in_ok-loads.ensures) ∙ length-replicate (length c.args.nodes.now) no_load

pub add_all_requests-requires-clause-empty : goal.add_all_requests-requires-clause-empty
add_all_requests-requires-clause-empty g c =
    All-same (λ l. l ≡ no_load) c.deref_mut-2.result.now (replicate (length c.args.nodes.now) no_load)
    (c.deref_mut-2.ensures.value ∙ c.in_ok-loads.ensures)
    (All-replicate (λ l. l ≡ no_load) (length c.args.nodes.now) no_load refl)

pub greatest-traffic-requires : goal.greatest-traffic-requires
greatest-traffic-requires g c =
    let written = c.deref.ensures.value ∙ with_items_is c.in_ok-loads.loads c.add_all_requests.new.loads (omega arith) in
    All-same (IsWithin (2 ^ 47)) c.deref.result.now c.add_all_requests.new.loads written c.in_ok-add_all_requests.ensures.bounded

pub returns-clause-traffic : goal.returns-clause-traffic
returns-clause-traffic g c =
    let ps = c.args.nodes.now in
    let written = c.deref.ensures.value ∙ with_items_is c.in_ok-loads.loads c.add_all_requests.new.loads (omega arith) in
    let start = c.deref_mut-2.ensures.value ∙ c.in_ok-loads.ensures in
    let empty =
    All-same (λ l. l ≡ no_load) c.deref_mut-2.result.now (replicate (length ps) no_load) start
    (All-replicate (λ l. l ≡ no_load) (length ps) no_load refl) in
    let long = length-map ps (λ (p : PreparedNode). p.node) ∙ sym (ap length start ∙ length-replicate (length ps) no_load) in
    c.greatest-traffic.ensures
    ∙ ap greatest (written ∙ c.in_ok-add_all_requests.ensures.loads)
    ∙ traffic_is c.deref_mut-2.result.now (states ps) empty c.requires.row long
