-- A message is two calls, one behind the other.
use Rattle.std.proofs.Common.{◌++◌, ◌∙◌, [], ◌∷◌, List, ap, ap₂, sym, append_assoc}
use Rattle.bsp_requests.specs.Request.{asked}
use Rattle.bsp_exchange.specs.Exchange.{states}
use Rattle.exposed_bytes.specs.declared.call.Call.{Call}
use Rattle.exposed_runs.specs.Calls.{calls_of, send_call}
use Rattle.exposed_runs.proofs.calls.add_calls_of.Goals as goal

pub returns-in_ok-push-in-Send-2 : goal.returns-in_ok-push-in-Send-2
returns-in_ok-push-in-Send-2 g c =
    let nodes = states c.args.nodes.now in
    let n = c.args.node.now.node in
    let note = c.args.note.now in
    let all : List Call = c.args.all.now.items in
    let tag : Call = c.send_call.result in
    let payload : Call = c.send_call-in-Send.result in
    c.in_ok-push-in-Send-2.ensures.items
    ∙ ap (λ xs. xs ++ payload ∷ []) c.in_ok-push-in-Send.ensures.items
    ∙ append_assoc all (tag ∷ []) (payload ∷ [])
    ∙ ap₂ (λ (a b : Call). all ++ a ∷ b ∷ []) (c.send_call.ensures ∙ ap (send_call note note.a1) c.tag_size.ensures) c.send_call-in-Send.ensures
    ∙ ap (λ r. all ++ calls_of nodes n note (asked r)) (sym c.in-Send.is)
