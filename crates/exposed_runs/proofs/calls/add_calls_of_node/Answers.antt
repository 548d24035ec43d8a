-- A note is of the request with its number, if that is there.
use Rattle.std.proofs.Common.{◌≡◌, ◌++◌, ◌∙◌, [], Some, None, Option, ap, sym, append-nil}
use Rattle.std.specs.Prelude.{option_copied, option_map, slice_get}
use Rattle.std.specs.Option.{option_map_or}
use Rattle.bsp_requests.specs.Request.{Asked, asked}
use Rattle.bsp_requests.specs.Requests.{Requests}
use Rattle.bsp_exchange.specs.Exchange.{states}
use Rattle.exposed_runs.specs.Calls.{calls_of}
use Rattle.exposed_runs.proofs.calls.add_calls_of_node.Goals as goal

pub add_calls_of-requires : goal.add_calls_of-requires
add_calls_of-requires g c =
    let n = c.args.node.now.node in
    let issue = c.args.note.now.issue in
    let lent = ap (λ (q : Requests). slice_get q.requests issue) c.requests.ensures.value in
    record {
      inside =
          c.requires.inside (asked c.in-Some.request.now)
          (sym lent ∙ sym c.at.ensures ∙ ap (λ o. option_map asked (option_copied o)) c.in-Some.is);
    }

pub returns-in-None : goal.returns-in-None
returns-in-None g c =
    let nodes = states c.args.nodes.now in
    let n = c.args.node.now.node in
    let note = c.args.note.now in
    let all = c.args.all.now.items in
    let lent = ap (λ (q : Requests). slice_get q.requests note.issue) c.requests.ensures.value in
    let none : slice_get n.hart.communication.requests.requests note.issue ≡ None =
    sym lent ∙ sym c.at.ensures ∙ ap (λ o. option_map asked (option_copied o)) c.in-None.is in
    sym (ap (λ (o : Option Asked). all ++ option_map_or (calls_of nodes n note) o []) none ∙ append-nil all)
