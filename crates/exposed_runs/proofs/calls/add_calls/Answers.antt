-- The requests of a node keep to their areas, as all do. Of a rank that is not there no request is.
use Rattle.std.proofs.Common.{◌≡◌, ◌++◌, ◌∙◌, [], None, Option, ap, sym, append-nil}
use Rattle.std.specs.Prelude.{option_copied, option_map, slice_get}
use Rattle.std.specs.Option.{option_map_or}
use Rattle.node_core.specs.Node.{NodeState, PreparedNode}
use Rattle.bsp_exchange.specs.Exchange.{states}
use Rattle.exposed_runs.specs.Calls.{calls_of_node}
use Rattle.exposed_runs.proofs.Inside.{inside-at}
use Rattle.exposed_runs.proofs.calls.add_calls.Goals as goal

pub add_calls_of_node-requires : goal.add_calls_of_node-requires
add_calls_of_node-requires g c = record {
  inside = λ request is.
      inside-at (states c.args.nodes.now) c.args.note.now.caller c.args.note.now.issue c.in-Some.node.now.node request c.requires.inside
      (sym c.node_at.ensures ∙ ap (λ o. option_map (λ (p : PreparedNode). p.node) (option_copied o)) c.in-Some.is) is;
}

pub returns-in-None : goal.returns-in-None
returns-in-None g c =
    let nodes = states c.args.nodes.now in
    let note = c.args.note.now in
    let all = c.args.all.now.items in
    let none : slice_get nodes note.caller ≡ None =
    sym c.node_at.ensures ∙ ap (λ o. option_map (λ (p : PreparedNode). p.node) (option_copied o)) c.in-None.is in
    sym (ap (λ (o : Option NodeState). all ++ option_map_or (calls_of_node nodes note) o []) none ∙ append-nil all)
