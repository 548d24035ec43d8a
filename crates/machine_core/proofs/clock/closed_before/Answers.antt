-- The first clock of the row is that of the node at place 0, and a row without nodes has none.
use Rattle.std.proofs.Common.{Option, sym, ap, ◌∙◌}
use Rattle.std.specs.Option.{option_map_or}
use Rattle.node_core.specs.declared.clock.Clock.{Clock}
use Rattle.machine_core.proofs.Clocks.{first_closed-none, first_closed-at, some_nodes}
use Rattle.machine_core.proofs.clock.closed_before.Goals as goal

pub returns-then-is_empty : goal.returns-then-is_empty
returns-then-is_empty g c =
    first_closed-none c.args.nodes.now (sym c.is_empty.ensures ∙ c.if-is_empty.true)

pub returns-in-Some : goal.returns-in-Some
returns-in-Some g c =
    let some = some_nodes c.args.nodes.now (sym c.is_empty.ensures ∙ c.if-is_empty.false) in
    sym (first_closed-at c.args.nodes.now c.index-nodes-0.result some c.index-nodes-0.is
    ∙ ap (λ (o : Option Clock). option_map_or (λ (k : Clock). k.closed) o 0) (sym c.clock.ensures ∙ c.in-Some.is))

pub returns-in-None : goal.returns-in-None
returns-in-None g c =
    let some = some_nodes c.args.nodes.now (sym c.is_empty.ensures ∙ c.if-is_empty.false) in
    sym (first_closed-at c.args.nodes.now c.index-nodes-0.result some c.index-nodes-0.is
    ∙ ap (λ (o : Option Clock). option_map_or (λ (k : Clock). k.closed) o 0) (sym c.clock.ensures ∙ c.in-None.is))
