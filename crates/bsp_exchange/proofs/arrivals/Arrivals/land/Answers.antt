-- The four lists lie in pages that the node owns, and landing them one after another lands all gets and then all puts.
use Rattle.std.proofs.Common.{◌≡◌, ◌++◌, ℕ, List, Vec, false, sym, subst, ap, ◌∙◌}
use Rattle.bsp_requests.specs.Message.{Message}
use Rattle.node_core.specs.Hart.{with_memory}
use Rattle.node_core.specs.Node.{PreparedNode}
use Rattle.node_core.specs.Turn.{next_superstep}
use Rattle.bsp_exchange.specs.Arrivals.{Received, with_arrivals}
use Rattle.bsp_exchange.specs.Parts.{Patch, OwnsEach, laid, with_patches}
use Rattle.bsp_exchange.proofs.Landed.{laid-append}
use Rattle.bsp_exchange.proofs.Planned.{owns_first, owns_second}
use Rattle.bsp_exchange.proofs.arrivals.Arrivals.land.Goals as goal

pub land-requires-clause-private : goal.land-requires-clause-private
land-requires-clause-private g c =
    let part = c.self.inside in
    let private = c.args.node.now.private in
    let owns = subst (λ (r : Received). OwnsEach private r.gets) (sym c.self.view_is) c.requires.prepared.gets in
    owns_first private part.small_gets part.gets owns

pub land-requires-2-clause-private : goal.land-requires-2-clause-private
land-requires-2-clause-private g c =
    let part = c.self.inside in
    let private = c.args.node.now.private in
    let owns = subst (λ (r : Received). OwnsEach private r.gets) (sym c.self.view_is) c.requires.prepared.gets in
    rw (ap (λ (p : PreparedNode). p.private) c.land.ensures) (owns_second private part.small_gets part.gets owns)

pub land-requires-3-clause-private : goal.land-requires-3-clause-private
land-requires-3-clause-private g c =
    let part = c.self.inside in
    let private = c.args.node.now.private in
    let owns = subst (λ (r : Received). OwnsEach private r.puts) (sym c.self.view_is) c.requires.prepared.puts in
    rw (ap (λ (p : PreparedNode). p.private) c.land-2.ensures ∙ ap (λ (p : PreparedNode). p.private) c.land.ensures)
    (owns_first private part.small_puts part.puts owns)

pub land-requires-4-clause-private : goal.land-requires-4-clause-private
land-requires-4-clause-private g c =
    let part = c.self.inside in
    let private = c.args.node.now.private in
    let owns = subst (λ (r : Received). OwnsEach private r.puts) (sym c.self.view_is) c.requires.prepared.puts in
    let same =
    ap (λ (p : PreparedNode). p.private) c.land-3.ensures
    ∙ ap (λ (p : PreparedNode). p.private) c.land-2.ensures
    ∙ ap (λ (p : PreparedNode). p.private) c.land.ensures in
    rw same (owns_second private part.small_puts part.puts owns)

pub returns-clause-node : goal.returns-clause-node
returns-clause-node g c =
    let part = c.self.inside in
    let start = c.args.node.now in
    let n = start.node in
    let turn : List Message → PreparedNode → PreparedNode = λ queue p. record p { node = next_superstep queue p.node; ready = false } in
    let lay : List Patch → PreparedNode → PreparedNode = λ patches p. record p { node = with_patches patches p.node } in
    let over : List ℕ → PreparedNode =
    λ m. record start { node = next_superstep part.messages.items (record n { hart = with_memory m n.hart }); ready = false } in
    let gets = c.land-2.ensures ∙ ap (lay part.gets) c.land.ensures in
    let all = c.land-4.ensures ∙ ap (lay part.puts) (c.land-3.ensures ∙ ap (lay part.small_puts) gets) in
    let queue : c.of.result ≡ part.messages.items = c.of.ensures ∙ ap (λ (v : Vec _ _). v.items) c.replace-messages.ensures.value in
    let m = n.hart.memory in
    c.finish_turn.ensures
    ∙ ap (turn c.of.result) all
    ∙ ap (λ (q : List Message). turn q (lay part.puts (lay part.small_puts (lay part.gets (lay part.small_gets start))))) queue
    ∙ ap (λ (k : List ℕ). over (laid (laid k part.small_puts) part.puts)) (sym (laid-append m part.small_gets part.gets))
    ∙ ap over (sym (laid-append (laid m (part.small_gets ++ part.gets)) part.small_puts part.puts))
    ∙ ap (λ (r : Received). with_arrivals r start) c.self.view_is
