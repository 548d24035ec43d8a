-- The patches of a part are its gets and then its puts, so what arrives lands as the part does, and the part is spent.
use Rattle.std.proofs.Common.{List, ◌++◌, ℕ, false, true, sym, ap, ◌∙◌}
use Rattle.node_core.specs.Hart.{with_memory}
use Rattle.node_core.specs.Turn.{next_superstep}
use Rattle.bsp_exchange.specs.Arrivals.{Received}
use Rattle.bsp_exchange.specs.Parts.{PartState, landed_as, spent_part}
use Rattle.bsp_exchange.proofs.Landed.{laid-append}
use Rattle.bsp_exchange.proofs.Planned.{owns_first, owns_second}
use Rattle.bsp_exchange.proofs.part.Part.land.Goals as goal

pub land-requires : goal.land-requires
land-requires g c =
    let part = c.self.inside.arrivals in
    let p = c.args.node.now in
    let can = rw (sym c.self.view_is) at c.requires in
    record {
      waiting = can.waiting;
      queue = c.self.invariant.0;
      prepared =
          record {
            ready = can.ready;
            gets = owns_first p.private part.gets part.puts can.private;
            puts = owns_second p.private part.gets part.puts can.private;
          };
    }

pub returns-clause-node : goal.returns-clause-node
returns-clause-node g c =
    let part = c.self.inside.arrivals in
    let p = c.args.node.now in
    let n = p.node in
    c.land.ensures.node
    ∙ ap (λ (m : List ℕ). record p { node = next_superstep part.messages (record n { hart = with_memory m n.hart }); ready = false })
    (sym (laid-append n.hart.memory part.gets part.puts))
    ∙ ap (λ (q : PartState). landed_as q p) c.self.view_is

pub returns-clause-spent : goal.returns-clause-spent
returns-clause-spent g c =
    let landed : Received → PartState =
    λ r. record { rank = c.self.inside.rank; spent = true; patches = r.gets ++ r.puts; queue = r.messages } in
    ap landed c.land.ensures.rest ∙ ap spent_part c.self.view_is
