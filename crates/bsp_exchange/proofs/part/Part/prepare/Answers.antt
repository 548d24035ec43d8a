-- The gets and the puts fit in the node's memory because the part's patches do, and once their pages are private the part can land.
use Rattle.std.proofs.Common.{length, subst, ap, ◌∙◌}
use Rattle.std.proofs.lemmas.Result.{on_ok_weaker}
use Rattle.node_core.specs.Node.{NodeState}
use Rattle.bsp_exchange.specs.Parts.{OwnsEach, PartState}
use Rattle.bsp_exchange.proofs.Planned.{lie_first, lie_second, owns_both}
use Rattle.bsp_exchange.proofs.part.Part.prepare.Goals as goal

pub prepare-requires : goal.prepare-requires
prepare-requires g c =
    let part = c.self.inside.arrivals in
    let size = length c.args.node.now.node.hart.memory in
    let within = rw (← c.self.view_is) at c.requires.within in
    record {
      within = record {
        gets = lie_first size part.gets part.puts within;
        puts = lie_second size part.gets part.puts within;
        queue = c.self.invariant.0;
      };
    }

pub returns-clause-ok : goal.returns-clause-ok
returns-clause-ok g c =
    let part = c.self.inside.arrivals in
    let new = c.prepare.new.node in
    let same = c.prepare.ensures.node in
    on_ok_weaker c.prepare.result
    (λ prepared. record {
      unspent = c.requires.unspent;
      rank = ap (λ (n : NodeState). n.hart.rank) same ∙ c.requires.rank;
      waiting = ap (λ (n : NodeState). n.state) same ∙ c.requires.waiting;
      ready = prepared.ready;
      private =
          subst (λ (p : PartState). OwnsEach new.private p.patches) c.self.view_is
          (owns_both new.private part.gets part.puts prepared.gets prepared.puts);
    })
    c.prepare.ensures.ok
