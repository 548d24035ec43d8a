-- Each of the four lists fits in the node's memory, and the pages that became private for one list stay private while the others are
-- prepared.
use Rattle.std.proofs.Common.{◌++◌, length, subst, refl, sym, ap, ◌∙◌}
use Rattle.std.proofs.lemmas.Result.{on_ok_weaker}
use Rattle.node_core.specs.Node.{NodeState}
use Rattle.bsp_exchange.specs.Arrivals.{Received, IsPrepared}
use Rattle.node_memory.proofs.Owned.{KeepsPrivate-then}
use Rattle.bsp_exchange.proofs.KeepsPrivate.{KeepsPrivate-readied}
use Rattle.bsp_exchange.proofs.Patches.{owns_each_kept}
use Rattle.bsp_exchange.proofs.Planned.{lie_first, lie_second, owns_both}
use Rattle.bsp_exchange.proofs.arrivals.Arrivals.prepare.Goals as goal

pub prepare-requires : goal.prepare-requires
prepare-requires g c =
    let part = c.self.inside in
    let size = length c.args.node.now.node.hart.memory in
    let within = rw (sym c.self.view_is) at c.requires.within in
    record { within = lie_first size part.small_gets part.gets within.gets }

pub prepare-requires-2 : goal.prepare-requires-2
prepare-requires-2 g c =
    let part = c.self.inside in
    let size = length c.args.node.now.node.hart.memory in
    let within = rw (sym c.self.view_is) at c.requires.within in
    let same = ap (λ (n : NodeState). length n.hart.memory) c.in_ok-prepare.ensures.node in
    rw same (record { within = lie_second size part.small_gets part.gets within.gets })

pub prepare-requires-3 : goal.prepare-requires-3
prepare-requires-3 g c =
    let part = c.self.inside in
    let size = length c.args.node.now.node.hart.memory in
    let within = rw (sym c.self.view_is) at c.requires.within in
    let same = ap (λ (n : NodeState). length n.hart.memory) (c.in_ok-prepare-2.ensures.node ∙ c.in_ok-prepare.ensures.node) in
    rw same (record { within = lie_first size part.small_puts part.puts within.puts })

pub prepare-requires-4 : goal.prepare-requires-4
prepare-requires-4 g c =
    let part = c.self.inside in
    let size = length c.args.node.now.node.hart.memory in
    let within = rw (sym c.self.view_is) at c.requires.within in
    let same =
    ap (λ (n : NodeState). length n.hart.memory)
    (c.in_ok-prepare-3.ensures.node ∙ c.in_ok-prepare-2.ensures.node ∙ c.in_ok-prepare.ensures.node) in
    rw same (record { within = lie_second size part.small_puts part.puts within.puts })

pub returns-clause-ok : goal.returns-clause-ok
returns-clause-ok g c =
    let part = c.self.inside in
    let first = c.in_ok-prepare.ensures in
    let second = c.in_ok-prepare-2.ensures in
    let third = c.in_ok-prepare-3.ensures in
    let fourth = c.in_ok-prepare-4.ensures in
    let after_first = c.prepare.new.node.private in
    let after_second = c.prepare-2.new.node.private in
    let after_third = c.prepare-3.new.node.private in
    let after_fourth = c.prepare-4.new.node.private in
    on_ok_weaker c.prepare_turn.result
    (λ turned.
    let small_gets = owns_each_kept after_first after_second part.small_gets second.private first.ok in
    let gets = owns_both after_second part.small_gets part.gets small_gets second.ok in
    let all_gets =
    owns_each_kept after_third after_fourth (part.small_gets ++ part.gets) fourth.private
    (owns_each_kept after_second after_third (part.small_gets ++ part.gets) third.private gets) in
    let small_puts = owns_each_kept after_third after_fourth part.small_puts fourth.private third.ok in
    let puts = owns_both after_fourth part.small_puts part.puts small_puts fourth.ok in
    subst (λ (r : Received). IsPrepared r c.prepare_turn.new.self) c.self.view_is
    (rw turned (record { ready = refl; gets = all_gets; puts = puts })))
    c.prepare_turn.ensures.ok

pub returns-clause-private : goal.returns-clause-private
returns-clause-private g c =
    let start = c.args.node.now.private in
    let first = c.prepare.new.node.private in
    let second = c.prepare-2.new.node.private in
    let third = c.prepare-3.new.node.private in
    let fourth = c.prepare-4.new.node in
    let readied =
    KeepsPrivate-readied c.prepare_turn.result fourth c.prepare_turn.new.self c.prepare_turn.ensures.ok c.prepare_turn.ensures.err in
    let gets = KeepsPrivate-then start first second c.in_ok-prepare.ensures.private c.in_ok-prepare-2.ensures.private in
    let puts = KeepsPrivate-then second third fourth.private c.in_ok-prepare-3.ensures.private c.in_ok-prepare-4.ensures.private in
    KeepsPrivate-then start fourth.private c.prepare_turn.new.self.private (KeepsPrivate-then start second fourth.private gets puts) readied
