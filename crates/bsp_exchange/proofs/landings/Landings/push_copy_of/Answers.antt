-- The range that is added begins where the bytes of those before it end.
use Rattle.std.proofs.Common.{◌≡◌, ◌+◌, ℕ, length, length-append, ap, ◌∙◌}
use Rattle.node_memory.specs.Bytes.{bytes_at}
use Rattle.bsp_exchange.specs.Arrivals.{StandInTurn}
use Rattle.bsp_exchange.proofs.Patches.{in_turn-push, length-range}
use Rattle.bsp_exchange.proofs.landings.Landings.push_copy_of.Goals as goal
use Rattle.bsp_exchange.proofs.landings.Landings.push_copy_of.Goals.{then-len-capacity+in_ok-grow, else-len-capacity}

pub invariant_of-self-2 : goal.invariant_of-self-2
invariant_of-self-2 g c =
    let old = c.if-len-capacity.self-inside in
    let turn : StandInTurn old.ranges.items 0 (length old.bytes.items) = elim c.if-len-capacity.branch [
      | then-len-capacity+in_ok-grow w ↦ rw w.self-inside-is (rw w.grow.ensures.items c.self.invariant)
      | else-len-capacity w ↦ rw w.self-inside-is c.self.invariant
    ] in
    let start : c.len-start.result ≡ length old.bytes.items = c.len-start.ensures ∙ old.bytes.ok.0 in
    let copied = bytes_at c.args.memory.now.bytes c.args.from c.args.len in
    let long : length copied ≡ c.args.len = length-range c.args.memory.now.bytes c.args.from c.args.len c.requires in
    let end : length c.append_range.new.bytes.items ≡ length old.bytes.items + c.args.len =
    ap length c.in_ok-append_range.ensures.ok
    ∙ length-append old.bytes.items copied
    ∙ ap (λ (n : ℕ). length old.bytes.items + n) long in
    rw c.push_reserved.ensures.items
    (in_turn-push old.ranges.items 0 (length old.bytes.items) _
    (record { addr = c.args.addr; len = c.args.len; start = c.len-start.result }) turn start end)
