-- What stands before the place and what stands from it on make the whole, which is joined again where there is no room.
use Rattle.std.proofs.Common.{◌++◌, refl, sym, ap₂, ◌∙◌, arith}
use Rattle.std.proofs.lemmas.List.{take-append-drop}
use Rattle.worker_pool.proofs.landing.split.Goals as goal

pub returns-in-Ok-split_off-clause-nodes : goal.returns-in-Ok-split_off-clause-nodes
returns-in-Ok-split_off-clause-nodes g c =
    ap₂ ◌++◌ c.in-Ok-split_off.ensures.items c.in-Ok-split_off.ensures.tail ∙ take-append-drop c.args.end c.args.share.nodes.items

pub returns-in-Ok-split_off-clause-parts : goal.returns-in-Ok-split_off-clause-parts
returns-in-Ok-split_off-clause-parts g c =
    ap₂ ◌++◌ c.in-Ok.ensures.items c.in-Ok.ensures.tail ∙ take-append-drop c.args.end c.args.share.parts.items

pub returns-in-Err-clause-err : goal.returns-in-Err-clause-err
returns-in-Err-clause-err g c = (
  rw c.in-Err.ensures.err refl,
  c.joined-parts.ensures.items ∙ ap₂ ◌++◌ c.in-Ok.ensures.items c.in-Ok.ensures.tail ∙ take-append-drop c.args.end c.args.share.parts.items,
  rw c.in-Err.ensures.err refl,
  omega (arith, c.joined-parts.ensures.room, c.in-Ok.ensures.capacity),
)

pub returns-in-Ok-split_off-clause-end : goal.returns-in-Ok-split_off-clause-end
returns-in-Ok-split_off-clause-end g c = (
  sym c.split_off-2.new.self.ok.0 ∙ c.in-Ok-split_off.ensures.len,
  sym c.split_off.new.self.ok.0 ∙ c.in-Ok.ensures.len,
)
