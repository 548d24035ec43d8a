-- One page of zeros more makes the zeros longer by 4,096.
use Rattle.std.proofs.Common.{◌≡◌, ℕ, length, replicate, ap, ◌∙◌}
use Rattle.node_memory.specs.Table.{page_bytes}
use Rattle.std.proofs.lemmas.List.{length-replicate}
use Rattle.node_memory.proofs.Shown.{AllShared-more, replicate-page}
use Rattle.node_memory.proofs.memory.Memory.zeros.Goals as goal

pub loop-preserved : goal.loop-preserved
loop-preserved g c =
    let is : page_bytes c.in_ok-share.field-0 ≡ replicate 4096 0 = c.in_ok-share.ensures.bytes ∙ c.loop.invariant.0 in (
      c.loop.invariant.0,
      AllShared-more c.loop.invariant.1 c.in_ok-share.field-0 _ _ c.in_ok-push.ensures.items c.in_ok-share.ensures.shared
          (ap length is ∙ length-replicate {A = ℕ} 4096 0)
          (replicate-page c.loop.counter (page_bytes c.in_ok-share.field-0) is),
    )
