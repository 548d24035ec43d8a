-- Each message adds the bytes of its payload.
use Rattle.std.proofs.Common.{◌+◌, ◌∙◌, length, sym, ap, ap₂, refl, arith}
use Rattle.std.proofs.lemmas.List.{take_all}
use Rattle.std.proofs.lemmas.List.Sums.{sum_by_more}
use Rattle.bsp_requests.specs.Inbox.{payload_bytes}
use Rattle.bsp_requests.specs.Message.{Message}
use Rattle.bsp_requests.proofs.inbox.payload_bytes.Goals as goal

pub loop-message-init : goal.loop-message-init
loop-message-init g c = (omega arith, refl)

pub overflow_add-bytes : goal.overflow_add-bytes
overflow_add-bytes g c = omega arith

pub loop-message-preserved : goal.loop-message-preserved
loop-message-preserved g c =
    let is = ap length c.payload.ensures ∙ ap (λ (m : Message). length m.payload) c.message-item.is in (
      omega arith,
      ap₂ (λ a b. a + b) c.loop-message.invariant.1 is
          ∙ sym (sum_by_more (λ (m : Message). length m.payload) c.args.messages.now c.loop-message.message-index c.message-item.result
          c.loop-message-test.true),
    )

pub returns : goal.returns
returns g c =
    c.loop-message.invariant.1 ∙ ap payload_bytes (take_all c.loop-message.message-index c.args.messages.now c.loop-message-test.false)
