-- The checks that a message has passed make it well addressed and within the limits, so the hart stays sound with it. Its bytes are those of
-- the tag, and behind them those of the payload.
use Rattle.std.proofs.Common.{◌≡◌, ℕ, ◌+◌, ◌∙◌, List, ◌++◌, ap, sym, true, false, length, take, drop, arith}
use Rattle.std.proofs.Math.Seq.{take-append_seam, drop-append_seam}
use Rattle.std.proofs.lemmas.Grind.{common_steps}
use Rattle.std.proofs.lemmas.List.{length-append}
use Rattle.bsp_requests.specs.Requests.{is_full_for}
use Rattle.bsp_requests.specs.Request.{asks_send, size_of}
use Rattle.node_memory.specs.Bytes.{fits, bytes_at}
use Rattle.node_core.specs.Communication.{IsWellAddressed}
use Rattle.node_core.specs.Inside.{hart_view}
use Rattle.node_memory.proofs.Bytes.{length-bytes_at}
use Rattle.node_core.proofs.Harts.{Keeps-requested}
use Rattle.node_core.proofs.Ranks.{rank-fits}
use Rattle.node_core.proofs.hart.Hart.issue_send.Goals as goal

-- two lists that were joined, taken apart where the first ends
parts : (bytes tag payload : List ℕ) (n : ℕ) → bytes ≡ tag ++ payload → length tag ≡ n → (take n bytes ≡ tag) × (drop n bytes ≡ payload)
parts bytes tag payload n joined counts = (
  ap (λ (l : List ℕ). take n l) joined ∙ ap (λ (k : ℕ). take k (tag ++ payload)) (sym counts) ∙ take-append_seam tag payload,
  ap (λ (l : List ℕ). drop n l) joined ∙ ap (λ (k : ℕ). drop k (tag ++ payload)) (sym counts) ∙ drop-append_seam tag payload,
)

pub overflow_cast-target : goal.overflow_cast-target
overflow_cast-target g c = rank-fits _ (hart_view c.self.inside).hart.nprocs c.if-target-self.false c.self.invariant.few

pub new-message-requires : goal.new-message-requires
new-message-requires g c =
    let h = (hart_view c.self.inside).hart in
    let tag_len = h.communication.tag_size in
    let tag_fits : fits (length h.memory) c.reg-tag.result tag_len ≡ true = grind (arith, common_steps) in
    let tag = bytes_at h.memory c.reg-tag.result tag_len in
    let payload = bytes_at h.memory c.reg-payload.result c.reg-len.result in
    let joined : c.in-Ok.bytes ≡ tag ++ payload = rw c.plain-2.ensures at c.in-Ok.ensures in
    omega (arith, ap length joined ∙ length-append tag payload, length-bytes_at h.memory c.reg-tag.result tag_len tag_fits)

pub invariant_of-self : goal.invariant_of-self
invariant_of-self g c =
    let h = (hart_view c.self.inside).hart in
    let tag_len = h.communication.tag_size in
    let tag_fits : fits (length h.memory) c.reg-tag.result tag_len ≡ true = grind (arith, common_steps) in
    let payload_fits : fits (length h.memory) c.reg-payload.result c.reg-len.result ≡ true = grind (arith, common_steps) in
    let tag = bytes_at h.memory c.reg-tag.result tag_len in
    let payload = bytes_at h.memory c.reg-payload.result c.reg-len.result in
    let joined : c.in-Ok.bytes ≡ tag ++ payload = rw c.plain-2.ensures at c.in-Ok.ensures in
    let split = parts c.in-Ok.bytes tag payload tag_len joined (length-bytes_at h.memory c.reg-tag.result tag_len tag_fits) in
    let request = asks_send c.new-message.result in
    let counts : size_of request ≡ tag_len + c.reg-len.result =
    rw c.new-message.ensures (
    omega (
      arith,
      ap length split.0,
      ap length split.1,
      length-bytes_at h.memory c.reg-tag.result tag_len tag_fits,
      length-bytes_at h.memory c.reg-payload.result c.reg-len.result payload_fits,
    )
    ) in
    let room : is_full_for h.communication.requests (tag_len + c.reg-len.result) ≡ false = grind (arith, common_steps) in
    let met : IsWellAddressed h.nprocs (length h.communication.registrations.in_effect) (length h.memory) request =
    rw c.new-message.ensures c.if-target-self.false in
    rw c.in-Ok-add_send.ensures.ok ((Keeps-requested h request (tag_len + c.reg-len.result) counts room met).sound c.self.invariant)

pub returns-in-Ok-add_send-clause-ok : goal.returns-in-Ok-add_send-clause-ok
returns-in-Ok-add_send-clause-ok g c =
    let h = (hart_view c.self.inside).hart in
    let tag_len = h.communication.tag_size in
    let tag_fits : fits (length h.memory) c.reg-tag.result tag_len ≡ true = grind (arith, common_steps) in
    let tag = bytes_at h.memory c.reg-tag.result tag_len in
    let payload = bytes_at h.memory c.reg-payload.result c.reg-len.result in
    let joined : c.in-Ok.bytes ≡ tag ++ payload = rw c.plain-2.ensures at c.in-Ok.ensures in
    let split = parts c.in-Ok.bytes tag payload tag_len joined (length-bytes_at h.memory c.reg-tag.result tag_len tag_fits) in
    let sent : c.new-message.result ≡ record { target = c.reg-target.result; tag = tag; payload = payload } =
    c.new-message.ensures ∙ ap (λ (p : List ℕ). record { target = c.reg-target.result; tag = p; payload = drop tag_len c.in-Ok.bytes }) split.0
    ∙ ap (λ (p : List ℕ). record { target = c.reg-target.result; tag = tag; payload = p }) split.1 in
    grind (arith, common_steps, sent)
