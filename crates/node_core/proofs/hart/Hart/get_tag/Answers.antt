-- The payload of the first message is shorter than 2^32 bytes, and so is its tag.
use Rattle.std.proofs.Common.{◌∙◌, length, sym, ap, arith}
use Rattle.std.specs.Prelude.{option_copied}
use Rattle.node_core.proofs.Messages.{IsShort-first}
use Rattle.node_core.proofs.hart.Hart.get_tag.Goals as goal

pub overflow_cast-payload : goal.overflow_cast-payload
overflow_cast-payload g c =
    let short =
    IsShort-first _ c.in-Some.message.now c.self.invariant.communication.short (sym c.first.ensures ∙ ap option_copied c.in-Some.is) in
    omega (arith, ap length c.payload.ensures, short.payload)

pub write_word_and_bytes-stored-requires : goal.write_word_and_bytes-stored-requires
write_word_and_bytes-stored-requires g c =
    let short =
    IsShort-first _ c.in-Some.message.now c.self.invariant.communication.short (sym c.first.ensures ∙ ap option_copied c.in-Some.is) in
    rw c.tag.ensures (omega (arith, short.tag))
