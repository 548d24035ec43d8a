-- The code that begins a word read from pc is the code at pc.
use Rattle.std.proofs.Common.{◌∙◌, ap}
use Rattle.node_core.specs.Executed.{fetched}
use Rattle.node_core.specs.Hart.{PreparedHart}
use Rattle.decode_cache.proofs.Fetch.{code_at_word}
use Rattle.node_core.proofs.hart.Hart.fetch.Goals as goal

pub returns-in-Some : goal.returns-in-Some
returns-in-Some g c =
    let h = c.self.inside in
    code_at_word h.memory.bytes h.pc c.in-Some.word (rw c.plain.ensures at c.in-Some.ensures.value)
    (rw c.plain.ensures at c.in-Some.ensures.low)
    ∙ ap (λ (p : PreparedHart). fetched p.hart) c.self.view_is
