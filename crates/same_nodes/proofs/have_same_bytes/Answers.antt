-- The two copies have all bytes of the memories, so where the copies are the same, the memories are.
use Rattle.std.proofs.Common.{◌≡◌, ◌∙◌, sym}
use Rattle.same_nodes.proofs.Lists.{bytes_at-whole, same-numbers}
use Rattle.same_nodes.proofs.have_same_bytes.Goals as goal

pub returns : goal.returns
returns g c = λ holds.
    let mine : c.as_slice.result.now ≡ c.args.memory.now.bytes =
    c.as_slice.ensures ∙ c.in_ok-bytes.ensures.ok ∙ bytes_at-whole c.args.memory.now.bytes c.size.result c.size.ensures.value in
    let theirs : c.as_slice-2.result.now ≡ c.args.other.now.bytes =
    c.as_slice-2.ensures ∙ c.in_ok-others.ensures.ok ∙ bytes_at-whole c.args.other.now.bytes c.size-2.result c.size-2.ensures.value in
    sym mine ∙ same-numbers c.as_slice.result.now c.as_slice-2.result.now c.eq.result c.eq.ensures holds ∙ theirs
