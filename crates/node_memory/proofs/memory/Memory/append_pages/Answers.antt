-- Each page appends the bytes that follow on those that were appended.
use Rattle.std.proofs.Common.{◌≡◌, ℕ, ◌+◌, ◌++◌, List, refl, ap, ◌∙◌, arith}
use Rattle.node_memory.specs.Bytes.{bytes_at}
use Rattle.std.proofs.lemmas.List.{append_assoc}
use Rattle.node_memory.proofs.Writes.{two_reads}
use Rattle.node_memory.proofs.memory.Memory.append_pages.Goals as goal

pub loop-done-preserved : goal.loop-done-preserved
loop-done-preserved g c =
    let items : c.extend_from_slice.new.self.items ≡ c.loop-done.bytes.items ++ c.window.result.now =
    c.in_ok-extend_from_slice.ensures.items in
    let piece = two_reads c.args.self.now.bytes c.args.addr (c.args.addr + c.loop-done.done) c.loop-done.done c.min-part.result refl in
    let old = c.args.bytes.now.items in
    let front = bytes_at c.args.self.now.bytes c.args.addr c.loop-done.done in
    let part = bytes_at c.args.self.now.bytes (c.args.addr + c.loop-done.done) c.min-part.result in
    let grown = c.in_ok-extend_from_slice.ensures.len in
    let room = c.extend_from_slice.ensures.capacity in (
      items ∙ ap (λ (bs : List ℕ). bs ++ c.window.result.now) c.loop-done.invariant.0
          ∙ ap (λ (bs : List ℕ). (old ++ front) ++ bs) c.window.ensures.value ∙ append_assoc old front part
          ∙ ap (λ (bs : List ℕ). old ++ bs) piece,
      omega arith,
      omega (arith, c.window.ensures.long),
    )
