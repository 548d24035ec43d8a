-- A range whose pages are private is written page by page: what is written at each time is the range's first bytes.
use Rattle.std.proofs.Common.{◌+◌, ◌≤◌, length, refl, ap, ◌∙◌, arith}
use Rattle.std.proofs.Math.Nat.{le-add_right}
use Rattle.std.proofs.lemmas.List.{take_all}
use Rattle.node_memory.specs.Bytes.{with_bytes}
use Rattle.node_memory.proofs.Owned.{IsPrivate-past}
use Rattle.node_memory.proofs.Writes.{write_more, step-within, step-in_page, step-less_left, place-mod-le}
use Rattle.node_memory.proofs.memory.Memory.write_owned_pages.Goals as goal

pub overflow_add-at : goal.overflow_add-at
overflow_add-at g c = omega (arith, c.recall_size.ensures.most, c.recall_size.ensures.pages, c.requires.within, c.loop-done.invariant.2)

pub overflow_sub-at : goal.overflow_sub-at
overflow_sub-at g c = place-mod-le _

pub overflow_sub-bytes : goal.overflow_sub-bytes
overflow_sub-bytes g c = c.loop-done.invariant.2

pub overflow_add-done : goal.overflow_add-done
overflow_add-done g c =
    let step = step-within _ _ _ _ c.min-len.ensures c.loop-done.invariant.2 in
    omega (arith, c.recall_size.ensures.most, c.recall_size.ensures.pages, c.requires.within, step)

pub slice_bounds-write_window-count : goal.slice_bounds-write_window-count
slice_bounds-write_window-count g c = le-add_right _ _

pub write_window-requires-clause-one_page : goal.write_window-requires-clause-one_page
write_window-requires-clause-one_page g c = step-in_page c.args.bytes.now _ _ _ c.min-len.ensures c.loop-done.invariant.2

pub write_window-requires-clause-private : goal.write_window-requires-clause-private
write_window-requires-clause-private g c =
    IsPrivate-past _ _ c.args.addr _ c.loop-done.done c.requires c.loop-done.invariant.1 c.loop-done-test.true

pub overflow_add-done-in-loop-done : goal.overflow_add-done-in-loop-done
overflow_add-done-in-loop-done g c =
    let step = step-within _ _ _ _ c.min-len.ensures c.loop-done.invariant.2 in
    omega (arith, c.recall_size.ensures.most, c.recall_size.ensures.pages, c.requires.within, step)

pub loop-done-smaller : goal.loop-done-smaller
loop-done-smaller g c = step-less_left _ _ _ _ c.min-len.ensures c.loop-done-test.true

pub returns-clause-within : goal.returns-clause-within
returns-clause-within g c = omega (arith, c.recall_size.ensures.pages, c.requires.within)

pub returns-clause-bytes : goal.returns-clause-bytes
returns-clause-bytes g c =
    c.loop-done.invariant.0
    ∙ ap (with_bytes c.args.self.now.bytes c.args.addr) (take_all c.loop-done.done c.args.bytes.now c.loop-done-test.false)

pub returns-clause-same_private : goal.returns-clause-same_private
returns-clause-same_private g c = c.loop-done.invariant.1

pub loop-done-preserved : goal.loop-done-preserved
loop-done-preserved g c =
    let within : c.args.addr + length c.args.bytes.now ≤ length c.args.self.now.bytes =
    omega (arith, c.recall_size.ensures.pages, c.requires.within) in
    let h = c.loop-done.invariant in
    let len = c.min-len.result in (
      write_more c.args.self.now.bytes _ _ c.args.bytes.now _ c.args.addr (c.args.addr + c.loop-done.done) c.loop-done.done len h.0 refl
          refl c.write_window.ensures.bytes (omega arith) within,
      c.write_window.ensures.same_private ∙ h.1,
      omega arith,
    )
