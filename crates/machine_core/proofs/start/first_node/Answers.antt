-- Settings without a fault make a node of rank 0; the only errors left are that a segment lies outside, or want of memory.
use Rattle.std.proofs.Common.{inl, inr, refl, ap, ap₂, ◌∙◌}
use Rattle.node_core.specs.Node.{PreparedNode, with_clock, with_unit, with_atomics}
use Rattle.node_memory.specs.declared.memory.MemoryError.TheVariants as memory_error
use Rattle.machine_core.proofs.Refusals.{err_at, made-sized, fits-made, fits-no_memory, outside-ok, outside-no_memory}
use Rattle.machine_core.proofs.Starts.{AreInRange-from, few_in_range, settings_fault-nodes}
use Rattle.machine_core.proofs.start.first_node.Goals as goal

pub new-made-requires : goal.new-made-requires
new-made-requires g c =
    let range = AreInRange-from c.args.settings.now c.requires in
    record {
      ranked = settings_fault-nodes c.args.settings.now c.requires;
      few = few_in_range c.args.settings.now range;
      some = range.ticks;
      limited = range.limit;
    }

pub unreachable-requires : goal.unreachable-requires
unreachable-requires g c =
    made-sized c.new-made.result c.args.settings.now c.requires c.new-made.ensures.bad_size
    (err_at c.new-made.result c.in-Err-BadSize.field-0 memory_error.BadSize c.in-Err-BadSize.is
    (rw c.in-Err-BadSize.is at c.in-Err-BadSize.field-0-is))

pub returns-in-Ok : goal.returns-in-Ok
returns-in-Ok g c =
    let fits =
    fits-made c.new-made.result c.args.image.now c.args.settings.now c.requires c.new-made.ensures.segment_outside c.in-Ok.node
    c.in-Ok.is in
    record {
      ok = ap (λ (p : PreparedNode). p.node) c.set_clock.ensures
          ∙ ap₂ with_clock c.closed_at_start.ensures
          (ap (λ (p : PreparedNode). p.node) c.set_atomics.ensures
          ∙ ap (with_atomics c.args.settings.now.atomic)
          (ap (λ (p : PreparedNode). p.node) c.set_unit.ensures
          ∙ ap (with_unit c.args.settings.now.float) (ap (λ (p : PreparedNode). p.node) c.in-Ok.ensures.ok)));
      fits = fits;
      outside = outside-ok _ fits;
      kinds = tt;
    }

pub returns-in-Err-SegmentOutside : goal.returns-in-Err-SegmentOutside
returns-in-Err-SegmentOutside g c =
    let said =
    c.new-made.ensures.segment_outside.0
    (err_at c.new-made.result c.in-Err-SegmentOutside.field-0 memory_error.SegmentOutside c.in-Err-SegmentOutside.is
    (rw c.in-Err-SegmentOutside.is at c.in-Err-SegmentOutside.field-0-is)) in
    record { ok = tt; fits = tt; outside = (λ _. said.1, λ _. refl); kinds = inl refl }

pub returns-in-Err-NoMemory : goal.returns-in-Err-NoMemory
returns-in-Err-NoMemory g c =
    let fits =
    fits-no_memory c.new-made.result c.args.image.now c.args.settings.now c.requires c.new-made.ensures.segment_outside
    (err_at c.new-made.result c.in-Err-NoMemory.field-0 memory_error.NoMemory c.in-Err-NoMemory.is
    (rw c.in-Err-NoMemory.is at c.in-Err-NoMemory.field-0-is)) in
    record { ok = tt; fits = tt; outside = outside-no_memory _ fits; kinds = inr refl }
