-- The last run is made in a thread or here, the others before it; together they are the stage of the whole share, and fit its room.
use Rattle.std.proofs.Common.{rules, ◌≡◌, ◌++◌, length, sym, ap, ◌∙◌, arith, length-append}
use Rattle.std.proofs.lemmas.Bool.{false≢true}
use Rattle.worker_pool.specs.Landings.{IsReadyFor}
use Rattle.worker_pool.proofs.Landings.{IsDone-halves, IsDone-nodes, IsDone-parts, ready_as_many, ready_first, ready_second}
use Rattle.worker_pool.proofs.landing.+threads.Goals as goal

pub make_beside-scope-put_together-requires : goal.make_beside-scope-put_together-requires
make_beside-scope-put_together-requires g t c =
    let here = c.captures.here in
    let last = c.captures.last in
    let made = rw (c.in-Ok.ensures.ok, c.of.ensures) at c.join.ensures in
    let before = c.make_in_threads-first in
    let first =
    IsDone-nodes c.captures.stage here.parts.items here.nodes.items before.result.share.parts.items before.result.share.nodes.items
    before.result.complete before.ensures.done in
    let second =
    IsDone-nodes c.captures.stage last.parts.items last.nodes.items c.join.result.share.parts.items c.join.result.share.nodes.items
    c.join.result.complete made in
    let first_parts =
    IsDone-parts c.captures.stage here.parts.items here.nodes.items before.result.share.parts.items before.result.share.nodes.items
    before.result.complete before.ensures.done in
    let second_parts =
    IsDone-parts c.captures.stage last.parts.items last.nodes.items c.join.result.share.parts.items c.join.result.share.nodes.items
    c.join.result.complete made in
    record {
      nodes =
          omega (
            arith,
            first,
            second,
            c.requires.4.nodes_fit,
            before.ensures.node_room,
            before.result.share.nodes.ok.0,
            c.join.result.share.nodes.ok.0,
          );
      parts =
          omega (
            arith,
            first_parts,
            second_parts,
            c.requires.4.parts_fit,
            before.ensures.part_room,
            before.result.share.parts.ok.0,
            c.join.result.share.parts.ok.0,
          );
    }

pub make_beside-scope-put_together-whole-requires :
    goal.make_beside-scope-put_together-whole-requires
make_beside-scope-put_together-whole-requires g t c =
    let here = c.captures.here in
    let last = c.captures.last in
    let made = rw c.in-Err.ensures.err at c.other.ensures in
    let before = c.make_in_threads-first-in-Err in
    let first =
    IsDone-nodes c.captures.stage here.parts.items here.nodes.items before.result.share.parts.items before.result.share.nodes.items
    before.result.complete before.ensures.done in
    let second =
    IsDone-nodes c.captures.stage last.parts.items last.nodes.items c.other.result.share.parts.items c.other.result.share.nodes.items
    c.other.result.complete made in
    let first_parts =
    IsDone-parts c.captures.stage here.parts.items here.nodes.items before.result.share.parts.items before.result.share.nodes.items
    before.result.complete before.ensures.done in
    let second_parts =
    IsDone-parts c.captures.stage last.parts.items last.nodes.items c.other.result.share.parts.items c.other.result.share.nodes.items
    c.other.result.complete made in
    record {
      nodes =
          omega (
            arith,
            first,
            second,
            c.requires.4.nodes_fit,
            before.ensures.node_room,
            before.result.share.nodes.ok.0,
            c.other.result.share.nodes.ok.0,
          );
      parts =
          omega (
            arith,
            first_parts,
            second_parts,
            c.requires.4.parts_fit,
            before.ensures.part_room,
            before.result.share.parts.ok.0,
            c.other.result.share.parts.ok.0,
          );
    }

pub make_beside-scope-returns-in-Ok : goal.make_beside-scope-returns-in-Ok
make_beside-scope-returns-in-Ok g t c =
    let here = c.captures.here in
    let last = c.captures.last in
    let made = rw (c.in-Ok.ensures.ok, c.of.ensures) at c.join.ensures in
    let before = c.make_in_threads-first in
    let whole = c.put_together.ensures in (
      IsDone-halves c.captures.stage here.parts.items last.parts.items here.nodes.items last.nodes.items
          before.result.share.parts.items c.join.result.share.parts.items c.put_together.result.share.parts.items
          before.result.share.nodes.items c.join.result.share.nodes.items c.put_together.result.share.nodes.items
          before.result.complete c.join.result.complete c.put_together.result.complete
          c.requires.4.ready whole.parts whole.nodes whole.complete before.ensures.done made,
      omega (arith, before.ensures.node_room, whole.node_room),
      omega (arith, before.ensures.part_room, whole.part_room),
    )

pub make_beside-scope-returns-in-Err : goal.make_beside-scope-returns-in-Err
make_beside-scope-returns-in-Err g t c =
    let here = c.captures.here in
    let last = c.captures.last in
    let made = rw c.in-Err.ensures.err at c.other.ensures in
    let before = c.make_in_threads-first-in-Err in
    let whole = c.put_together-whole.ensures in
    let end = c.in_spite_of.ensures in (
      rw (end.share, end.complete) (IsDone-halves c.captures.stage here.parts.items last.parts.items here.nodes.items last.nodes.items
          before.result.share.parts.items c.other.result.share.parts.items c.put_together-whole.result.share.parts.items
          before.result.share.nodes.items c.other.result.share.nodes.items c.put_together-whole.result.share.nodes.items
          before.result.complete c.other.result.complete c.put_together-whole.result.complete
          c.requires.4.ready whole.parts whole.nodes whole.complete before.ensures.done made),
      rw end.share (omega (arith, before.ensures.node_room, whole.node_room)),
      rw end.share (omega (arith, before.ensures.part_room, whole.part_room)),
    )

pub fn::make_beside::scope+FnOnce::call_once-scope-requires :
    goal.fn::make_beside::scope+FnOnce::call_once-scope-requires
fn::make_beside::scope+FnOnce::call_once-scope-requires g t c κs within = search rules

pub make_beside-scoped-requires : goal.make_beside-scoped-requires
make_beside-scoped-requires g t c =
    record {
      at =
          λ a. (
            search rules,
            (
              (λ x m. m),
              (
                (λ x m. m),
                (
                  (search rules, search rules, search rules, search rules, c.requires),
                  (search rules, search rules, search rules, search rules),
                ),
              ),
            ),
          );
    }

pub make_in_threads-start_of_last_run-start-requires-clause-enough :
    goal.make_in_threads-start_of_last_run-start-requires-clause-enough
make_in_threads-start_of_last_run-start-requires-clause-enough g t c =
    omega (arith, c.len.ensures, c.requires.enough (omega (arith, c.if-threads-lt2.false)))

pub make_in_threads-split-requires-clause-parts : goal.make_in_threads-split-requires-clause-parts
make_in_threads-split-requires-clause-parts g t c =
    let long = ready_as_many c.args.stage c.args.share.parts.items c.args.share.nodes.items c.requires.ready in
    omega (arith, c.start_of_last_run-start.ensures.within, c.len.ensures, long, c.args.share.nodes.ok.0, c.args.share.parts.ok.0)

pub make_in_threads-make_beside-requires-after_bounds :
    goal.make_in_threads-make_beside-requires-after_bounds
make_in_threads-make_beside-requires-after_bounds g t c κs within =
    let here = c.in-Ok.here in
    let last = c.in-Ok.last in
    let share = c.args.share in
    let stage = c.args.stage in
    let split = c.in-Ok.ensures in
    let nodes = ap length split.nodes in
    let parts = ap length split.parts in
    let all_nodes = length-append here.nodes.items last.nodes.items in
    let all_parts = length-append here.parts.items last.parts.items in
    let same : length here.parts.items ≡ length here.nodes.items = split.end.1 ∙ sym split.end.0 in
    let ready : IsReadyFor stage (here.parts.items ++ last.parts.items) (here.nodes.items ++ last.nodes.items) =
    rw (split.parts, split.nodes) c.requires.ready in
    record {
      some = omega (arith, c.if-threads-lt2.false);
      enough = omega (arith, c.start_of_last_run-start.ensures.others, split.end.0);
      nodes_fit = omega (arith, all_nodes, nodes, split.room.0, share.nodes.ok.0, share.nodes.ok.1);
      parts_fit = omega (arith, all_parts, parts, split.room.1, share.parts.ok.0, share.parts.ok.1);
      ready = ready_first stage here.parts.items last.parts.items here.nodes.items last.nodes.items same ready;
      last_ready = ready_second stage here.parts.items last.parts.items here.nodes.items last.nodes.items same ready;
    }

pub make_beside-scope-overflow_sub-threads : goal.make_beside-scope-overflow_sub-threads
make_beside-scope-overflow_sub-threads g t c = omega (arith, c.requires.4.some)

pub make_beside-scope-overflow_sub-threads-in-Err :
    goal.make_beside-scope-overflow_sub-threads-in-Err
make_beside-scope-overflow_sub-threads-in-Err g t c = omega (arith, c.requires.4.some)

pub make_beside-scope-spawn_with-requires-clause-runs :
    goal.make_beside-scope-spawn_with-requires-clause-runs
make_beside-scope-spawn_with-requires-clause-runs g t c κs within = c.requires.4.last_ready

pub make_beside-scope-spawn_with-requires-clause-keeps :
    goal.make_beside-scope-spawn_with-requires-clause-keeps
make_beside-scope-spawn_with-requires-clause-keeps g t c κs within = λ r done. rw c.of.ensures done

pub make_beside-scope-make_in_threads-first-requires-clause-ready :
    goal.make_beside-scope-make_in_threads-first-requires-clause-ready
make_beside-scope-make_in_threads-first-requires-clause-ready g t c κs within = c.requires.4.ready

pub make_beside-scope-make_in_threads-first-requires-clause-enough :
    goal.make_beside-scope-make_in_threads-first-requires-clause-enough
make_beside-scope-make_in_threads-first-requires-clause-enough g t c κs within =
    λ more. omega (arith, c.requires.4.enough, c.captures.here.nodes.ok.0)

pub make_beside-scope-make_in_threads-first-requires-in-Err-clause-ready :
    goal.make_beside-scope-make_in_threads-first-requires-in-Err-clause-ready
make_beside-scope-make_in_threads-first-requires-in-Err-clause-ready g t c κs within =
    c.requires.4.ready

pub make_beside-scope-make_in_threads-first-requires-in-Err-clause-enough :
    goal.make_beside-scope-make_in_threads-first-requires-in-Err-clause-enough
make_beside-scope-make_in_threads-first-requires-in-Err-clause-enough g t c κs within =
    λ more. omega (arith, c.requires.4.enough, c.captures.here.nodes.ok.0)

pub make_beside-scope-other-requires : goal.make_beside-scope-other-requires
make_beside-scope-other-requires g t c κs within =
    (search rules, rw c.in-Err.ensures.err c.requires.4.last_ready)

pub make_in_threads-make_here-requires : goal.make_in_threads-make_here-requires
make_in_threads-make_here-requires g t c = c.requires.ready

pub make_in_threads-returns-then-threads-lt2-clause-done :
    goal.make_in_threads-returns-then-threads-lt2-clause-done
make_in_threads-returns-then-threads-lt2-clause-done g t c = c.make_here.ensures.done

pub make_in_threads-returns-then-threads-lt2-clause-no_worker :
    goal.make_in_threads-returns-then-threads-lt2-clause-no_worker
make_in_threads-returns-then-threads-lt2-clause-no_worker g t c =
    λ refused. absurd (false≢true (sym c.make_here.ensures.thread ∙ refused))

pub make_in_threads-returns-then-threads-lt2-clause-node_room :
    goal.make_in_threads-returns-then-threads-lt2-clause-node_room
make_in_threads-returns-then-threads-lt2-clause-node_room g t c =
    omega (arith, c.make_here.ensures.node_room)

pub make_in_threads-returns-then-threads-lt2-clause-part_room :
    goal.make_in_threads-returns-then-threads-lt2-clause-part_room
make_in_threads-returns-then-threads-lt2-clause-part_room g t c =
    omega (arith, c.make_here.ensures.part_room)

pub make_in_threads-start_of_last_run-start-requires-clause-some :
    goal.make_in_threads-start_of_last_run-start-requires-clause-some
make_in_threads-start_of_last_run-start-requires-clause-some g t c =
    omega (arith, c.if-threads-lt2.false)

pub make_in_threads-split-requires-clause-nodes : goal.make_in_threads-split-requires-clause-nodes
make_in_threads-split-requires-clause-nodes g t c =
    omega (arith, c.start_of_last_run-start.ensures.within, c.len.ensures)

pub make_in_threads-make_here-requires-in-Err : goal.make_in_threads-make_here-requires-in-Err
make_in_threads-make_here-requires-in-Err g t c =
    let same = c.in-Err.ensures.err in
    rw (same.1, same.0) c.requires.ready

pub make_in_threads-returns-in-Ok-clause-done : goal.make_in_threads-returns-in-Ok-clause-done
make_in_threads-returns-in-Ok-clause-done g t c =
    let split = c.in-Ok.ensures in
    rw (split.parts, split.nodes) at c.make_beside.ensures.done

pub make_in_threads-returns-in-Ok-clause-no_worker :
    goal.make_in_threads-returns-in-Ok-clause-no_worker
make_in_threads-returns-in-Ok-clause-no_worker g t c =
    λ refused. omega (arith, c.if-threads-lt2.false)

pub make_in_threads-returns-in-Ok-clause-node_room :
    goal.make_in_threads-returns-in-Ok-clause-node_room
make_in_threads-returns-in-Ok-clause-node_room g t c =
    omega (arith, c.in-Ok.ensures.room.0, c.make_beside.ensures.node_room)

pub make_in_threads-returns-in-Ok-clause-part_room :
    goal.make_in_threads-returns-in-Ok-clause-part_room
make_in_threads-returns-in-Ok-clause-part_room g t c =
    omega (arith, c.in-Ok.ensures.room.1, c.make_beside.ensures.part_room)

pub make_in_threads-returns-in-Err-clause-done : goal.make_in_threads-returns-in-Err-clause-done
make_in_threads-returns-in-Err-clause-done g t c =
    let same = c.in-Err.ensures.err in
    let end = c.in_spite_of.ensures in
    rw (end.share, end.complete) (rw (same.1, same.0) at c.make_here-in-Err.ensures.done)

pub make_in_threads-returns-in-Err-clause-no_worker :
    goal.make_in_threads-returns-in-Err-clause-no_worker
make_in_threads-returns-in-Err-clause-no_worker g t c =
    λ refused. omega (arith, c.if-threads-lt2.false)

pub make_in_threads-returns-in-Err-clause-node_room :
    goal.make_in_threads-returns-in-Err-clause-node_room
make_in_threads-returns-in-Err-clause-node_room g t c =
    rw c.in_spite_of.ensures.share (omega (arith, c.in-Err.ensures.err.2, c.make_here-in-Err.ensures.node_room))

pub make_in_threads-returns-in-Err-clause-part_room :
    goal.make_in_threads-returns-in-Err-clause-part_room
make_in_threads-returns-in-Err-clause-part_room g t c =
    rw c.in_spite_of.ensures.share (omega (arith, c.in-Err.ensures.err.3, c.make_here-in-Err.ensures.part_room))
