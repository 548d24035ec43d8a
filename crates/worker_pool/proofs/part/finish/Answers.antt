-- Each node in turn comes to the end of its local part, or to a step that may be refused memory.
use Rattle.std.proofs.Common.{◌+◌, ◌||◌, refl, sym, ap₂, ◌∙◌, arith}
use Rattle.std.proofs.lemmas.List.Elements.{All-nil}
use Rattle.std.proofs.lemmas.List.{drop-set-lt, length-set}
use Rattle.worker_pool.proofs.Refusals.{none_of, on_ok_unless}
use Rattle.worker_pool.proofs.Works.{IsWorked-next, IsWorked-all, drop_one_more}
use Rattle.worker_pool.proofs.part.finish.Goals as goal

pub loop-place-init : goal.loop-place-init
loop-place-init g c = record {
  work = record { stepped = tt; ok = λ fine. All-nil _; come = All-nil _ };
  rest = refl;
  length = refl;
  no_worker = refl;
}

pub loop-place-preserved : goal.loop-place-preserved
loop-place-preserved g c =
    let so_far = c.loop-place.invariant in
    let old = c.args.nodes.items in
    let row = c.loop-place.nodes.items in
    let i = c.loop-place.place in
    let after = c.finish_node.new.node in
    record {
      work =
          IsWorked-next c.args.input.now old row i c.index_mut.result.now after c.loop-place.refused.memory c.by.result.memory
          c.and-refused.result.memory
          (λ fine. none_of _ _ (sym c.and-refused.ensures.memory ∙ fine))
          (omega (arith, c.loop-place-test.true, c.len-place-end.ensures, c.args.nodes.ok.0)) so_far.length so_far.rest
          c.index_mut.ensures.value c.finish_node.ensures.stepped
          (λ fine. on_ok_unless c.finish_node.result c.finish_node.ensures.ok (sym c.by.ensures.memory ∙ fine)) c.finish_node.ensures.come
          so_far.work;
      rest = drop-set-lt (i + 1) row i after (omega arith) ∙ drop_one_more row old i so_far.rest;
      length = length-set row i after ∙ so_far.length;
      no_worker = c.and-refused.ensures.thread ∙ ap₂ ◌||◌ so_far.no_worker c.by.ensures.thread;
    }

pub returns-clause-work : goal.returns-clause-work
returns-clause-work g c =
    let so_far = c.loop-place.invariant in
    IsWorked-all c.args.input.now c.args.nodes.items c.loop-place.nodes.items c.loop-place.place c.loop-place.refused.memory so_far.length
    (omega (arith, c.loop-place-test.false, c.len-place-end.ensures, c.args.nodes.ok.0)) so_far.work

pub returns-clause-no_worker : goal.returns-clause-no_worker
returns-clause-no_worker g c = c.loop-place.invariant.no_worker
