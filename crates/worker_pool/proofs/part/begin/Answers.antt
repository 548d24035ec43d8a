-- Each node in turn makes some steps of its own, and nothing but memory is refused.
use Rattle.std.proofs.Common.{◌+◌, ◌||◌, ap₂, ◌∙◌, arith}
use Rattle.std.proofs.lemmas.List.{drop-set-lt, length-set}
use Rattle.worker_pool.proofs.Works.{HaveStepped-next, HaveStepped-all, drop_one_more}
use Rattle.worker_pool.proofs.part.begin.Goals as goal

pub loop-place-preserved : goal.loop-place-preserved
loop-place-preserved g c =
    let so_far = c.loop-place.invariant in
    let old = c.args.nodes.items in
    let row = c.loop-place.nodes.items in
    let i = c.loop-place.place in
    let after = c.begin_node-begun.new.node in
    record {
      stepped =
          HaveStepped-next c.args.input.now old row i c.index_mut.result.now after
          (omega (arith, c.loop-place-test.true, c.len-place-end.ensures, c.args.nodes.ok.0)) so_far.length so_far.rest
          c.index_mut.ensures.value c.begin_node-begun.ensures.stepped so_far.stepped;
      rest = drop-set-lt (i + 1) row i after (omega arith) ∙ drop_one_more row old i so_far.rest;
      length = length-set row i after ∙ so_far.length;
      no_worker = c.and-refused.ensures.thread ∙ ap₂ ◌||◌ so_far.no_worker c.by.ensures.thread;
    }

pub returns-clause-stepped : goal.returns-clause-stepped
returns-clause-stepped g c =
    let so_far = c.loop-place.invariant in
    HaveStepped-all c.args.input.now c.args.nodes.items c.loop-place.nodes.items c.loop-place.place so_far.length
    (omega (arith, c.loop-place-test.false, c.len-place-end.ensures, c.args.nodes.ok.0)) so_far.stepped

pub returns-clause-no_worker : goal.returns-clause-no_worker
returns-clause-no_worker g c = c.loop-place.invariant.no_worker
