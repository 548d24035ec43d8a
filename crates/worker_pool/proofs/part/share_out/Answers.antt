-- The table gives each node back after some steps of its own; without a table the nodes are as they were.
use Rattle.std.proofs.Common.{◌∙◌}
use Rattle.std.proofs.lemmas.Bool.{false≢true}
use Rattle.bsp_exchange.specs.Exchange.{states}
use Rattle.worker_pool.proofs.Works.{HaveStepped-none, HaveStepped-states}
use Rattle.worker_pool.proofs.part.share_out.Goals as goal

pub returns-then-not-some_run-clause-stepped : goal.returns-then-not-some_run-clause-stepped
returns-then-not-some_run-clause-stepped g c = HaveStepped-none c.args.input.now (states c.args.nodes.items)

pub returns-in-Ok-clause-stepped : goal.returns-in-Ok-clause-stepped
returns-in-Ok-clause-stepped g c =
    let ok = c.in-Ok.ensures.ok in
    let each = rw (ok.0, ok.1) at c.close.ensures.stepped in
    HaveStepped-states c.args.input.now c.args.nodes.items c.close.result.items each

pub returns-in-Err-clause-stepped : goal.returns-in-Err-clause-stepped
returns-in-Err-clause-stepped g c = rw c.in-Err.ensures.err (HaveStepped-none c.args.input.now (states c.args.nodes.items))

pub place-place-requires : goal.place-place-requires
place-place-requires g c = record { seated = c.in-Ok.ensures.keeper.0 }

pub close-requires : goal.close-requires
close-requires g c =
    let keeper = c.in-Ok.ensures.keeper in
    let same = c.place-place.ensures.same in
    record { seated = (same.0 ∙ keeper.0, same.1 ∙ keeper.1) }

pub returns-then-not-some_run-clause-no_worker : goal.returns-then-not-some_run-clause-no_worker
returns-then-not-some_run-clause-no_worker g c = λ refused. absurd (false≢true refused)

pub returns-in-Ok-clause-no_worker : goal.returns-in-Ok-clause-no_worker
returns-in-Ok-clause-no_worker g c = c.work_in_threads-refused.ensures.no_worker

pub returns-in-Err-clause-no_worker : goal.returns-in-Err-clause-no_worker
returns-in-Err-clause-no_worker g c = λ refused. absurd (false≢true refused)
