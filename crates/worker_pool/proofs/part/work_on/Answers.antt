-- Three pieces of work, one after another, come to steps of each node, and the last of them takes each to its end.
use Rattle.std.proofs.Common.{inl, inr, sym, ◌∙◌}
use Rattle.std.proofs.lemmas.Bool.{false≢true}
use Rattle.bsp_exchange.specs.Exchange.{states}
use Rattle.worker_pool.proofs.Refusals.{none_of, one_of}
use Rattle.worker_pool.proofs.Works.{HaveStepped-on, IsWorked-on}
use Rattle.worker_pool.proofs.part.work_on.Goals as goal

pub returns-clause-work : goal.returns-clause-work
returns-clause-work g c =
    let input = c.args.input.now in
    let begun = states c.begin-begun.result.nodes.items in
    let shared = states c.share_out-shared.result.nodes.items in
    let before =
    HaveStepped-on input (states c.args.nodes.items) begun shared c.begin-begun.ensures.stepped c.share_out-shared.ensures.stepped in
    IsWorked-on input (states c.args.nodes.items) shared
    (states c.finish-finished.result.nodes.items) c.finish-finished.result.refused.memory c.and-2.result.memory
    (λ fine. (none_of _ _ (sym c.and-2.ensures.memory ∙ fine)).1) before c.finish-finished.ensures.work

pub returns-clause-no_worker : goal.returns-clause-no_worker
returns-clause-no_worker g c refused =
    elim (one_of _ _ (sym c.and-2.ensures.thread ∙ refused)) [
      | inl before ↦ elim (one_of _ _ (sym c.and.ensures.thread ∙ before)) [
        | inl first ↦ absurd (false≢true (sym c.begin-begun.ensures.no_worker ∙ first))
        | inr there ↦ c.share_out-shared.ensures.no_worker there
      ]
      | inr last ↦ absurd (false≢true (sym c.finish-finished.ensures.no_worker ∙ last))
    ]
