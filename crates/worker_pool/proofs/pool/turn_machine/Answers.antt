-- All nodes are prepared before a part lands; then the machine has made its turn, or it is as it was.
use Rattle.std.proofs.Common.{◌≡◌, ◌<◌, List, inl, inr, length, sym, ap, ap₂, ◌∙◌, arith}
use Rattle.std.specs.Prelude.{IsFalse}
use Rattle.std.proofs.lemmas.Bool.{false≢true}
use Rattle.std.proofs.lemmas.List.{length-map}
use Rattle.node_core.specs.Node.{NodeState, PreparedNode}
use Rattle.bsp_exchange.specs.Parts.{PartState, landed}
use Rattle.machine_core.specs.declared.event.Event.TheVariants.{Turn}
use Rattle.machine_core.specs.Events.{event}
use Rattle.machine_core.specs.Landing.{row_landed}
use Rattle.machine_core.specs.Machine.{MachineState}
use Rattle.worker_pool.specs.declared.landing.Stage.TheVariants.{Prepare}
use Rattle.worker_pool.specs.declared.error.Refused.{Refused}
use Rattle.worker_pool.proofs.Landings.{IsDone-nodes, ready_as_many}
use Rattle.worker_pool.proofs.Refusals.{one_of}
use Rattle.worker_pool.proofs.pool.turn_machine.Goals as goal

pub make_in_threads-prepared-requires-clause-enough :
    goal.make_in_threads-prepared-requires-clause-enough
make_in_threads-prepared-requires-clause-enough g c κs within several =
    let row = c.in-Landing.field-0.nodes in
    let parts = c.in-Landing.field-0.parts in
    let long = ready_as_many Prepare parts.items row.items c.in-Landing.ensures.ready in
    let read = ap length c.deref.ensures.value in
    omega (arith, c.landing_threads-threads.ensures.parts, read, long, row.ok.0)

pub make_in_threads-landed-requires-clause-ready : goal.make_in_threads-landed-requires-clause-ready
make_in_threads-landed-requires-clause-ready g c κs within = c.make_in_threads-prepared.ensures.done.2 c.if-not-prepared.false

pub make_in_threads-landed-requires-clause-enough :
    goal.make_in_threads-landed-requires-clause-enough
make_in_threads-landed-requires-clause-enough g c κs within several =
    let row = c.in-Landing.field-0.nodes in
    let parts = c.in-Landing.field-0.parts in
    let prepared = c.make_in_threads-prepared.result in
    let long = ready_as_many Prepare parts.items row.items c.in-Landing.ensures.ready in
    let same =
    IsDone-nodes Prepare parts.items row.items prepared.share.parts.items prepared.share.nodes.items prepared.complete
    c.make_in_threads-prepared.ensures.done in
    let read = ap length c.deref.ensures.value in
    omega (arith, c.landing_threads-threads.ensures.parts, read, long, same, prepared.share.nodes.ok.0)

pub finish-requires : goal.finish-requires
finish-requires g c =
    let handed = c.in-Landing.ensures in
    let prepared = c.make_in_threads-prepared.ensures.done in
    c.make_in_threads-landed.ensures.done.1
    ∙ ap₂ (λ (parts : List PartState) (nodes : List NodeState). landed parts nodes) (prepared.0 ∙ handed.gathered) (prepared.1 ∙ handed.row)
    ∙ sym (ap (λ (x : MachineState). row_landed x.nodes) handed.rest)

pub returns-else-not-prepared : goal.returns-else-not-prepared
returns-else-not-prepared g c =
    let handed = c.in-Landing.ensures in
    let row = c.in-Landing.field-0.nodes in
    let parts = c.in-Landing.field-0.parts in
    record {
      ok = λ made. c.finish.ensures.turned ∙ ap (λ (x : MachineState). event x Turn) handed.rest;
      err = λ not_made. absurd cc;
      going = λ made refused. c.finish.ensures.going;
      no_worker = λ refused.
          let several : 1 < c.landing_threads-threads.result =
          elim (one_of _ _ (sym c.and.ensures.thread ∙ sym (ap (λ (r : Refused). r.thread) c.made-turned.ensures.refused) ∙ refused)) [
            | inl first ↦ c.make_in_threads-prepared.ensures.no_worker first
            | inr second ↦ c.make_in_threads-landed.ensures.no_worker second
          ] in
          let long = ready_as_many Prepare parts.items row.items handed.ready in
          let nodes : length row.items ≡ length c.args.machine.nodes =
          sym (length-map row.items (λ (p : PreparedNode). p.node)) ∙ ap (λ (ns : List NodeState). length ns) handed.row in
          let read = ap length c.deref.ensures.value in (
            omega (arith, several, c.landing_threads-threads.ensures.workers),
            omega (arith, several, c.landing_threads-threads.ensures.parts, read, long, nodes),
          );
    }

pub returns-then-not-prepared : goal.returns-then-not-prepared
returns-then-not-prepared g c =
    let handed = c.in-Landing.ensures in
    let row = c.in-Landing.field-0.nodes in
    let parts = c.in-Landing.field-0.parts in
    let turned = c.called_off-turned.ensures in
    record {
      ok = λ made. absurd (false≢true (sym turned.made ∙ made));
      err = λ off. (c.call_off.ensures ∙ handed.rest, turned.memory);
      going = λ made refused. absurd (false≢true (sym turned.made ∙ made));
      no_worker = λ refused.
          let several : 1 < c.landing_threads-threads.result = c.make_in_threads-prepared.ensures.no_worker (sym turned.thread ∙ refused) in
          let long = ready_as_many Prepare parts.items row.items handed.ready in
          let nodes : length row.items ≡ length c.args.machine.nodes =
          sym (length-map row.items (λ (p : PreparedNode). p.node)) ∙ ap (λ (ns : List NodeState). length ns) handed.row in
          let read = ap length c.deref.ensures.value in (
            omega (arith, several, c.landing_threads-threads.ensures.workers),
            omega (arith, several, c.landing_threads-threads.ensures.parts, read, long, nodes),
          );
    }

pub returns-in-Ok : goal.returns-in-Ok
returns-in-Ok g c =
    let begun = rw c.in-Ok.is at c.in-Whole.ensures in
    let nothing = c.made.ensures.refused in
    let no_thread : IsFalse c.made.result.refused.thread = ap (λ (r : Refused). r.thread) nothing in
    let no_memory : IsFalse c.made.result.refused.memory = ap (λ (r : Refused). r.memory) nothing in
    record {
      ok = λ made. begun.0.ok;
      err = λ off. absurd (false≢true (sym off ∙ c.made.ensures.made));
      going = λ made refused. elim refused [
        | inl thread ↦ absurd (false≢true (sym no_thread ∙ thread))
        | inr memory ↦ absurd (false≢true (sym no_memory ∙ memory))
      ];
      no_worker = λ refused. absurd (false≢true (sym no_thread ∙ refused));
    }

pub returns-in-Err : goal.returns-in-Err
returns-in-Err g c =
    let begun = rw c.in-Err.is at c.in-Whole.ensures in
    let turned = c.called_off.ensures in
    record {
      ok = λ made. absurd (false≢true (sym turned.made ∙ made));
      err = λ off. (begun.0.err, turned.memory);
      going = λ made refused. absurd (false≢true (sym turned.made ∙ made));
      no_worker = λ refused. absurd (false≢true (sym turned.thread ∙ refused));
    }
