-- What the work makes of the row that was lent, it makes of the machine that takes it back.
use Rattle.std.proofs.Common.{◌≡◌, ℕ, List, length, sym, ap, subst, ◌∙◌, arith}
use Rattle.std.proofs.lemmas.List.{length-map}
use Rattle.node_core.specs.Node.{NodeState, PreparedNode}
use Rattle.bsp_exchange.specs.Exchange.{states}
use Rattle.machine_core.specs.Events.{HaveStepped}
use Rattle.machine_core.specs.Machine.{MachineState}
use Rattle.worker_pool.proofs.Phases.{worked_phases, worked_events, worked_come}
use Rattle.worker_pool.proofs.pool.work_on_machine.Goals as goal

pub returns : goal.returns
returns g c =
    let m = c.args.machine in
    let computing = c.lend-computing.result.0 in
    let old = c.lend-computing.result.1 in
    let input = c.input.result.now in
    let row = states c.work_on-worked.result.nodes.items in
    let lacks_memory = c.work_on-worked.result.refused.memory in
    let lent = c.lend-computing.ensures in
    let work = c.work_on-worked.ensures.work in
    record {
      ok =
          worked_phases m computing c.take_back.result input (states old.items) row lacks_memory lent.rest lent.row c.input.ensures
          c.take_back.ensures work c.settings-settings.ensures.sound;
      stepped =
          worked_events m computing c.take_back.result input (states old.items) row lacks_memory lent.rest lent.row c.input.ensures
          c.take_back.ensures work;
      come =
          worked_come m computing c.take_back.result input (states old.items) row lacks_memory lent.rest lent.row c.input.ensures
          c.take_back.ensures work;
      no_worker = λ refused.
          let nodes : length old.items ≡ length m.nodes =
          sym (length-map old.items (λ (p : PreparedNode). p.node)) ∙ ap (λ (ns : List NodeState). length ns) lent.row in
          let several = c.work_on-worked.ensures.no_worker refused in
          (omega (arith, several, c.min-workers.ensures), omega (arith, several, c.min-workers.ensures, c.len.ensures, old.ok.0, nodes));
    }

pub take_back-requires : goal.take_back-requires
take_back-requires g c =
    let computing = c.lend-computing.result.0 in
    let row = states c.work_on-worked.result.nodes.items in
    let nodes = c.lend-computing.ensures.row ∙ sym (ap (λ (m : MachineState). m.nodes) c.lend-computing.ensures.rest) in
    let stepped = subst (λ (ns : List NodeState). HaveStepped c.input.result.now ns row) nodes c.work_on-worked.ensures.work.stepped in
    subst (λ (input : List ℕ). HaveStepped input computing.nodes row) c.input.ensures stepped
