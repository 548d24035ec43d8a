-- Each rank's steps go on with the phase: all of them make the phases whole, and a refusal comes within them.
use Rattle.std.proofs.Common.{◌≡◌, ℕ, ◌+◌, ◌≤◌, ◌^◌, ◌++◌, length, replicate, refl, sym, ap, ◌∙◌, subst, arith}
use Rattle.std.proofs.lemmas.List.{length-append, length-replicate}
use Rattle.std.proofs.lemmas.Result.{err_from_is_err_and}
use Rattle.node_core.specs.Hart.{max_nodes}
use Rattle.machine_core.specs.declared.event.Event.TheVariants.{Step}
use Rattle.machine_core.specs.declared.settings.Settings.{Settings}
use Rattle.machine_core.specs.Events.{after}
use Rattle.machine_core.specs.Machine.{MachineState}
use Rattle.machine_core.specs.Sound.{IsSoundMachine}
use Rattle.machine_core.proofs.Phased.{IsPhasing-start, IsPhasing-more, IsPhasing-done}
use Rattle.machine_core.proofs.Runs.{after-often}
use Rattle.machine_core.proofs.Sound.{length-nodes}
use Rattle.machine_core.proofs.Starts.{few_in_range}
use Rattle.machine_core.proofs.Steps.{after-nil}
use Rattle.bsp_debug.specs.Debugger.{steps_at}
use Rattle.bsp_debug.specs.Made.{events_of}
use Rattle.bsp_debug.specs.Trace.{Traced, with_steps, after_steps, stepped}
use Rattle.bsp_debug.proofs.Counts.{after_steps-made}
use Rattle.bsp_debug.proofs.Entries.{after-append, events_of-steps, EndsBelow-steps}
use Rattle.bsp_debug.proofs.Phases.{within-none, within-steps}
use Rattle.bsp_debug.proofs.trace.Trace.phase.Goals as goal

-- entries of a machine that has made some more steps of a rank
here-more : (old m : MachineState) (t : Traced) (rank k : ℕ) → t.machine ≡ after old (events_of t.made)
    → after_steps t.machine rank k ≡ after old (events_of (with_steps t.made rank k))
here-more old m t rank k here =
    ap (λ (x : MachineState). after_steps x rank k) here ∙ sym (after-append old (events_of t.made) (replicate k (Step rank)))
    ∙ ap (after old) (sym (events_of-steps t.made rank k))

pub loop-rank-init : goal.loop-rank-init
loop-rank-init g c =
    let m = c.args.self.now.machine in
    let sound = subst IsSoundMachine c.machine.ensures.value c.settings-settings.ensures.sound in
    record {
      trace = c.machine.ensures.trace;
      phasing = IsPhasing-start m sound;
      settings = refl;
      here = rw c.requires.fresh (sym (after-nil m));
      within = rw c.requires.fresh (within-none m);
      order = rw c.requires.fresh tt;
      moved = rw c.requires.fresh refl;
      few = omega arith;
      start = refl;
    }

pub steps-requires : goal.steps-requires
steps-requires g c = c.loop-rank.invariant.order

pub returns-in_err-moved-clause-start : goal.returns-in_err-moved-clause-start
returns-in_err-moved-clause-start g c =
    ap (λ (t : Traced). t.start) c.in_err-moved.ensures.err.2 ∙ c.loop-rank.invariant.start

pub returns-in_err-moved-clause-err : goal.returns-in_err-moved-clause-err
returns-in_err-moved-clause-err g c =
    let p = err_from_is_err_and c.from_residual.result c.from_residual.ensures.1 in
    let so_far = c.loop-rank.invariant in
    let t = c.loop-rank.self in
    let made = c.in_err-moved.ensures.err in
    rw p.1 (rw (made.2, events_of-steps t.made c.loop-rank.rank made.0)
    (within-steps c.args.self.now.machine t.machine (events_of t.made) made.0 _ c.loop-rank.rank so_far.here so_far.phasing.sound
    so_far.phasing.stopped made.1 so_far.within))

pub overflow_add-moved : goal.overflow_add-moved
overflow_add-moved g c =
    let so_far = c.loop-rank.invariant in
    let sound = subst IsSoundMachine c.machine.ensures.value c.settings-settings.ensures.sound in
    let same : c.settings-settings.result ≡ c.args.self.now.machine.settings =
    c.settings-settings.ensures.value ∙ ap (λ (m : MachineState). m.settings) c.machine.ensures.value in
    let nodes : c.settings-settings.result.nodes ≤ max_nodes =
    rw (ap (λ (s : Settings). s.nodes) same) (few_in_range _ sound.settings) in
    let limit : c.settings-settings.result.limit ≤ 2 ^ 40 = rw (ap (λ (s : Settings). s.limit) same) sound.settings.limit in
    let more = c.in_ok-moved.ensures.few in
    omega (arith, so_far.few, nodes, limit, more, c.loop-rank-test.true)

pub loop-rank-preserved : goal.loop-rank-preserved
loop-rank-preserved g c =
    let so_far = c.loop-rank.invariant in
    let old = c.args.self.now.machine in
    let t = c.loop-rank.self in
    let rank = c.loop-rank.rank in
    let sound = subst IsSoundMachine c.machine.ensures.value c.settings-settings.ensures.sound in
    let same : c.settings-settings.result ≡ old.settings =
    c.settings-settings.ensures.value ∙ ap (λ (m : MachineState). m.settings) c.machine.ensures.value in
    let limit_is : c.settings-settings.result.limit ≡ t.machine.settings.limit =
    ap (λ (s : Settings). s.limit) (same ∙ sym so_far.settings) in
    let limit : c.settings-settings.result.limit ≤ 2 ^ 40 = rw (ap (λ (s : Settings). s.limit) same) sound.settings.limit in
    let n = c.settings-settings.result.limit in
    let count = steps_at t.machine rank n in
    let made : c.steps.new.self ≡ stepped rank count t = c.in_ok-moved.ensures.ok in
    let whole : c.steps.new.self.machine ≡ after_steps t.machine rank t.machine.settings.limit =
    ap (λ (x : Traced). x.machine) made ∙ sym (after_steps-made n t.machine rank) ∙ ap (after_steps t.machine rank) limit_is in
    let events : events_of c.steps.new.self.made ≡ events_of t.made ++ replicate count (Step rank) =
    ap (λ (x : Traced). events_of x.made) made ∙ events_of-steps t.made rank count in
    record {
      trace = c.steps.ensures.trace;
      phasing = IsPhasing-more old t.machine c.steps.new.self.machine rank so_far.phasing whole;
      settings = ap (λ (m : MachineState). m.settings) (whole ∙ after-often t.machine.settings.limit t.machine rank) ∙ so_far.settings;
      here =
          ap (λ (x : Traced). x.machine) made ∙ here-more old t.machine t rank count so_far.here
          ∙ ap (λ (x : Traced). after old (events_of x.made)) (sym made);
      within =
          rw events
          (within-steps old t.machine (events_of t.made) count n rank so_far.here so_far.phasing.sound so_far.phasing.stopped
          (omega arith) so_far.within);
      order = rw made (EndsBelow-steps rank count t.made so_far.order);
      moved =
          (let sum : c.loop-rank.moved + c.in_ok-moved.field-0 ≡ length (events_of t.made) + count =
          omega (arith, so_far.moved, c.in_ok-moved.ensures.count) in sum)
          ∙ sym (ap length events ∙ length-append (events_of t.made) (replicate count (Step rank))
          ∙ ap (λ k. length (events_of t.made) + k) (length-replicate count (Step rank)));
      few = (let more = c.in_ok-moved.ensures.few in omega (arith, so_far.few, limit, more));
      start = ap (λ (x : Traced). x.start) made ∙ so_far.start;
    }

pub returns-clause-start : goal.returns-clause-start
returns-clause-start g c = c.loop-rank.invariant.start

pub returns-clause-ok : goal.returns-clause-ok
returns-clause-ok g c =
    let so_far = c.loop-rank.invariant in
    let old = c.args.self.now.machine in
    let sound = subst IsSoundMachine c.machine.ensures.value c.settings-settings.ensures.sound in
    let same : c.settings-settings.result ≡ old.settings =
    c.settings-settings.ensures.value ∙ ap (λ (m : MachineState). m.settings) c.machine.ensures.value in
    let nodes : c.settings-settings.result.nodes ≡ old.settings.nodes = ap (λ (s : Settings). s.nodes) same in
    let long = length-nodes c.loop-rank.self.machine so_far.phasing.sound ∙ ap (λ (s : Settings). s.nodes) so_far.settings in
    record {
      first = so_far.within;
      whole =
          sym so_far.here
          ∙ IsPhasing-done old c.loop-rank.self.machine c.loop-rank.rank sound (omega (arith, long, nodes, c.loop-rank-test.false))
          so_far.phasing;
    }

pub returns-clause-moved : goal.returns-clause-moved
returns-clause-moved g c = c.loop-rank.invariant.moved

pub returns-clause-trace : goal.returns-clause-trace
returns-clause-trace g c = c.loop-rank.invariant.trace
