-- The steps of the rank, slice by slice.
use Rattle.std.proofs.Common.{◌≡◌, ◌++◌, ◌+◌, [], drop, get_or, take, refl, sym, subst, ◌∙◌, arith}
use Rattle.std.proofs.lemmas.List.{drop_all, length-take-le}
use Rattle.step_counts.specs.Parts.{addresses_at}
use Rattle.step_counts.proofs.Counting.{Counted, Counted-made, Counted-next, Counting-more, Counting-start, few-told, fewer, made-more}
use Rattle.step_counts.proofs.Counting.{next_left, none-outside, stopped-told}
use Rattle.step_counts.proofs.parts.count_steps.Goals as goal

pub loop-pcs-init : goal.loop-pcs-init
loop-pcs-init g c = record {
  counting = Counting-start c.args.machine.now c.args.rank c.args.table.now c.requires.sound c.requires.empty c.requires.memory;
  memory = refl;
}

pub returns-in_err-made-clause-made : goal.returns-in_err-made-clause-made
returns-in_err-made-clause-made g c =
    let refused = c.in_err-made.ensures.steps.err in
    made-more c.args.machine.now c.loop-pcs.machine c.args.rank c.loop-pcs.table c.requires.sound c.loop-pcs.invariant.counting
    c.run_node_traced.new.self refused.0 refused.2

pub loop-place-init : goal.loop-place-init
loop-place-init g c = record {
  counted =
      Counted-made c.args.machine.now c.loop-pcs.machine c.args.rank c.loop-pcs.table c.requires.sound c.loop-pcs.invariant.counting
      c.run_node_traced.new.self _ c.in_ok-made.ensures.steps.ok
      (take c.in_ok-made.made c.run_node_traced.new.pcs) c.in_ok-made.ensures.addresses.are;
  memory = c.loop-pcs.invariant.memory;
}

pub loop-pcs-smaller : goal.loop-pcs-smaller
loop-pcs-smaller g c =
    fewer c.args.machine.now c.loop-pcs.machine c.args.rank c.loop-pcs.table c.requires.sound c.loop-pcs.invariant.counting
    c.run_node_traced.new.self _ (omega arith)
    (sym c.runs.ensures ∙ c.loop-pcs-test.true) c.in_ok-made.ensures.steps.ok

pub loop-pcs-preserved : goal.loop-pcs-preserved
loop-pcs-preserved g c =
    let pcs = take c.in_ok-made.made c.run_node_traced.new.pcs in
    let long = length-take-le c.in_ok-made.made c.run_node_traced.new.pcs
    (omega (arith, c.in_ok-made.ensures.addresses.few, c.run_node_traced.auto.pcs)) in
    let none : drop c.loop-place.place pcs ≡ [] = drop_all c.loop-place.place pcs (omega (arith, long, c.loop-place-test.false)) in
    record {
      counting =
          Counting-more c.args.machine.now c.loop-pcs.machine c.args.rank c.loop-pcs.table c.requires.sound c.loop-pcs.invariant.counting
          c.run_node_traced.new.self _ c.loop-place.table c.in_ok-made.ensures.steps.ok
          (subst (λ xs. Counted (addresses_at c.args.machine.now c.args.rank) (xs ++ addresses_at c.run_node_traced.new.self c.args.rank)
          c.loop-place.table) none c.loop-place.invariant.counted);
      memory = c.loop-place.invariant.memory;
    }

pub add-requires-clause-few : goal.add-requires-clause-few
add-requires-clause-few g c =
    let place = c.loop-place.place in
    let pcs = c.run_node_traced.new.pcs in
    let made = c.in_ok-made.made in
    let steps = addresses_at c.args.machine.now c.args.rank in
    let after = addresses_at c.run_node_traced.new.self c.args.rank in
    let left = drop (place + 1) (take made pcs) ++ after in
    let so_far =
    subst (λ xs. Counted steps xs c.loop-place.table)
    (next_left pcs after made place c.loop-place-test.true
    (omega (arith, c.in_ok-made.ensures.addresses.few, c.run_node_traced.auto.pcs))) c.loop-place.invariant.counted in
    few-told steps left (get_or pcs place 0) c.loop-place.table so_far

pub add-requires-clause-outside : goal.add-requires-clause-outside
add-requires-clause-outside g c =
    let place = c.loop-place.place in
    let pcs = c.run_node_traced.new.pcs in
    let made = c.in_ok-made.made in
    let steps = addresses_at c.args.machine.now c.args.rank in
    let after = addresses_at c.run_node_traced.new.self c.args.rank in
    let left = drop (place + 1) (take made pcs) ++ after in
    let so_far =
    subst (λ xs. Counted steps xs c.loop-place.table)
    (next_left pcs after made place c.loop-place-test.true
    (omega (arith, c.in_ok-made.ensures.addresses.few, c.run_node_traced.auto.pcs))) c.loop-place.invariant.counted in
    λ past. none-outside steps left (get_or pcs place 0) c.loop-place.table so_far

pub returns-in_err-add-clause-made : goal.returns-in_err-add-clause-made
returns-in_err-add-clause-made g c =
    made-more c.args.machine.now c.loop-pcs.machine c.args.rank c.loop-pcs.table c.requires.sound c.loop-pcs.invariant.counting
    c.run_node_traced.new.self _ c.in_ok-made.ensures.steps.ok

pub loop-place-preserved : goal.loop-place-preserved
loop-place-preserved g c =
    let place = c.loop-place.place in
    let pcs = c.run_node_traced.new.pcs in
    let made = c.in_ok-made.made in
    let steps = addresses_at c.args.machine.now c.args.rank in
    let after = addresses_at c.run_node_traced.new.self c.args.rank in
    let left = drop (place + 1) (take made pcs) ++ after in
    let so_far =
    subst (λ xs. Counted steps xs c.loop-place.table)
    (next_left pcs after made place c.loop-place-test.true
    (omega (arith, c.in_ok-made.ensures.addresses.few, c.run_node_traced.auto.pcs))) c.loop-place.invariant.counted in
    record {
      counted =
          Counted-next steps left (get_or pcs place 0) c.loop-place.table so_far c.add.new.self c.in_ok-add.ensures.told
          c.in_ok-add.ensures.memory c.in_ok-add.ensures.inside;
      memory = c.in_ok-add.ensures.memory ∙ c.loop-place.invariant.memory;
    }

pub returns-clause-told : goal.returns-clause-told
returns-clause-told g c =
    stopped-told c.args.machine.now c.loop-pcs.machine c.args.rank c.loop-pcs.table c.requires.sound c.loop-pcs.invariant.counting
    (sym c.runs.ensures ∙ c.loop-pcs-test.false)
