-- The registers read so far are those of the unit, one more with each pass, and after 32 of them all are.
use Rattle.std.proofs.Common.{◌≡◌, ◌≢◌, ◌<◌, ℕ, length, map, get_or, arith, sym, ◌∙◌, refl, below_more, get_or-set_other, get_or-set_same}
use Rattle.std.specs.List.{range_with_len}
use Rattle.std.proofs.Math.ListN.{length-set}
use Rattle.std.proofs.lemmas.Grind.{same_number_lists}
use Rattle.std.proofs.lemmas.List.FromFn.{length-map-range_with_len, get_or-map-range_with_len}
use Rattle.bsp_debug.proofs.reads.floats_of.Goals as goal

pub loop-n-init : goal.loop-n-init
loop-n-init g c = record { thirty_two = refl; read = λ k below. absurd (omega (arith, below)) }

pub loop-n-preserved : goal.loop-n-preserved
loop-n-preserved g c = rw c.from.ensures (record {
  thirty_two = rw length-set c.loop-n.invariant.thirty_two;
  read = below_more _ _
      (λ k below. let other : k ≢ c.loop-n.n = omega arith in rw get_or-set_other (c.loop-n.invariant.read k below))
      (let within : c.loop-n.n < length c.loop-n.f = omega arith in rw get_or-set_same c.register.ensures);
})

pub returns : goal.returns
returns g c =
    let held : ℕ → ℕ = λ r. get_or c.args.unit.now.registers r 0 in
    let all : length c.loop-n.f ≡ 32 = c.loop-n.invariant.thirty_two in
    let same : c.loop-n.f ≡ map held (range_with_len 0 32) = same_number_lists _ _
    (all ∙ sym (length-map-range_with_len held 0 32))
    (λ k below. let within : k < 32 = omega (arith, below, all) in
    c.loop-n.invariant.read k (omega (arith, within)) ∙ sym (get_or-map-range_with_len held 0 32 k k 0 within (omega arith))) in
    let fcsr = c.csr-fcsr.ensures in
    cc
