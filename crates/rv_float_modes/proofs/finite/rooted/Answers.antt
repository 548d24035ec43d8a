-- The digits are shifted to an even place, and their whole root has enough digits and encloses the exact root.
use Rattle.std.proofs.Common.{◌+◌, ◌-◌, ◌*◌, ◌/◌, ◌%◌, ◌^◌, ◌≤◌, ◌<◌, ℕ, not, nat_eq, sym, subst}
use Rattle.rv_float_modes.specs.Enclosed.{Encloses}
use Rattle.rv_float_modes.specs.Operations.{exact_root}
use Rattle.rv_float_modes.proofs.Roots.{even, root_wide, rooted_encloses, root_narrow}
use Rattle.rv_float_modes.proofs.finite.rooted.Goals as goal
use lib.Count.{count_leading_zeros}

pub overflow_sub-shift : goal.overflow_sub-shift
overflow_sub-shift c = (even c.args.p.digits c.args.p.place c.requires.nonzero c.requires.narrow).room

pub returns-clause-wide : goal.returns-clause-wide
returns-clause-wide c =
    let D = c.args.p.digits in
    let z = count_leading_zeros 128 D in
    let s = z - (c.args.p.place + z) % 2 in
    let e = even D c.args.p.place c.requires.nonzero c.requires.narrow in
    let n = c.isqrt-root.ensures.next_square_gt in
    let l : D * 2 ^ s < (c.isqrt-root.result + 1) * (c.isqrt-root.result + 1) =
    subst (λ (x : ℕ). x < (c.isqrt-root.result + 1) * (c.isqrt-root.result + 1)) e.whole n in
    record {
      wide = root_wide (D * 2 ^ s) c.isqrt-root.result e.wide l;
      narrow = root_narrow c.isqrt-root.result c.isqrt-root.ensures.bound;
    }

pub returns-clause-root : goal.returns-clause-root
returns-clause-root c f x h =
    let D = c.args.p.digits in
    let i = c.args.p.place in
    let z = count_leading_zeros 128 D in
    let s = z - (i + z) % 2 in
    let d = c.isqrt-root.result in
    let e = even D i c.requires.nonzero c.requires.narrow in
    let l : D * 2 ^ s < (d + 1) * (d + 1) = subst (λ (x : ℕ). x < (d + 1) * (d + 1)) e.whole c.isqrt-root.ensures.next_square_gt in
    let m : d * d ≤ D * 2 ^ s = subst (λ (x : ℕ). d * d ≤ x) e.whole c.isqrt-root.ensures.square_le in
    subst (λ (v : ℕ). Encloses (exact_root x) (record { digits = d; place = (i + 7118 - s) / 2; goes_on = not (nat_eq (d * d) v) }))
    (sym e.whole)
    (rooted_encloses f x c.args.p s d h e.little e.even m l)
