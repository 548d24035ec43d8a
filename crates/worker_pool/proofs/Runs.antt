-- Runs of nodes, of which the last is parted from the others.
use Rattle.std.proofs.Common.{◌≡◌, ℕ, zero, suc, ◌+◌, ◌-◌, ◌*◌, ◌/◌, ◌%◌, ◌<◌, ◌≤◌, ap, ◌∙◌, arith}
use Rattle.std.proofs.Math.Nat.{div-add-mod, lt-div-mul-add, mul_comm, mul-add, le-mul_of_pos_right}

each_has_some : (each runs nodes : ℕ) → nodes < each * runs + runs → runs ≤ nodes → 0 < each
each_has_some zero runs nodes below enough = absurd (omega (arith, below, enough))
each_has_some (suc each) runs nodes below enough = omega arith

-- where a run takes its share of the nodes, each of the others has one
others_have_one : (each others : ℕ) → 0 < each → each + others ≤ each * (1 + others)
others_have_one each others some =
    let whole = mul-add each 1 others in
    let left : others ≤ others * each = le-mul_of_pos_right others some in
    let turned = mul_comm others each in
    omega (arith, whole, left, turned)

pub enough_for_others : (nodes runs : ℕ) → 1 < runs → runs ≤ nodes → runs - 1 ≤ nodes - nodes / runs
enough_for_others nodes runs some enough =
    let whole : nodes / runs * runs + nodes % runs ≡ nodes =
    ap (λ n. n + nodes % runs) (mul_comm (nodes / runs) runs) ∙ div-add-mod nodes runs in
    let each : 0 < nodes / runs = each_has_some (nodes / runs) runs nodes (lt-div-mul-add (omega arith)) enough in
    let all : 1 + (runs - 1) ≡ runs = omega (arith, some) in
    let left = rw all at (others_have_one (nodes / runs) (runs - 1) each) in
    omega (arith, left, whole)
