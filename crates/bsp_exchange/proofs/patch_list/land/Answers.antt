-- Each patch is the first of those that are left, and lands in pages that are private.
use Rattle.std.proofs.Common.{◌≡◌, ℕ, ◌+◌, ◌≤◌, List, length, take, drop, refl, sym, ap, subst, ◌∙◌, arith}
use Rattle.std.proofs.lemmas.List.{drop_all, places}
use Rattle.node_memory.specs.Pages.{Owns}
use Rattle.node_core.specs.Node.{PreparedNode}
use Rattle.bsp_exchange.specs.Parts.{Patch, OwnsEach, with_patches}
use Rattle.bsp_exchange.proofs.Patched.{patch_read, patches_from}
use Rattle.bsp_exchange.proofs.patch_list.land.Goals as goal
use Rattle.bsp_exchange.proofs.patch_list.land.Goals.{in-Some, in-None}

few_long : (room : List ℕ) (len : ℕ) → (len ≤ 16) × (length room ≡ 16) → length (take len room) ≡ len
few_long room len few = grind (arith, places, few.0, few.1)

pub loop-place-init : goal.loop-place-init
loop-place-init g c = record { synced = c.requires.synced; private = c.requires.private; same = refl }

pub land_few-requires-clause-private : goal.land_few-requires-clause-private
land_few-requires-clause-private g c =
    let patches = g.P.PatchList.patches c.args.patches.now in
    let few = c.in-Some.few in
    let long = few_long few.0 few.1 c.in-Some.ensures.most in
    let patch =
    patch_read patches c.loop-place.place _ c.addr-addr.result (take few.1 few.0) c.count-place-end.ensures c.loop-place-test.true
    c.addr-addr.ensures c.in-Some.ensures.first in
    let left = subst (OwnsEach c.loop-place.node.private) (patches_from patch) c.loop-place.invariant.private in
    subst (λ (n : ℕ). Owns c.loop-place.node.private c.addr-addr.result n) long left.0

pub land-requires : goal.land-requires
land-requires g c =
    let patches = g.P.PatchList.patches c.args.patches.now in
    let patch =
    patch_read patches c.loop-place.place _ c.addr-addr.result c.bytes.result.now c.count-place-end.ensures c.loop-place-test.true
    c.addr-addr.ensures c.bytes.ensures in
    let left = subst (OwnsEach c.loop-place.node.private) (patches_from patch) c.loop-place.invariant.private in
    record { synced = c.loop-place.invariant.synced; private = left.0 }

pub loop-place-preserved : goal.loop-place-preserved
loop-place-preserved g c =
    let patches = g.P.PatchList.patches c.args.patches.now in
    let node = c.loop-place.node in
    let before = c.loop-place.invariant in
    let with_rest : PreparedNode → PreparedNode = λ p. record p { node = with_patches (drop (c.loop-place.place + 1) patches) p.node } in
    elim c.match-few.branch [
      | in-Some w ↦
          let patch =
          patch_read patches c.loop-place.place _ c.addr-addr.result (take w.in-Some.few.1 w.in-Some.few.0) c.count-place-end.ensures c.loop-place-test.true
          c.addr-addr.ensures w.in-Some.ensures.first in
          let left = subst (OwnsEach node.private) (patches_from patch) before.private in
          let is = w.node-is ∙ w.land_few.ensures in
          record {
            synced = ap (λ (p : PreparedNode). p.node.state) is ∙ before.synced;
            private = rw (ap (λ (p : PreparedNode). p.private) is) left.1;
            same =
                ap with_rest is
                ∙ ap (λ (ps : List Patch). record node { node = with_patches ps node.node }) (sym (patches_from patch))
                ∙ before.same;
          }
      | in-None w ↦
          let patch =
          patch_read patches c.loop-place.place _ c.addr-addr.result w.bytes.result.now c.count-place-end.ensures c.loop-place-test.true
          c.addr-addr.ensures w.bytes.ensures in
          let left = subst (OwnsEach node.private) (patches_from patch) before.private in
          let is = w.node-is ∙ w.land.ensures in
          record {
            synced = ap (λ (p : PreparedNode). p.node.state) is ∙ before.synced;
            private = rw (ap (λ (p : PreparedNode). p.private) is) left.1;
            same =
                ap with_rest is
                ∙ ap (λ (ps : List Patch). record node { node = with_patches ps node.node }) (sym (patches_from patch))
                ∙ before.same;
          }
    ]

pub returns : goal.returns
returns g c =
    let patches = g.P.PatchList.patches c.args.patches.now in
    let node = c.loop-place.node in
    let none = drop_all c.loop-place.place patches (omega (arith, c.loop-place-test.false, c.count-place-end.ensures)) in
    ap (λ (ps : List Patch). record node { node = with_patches ps node.node }) (sym none) ∙ c.loop-place.invariant.same
