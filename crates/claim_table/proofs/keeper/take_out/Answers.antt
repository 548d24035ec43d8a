-- The slot of the next rank is full, and what it has comes behind what was taken out before.
use Rattle.std.proofs.Common.{◌≡◌, ℕ, zero, suc, ◌+◌, ◌<◌, ◌≤◌, [], ◌∷◌, ◌++◌, length, map, take, Bool, true, false, List, Some, sym, ap}
use Rattle.std.proofs.Common.{subst, ◌∙◌, add-one, arith, get_or-set_same}
use Rattle.std.specs.Prelude.{slice_index_or, slice_set}
use Rattle.std.proofs.lemmas.List.{get_or-set_other, map_push, length_push}
use Rattle.core.specs.Mem.Slots.{slots_items, slots_len, slots_filled}
use mathlib.Core.Logic.{dite}
use mathlib.Core.Option.{some, some-injective, some-ne-none}
use native.Mathlib.Decide.{ℕ_discrete}
use lib.ListN.{get_elem?}
use Rattle.claim_table.proofs.keeper.take_out.Goals as goal

take-more-at : {X : Type 0} (xs : List X) (i : ℕ) (x : X) → get_elem? xs i ≡ some x → take (suc i) xs ≡ take i xs ++ x ∷ []
take-more-at [] i x at = absurd (some-ne-none x (sym at))
take-more-at (y ∷ ys) zero x at = ap (λ z. z ∷ []) (some-injective y x at)
take-more-at (y ∷ ys) (suc i) x at = ap (λ l. y ∷ l) (take-more-at ys i x at)

taken_more : (fs : List Bool) (rank : ℕ) → rank < length fs → ((k : ℕ) → k < rank → slice_index_or fs k false ≡ false) → (k : ℕ)
    → k < rank + 1 → slice_index_or (slice_set fs rank false) k false ≡ false
taken_more fs rank within before k below = dite (ℕ_discrete k rank)
    (λ is. subst (λ q. slice_index_or (slice_set fs rank false) q false ≡ false) (sym is) (get_or-set_same fs rank false false within))
    (λ ne. get_or-set_other fs rank k false false ne ∙ before k (omega (arith, below, ne)))

left_more : (fs : List Bool) (rank n : ℕ) → ((k : ℕ) → rank ≤ k → k < n → slice_index_or fs k false ≡ true) → (k : ℕ) → rank + 1 ≤ k → k < n
    → slice_index_or (slice_set fs rank false) k false ≡ true
left_more fs rank n before k past within =
    get_or-set_other fs rank k false false (λ e. omega (arith, past, e)) ∙ before k (omega (arith, past)) within

pub unreachable-requires : goal.unreachable-requires
unreachable-requires g c =
    let inv = c.loop-rank.invariant in
    let there = c.requires.filled c.loop-rank.rank (omega (arith, c.loop-rank-test.true, c.slot_count-rank-end.ensures)) in
    let found = c.take.ensures.value in
    let is = c.in_default.is in
    let items = inv.items in
    let same = some-injective _ _ (sym found ∙ ap (λ l. get_elem? l c.loop-rank.rank) items ∙ there.1) in
    c.in_default.not-Some there.0 same

pub loop-rank-preserved : goal.loop-rank-preserved
loop-rank-preserved g c =
    let inv = c.loop-rank.invariant in
    let rank = c.loop-rank.rank in
    let before = c.loop-rank.closed.slots in
    let items = slots_items c.args.closed.slots in
    let x = c.in-Some.x in
    let value : get_elem? items rank ≡ some (Some x) =
    subst (λ l. get_elem? l rank ≡ some (Some x)) inv.items (c.take.ensures.value ∙ ap some c.in-Some.is) in
    let room = c.loop-rank.room.items in
    record {
      slots = c.take.ensures.others.2 ∙ inv.slots;
      items = c.take.ensures.others.0 ∙ inv.items;
      taken = λ k below. ap (λ fs. slice_index_or fs k false) c.take.ensures.others.1
          ∙ taken_more (slots_filled before) rank
          (omega (arith, c.loop-rank-test.true, c.slot_count-rank-end.ensures, inv.slots, before.ok.1)) inv.taken k below;
      left = λ k past within. ap (λ fs. slice_index_or fs k false) c.take.ensures.others.1
          ∙ left_more (slots_filled before) rank (slots_len before) inv.left k past (omega (arith, within, c.take.ensures.others.2));
      so_far =
          ap (λ l. map (λ y. Some y) l) c.push_reserved.ensures.items ∙ map_push (λ y. Some y) room x
          ∙ ap (λ l. l ++ Some x ∷ []) inv.so_far
          ∙ rw add-one (sym (take-more-at items rank (Some x) value));
      long = ap length c.push_reserved.ensures.items ∙ length_push room x ∙ ap (λ n. n + 1) inv.long;
      room = c.push_reserved.ensures.capacity ∙ inv.room;
    }
