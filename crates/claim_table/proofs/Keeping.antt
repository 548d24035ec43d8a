-- What the keeper's steps ask and tell, by equations on its view.
use Rattle.std.proofs.Common.{◌≡◌, ℕ, zero, suc, ◌+◌, ◌^◌, ◌<◌, eqb, Bool, true, false, cond, List, [], ◌∷◌, ◌++◌, map, drop, Option, Some}
use Rattle.std.proofs.Common.{None, refl, sym, ap, subst, ◌∙◌, add-one}
use Rattle.std.specs.Prelude.{reverse, slice_get, if◌then◌else◌}
use Rattle.std.proofs.lemmas.List.{reverse-append, reverse-reverse}
use mathlib.Core.Option.{none, some}
use prog.Atomic.{either}
use Rattle.atomic_table.specs.Table.{step, Allows, rest}
use Rattle.node_core.specs.Node.{NodeState, PreparedNode}
use Rattle.node_core.proofs.Steps.{local_steps-zero}
use Rattle.claim_table.specs.Claims.{StartOfPhase, HasStepped, word_of, IsClaimTable}
use Rattle.claim_table.specs.ClaimSteps.{ViewAndSlots, keeper_view, after_take, Reserves, Returns, Seals}
use Rattle.claim_table.proofs.Allowed.{may_reserve, may_return, may_seal}

-- the keeper with a slot out, in which so much lies
abbrev pub keeper_out : ℕ → NodeState → Option PreparedNode → ViewAndSlots
keeper_out rank n x = (after_take rank n (keeper_view (rank + 1)), (rank, x) ∷ [])

module _ (phase : StartOfPhase) (slots seat : ℕ) where
  pub reserve_allowed : (rank : ℕ) (n : PreparedNode) (me : ViewAndSlots) → me ≡ (keeper_view rank, []) → rank < slots
      → HasStepped phase rank n.node
      → Allows (IsClaimTable phase) slots seat me rank (λ x. either (eqb x 3) 1 x) (Reserves (step slots rank 3 1 (some (Some n))) me)
  reserve_allowed rank n me is within fits =
      subst (λ (m : ViewAndSlots). Allows (IsClaimTable phase) slots seat m rank (λ x. either (eqb x 3) 1 x)
      (Reserves (step slots rank 3 1 (some (Some n))) m)) (sym is) (may_reserve phase slots seat rank n within fits)

  pub return_allowed : (rank word : ℕ) (n : PreparedNode) (me : ViewAndSlots) → me ≡ keeper_out rank n.node (Some n) → rank < slots
      → word ≡ word_of (some (Some n))
      → Allows (IsClaimTable phase) slots seat me rank (λ _. word) (λ _. Returns (step slots rank word 0 none) me word)
  return_allowed rank word n me is within tells =
      subst (λ (m : ViewAndSlots). Allows (IsClaimTable phase) slots seat m rank (λ _. word)
      (λ _. Returns (step slots rank word 0 none) m word)) (sym is)
      (may_return phase slots seat rank word 0 n n.node (keeper_view (rank + 1)) [] within
      (sym (local_steps-zero phase.input n.node)) tells)

  pub seal_allowed : (ranks : ℕ) (me : ViewAndSlots) → slots ≡ ranks → me ≡ (keeper_view ranks, [])
      → Allows (IsClaimTable phase) slots seat me ranks (λ x. either (eqb x 0) (2 ^ 63) x) (Seals (step slots ranks 0 (2 ^ 63) none) me)
  seal_allowed ranks me same is =
      subst (λ (m : ViewAndSlots). Allows (IsClaimTable phase) slots seat m ranks (λ x. either (eqb x 0) (2 ^ 63) x)
      (Seals (step slots ranks 0 (2 ^ 63) none) m)) (sym is)
      (subst (λ (k : ℕ). Allows (IsClaimTable phase) slots seat (keeper_view k, []) k (λ x. either (eqb x 0) (2 ^ 63) x)
      (Seals (step slots k 0 (2 ^ 63) none) (keeper_view k, []))) same (may_seal phase slots seat))

pub reserved : (slots rank found : ℕ) (n : PreparedNode) (me new : ViewAndSlots) → me ≡ (keeper_view rank, [])
    → Reserves (step slots rank 3 1 (some (Some n))) me found new → new ≡ keeper_out rank n.node None
reserved slots rank found n me new is told =
    told n refl ∙ ap (λ (m : ViewAndSlots). (after_take rank n.node (record m.0 { mark = rank + 1 }), (rank, None) ∷ m.1)) is

pub put_in : (rank : ℕ) (n : PreparedNode) (me new : ViewAndSlots) → me ≡ keeper_out rank n.node None
    → new ≡ (me.0, (rank, Some n) ∷ rest me.1) → new ≡ keeper_out rank n.node (Some n)
put_in rank n me new is told = told ∙ ap (λ (m : ViewAndSlots). (m.0, (rank, Some n) ∷ rest m.1)) is

pub returned : (slots rank word : ℕ) (n : PreparedNode) (me new : ViewAndSlots) → me ≡ keeper_out rank n.node (Some n)
    → Returns (step slots rank word 0 none) me word new → new ≡ (keeper_view (rank + 1), [])
returned slots rank word n me new is told = told ∙ ap (λ (m : ViewAndSlots). (record m.0 { outs = rest m.0.outs }, rest m.1)) is

pub word_runs : (b : Bool) (word : ℕ) → b ≡ true → word ≡ 0 → word ≡ (if b then 0 else 2)
word_runs b word runs is = is ∙ sym (ap (λ (x : Bool). cond x 0 2) runs)

pub word_stopped : (b : Bool) (word : ℕ) → b ≡ false → word ≡ 2 → word ≡ (if b then 0 else 2)
word_stopped b word stopped is = is ∙ sym (ap (λ (x : Bool). cond x 0 2) stopped)

module _ {X : Type 0} where
  head_of : (all : List X) (rank : ℕ) (x : X) (ys : List X) → drop rank all ≡ x ∷ ys
      → (slice_get all rank ≡ Some x) × (drop (suc rank) all ≡ ys)
  head_of [] zero x ys is = absurd cc
  head_of [] (suc rank) x ys is = absurd cc
  head_of (y ∷ all) zero x ys is = (cc, cc)
  head_of (y ∷ all) (suc rank) x ys is = head_of all rank x ys is

  -- what is popped off a row in reverse is the next element
  pub popped : (all : List X) (rank : ℕ) (old new : List X) (x : X) → old ≡ reverse (drop rank all) → old ≡ new ++ x ∷ []
      → (slice_get all rank ≡ Some x) × (new ≡ reverse (drop (rank + 1) all))
  popped all rank old new x is pops =
      let back : drop rank all ≡ x ∷ reverse new =
      sym (reverse-reverse (drop rank all)) ∙ ap (λ (l : List X). reverse l) (sym is ∙ pops) ∙ reverse-append new (x ∷ []) in
      let next = head_of all rank x (reverse new) back in
      let after : drop (rank + 1) all ≡ reverse new = rw add-one next.1 in
      (next.0, sym (reverse-reverse new) ∙ ap (λ (l : List X). reverse l) (sym after))

-- a node of the row has made no step
pub not_stepped : (input : List ℕ) (all : List PreparedNode) (rank : ℕ) (x : PreparedNode) → slice_get all rank ≡ Some x
    → HasStepped (record { input = input; row = map (λ (p : PreparedNode). p.node) all }) rank x.node
not_stepped input [] rank x is = absurd cc
not_stepped input (y ∷ all) zero x is = let same : y ≡ x = cc in
    (0, sym (local_steps-zero input y.node ∙ ap (λ (p : PreparedNode). p.node) same))
not_stepped input (y ∷ all) (suc rank) x is = not_stepped input all rank x is
