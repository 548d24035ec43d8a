-- Each request of an exchange without a fault keeps to its area.
use Rattle.std.proofs.Common.{◌≡◌, ℕ, zero, suc, ◌+◌, Bool, true, false, cond, List, [], ◌∷◌, ◌++◌, map, refl, sym, ap, subst, ◌∙◌}
use Rattle.std.proofs.Common.{Option, Some, None}
use Rattle.std.specs.Prelude.{find, slice_get}
use Rattle.std.specs.List.{enumerate_from}
use Rattle.std.specs.Option.{option_or}
use Rattle.std.proofs.lemmas.List.Folds.{find-append}
use Rattle.std.proofs.lemmas.Option.{none-some}
use Rattle.bsp_requests.specs.Request.{Asked}
use Rattle.node_core.specs.Node.{NodeState}
use Rattle.bsp_exchange.specs.Faults.{fault_of, first_outside, leaves_area}
use Rattle.bsp_exchange.specs.Issued.{Issued, issued, issued_as, issued_by}
use Rattle.machine_core.proofs.Options.{option_map_none}

some-same : {X : Type 0} (x y : X) → Some x ≡ Some y → x ≡ y
some-same x y same = cc

cond-none : {X : Type 0} (b : Bool) (x : X) (rest : Option X) → cond b (Some x) rest ≡ None → (b ≡ false) × (rest ≡ None)
cond-none true x rest is = absurd (none-some x (sym is))
cond-none false x rest is = (refl, is)

or-none : {X : Type 0} (a b : Option X) → option_or a b ≡ None → (a ≡ None) × (b ≡ None)
or-none None b is = (refl, is)
or-none (Some x) b is = absurd (none-some x (sym is))

module _ (nodes : List NodeState) where
  abbrev leaves : Issued → Bool
  leaves i = leaves_area nodes i.request

  -- of the requests of a node
  request-inside : (rank from : ℕ) (rs : List Asked) (i : ℕ) (r : Asked) → slice_get rs i ≡ Some r
      → find leaves (map (issued_as rank) (enumerate_from from rs)) ≡ None → leaves_area nodes r ≡ false
  request-inside rank from [] i r is none = absurd (none-some r is)
  request-inside rank from (q ∷ rs) zero r is none =
      subst (λ (x : Asked). leaves_area nodes x ≡ false) (some-same q r is) (cond-none (leaves_area nodes q) _ _ none).0
  request-inside rank from (q ∷ rs) (suc i) r is none =
      request-inside rank (from + 1) rs i r is (cond-none (leaves_area nodes q) _ _ none).1

  -- of all nodes
  node-inside : (all : List NodeState) (i : ℕ) (n : NodeState) → slice_get all i ≡ Some n → find leaves (issued all) ≡ None
      → find leaves (issued_by n) ≡ None
  node-inside [] i n is none = absurd (none-some n is)
  node-inside (m ∷ all) zero n is none =
      subst (λ (x : NodeState). find leaves (issued_by x) ≡ None) (some-same m n is)
      (or-none (find leaves (issued_by m)) (find leaves (issued all)) (sym (find-append leaves (issued_by m) (issued all)) ∙ none)).0
  node-inside (m ∷ all) (suc i) n is none =
      node-inside all i n is
      (or-none (find leaves (issued_by m)) (find leaves (issued all)) (sym (find-append leaves (issued_by m) (issued all)) ∙ none)).1

  pub inside-at : (rank issue : ℕ) (n : NodeState) (r : Asked) → first_outside nodes (issued nodes) ≡ None
      → slice_get nodes rank ≡ Some n → slice_get n.hart.communication.requests.requests issue ≡ Some r → leaves_area nodes r ≡ false
  inside-at rank issue n r none there is =
      request-inside n.hart.rank 0 n.hart.communication.requests.requests issue r is
      (node-inside nodes rank n there (option_map_none fault_of (find leaves (issued nodes)) none))
