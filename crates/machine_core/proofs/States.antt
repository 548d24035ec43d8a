-- The row of nodes, of which contracts see the states.
use Rattle.std.proofs.Common.{◌≡◌, ℕ, zero, suc, ◌+◌, ◌-◌, ◌<◌, ◌≤◌, max, nat_cmp, Bool, false, ◌||◌, List, [], ◌∷◌, ◌++◌, map, length}
use Rattle.std.proofs.Common.{get_or, drop, take, Option, Some, None, option_map, refl, sym, ap, ap₂, ◌∙◌, arith, add-one, append-nil}
use Rattle.std.specs.Prelude.{slice_get, slice_set, flat_map, zip}
use Rattle.std.specs.List.{list_any, fold}
use Rattle.std.specs.Option.{option_map_or}
use Rattle.std.proofs.Math.Seq.{drop-cons}
use Rattle.std.specs.Ordering.{ord_max}
use Rattle.std.proofs.lemmas.Grind.{common_steps, flat_map-append}
use Rattle.std.proofs.lemmas.List.{map-append, map-set, map_more, map_push, take_more, length-map, length-take-le, take_all, drop_all}
use Rattle.std.proofs.lemmas.Option.{slice_get-map, slice_get_read, slice_get_past}
use Rattle.node_memory.specs.Pages.{KeepsPrivate}
use Rattle.node_core.specs.Node.{NodeState, PreparedNode, is_running, local_step, local_steps}
use Rattle.node_core.proofs.Steps.{local_steps-zero, local_steps-suc}
use Rattle.bsp_exchange.specs.Exchange.{states}
use Rattle.bsp_exchange.specs.Parts.{EachKeepsPrivate}
use Rattle.bsp_exchange.proofs.KeepsPrivate.{EachKeepsPrivate-same, EachKeepsPrivate-set}
use Rattle.machine_core.specs.Turn.{written}
use Rattle.machine_core.specs.Events.{runs, some_runs, stepped, stepped_often}

pub some_runs-states : (ps : List PreparedNode) → list_any (λ (p : PreparedNode). runs p.node) ps ≡ some_runs (states ps)
some_runs-states [] = refl
some_runs-states (p ∷ ps) = ap (λ b. runs p.node || b) (some_runs-states ps)

pub slice_set-same : {X : Type 0} (xs : List X) (i : ℕ) (x : X) → slice_get xs i ≡ Some x → slice_set xs i x ≡ xs
slice_set-same [] i x is = refl
slice_set-same (y ∷ xs) zero x is = let same : y ≡ x = cc in ap (λ z. z ∷ xs) (sym same)
slice_set-same (y ∷ xs) (suc i) x is = ap (λ zs. y ∷ zs) (slice_set-same xs i x is)

pub slice_get-slice_set : {X : Type 0} (xs : List X) (i : ℕ) (x y : X) → slice_get xs i ≡ Some x → slice_get (slice_set xs i y) i ≡ Some y
slice_get-slice_set [] i x y is = absurd cc
slice_get-slice_set (z ∷ xs) zero x y is = refl
slice_get-slice_set (z ∷ xs) (suc i) x y is = slice_get-slice_set xs i x y is

slice_set-twice : {X : Type 0} (xs : List X) (i : ℕ) (x y : X) → slice_set (slice_set xs i x) i y ≡ slice_set xs i y
slice_set-twice [] i x y = refl
slice_set-twice (z ∷ xs) zero x y = refl
slice_set-twice (z ∷ xs) (suc i) x y = ap (λ zs. z ∷ zs) (slice_set-twice xs i x y)

module _ (input : List ℕ) where
  pub stepped-found : (rank : ℕ) (nodes : List NodeState) (n : NodeState) → slice_get nodes rank ≡ Some n
      → stepped input rank nodes ≡ slice_set nodes rank (local_step input n)
  stepped-found rank nodes n found =
      ap (λ (o : Option NodeState). option_map_or (λ x. slice_set nodes rank (local_step input x)) o nodes) found

  pub often-found : (k rank : ℕ) (nodes : List NodeState) (n : NodeState) → slice_get nodes rank ≡ Some n
      → stepped_often input rank k nodes ≡ slice_set nodes rank (local_steps input k n)
  often-found zero rank nodes n found =
      sym (ap (λ (x : NodeState). slice_set nodes rank x) (local_steps-zero input n) ∙ slice_set-same nodes rank n found)
  often-found (suc k) rank nodes n found =
      ap (λ (xs : List NodeState). stepped_often input rank k xs) (stepped-found rank nodes n found)
      ∙ often-found k rank (slice_set nodes rank (local_step input n)) (local_step input n)
      (slice_get-slice_set nodes rank n (local_step input n) found)
      ∙ slice_set-twice nodes rank (local_step input n) (local_steps input k (local_step input n))
      ∙ ap (λ (x : NodeState). slice_set nodes rank x) (sym (local_steps-suc input k n))

  -- where there is no node, none comes
  pub often-none : (k rank : ℕ) (nodes : List NodeState) → slice_get nodes rank ≡ None
      → slice_get (stepped_often input rank k nodes) rank ≡ None
  often-none zero rank nodes none = none
  often-none (suc k) rank nodes none =
      ap (λ (o : Option NodeState). slice_get
      (stepped_often input rank k (option_map_or (λ x. slice_set nodes rank (local_step input x)) o nodes)) rank) none
      ∙ often-none k rank nodes none

-- the state of the node at a place of the row
pub state_at_place : (ps : List PreparedNode) (i : ℕ) (p : PreparedNode) → i < length ps → p ≡ get_or ps i p
    → slice_get (states ps) i ≡ Some p.node
state_at_place ps i p within is =
    slice_get-map (λ (q : PreparedNode). q.node) ps i ∙ ap (option_map (λ (q : PreparedNode). q.node))
    (slice_get_read ps (length ps) i p refl within is)

-- a row with another node in its place
pub states-slice_set : (ps : List PreparedNode) (i : ℕ) (p : PreparedNode) → states (slice_set ps i p) ≡ slice_set (states ps) i p.node
states-slice_set ps i p = map-set (λ (q : PreparedNode). q.node) ps i p

-- a node of the row that was replaced by itself after some steps
module _ (input : List ℕ) (ps : List PreparedNode) (rank : ℕ) (p q : PreparedNode) (within : rank < length ps)
    (is : p ≡ get_or ps rank p) where
  pub states-often : (k : ℕ) → q.node ≡ local_steps input k (get_or ps rank p).node
      → states (slice_set ps rank q) ≡ stepped_often input rank k (states ps)
  states-often k made =
      states-slice_set ps rank q
      ∙ ap (λ (n : NodeState). slice_set (states ps) rank n) (made ∙ ap (λ (x : PreparedNode). local_steps input k x.node) (sym is))
      ∙ sym (often-found input k rank (states ps) p.node (state_at_place ps rank p within is))

  pub states-step : q.node ≡ local_step input (get_or ps rank p).node → states (slice_set ps rank q) ≡ stepped input rank (states ps)
  states-step made =
      states-slice_set ps rank q
      ∙ ap (λ (n : NodeState). slice_set (states ps) rank n) (made ∙ ap (λ (x : PreparedNode). local_step input x.node) (sym is))
      ∙ sym (stepped-found input rank (states ps) p.node (state_at_place ps rank p within is))

  pub states-same : q.node ≡ (get_or ps rank p).node → states (slice_set ps rank q) ≡ states ps
  states-same same =
      states-slice_set ps rank q
      ∙ ap (λ (n : NodeState). slice_set (states ps) rank n) (same ∙ ap (λ (x : PreparedNode). x.node) (sym is))
      ∙ slice_set-same (states ps) rank p.node (state_at_place ps rank p within is)

  -- the node that was put in its place keeps what is its own, and so each node does
  pub kept-private : KeepsPrivate (get_or ps rank p).private q.private → EachKeepsPrivate ps (slice_set ps rank q)
  kept-private keeps =
      EachKeepsPrivate-set ps ps rank p q (EachKeepsPrivate-same ps) (slice_get_read ps (length ps) rank p refl within is) (rw is keeps)

  -- the node that was put in its place is the one that is found there
  pub found-new : slice_get (states (slice_set ps rank q)) rank ≡ Some q.node
  found-new =
      ap (λ (xs : List NodeState). slice_get xs rank) (states-slice_set ps rank q)
      ∙ slice_get-slice_set (states ps) rank p.node q.node (state_at_place ps rank p within is)

-- one more of a row of other nodes in the same states
pub states-more : (ps before now : List PreparedNode) (i : ℕ) (p q : PreparedNode) → i < length ps → p ≡ get_or ps i p
    → states before ≡ states (take i ps) → now ≡ before ++ q ∷ [] → q.node ≡ p.node → states now ≡ states (take (i + 1) ps)
states-more ps before now i p q within is so_far more same =
    ap states more
    ∙ map_push (λ (x : PreparedNode). x.node) before q
    ∙ ap₂ (λ (ns : List NodeState) (n : NodeState). ns ++ n ∷ []) so_far (same ∙ ap (λ (x : PreparedNode). x.node) is)
    ∙ sym (map_more (λ (x : PreparedNode). x.node) ps i p within)

-- no node is past the row's end
pub none_past : (ps : List PreparedNode) (rank : ℕ) → length ps ≤ rank → slice_get (states ps) rank ≡ None
none_past ps rank past = slice_get_past (states ps) rank (rw length-map past)

-- the elements that are left of a list, the next one first
pub drop_next : {X : Type 0} (xs : List X) (i : ℕ) (x : X) → i < length xs → x ≡ get_or xs i x → drop i xs ≡ x ∷ drop (i + 1) xs
drop_next xs i x within is = drop-cons xs i x within ∙ ap (λ y. y ∷ drop (suc i) xs) (sym is) ∙ ap (λ k. x ∷ drop k xs) (sym (add-one i))

-- a number of a list, whatever the default
pub get_or_default : (xs : List ℕ) (k : ℕ) → k < length xs → get_or xs k 0 ≡ get_or xs k (get_or xs k 0)
get_or_default [] k within = absurd (omega arith)
get_or_default (x ∷ xs) zero within = refl
get_or_default (x ∷ xs) (suc k) within = get_or_default xs k (omega arith)

-- the most ticks of some nodes, or `most` where that is more
abbrev pub most_from : ℕ → List PreparedNode → List ℕ → ℕ
most_from most ps started = fold max most (map (λ (at : NodeState × ℕ). at.0.ticks - at.1) (zip (states ps) started))

pub most_from-more : (most : ℕ) (ps : List PreparedNode) (started : List ℕ) (i : ℕ) (p : PreparedNode) (s : ℕ) → i < length ps
    → p ≡ get_or ps i p → i < length started → s ≡ get_or started i s
    → most_from most (drop i ps) (drop i started) ≡ most_from (max most (p.node.ticks - s)) (drop (i + 1) ps) (drop (i + 1) started)
most_from-more most ps started i p s within is within' is' =
    ap₂ (most_from most) (drop_next ps i p within is) (drop_next started i s within' is')

pub most_from-all : (most : ℕ) (ps : List PreparedNode) (started : List ℕ) (i : ℕ) → length ps ≤ i
    → most_from most (drop i ps) (drop i started) ≡ most
most_from-all most ps started i past = ap (λ (xs : List PreparedNode). most_from most xs (drop i started)) (drop_all i ps past)

-- a list of which the first elements are written anew
set_seam : (front : List ℕ) (i x y : ℕ) (rest : List ℕ) → i ≡ length front → slice_set (front ++ x ∷ rest) i y ≡ (front ++ y ∷ []) ++ rest
set_seam [] i x y rest at = rw at refl
set_seam (f ∷ front) i x y rest at = rw at (ap (λ zs. f ∷ zs) (set_seam front (length front) x y rest refl))

abbrev ticks_of : PreparedNode → ℕ
ticks_of p = p.node.ticks

-- the ticks of the first nodes, and then what stood there
abbrev pub noted : List PreparedNode → List ℕ → ℕ → List ℕ
noted ps started i = map (λ (p : PreparedNode). p.node.ticks) (take i ps) ++ drop i started

pub noted-more : (ps : List PreparedNode) (old new : List ℕ) (i : ℕ) (p : PreparedNode) → length old ≡ length ps → i < length ps
    → p ≡ get_or ps i p → new ≡ noted ps old i → slice_set new i p.node.ticks ≡ noted ps old (i + 1)
noted-more ps old new i p long within is so_far =
    let front = map ticks_of (take i ps) in
    let next : drop i old ≡ get_or old i 0 ∷ drop (i + 1) old =
    drop_next old i (get_or old i 0) (omega arith) (get_or_default old i (omega arith)) in
    let at : i ≡ length front = sym (length-map (take i ps) ticks_of ∙ length-take-le i ps (omega arith)) in
    ap (λ xs. slice_set xs i p.node.ticks) (so_far ∙ ap (λ xs. front ++ xs) next)
    ∙ set_seam front i (get_or old i 0) p.node.ticks (drop (i + 1) old) at
    ∙ ap (λ (xs : List ℕ). xs ++ drop (i + 1) old)
    (sym (map_more ticks_of ps i p within ∙ ap (λ (x : PreparedNode). front ++ x.node.ticks ∷ []) (sym is)))

map-states : (ps : List PreparedNode) → map ticks_of ps ≡ map (λ (n : NodeState). n.ticks) (states ps)
map-states [] = refl
map-states (p ∷ ps) = ap (λ ts. p.node.ticks ∷ ts) (map-states ps)

pub noted-all : (ps : List PreparedNode) (old : List ℕ) (i : ℕ) → length old ≡ length ps → length ps ≤ i
    → noted ps old i ≡ map (λ (n : NodeState). n.ticks) (states ps)
noted-all ps old i long past =
    ap₂ (λ (xs : List PreparedNode) (ys : List ℕ). map ticks_of xs ++ ys) (take_all i ps past) (drop_all i old (omega arith))
    ∙ append-nil (map ticks_of ps) ∙ map-states ps

abbrev output_of : NodeState → List ℕ
output_of n = n.hart.communication.requests.output

-- what the first nodes wrote, and then the next one
pub written-more : (ps : List PreparedNode) (i : ℕ) (p : PreparedNode) → i < length ps → p ≡ get_or ps i p
    → written (states (take (i + 1) ps)) ≡ written (states (take i ps)) ++ output_of p.node
written-more ps i p within is =
    ap (λ (xs : List PreparedNode). written (states xs)) (take_more ps i p within ∙ ap (λ (x : PreparedNode). take i ps ++ x ∷ []) (sym is))
    ∙ ap (flat_map output_of) (map-append (λ (q : PreparedNode). q.node) (take i ps) (p ∷ []))
    ∙ flat_map-append output_of (states (take i ps)) (p.node ∷ [])
    ∙ ap (λ ys. written (states (take i ps)) ++ ys) (append-nil (output_of p.node))

pub written-all : (ps : List PreparedNode) (i : ℕ) → length ps ≤ i → written (states (take i ps)) ≡ written (states ps)
written-all ps i past = ap (λ (xs : List PreparedNode). written (states xs)) (take_all i ps past)

-- whether the node at a place of the row runs
pub runs-past : (ps : List PreparedNode) (rank : ℕ) → length ps ≤ rank → option_map_or runs (slice_get (states ps) rank) false ≡ false
runs-past ps rank past = ap (λ (o : Option NodeState). option_map_or runs o false) (none_past ps rank past)

pub runs-found : (ps : List PreparedNode) (rank : ℕ) (p : PreparedNode) (running : Bool) → rank < length ps → p ≡ get_or ps rank p
    → is_running (get_or ps rank p).node.state ≡ running → option_map_or runs (slice_get (states ps) rank) false ≡ running
runs-found ps rank p running within is has =
    ap (λ (o : Option NodeState). option_map_or runs o false) (state_at_place ps rank p within is)
    ∙ ap (λ (x : PreparedNode). runs x.node) is ∙ has

pub ord_max-max : (a b : ℕ) → ord_max nat_cmp a b ≡ max a b
ord_max-max a b = grind (arith, common_steps)
