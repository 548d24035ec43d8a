-- Parts that land in the nodes at their places, from the first on.
use Rattle.std.proofs.Common.{false, ◌≡◌, ℕ, zero, suc, ◌+◌, ◌<◌, ◌≤◌, List, [], ◌∷◌, ◌++◌, length, map, take, drop, set, refl, sym, ap}
use Rattle.std.proofs.Common.{◌∙◌, arith, Some}
use Rattle.std.specs.Prelude.{slice_get}
use Rattle.std.specs.List.{AllZip}
use Rattle.std.proofs.lemmas.List.{take_all}
use Rattle.std.proofs.lemmas.List.Elements.{All-nil, All-cons}
use Rattle.std.proofs.lemmas.Option.{none-some, same_Some}
use Rattle.node_memory.proofs.Owned.{KeepsPrivate-same}
use Rattle.node_core.specs.Node.{PreparedNode}
use Rattle.bsp_exchange.specs.Exchange.{AreUnready, states}
use Rattle.bsp_exchange.specs.Parts.{PartState, CanLand, EachKeepsPrivate, landed, landed_as}
use Rattle.bsp_exchange.proofs.KeepsPrivate.{EachKeepsPrivate-same}

-- prepared nodes, the part at the place of each landed in it
abbrev pub row_landed : List PartState → List PreparedNode → List PreparedNode
row_landed [] ps = ps
row_landed (part ∷ parts) [] = []
row_landed (part ∷ parts) (p ∷ ps) = landed_as part p ∷ row_landed parts ps

pub row_states : (parts : List PartState) (ps : List PreparedNode) → states (row_landed parts ps) ≡ landed parts (states ps)
row_states [] ps = refl
row_states (part ∷ parts) [] = refl
row_states (part ∷ parts) (p ∷ ps) = ap (λ ns. (landed_as part p).node ∷ ns) (row_states parts ps)

pub row_keeps : (parts : List PartState) (ps : List PreparedNode) → EachKeepsPrivate ps (row_landed parts ps)
row_keeps [] ps = EachKeepsPrivate-same ps
row_keeps (part ∷ parts) [] = tt
row_keeps (part ∷ parts) (p ∷ ps) = (KeepsPrivate-same p.private, row_keeps parts ps)

pub row_unready : (parts : List PartState) (ps : List PreparedNode) → AllZip CanLand parts ps → AreUnready (row_landed parts ps)
row_unready [] [] can = All-nil (λ (q : PreparedNode). q.ready ≡ false)
row_unready [] (p ∷ ps) can = absurd can
row_unready (part ∷ parts) [] can = absurd can
row_unready (part ∷ parts) (p ∷ ps) can =
    All-cons (λ (q : PreparedNode). q.ready ≡ false) (landed_as part p) (row_landed parts ps) refl (row_unready parts ps can.1)

pub length-row : (parts : List PartState) (ps : List PreparedNode) → length (row_landed parts ps) ≡ length ps
length-row [] ps = refl
length-row (part ∷ parts) [] = refl
length-row (part ∷ parts) (p ∷ ps) = ap (λ n. suc n) (length-row parts ps)

-- as many parts as nodes
pub as_many : (parts : List PartState) (ps : List PreparedNode) → AllZip CanLand parts ps → length parts ≡ length ps
as_many [] [] can = refl
as_many [] (p ∷ ps) can = absurd can
as_many (part ∷ parts) [] can = absurd can
as_many (part ∷ parts) (p ∷ ps) can = ap (λ n. suc n) (as_many parts ps can.1)

pub can_land_at : (parts : List PartState) (ps : List PreparedNode) (i : ℕ) (part : PartState) (p : PreparedNode)
    → AllZip CanLand parts ps → slice_get parts i ≡ Some part → slice_get ps i ≡ Some p → CanLand part p
can_land_at [] ps i part p can first second = absurd (none-some part first)
can_land_at (x ∷ parts) [] i part p can first second = absurd can
can_land_at (x ∷ parts) (y ∷ ps) zero part p can first second = rw (← same_Some x part first) (rw (← same_Some y p second) can.0)
can_land_at (x ∷ parts) (y ∷ ps) (suc i) part p can first second = can_land_at parts ps i part p can.1 first second

-- the next node is as it was
pub next_node : (i : ℕ) (parts : List PartState) (ps : List PreparedNode) → slice_get (row_landed (take i parts) ps) i ≡ slice_get ps i
next_node zero parts ps = refl
next_node (suc i) [] ps = refl
next_node (suc i) (part ∷ parts) [] = refl
next_node (suc i) (part ∷ parts) (p ∷ ps) = next_node i parts ps

-- and its part lands in it
next_lands : (i : ℕ) (parts : List PartState) (ps : List PreparedNode) (part : PartState) (p : PreparedNode)
    → slice_get parts i ≡ Some part → slice_get ps i ≡ Some p
    → set (row_landed (take i parts) ps) i (landed_as part p) ≡ row_landed (take (suc i) parts) ps
next_lands i [] ps part p first second = absurd (none-some part first)
next_lands i (x ∷ parts) [] part p first second = absurd (none-some p second)
next_lands zero (x ∷ parts) (y ∷ ps) part p first second =
    ap (λ (a : PartState). landed_as a p ∷ ps) (sym (same_Some x part first))
    ∙ ap (λ (b : PreparedNode). landed_as x b ∷ ps) (sym (same_Some y p second))
next_lands (suc i) (x ∷ parts) (y ∷ ps) part p first second = ap (λ rest. landed_as x y ∷ rest) (next_lands i parts ps part p first second)

pub one_more_landed : (i : ℕ) (parts : List PartState) (ps : List PreparedNode) (part : PartState) (p : PreparedNode)
    → slice_get parts i ≡ Some part → slice_get ps i ≡ Some p
    → set (row_landed (take i parts) ps) i (landed_as part p) ≡ row_landed (take (i + 1) parts) ps
one_more_landed i parts ps part p first second =
    let next : suc i ≡ i + 1 = omega arith in
    next_lands i parts ps part p first second ∙ ap (λ k. row_landed (take k parts) ps) next

-- all have landed
pub all_landed : (i : ℕ) (parts : List PartState) (ps : List PreparedNode) → AllZip CanLand parts ps → length ps ≤ i
    → row_landed (take i parts) ps ≡ row_landed parts ps
all_landed i parts ps can past = ap (λ (xs : List PartState). row_landed xs ps) (take_all i parts (omega (arith, as_many parts ps can)))

-- ---- a list changed from its front on

-- an element at a place that is there
pub some_at : {X : Type 0} (xs : List X) (i : ℕ) → i < length xs → (x : X) × (slice_get xs i ≡ Some x)
some_at [] i within = absurd (omega arith)
some_at (x ∷ xs) zero within = (x, refl)
some_at (x ∷ xs) (suc i) within = some_at xs i (omega arith)

pub next_unchanged : {X : Type 0} (f : X → X) (i : ℕ) (xs : List X) → slice_get (map f (take i xs) ++ drop i xs) i ≡ slice_get xs i
next_unchanged f zero xs = refl
next_unchanged f (suc i) [] = refl
next_unchanged f (suc i) (x ∷ xs) = next_unchanged f i xs

next_changed : {X : Type 0} (f : X → X) (i : ℕ) (xs : List X) (x : X) → slice_get xs i ≡ Some x
    → set (map f (take i xs) ++ drop i xs) i (f x) ≡ map f (take (suc i) xs) ++ drop (suc i) xs
next_changed f i [] x is = absurd (none-some x is)
next_changed f zero (y ∷ xs) x is = ap (λ z. f z ∷ xs) (sym (same_Some y x is))
next_changed f (suc i) (y ∷ xs) x is = ap (λ rest. f y ∷ rest) (next_changed f i xs x is)

pub one_more_changed : {X : Type 0} (f : X → X) (i : ℕ) (xs : List X) (x : X) → slice_get xs i ≡ Some x
    → set (map f (take i xs) ++ drop i xs) i (f x) ≡ map f (take (i + 1) xs) ++ drop (i + 1) xs
one_more_changed f i xs x is =
    let next : suc i ≡ i + 1 = omega arith in
    next_changed f i xs x is ∙ ap (λ k. map f (take k xs) ++ drop k xs) next
