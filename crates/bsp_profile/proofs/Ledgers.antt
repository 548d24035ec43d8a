-- What the rows of a superstep have to do with its costs.
use Rattle.std.proofs.Common.{◌≡◌, ℕ, zero, suc, ◌+◌, ◌<◌, ◌≤◌, ◌==◌, ◌&&◌, max, Bool, true, false, cond, List, [], ◌∷◌, length, map, sym}
use Rattle.std.proofs.Common.{ap, ap₂, subst, ◌∙◌, refl, arith, add-one, inl, inr}
use Rattle.std.specs.Prelude.{All, filter, sum_by, zip, if◌then◌else◌}
use Rattle.std.specs.List.{fold}
use Rattle.std.proofs.lemmas.Bool.{cases_eq, cases_lt, eq-eqb, ne_eqb}
use Rattle.std.proofs.lemmas.List.Elements.{All-head, All-tail}
use Rattle.std.proofs.lemmas.List.Sums.{sum_by-cons}
use Rattle.std.proofs.lemmas.Slice.Zip.{firsts-zip}
use Rattle.node_core.specs.Node.{NodeState}
use Rattle.bsp_exchange.specs.declared.traffic.Traffic.{Traffic}
use Rattle.bsp_exchange.specs.Queues.{from_others, queue_after}
use Rattle.bsp_exchange.specs.Traffic.{Transfer, transfers, between_ranks, bytes_sent, bytes_received, messages_received, most, traffic_of}
use Rattle.bsp_exchange.proofs.Readings.{messages_are_queued, picked_between}
use Rattle.machine_core.specs.Machine.{MachineState}
use Rattle.machine_core.specs.Sound.{IsSoundMachine}
use Rattle.machine_core.specs.Turn.{makes_exchange, no_traffic, traffic, cost_row}
use Rattle.bsp_profile.specs.declared.row.Row.{Row}
use Rattle.bsp_profile.specs.Moves.{goes, moves, moved, moved_in, moved_out, others, row_of, rows}
use Rattle.bsp_profile.proofs.Machines.{among}
use Rattle.bsp_profile.proofs.Others.{others_no, others_yes}
use Rattle.bsp_profile.proofs.Rows.{length-started}
use Rattle.bsp_profile.proofs.Told.{IsAmong, ends_among, filtered-cons, moved-cons}

map_twice : {X Y Z : Type 0} (f : Y → Z) (g : X → Y) (xs : List X) → map f (map g xs) ≡ map (λ x. f (g x)) xs
map_twice f g [] = refl
map_twice f g (x ∷ xs) = ap (λ ys. f (g x) ∷ ys) (map_twice f g xs)

map_same : {X Y : Type 0} (f g : X → Y) (xs : List X) → ((x : X) → f x ≡ g x) → map f xs ≡ map g xs
map_same f g [] each = refl
map_same f g (x ∷ xs) each = ap₂ (λ y ys. y ∷ ys) (each x) (map_same f g xs each)

pub ticks-work : (m : MachineState) → fold max 0 (map (λ (r : Row). r.ticks) (rows m)) ≡ (cost_row m).w
ticks-work m = ap (fold max 0) (map_twice (λ (r : Row). r.ticks) (row_of m) (zip m.nodes m.started))

-- ---- sums over all ranks

abbrev sum_to : (ℕ → ℕ) → ℕ → ℕ
sum_to f zero = 0
sum_to f (suc n) = sum_to f n + f n

-- none of these is left out
others_none : (f : ℕ → ℕ) (n rank : ℕ) → n ≤ rank → sum_by f (others n rank) ≡ sum_to f n
others_none f zero rank past = refl
others_none f (suc n) rank past =
    let next = others_yes f n rank (λ is. absurd (omega arith)) in
    let rest = others_none f n rank (omega arith) in
    subst (λ (k : ℕ). sum_by f (others k rank) ≡ sum_to f n + f n) (add-one n) (omega (arith, next, rest))

below : (n rank : ℕ) → rank < suc n → (n ≡ rank → ⊥) → rank < n
below n rank within other = elim (cases_lt rank n) [ inl less ↦ less | inr more ↦ absurd (other (omega arith)) ]

-- all but one, and that one, are all
others_all : (f : ℕ → ℕ) (n rank : ℕ) → rank < n → sum_by f (others n rank) + f rank ≡ sum_to f n
others_all f zero rank within = absurd (omega arith)
others_all f (suc n) rank within =
    let next : sum_by f (others (n + 1) rank) + f rank ≡ sum_to f n + f n = elim (cases_eq n rank) [
      | inl same ↦
          let own : f n ≡ f rank = ap f same in
          omega (arith, others_no f n rank same, others_none f n rank (omega arith), own)
      | inr other ↦
          let before : rank < n = below n rank within other in
          omega (arith, others_yes f n rank other, others_all f n rank before)
    ] in
    subst (λ (k : ℕ). sum_by f (others k rank) + f rank ≡ sum_to f n + f n) (add-one n) next

sum_to-same : (f g : ℕ → ℕ) (n : ℕ) → ((k : ℕ) → f k ≡ g k) → sum_to f n ≡ sum_to g n
sum_to-same f g zero each = refl
sum_to-same f g (suc n) each = omega (arith, sum_to-same f g n each, each n)

sum_to-add : (f g : ℕ → ℕ) (n : ℕ) → sum_to (λ k. f k + g k) n ≡ sum_to f n + sum_to g n
sum_to-add f g zero = refl
sum_to-add f g (suc n) = omega (arith, sum_to-add f g n)

sum_to-none : (n : ℕ) → sum_to (λ k. 0) n ≡ 0
sum_to-none zero = refl
sum_to-none (suc n) = omega (arith, sum_to-none n)

-- a number that stands at one rank alone
abbrev at_rank : ℕ → ℕ → ℕ → ℕ
at_rank x t k = if t == k then x else 0

at_past : (x t n : ℕ) → n ≤ t → sum_to (at_rank x t) n ≡ 0
at_past x t zero past = refl
at_past x t (suc n) past =
    let here : at_rank x t n ≡ 0 = ap (λ b. if b then x else 0) (ne_eqb t n (λ is. absurd (omega arith))) in
    omega (arith, at_past x t n (omega arith), here)

at_one : (x t n : ℕ) → t < n → sum_to (at_rank x t) n ≡ x
at_one x t zero within = absurd (omega arith)
at_one x t (suc n) within = elim (cases_eq t n) [
  | inl same ↦
      let here : at_rank x t n ≡ x = ap (λ b. if b then x else 0) (eq-eqb t n same) in
      omega (arith, at_past x t n (omega arith), here)
  | inr other ↦
      let here : at_rank x t n ≡ 0 = ap (λ b. if b then x else 0) (ne_eqb t n other) in
      omega (arith, at_one x t n (below n t within (λ is. other (sym is))), here)
]

first_if : (b : Bool) (x t n : ℕ) → t < n → sum_to (λ k. if b && t == k then x else 0) n ≡ (if b then x else 0)
first_if true x t n within = at_one x t n within
first_if false x t n within = sum_to-none n

and_true : (b : Bool) → (b && true) ≡ b
and_true true = refl
and_true false = refl

and_false : (b : Bool) → (b && false) ≡ false
and_false true = refl
and_false false = refl

second_if : (b : Bool) (x t n : ℕ) → t < n → sum_to (λ k. if t == k && b then x else 0) n ≡ (if b then x else 0)
second_if true x t n within =
    sum_to-same (λ k. if t == k && true then x else 0) (at_rank x t) n (λ k. ap (λ c. if c then x else 0) (and_true (t == k)))
    ∙ at_one x t n within
second_if false x t n within =
    sum_to-same (λ k. if t == k && false then x else 0) (λ k. 0) n (λ k. ap (λ c. if c then x else 0) (and_false (t == k))) ∙ sum_to-none n

abbrev bytes : List Transfer → ℕ
bytes ts = sum_by (λ (t : Transfer). t.bytes) ts

abbrev is_from : ℕ → Transfer → Bool
is_from rank t = t.from == rank

abbrev is_to : ℕ → Transfer → Bool
is_to rank t = t.to == rank

-- what goes from a rank goes to some rank, and what comes to it comes from one
out_all : (count rank : ℕ) (ts : List Transfer) → All (IsAmong count) ts → sum_to (moved ts rank) count ≡ bytes (filter (is_from rank) ts)
out_all count rank [] among = sum_to-none count
out_all count rank (t ∷ ts) among =
    let here = All-head (IsAmong count) t ts among in
    let parts = sum_to-same (moved (t ∷ ts) rank) (λ k. (if goes rank k t then t.bytes else 0) + moved ts rank k) count
    (λ k. moved-cons rank k t ts) in
    let sums = sum_to-add (λ k. if goes rank k t then t.bytes else 0) (moved ts rank) count in
    let own = first_if (t.from == rank) t.bytes t.to count here.to in
    omega (arith, parts, sums, own, out_all count rank ts (All-tail (IsAmong count) t ts among), filtered-cons (is_from rank) t ts)

in_all : (count rank : ℕ) (ts : List Transfer) → All (IsAmong count) ts
    → sum_to (λ k. moved ts k rank) count ≡ bytes (filter (is_to rank) ts)
in_all count rank [] among = sum_to-none count
in_all count rank (t ∷ ts) among =
    let here = All-head (IsAmong count) t ts among in
    let parts = sum_to-same (λ k. moved (t ∷ ts) k rank) (λ k. (if goes k rank t then t.bytes else 0) + moved ts k rank) count
    (λ k. moved-cons k rank t ts) in
    let sums = sum_to-add (λ k. if goes k rank t then t.bytes else 0) (λ k. moved ts k rank) count in
    let own = second_if (t.to == rank) t.bytes t.from count here.from in
    omega (arith, parts, sums, own, in_all count rank ts (All-tail (IsAmong count) t ts among), filtered-cons (is_to rank) t ts)

-- a rank that there is not keeps nothing
none_kept : (count rank : ℕ) (ts : List Transfer) → count ≤ rank → All (IsAmong count) ts → moved ts rank rank ≡ 0
none_kept count rank [] past among = refl
none_kept count rank (t ∷ ts) past among =
    let here = All-head (IsAmong count) t ts among in
    let away : (if goes rank rank t then t.bytes else 0) ≡ 0 =
    ap (λ b. if b && t.to == rank then t.bytes else 0) (ne_eqb t.from rank (λ is. absurd (omega (arith, here.from)))) in
    omega (arith, moved-cons rank rank t ts, away, none_kept count rank ts past (All-tail (IsAmong count) t ts among))

module _ (count rank : ℕ) (ts : List Transfer) (among : All (IsAmong count) ts) where
  sent_whole : moved_out count ts rank + moved ts rank rank ≡ bytes (filter (is_from rank) ts)
  sent_whole = elim (cases_lt rank count) [
    | inl within ↦ others_all (moved ts rank) count rank within ∙ out_all count rank ts among
    | inr past ↦ omega (arith, others_none (moved ts rank) count rank past, none_kept count rank ts past among, out_all count rank ts among)
  ]

  received_whole : moved_in count ts rank + moved ts rank rank ≡ bytes (filter (is_to rank) ts)
  received_whole = elim (cases_lt rank count) [
    | inl within ↦ others_all (λ k. moved ts k rank) count rank within ∙ in_all count rank ts among
    | inr past ↦
        omega (arith, others_none (λ k. moved ts k rank) count rank past, none_kept count rank ts past among, in_all count rank ts among)
  ]

module _ (m : MachineState) (sound : IsSoundMachine m) (makes : makes_exchange m.nodes ≡ true) (at : NodeState × ℕ) where
  whole : moves m.nodes ≡ transfers m.nodes
  whole = ap (λ b. if b then transfers m.nodes else []) makes

  all_among : All (IsAmong (length m.nodes)) (transfers m.nodes)
  all_among = ends_among (length m.nodes) m.nodes (among m (length m.nodes) sound refl)

  pub row-sent : (row_of m at).sent + (row_of m at).kept ≡ bytes_sent (transfers m.nodes) at.0.hart.rank
  row-sent =
      ap (λ ts. moved_out (length m.nodes) ts at.0.hart.rank + moved ts at.0.hart.rank at.0.hart.rank) whole
      ∙ sent_whole (length m.nodes) at.0.hart.rank (transfers m.nodes) all_among

  pub row-received : (row_of m at).received + (row_of m at).kept ≡ bytes_received (transfers m.nodes) at.0.hart.rank
  row-received =
      ap (λ ts. moved_in (length m.nodes) ts at.0.hart.rank + moved ts at.0.hart.rank at.0.hart.rank) whole
      ∙ received_whole (length m.nodes) at.0.hart.rank (transfers m.nodes) all_among

-- ---- what goes to others alone

abbrev between : ℕ → Transfer → ℕ
between rank t = if goes rank rank t then t.bytes else 0

-- a transfer from a rank leaves it, or stays there
one_from : (rank : ℕ) (t : Transfer)
    → cond (t.from == rank) t.bytes 0 ≡ cond (t.from == t.to) 0 (cond (t.from == rank) t.bytes 0) + between rank t
one_from rank t = elim (cases_eq t.from t.to) [
  | inl same ↦
      rw (← same)
      (rw (eq-eqb t.from t.from refl)
      (elim (t.from == rank) as (λ b. cond b t.bytes 0 ≡ 0 + (if b && b then t.bytes else 0)) [
        | true ↦ omega arith
        | false ↦ omega arith
      ]))
  | inr other ↦ rw (ne_eqb t.from t.to other) (elim (cases_eq t.from rank) [
    | inl here ↦ rw (eq-eqb t.from rank here, ne_eqb t.to rank (λ there. other (here ∙ sym there))) (omega arith)
    | inr elsewhere ↦ rw (ne_eqb t.from rank elsewhere) (omega arith)
  ])
]

one_to : (rank : ℕ) (t : Transfer)
    → cond (t.to == rank) t.bytes 0 ≡ cond (t.from == t.to) 0 (cond (t.to == rank) t.bytes 0) + between rank t
one_to rank t = elim (cases_eq t.from t.to) [
  | inl same ↦
      rw (← same)
      (rw (eq-eqb t.from t.from refl)
      (elim (t.from == rank) as (λ b. cond b t.bytes 0 ≡ 0 + (if b && b then t.bytes else 0)) [
        | true ↦ omega arith
        | false ↦ omega arith
      ]))
  | inr other ↦ rw (ne_eqb t.from t.to other) (elim (cases_eq t.to rank) [
    | inl here ↦ rw (eq-eqb t.to rank here, ne_eqb t.from rank (λ there. other (there ∙ sym here))) (omega arith)
    | inr elsewhere ↦ rw (ne_eqb t.to rank elsewhere, and_false (t.from == rank)) (omega arith)
  ])
]

from_between : (rank : ℕ) (ts : List Transfer) → bytes (filter (is_from rank) ts) ≡ bytes_sent (between_ranks ts) rank + moved ts rank rank
from_between rank [] = refl
from_between rank (t ∷ ts) =
    omega (
      arith,
      from_between rank ts,
      one_from rank t,
      filtered-cons (is_from rank) t ts,
      picked_between (λ (u : Transfer). u.bytes) (is_from rank) t ts,
      moved-cons rank rank t ts,
    )

to_between : (rank : ℕ) (ts : List Transfer) → bytes (filter (is_to rank) ts) ≡ bytes_received (between_ranks ts) rank + moved ts rank rank
to_between rank [] = refl
to_between rank (t ∷ ts) =
    omega (
      arith,
      to_between rank ts,
      one_to rank t,
      filtered-cons (is_to rank) t ts,
      picked_between (λ (u : Transfer). u.bytes) (is_to rank) t ts,
      moved-cons rank rank t ts,
    )

module _ (m : MachineState) (sound : IsSoundMachine m) (makes : makes_exchange m.nodes ≡ true) (at : NodeState × ℕ) where
  sent-others : (row_of m at).sent ≡ bytes_sent (between_ranks (transfers m.nodes)) at.0.hart.rank
  sent-others =
      let rank = at.0.hart.rank in
      let kept : (row_of m at).kept ≡ moved (transfers m.nodes) rank rank =
      ap (λ b. moved (if b then transfers m.nodes else []) rank rank) makes in
      omega (arith, row-sent m sound makes at, from_between rank (transfers m.nodes), kept)

  received-others : (row_of m at).received ≡ bytes_received (between_ranks (transfers m.nodes)) at.0.hart.rank
  received-others =
      let rank = at.0.hart.rank in
      let kept : (row_of m at).kept ≡ moved (transfers m.nodes) rank rank =
      ap (λ b. moved (if b then transfers m.nodes else []) rank rank) makes in
      omega (arith, row-received m sound makes at, to_between rank (transfers m.nodes), kept)

-- ---- the greatest of rows

none_sum : (xs : List ℕ) → sum_by (λ (k : ℕ). 0) xs ≡ 0
none_sum [] = refl
none_sum (x ∷ xs) = omega (arith, sum_by-cons (λ (k : ℕ). 0) x xs, none_sum xs)

none_greatest : {X : Type 0} (xs : List X) → fold max 0 (map (λ (x : X). 0) xs) ≡ 0
none_greatest [] = refl
none_greatest (x ∷ xs) = none_greatest xs

-- a number that rows have is that of their ranks where an exchange is made, and else 0
rows_greatest : (m : MachineState) → IsSoundMachine m → (p : Row → ℕ) (q : ℕ → ℕ) (whole : Traffic → ℕ)
    → (makes_exchange m.nodes ≡ true → (at : NodeState × ℕ) → p (row_of m at) ≡ q at.0.hart.rank)
    → (makes_exchange m.nodes ≡ false → (at : NodeState × ℕ) → p (row_of m at) ≡ 0)
    → most q m.nodes ≡ whole (traffic_of m.nodes) → whole no_traffic ≡ 0
    → fold max 0 (map p (rows m)) ≡ whole (traffic m)
rows_greatest m sound p q whole made unmade all none =
    ap (fold max 0) (map_twice p (row_of m) (zip m.nodes m.started)) ∙ by (makes_exchange m.nodes) refl
  where
    by : (b : Bool) → makes_exchange m.nodes ≡ b → fold max 0 (map (λ at. p (row_of m at)) (zip m.nodes m.started)) ≡ whole (traffic m)
    by true makes =
        ap (fold max 0)
        (map_same (λ at. p (row_of m at)) (λ at. q at.0.hart.rank) (zip m.nodes m.started) (made makes)
        ∙ sym (map_twice (λ (n : NodeState). q n.hart.rank) (λ (at : NodeState × ℕ). at.0) (zip m.nodes m.started))
        ∙ ap (map (λ (n : NodeState). q n.hart.rank)) (firsts-zip m.nodes m.started (length-started m sound)))
        ∙ all
        ∙ sym (ap (λ b. whole (if b then traffic_of m.nodes else no_traffic)) makes)
    by false makes =
        ap (fold max 0) (map_same (λ at. p (row_of m at)) (λ at. 0) (zip m.nodes m.started) (unmade makes))
        ∙ none_greatest (zip m.nodes m.started)
        ∙ sym none
        ∙ sym (ap (λ b. whole (if b then traffic_of m.nodes else no_traffic)) makes)

module _ (m : MachineState) (at : NodeState × ℕ) (makes : makes_exchange m.nodes ≡ false) where
  abbrev rank : ℕ
  rank = at.0.hart.rank

  no_sent : (row_of m at).sent ≡ 0
  no_sent = ap (λ b. moved_out (length m.nodes) (if b then transfers m.nodes else []) rank) makes ∙ none_sum (others (length m.nodes) rank)

  no_received : (row_of m at).received ≡ 0
  no_received =
      ap (λ b. moved_in (length m.nodes) (if b then transfers m.nodes else []) rank) makes ∙ none_sum (others (length m.nodes) rank)

  no_kept : (row_of m at).kept ≡ 0
  no_kept = ap (λ b. moved (if b then transfers m.nodes else []) rank rank) makes

  no_messages : (row_of m at).messages ≡ 0
  no_messages = ap (λ b. length (from_others rank (if b then queue_after m.nodes rank else []))) makes

abbrev larger : Row → ℕ
larger r = max r.sent r.received

abbrev larger_all : Row → ℕ
larger_all r = max (r.sent + r.kept) (r.received + r.kept)

pub traffic-h : (m : MachineState) → IsSoundMachine m → fold max 0 (map larger (rows m)) ≡ (cost_row m).h
traffic-h m sound =
    let ts = between_ranks (transfers m.nodes) in
    rows_greatest m sound larger (λ k. max (bytes_sent ts k) (bytes_received ts k)) (λ t. t.h)
    (λ makes at. ap₂ max (sent-others m sound makes at) (received-others m sound makes at))
    (λ makes at. ap₂ max (no_sent m at makes) (no_received m at makes)) refl refl

pub traffic-h_all : (m : MachineState) → IsSoundMachine m → fold max 0 (map larger_all (rows m)) ≡ (cost_row m).h_all
traffic-h_all m sound =
    let ts = transfers m.nodes in
    rows_greatest m sound larger_all (λ k. max (bytes_sent ts k) (bytes_received ts k)) (λ t. t.h_all)
    (λ makes at. ap₂ max (row-sent m sound makes at) (row-received m sound makes at))
    (λ makes at. omega (arith, no_sent m at makes, no_received m at makes, no_kept m at makes)) refl refl

pub traffic-messages : (m : MachineState) → IsSoundMachine m → fold max 0 (map (λ (r : Row). r.messages) (rows m)) ≡ (cost_row m).messages
traffic-messages m sound =
    rows_greatest m sound (λ r. r.messages) (messages_received (between_ranks (transfers m.nodes))) (λ t. t.messages)
    (λ makes at. ap (λ b. length (from_others at.0.hart.rank (if b then queue_after m.nodes at.0.hart.rank else []))) makes
    ∙ sym (messages_are_queued m.nodes at.0.hart.rank))
    (λ makes at. no_messages m at makes) refl refl
