-- Work on the nodes of a row, one after another and again.
use Rattle.std.proofs.Common.{◌≡◌, ℕ, ◌+◌, ◌<◌, ◌≤◌, List, [], ◌∷◌, ◌++◌, length, get_or, take, drop, set, add-zero, Bool, Result, Ok, Err}
use Rattle.std.proofs.Common.{sym, ap, ◌∙◌, arith}
use Rattle.std.specs.Prelude.{IsOk, IsFalse, OnOk, OnErr, ⊤}
use Rattle.std.specs.List.{AllZip}
use Rattle.std.proofs.lemmas.List.{map_push, drop-drop, get_or-drop, take_all, take_more_set}
use Rattle.std.proofs.lemmas.Bool.{false≢true}
use Rattle.std.proofs.lemmas.List.Elements.{All-nil, All-cons, All-append}
use Rattle.node_core.specs.Node.{NodeState, PreparedNode, IsNode, MayRefuseStep, is_running, local_steps}
use Rattle.node_core.proofs.Sound.{local_steps-end}
use Rattle.node_core.proofs.Steps.{local_steps-add, local_steps-zero}
use Rattle.bsp_exchange.specs.Exchange.{states}
use Rattle.machine_core.specs.Events.{HaveStepped}
use Rattle.bsp_exchange.proofs.Tallies.{states-more}
use Rattle.worker_pool.specs.Work.{HasCome, HasStopped, IsWorked}

HaveStepped-append : (input : List ℕ) (here here_new there there_new : List NodeState) → HaveStepped input here here_new
    → HaveStepped input there there_new → HaveStepped input (here ++ there) (here_new ++ there_new)
HaveStepped-append input [] [] there there_new first second = second
HaveStepped-append input [] (n ∷ here_new) there there_new first second = absurd first
HaveStepped-append input (o ∷ here) [] there there_new first second = absurd first
HaveStepped-append input (o ∷ here) (n ∷ here_new) there there_new first second =
    (first.0, HaveStepped-append input here here_new there there_new first.1 second)

pub of_ok : {E : Type 0} {P : Type 0} (r : Result ⊤ E) → IsOk r → OnOk r P → P
of_ok (Ok x) ok holds = holds
of_ok (Err e) ok holds = absurd cc

-- two parts, one behind the other
pub IsWorked-append : (input : List ℕ) (here here_new there there_new : List NodeState) (refused_here refused_there both : Bool)
    → (IsFalse both → IsFalse refused_here × IsFalse refused_there) → IsWorked input here here_new refused_here
    → IsWorked input there there_new refused_there → IsWorked input (here ++ there) (here_new ++ there_new) both
IsWorked-append input here here_new there there_new refused_here refused_there both ok first second = record {
  stepped = HaveStepped-append input here here_new there there_new first.stepped second.stepped;
  ok = λ fine. let each = ok fine in All-append HasStopped here_new there_new (first.ok each.0) (second.ok each.1);
  come = All-append (HasCome input) here_new there_new first.come second.come;
}

-- a run that is made, or refused before its end, is some steps
pub some_steps : {E : Type 0} (input : List ℕ) (most : ℕ) (old new : NodeState) (answer : Result ⊤ E)
    → OnOk answer (new ≡ local_steps input most old) → OnErr answer ((k : ℕ) × (k < most) × (new ≡ local_steps input k old))
    → (k : ℕ) × (new ≡ local_steps input k old)
some_steps input most old new (Ok x) made refused = (most, made)
some_steps input most old new (Err e) made refused = (refused.0, refused.2)

-- a node that ran for as many steps as it has ticks left has stopped, and one that was refused memory may be refused its next step
pub HasCome-run : {E : Type 0} (input : List ℕ) (old new : NodeState) (most : ℕ) (answer : Result ⊤ E) → IsNode old → old.limit ≤ most
    → OnOk answer (new ≡ local_steps input most old) → OnErr answer (MayRefuseStep input new) → HasCome input new
HasCome-run input old new most (Ok x) sound long made refuses =
    let stopped = ap (λ (n : NodeState). is_running n.state) made ∙ local_steps-end input most old sound (omega (arith, long)) in
    λ runs. absurd (false≢true (sym stopped ∙ runs))
HasCome-run input old new most (Err e) sound long made refuses = λ runs. refuses

pub drop_one_more : {X : Type 0} (xs ys : List X) (i : ℕ) → drop i xs ≡ drop i ys → drop (i + 1) xs ≡ drop (i + 1) ys
drop_one_more xs ys i same = sym (drop-drop 1 i xs) ∙ ap (drop 1) same ∙ drop-drop 1 i ys

-- one node more, at a place of a row of which the nodes before it have been worked on
pub IsWorked-next : (input : List ℕ) (old present : List PreparedNode) (place : ℕ) (before after : PreparedNode)
    (refused_before refused_here both : Bool) → (IsFalse both → IsFalse refused_before × IsFalse refused_here) → place < length old
    → length present ≡ length old → drop place present ≡ drop place old → before ≡ get_or present place before
    → (k : ℕ) × (after.node ≡ local_steps input k before.node) → (IsFalse refused_here → HasStopped after.node) → HasCome input after.node
    → IsWorked input (states (take place old)) (states (take place present)) refused_before
    → IsWorked input (states (take (place + 1) old)) (states (take (place + 1) (set present place after))) both
IsWorked-next input old present place before after refused_before refused_here both ok within long rest is stepped done come so_far =
    let same : before ≡ get_or old place before =
    is ∙ ap (λ j. get_or present j before) (sym (add-zero place)) ∙ sym (get_or-drop place present 0 before)
    ∙ ap (λ ps. get_or ps 0 before) rest
    ∙ get_or-drop place old 0 before ∙ ap (λ j. get_or old j before) (add-zero place) in
    let first = states-more old place before within same in
    let second : states (take (place + 1) (set present place after)) ≡ states (take place present) ++ after.node ∷ [] =
    ap states (take_more_set present place after (omega (arith, long, within)))
    ∙ map_push (λ (p : PreparedNode). p.node) (take place present) after in
    rw (first, second)
    (IsWorked-append input (states (take place old)) (states (take place present)) (before.node ∷ [])
    (after.node ∷ []) refused_before refused_here both ok so_far
    record {
      stepped = (stepped, tt);
      ok = λ fine. All-cons HasStopped after.node [] (done fine) (All-nil HasStopped);
      come = All-cons (HasCome input) after.node [] come (All-nil (HasCome input));
    })

-- all nodes, once each place is done
pub IsWorked-all : (input : List ℕ) (old present : List PreparedNode) (i : ℕ) (r : Bool) → length present ≡ length old → length old ≤ i
    → IsWorked input (states (take i old)) (states (take i present)) r → IsWorked input (states old) (states present) r
IsWorked-all input old present i r long past worked =
    let first : take i old ≡ old = take_all i old past in
    let second : take i present ≡ present = take_all i present (omega (arith, long, past)) in
    rw (first, second) at worked

-- steps after steps
pub steps_then : (input : List ℕ) (k m : ℕ) (old mid new : NodeState) → mid ≡ local_steps input k old → new ≡ local_steps input m mid
    → new ≡ local_steps input (k + m) old
steps_then input k m old mid new first second =
    second ∙ ap (λ (x : NodeState). local_steps input m x) first ∙ sym (local_steps-add input k m old)

pub HaveStepped-on : (input : List ℕ) (old mid new : List NodeState) → HaveStepped input old mid → HaveStepped input mid new
    → HaveStepped input old new
HaveStepped-on input [] [] new first second = second
HaveStepped-on input [] (n ∷ mid) new first second = absurd first
HaveStepped-on input (o ∷ old) [] new first second = absurd first
HaveStepped-on input (o ∷ old) (n ∷ mid) [] first second = absurd second
HaveStepped-on input (o ∷ old) (n ∷ mid) (m ∷ new) first second = (
  (first.0.0 + second.0.0, steps_then input first.0.0 second.0.0 o n m first.0.1 second.0.1),
  HaveStepped-on input old mid new first.1 second.1,
)

pub HaveStepped-none : (input : List ℕ) (nodes : List NodeState) → HaveStepped input nodes nodes
HaveStepped-none input [] = tt
HaveStepped-none input (n ∷ rest) = ((0, sym (local_steps-zero input n)), HaveStepped-none input rest)

-- nodes in their rooms that have stepped have stepped
pub HaveStepped-states : (input : List ℕ) (old new : List PreparedNode)
    → AllZip (λ (o n : PreparedNode). (k : ℕ) × (n.node ≡ local_steps input k o.node)) old new → HaveStepped input (states old) (states new)
HaveStepped-states input [] [] each = tt
HaveStepped-states input [] (n ∷ new) each = absurd each
HaveStepped-states input (o ∷ old) [] each = absurd each
HaveStepped-states input (o ∷ old) (n ∷ new) each = (each.0, HaveStepped-states input old new each.1)

-- work on nodes that had stepped before
pub IsWorked-on : (input : List ℕ) (old mid new : List NodeState) (last whole : Bool) → (IsFalse whole → IsFalse last)
    → HaveStepped input old mid → IsWorked input mid new last → IsWorked input old new whole
IsWorked-on input old mid new last whole ok first worked = record {
  stepped = HaveStepped-on input old mid new first worked.stepped;
  ok = λ fine. worked.ok (ok fine);
  come = worked.come;
}

-- one node more has stepped, at a place of a row of which the nodes before it have
pub HaveStepped-next : (input : List ℕ) (old present : List PreparedNode) (i : ℕ) (before after : PreparedNode) → i < length old
    → length present ≡ length old → drop i present ≡ drop i old → before ≡ get_or present i before
    → (k : ℕ) × (after.node ≡ local_steps input k before.node) → HaveStepped input (states (take i old)) (states (take i present))
    → HaveStepped input (states (take (i + 1) old)) (states (take (i + 1) (set present i after)))
HaveStepped-next input old present i before after within long rest is stepped so_far =
    let same : before ≡ get_or old i before =
    is ∙ ap (λ j. get_or present j before) (sym (add-zero i)) ∙ sym (get_or-drop i present 0 before) ∙ ap (λ ps. get_or ps 0 before) rest
    ∙ get_or-drop i old 0 before ∙ ap (λ j. get_or old j before) (add-zero i) in
    let first = states-more old i before within same in
    let second : states (take (i + 1) (set present i after)) ≡ states (take i present) ++ after.node ∷ [] =
    ap states (take_more_set present i after (omega (arith, long, within)))
    ∙ map_push (λ (p : PreparedNode). p.node) (take i present) after in
    rw (first, second)
    (HaveStepped-append input (states (take i old)) (states (take i present)) (before.node ∷ []) (after.node ∷ []) so_far (stepped, tt))

pub HaveStepped-all : (input : List ℕ) (old present : List PreparedNode) (i : ℕ) → length present ≡ length old → length old ≤ i
    → HaveStepped input (states (take i old)) (states (take i present)) → HaveStepped input (states old) (states present)
HaveStepped-all input old present i long past so_far =
    let first : take i old ≡ old = take_all i old past in
    let second : take i present ≡ present = take_all i present (omega (arith, long, past)) in
    rw (first, second) at so_far
