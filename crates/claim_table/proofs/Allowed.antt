-- What each step at the claim table asks, by the view before it. Each keeps the rule.
use Rattle.std.proofs.Common.{◌≡◌, ℕ, ◌+◌, ◌-◌, ◌%◌, ◌^◌, ◌<◌, ◌≤◌, eqb, Bool, true, false, not, ◌&&◌, ◌||◌, cond, List, [], ◌∷◌, length}
use Rattle.std.proofs.Common.{set, Option, Some, None, refl, sym, ap, subst, ◌∙◌, ⊎_elim, arith, eq-eqb, ne_eqb}
use Rattle.std.specs.Prelude.{slice_get, slice_index, IsSomeAnd, if◌then◌else◌}
use Rattle.std.proofs.lemmas.Bool.{false≢true, true≢false}
use Rattle.std.proofs.lemmas.List.Elements.{All-cons, All-head, All-tail}
use Rattle.std.proofs.lemmas.List.Sums.{sum_by-cons}
use mathlib.Core.Logic.{dite}
use mathlib.Core.Option.{none, some, some-injective, some-ne-none}
use native.Mathlib.Decide.{ℕ_discrete}
use prog.Atomic.{either}
use lib.ListN.{get_elem?}
use Rattle.atomic_table.specs.Table.{step, keeps, takes, gives, stepped, Allows, Splits}
use Rattle.atomic_table.proofs.Lists.{at_set}
use Rattle.node_core.specs.Node.{NodeState, PreparedNode, is_running, local_steps}
use Rattle.node_core.proofs.Steps.{local_steps-add}
use Rattle.claim_table.specs.declared.view.View.{View}
use Rattle.claim_table.specs.Claims.{StartOfPhase, HasStepped, Home, word_of, holders, times_held, total_held, enrolled, IsClaimTable}
use Rattle.claim_table.specs.ClaimSteps.{ViewAndSlots, view_away, view_at_work, keeper_view, after_take, Reserves, Returns, Enrols, Takes}
use Rattle.claim_table.specs.ClaimSteps.{Retires, Seals}
use Rattle.claim_table.proofs.ClaimLists.{at-there, sum_by-set_at, sum_by-at-le}
use Rattle.claim_table.proofs.Keeps.{one_if, missed, moved, counted, hired}

-- one more out
times_held-after_take : (r rank : ℕ) (n : NodeState) (v : View)
    → times_held r (after_take rank n v) ≡ cond (eqb rank r) 1 0 + times_held r v
times_held-after_take r rank n v = sum_by-cons (λ (o : ℕ × NodeState). cond (eqb o.0 r) 1 0) (rank, n) v.outs

one_more : (b : Bool) (t u : ℕ) → t ≡ cond b 1 0 + u → t + cond b 0 0 ≡ u + cond b 1 0
one_more true t u is = omega (arith, is)
one_more false t u is = omega (arith, is)

one_less : (b : Bool) (t u : ℕ) → t ≡ cond b 1 0 + u → u + cond b 1 0 ≡ t + cond b 0 0
one_less true t u is = omega (arith, is)
one_less false t u is = omega (arith, is)

held-some : (home : Home) → 1 ≤ holders home → home ≡ none
held-some none more = refl
held-some (some x) more = absurd (omega arith)

abbrev word_if : Bool → ℕ
word_if b = cond b 0 2

zero-if : (b : Bool) → word_if b ≡ 0 → b ≡ true
zero-if true is = refl
zero-if false is = absurd (omega arith)

-- a rank whose word is 0 has a node at home that runs
runs-home : (home : Home) → word_of home ≡ 0 → (n : PreparedNode) × (home ≡ some (Some n)) × (is_running n.node.state ≡ true)
runs-home none is = absurd (omega arith)
runs-home (some None) is = absurd (omega arith)
runs-home (some (Some n)) is = (n, refl, zero-if (is_running n.node.state) is)

-- a node that stepped on has stepped
module _ (start : StartOfPhase) (k : ℕ) (n m : NodeState) (is : m ≡ local_steps start.input k n) where
  stepped_on : (o : Option NodeState) → IsSomeAnd o (λ s. (j : ℕ) × (n ≡ local_steps start.input j s))
      → IsSomeAnd o (λ s. (j : ℕ) × (m ≡ local_steps start.input j s))
  stepped_on None h = absurd h
  stepped_on (Some s) h =
      (h.0 + k, is ∙ ap (λ (x : NodeState). local_steps start.input k x) h.1 ∙ sym (local_steps-add start.input h.0 k s))

  HasStepped-on : (rank : ℕ) → HasStepped start rank n → HasStepped start rank m
  HasStepped-on rank = stepped_on (slice_get start.row rank)

not_sealed : (sealed : Bool) (found working : ℕ) → found ≡ (if sealed then 2 ^ 63 else working) → found < 2 ^ 63 → sealed ≡ false
not_sealed true found working is small = absurd (omega (arith, is, small))
not_sealed false found working is small = refl

count_is : (sealed : Bool) (found working : ℕ) → found ≡ (if sealed then 2 ^ 63 else working) → sealed ≡ false → found ≡ working
count_is true found working is yet = absurd (true≢false yet)
count_is false found working is yet = is

nobody : (sealed : Bool) (working : ℕ) → 0 < working → (sealed ≡ true → working ≡ 0) → sealed ≡ false
nobody true working more over = let zero = over refl in absurd (omega (arith, more, zero))
nobody false working more over = refl

announced : (n m : PreparedNode) → some (Some n) ≡ some (Some m) → n ≡ m
announced n m is = let same : Some n ≡ Some m = some-injective (Some n) (Some m) is in cc

module _ (start : StartOfPhase) (slots seat : ℕ) where
  -- the keeper reserves the word of the next rank for its node
  pub may_reserve : (rank : ℕ) (n : PreparedNode) → rank < slots → HasStepped start rank n.node
      → Allows (IsClaimTable start) slots seat (keeper_view rank, []) rank (λ x. either (eqb x 3) 1 x)
      (Reserves (step slots rank 3 1 (some (Some n))) (keeper_view rank, []))
  may_reserve rank n within fits s rule long at small =
      let there = at-there s.homes rank (omega (arith, within, long)) in
      let known = (rule.views_fit seat (keeper_view rank) at).keeper refl in
      let mark : rank ≡ rule.mark = known.1 in
      let empty : there.0 ≡ some None = (rule.empty rank there.0 there.1).1 (omega (arith, mark)) in
      let here : get_elem? s.homes rank ≡ some (some None) = there.1 ∙ ap some empty in
      let word : slice_index s.words rank ≡ 3 = rule.words_tell rank (some None) here in
      let w : View = after_take rank n.node (keeper_view (rank + 1)) in
      let kept = moved start s rule rank (some None) none seat (keeper_view rank) w (rank + 1) here at
      (λ r. one_more (eqb rank r) (times_held r w) 0 (times_held-after_take r rank n.node (keeper_view (rank + 1))))
      (λ r h found. ⊎_elim
      (λ t. ((λ is. absurd (some-ne-none None (sym (t.1 ∙ is)))), (λ past. let same = t.0 in absurd (omega (arith, past, same)))))
      (λ t. let old = rule.empty r h t.1 in (
        (λ is. let past = old.0 is in let other = t.0 in omega (arith, past, mark, (λ (e : r ≡ rank). other e))),
        (λ past. old.1 (omega (arith, past, mark))),
      ))
      (at_set s.homes rank r none h found))
      (λ m is. absurd (some-ne-none (Some m) (sym is)))
      refl
      (record {
        keeper = λ h. (known.0, refl, known.2, refl);
        none_out = λ h. absurd (true≢false h);
        stepped =
            All-cons (λ (o : ℕ × NodeState). HasStepped start o.0 o.1) (rank, n.node) [] fits
            (rule.views_fit seat (keeper_view rank) at).stepped;
        running = λ h. absurd (true≢false h);
      })
      (λ j u other old. record {
        keeper = λ h. absurd (other ((old.keeper h).0 ∙ sym known.0));
        none_out = old.none_out;
        stepped = old.stepped;
        running = old.running;
      })
      (λ over. absurd (false≢true (known.2 ∙ over)))
      in (
        w,
        takes rank None,
        here,
        rw (word) kept,
        λ m said. ap (λ (x : PreparedNode). (after_take rank x.node (keeper_view (rank + 1)), (rank, None) ∷ [])) (announced n m said),
      )

  -- who has a slot out gives back its node, some steps later
  pub may_return : (rank word steps : ℕ) (node : PreparedNode) (taken : NodeState) (view : View) (rest : List (ℕ × Option PreparedNode))
      → rank < slots → node.node ≡ local_steps start.input steps taken → word ≡ word_of (some (Some node))
      → Allows (IsClaimTable start) slots seat (after_take rank taken view, (rank, Some node) ∷ rest) rank (λ _. word)
      (λ _. Returns (step slots rank word 0 none) (after_take rank taken view, (rank, Some node) ∷ rest) word)
  may_return rank word steps node taken view rest within later tells s rule long at small =
      let before : View = after_take rank taken view in
      let there = at-there s.homes rank (omega (arith, within, long)) in
      let mine = rule.views_fit seat before at in
      let more : times_held rank before ≡ cond (eqb rank rank) 1 0 + times_held rank view = times_held-after_take rank rank taken view in
      let once : cond (eqb rank rank) 1 0 ≡ one_if true = ap one_if (eq-eqb rank rank refl) in
      let all : times_held rank before ≤ total_held rank s.views = sum_by-at-le (times_held rank) s.views seat before at in
      let out : there.0 ≡ none = held-some there.0 (let is = rule.out_once rank there.0 there.1 in omega (arith, is, all, more, once)) in
      let here : get_elem? s.homes rank ≡ some none = there.1 ∙ ap some out in
      let kept = moved start s rule rank none (some (Some node)) seat before view rule.mark here at
      (λ r. one_less (eqb rank r) (times_held r before) (times_held r view) (times_held-after_take r rank taken view))
      (λ r h found. ⊎_elim
      (λ t. let old = rule.empty rank none here in (
        (λ is. let no : some (Some node) ≡ some None = t.1 ∙ is in
            let no' : Some node ≡ None = some-injective (Some node) None no in absurd cc),
        (λ past. let same = t.0 in absurd (some-ne-none None (sym (old.1 (omega (arith, past, same)))))),
      ))
      (λ t. rule.empty r h t.1)
      (at_set s.homes rank r (some (Some node)) h found))
      (λ m is. subst (λ (x : PreparedNode). HasStepped start rank x.node) (announced node m is)
      (HasStepped-on start steps taken node.node later rank
      (All-head (λ (o : ℕ × NodeState). HasStepped start o.0 o.1) (rank, taken) view.outs mine.stepped)))
      refl
      (record {
        keeper = mine.keeper;
        none_out = λ h. let no = mine.none_out h in absurd cc;
        stepped = All-tail (λ (o : ℕ × NodeState). HasStepped start o.0 o.1) (rank, taken) view.outs mine.stepped;
        running = λ h. All-tail (λ (o : ℕ × NodeState). is_running o.1.state ≡ true) (rank, taken) view.outs (mine.running h);
      })
      (λ j u other old. old)
      rule.all_reserved
      in
      (view, gives, tt, rw (tells) kept, refl)

  -- a worker takes the node of a rank, where that lies there and runs
  pub may_take : (rank : ℕ) (v : View) (c : List (ℕ × Option PreparedNode)) → rank < slots → v.is_enrolled ≡ true → v.is_keeper ≡ false
      → Allows (IsClaimTable start) slots seat (v, c) rank (λ x. either (eqb x 0) 1 x) (Takes (step slots rank 0 1 none) (v, c))
  may_take rank v c within works plain s rule long at small =
      let there = at-there s.homes rank (omega (arith, within, long)) in
      let tells : slice_index s.words rank ≡ word_of there.0 = rule.words_tell rank there.0 there.1 in
      dite (ℕ_discrete (slice_index s.words rank) 0)
      (λ hit.
      let found = runs-home there.0 (sym tells ∙ hit) in
      let n : PreparedNode = found.0 in
      let here : get_elem? s.homes rank ≡ some (some (Some n)) = there.1 ∙ ap some found.1 in
      let mine = rule.views_fit seat v at in
      let w : View = after_take rank n.node v in
      let kept = moved start s rule rank (some (Some n)) none seat v w rule.mark here at
      (λ r. one_more (eqb rank r) (times_held r w) (times_held r v) (times_held-after_take r rank n.node v))
      (λ r h at_r. ⊎_elim
      (λ t. let old = rule.empty rank (some (Some n)) here in (
        (λ is. absurd (some-ne-none None (sym (t.1 ∙ is)))),
        (λ past. let same = t.0 in let no : Some n ≡ None = some-injective (Some n) None (old.1 (omega (arith, past, same))) in absurd cc),
      ))
      (λ t. rule.empty r h t.1)
      (at_set s.homes rank r none h at_r))
      (λ m is. absurd (some-ne-none (Some m) (sym is)))
      refl
      (record {
        keeper = mine.keeper;
        none_out = λ h. absurd (true≢false (sym (ap (λ b. b || (v.is_keeper && not v.sealed)) works) ∙ h));
        stepped =
            All-cons (λ (o : ℕ × NodeState). HasStepped start o.0 o.1) (rank, n.node) v.outs (rule.homes_stepped rank n here) mine.stepped;
        running = λ h. All-cons (λ (o : ℕ × NodeState). is_running o.1.state ≡ true) (rank, n.node) v.outs found.2 (mine.running h);
      })
      (λ j u other old. old)
      rule.all_reserved
      in (
        w,
        takes rank (Some n),
        here,
        subst (λ (z : ℕ). IsClaimTable start
            (record { words = set s.words rank (either (eqb z 0) 1 z); homes = set s.homes rank none; views = set s.views seat w }))
            (sym hit) kept,
        ((λ _. (n, found.2, refl)), λ no. absurd (no hit)),
      ))
      (λ miss. (
        v,
        keeps,
        tt,
        subst (λ b. IsClaimTable start (stepped s rank (either b 1 (slice_index s.words rank)) seat c v keeps))
            (sym (ne_eqb (slice_index s.words rank) 0 miss)) (missed start s rule rank seat c v at),
        ((λ is. absurd (miss is)), λ _. refl),
      ))

  -- a thread enrols: the count that it expects is raised by one
  pub may_enrol : (count : ℕ) → count + 1 < 2 ^ 63
      → Allows (IsClaimTable start) slots seat (view_away, []) slots (λ x. either (eqb x count) (count + 1) x)
      (Enrols (step slots slots count (count + 1) none) (view_away, []))
  may_enrol count few s rule long at small =
      let x : ℕ = slice_index s.words slots in
      let is_last : slice_index s.words (length s.homes) ≡ x = ap (λ n. slice_index s.words n) long in
      dite (ℕ_discrete x count)
      (λ hit.
      let mine = rule.views_fit seat view_away at in
      let open_yet : rule.sealed ≡ false =
      not_sealed rule.sealed x (enrolled s.views) (sym is_last ∙ rule.count.is_count) (omega (arith, hit, few)) in
      let now : x ≡ enrolled s.views = count_is rule.sealed x (enrolled s.views) (sym is_last ∙ rule.count.is_count) open_yet in
      let sum : enrolled (set s.views seat view_at_work) + one_if false ≡ enrolled s.views + one_if true =
      sum_by-set_at (λ (u : View). one_if u.is_enrolled) s.views seat view_away view_at_work at in
      let kept = counted start s rule seat view_away view_at_work rule.sealed (count + 1) at refl
      (record { keeper = λ h. absurd (false≢true h); none_out = λ h. refl; stepped = mine.stepped; running = mine.running })
      (λ j u other old. old)
      rule.all_reserved
      (record {
        is_count =
            subst (λ b. count + 1 ≡ (if b then 2 ^ 63 else enrolled (set s.views seat view_at_work))) (sym open_yet)
            (omega (arith, sum, now, hit));
        fewer = omega (arith, sum, now, hit, few);
        none_enrolled = λ over. absurd (false≢true (sym open_yet ∙ over));
      })
      in
      let kept' : IsClaimTable start
      (record { words = set s.words slots (count + 1); homes = s.homes; views = set s.views seat view_at_work }) = rw (long) at kept in (
        view_at_work,
        keeps,
        tt,
        subst (λ b. IsClaimTable start (stepped s slots (either b (count + 1) x) seat [] view_at_work keeps))
            (sym (eq-eqb x count hit)) kept',
        ((λ _. refl), λ no. absurd (no hit)),
      ))
      (λ miss. (
        view_away,
        keeps,
        tt,
        subst (λ b. IsClaimTable start (stepped s slots (either b (count + 1) x) seat [] view_away keeps))
            (sym (ne_eqb x count miss)) (missed start s rule slots seat [] view_away at),
        ((λ is. absurd (miss is)), λ _. refl),
      ))

  -- a worker with no node retires: the count is lowered by one
  pub may_retire : Allows (IsClaimTable start) slots seat (view_at_work, []) slots (λ x. (x + (2 ^ 64 - 1)) % 2 ^ 64)
      (Retires (step slots slots 1 0 none) (view_at_work, []))
  may_retire s rule long at small =
      let x : ℕ = slice_index s.words slots in
      let is_last : slice_index s.words (length s.homes) ≡ x = ap (λ n. slice_index s.words n) long in
      let mine = rule.views_fit seat view_at_work at in
      let some_work : one_if true ≤ enrolled s.views = sum_by-at-le (λ (u : View). one_if u.is_enrolled) s.views seat view_at_work at in
      let open_yet : rule.sealed ≡ false = nobody rule.sealed (enrolled s.views) (omega (arith, some_work)) rule.count.none_enrolled in
      let now : x ≡ enrolled s.views = count_is rule.sealed x (enrolled s.views) (sym is_last ∙ rule.count.is_count) open_yet in
      let sum : enrolled (set s.views seat view_away) + one_if true ≡ enrolled s.views + one_if false =
      sum_by-set_at (λ (u : View). one_if u.is_enrolled) s.views seat view_at_work view_away at in
      let few = rule.count.fewer in
      let less : (x + (2 ^ 64 - 1)) % 2 ^ 64 ≡ enrolled (set s.views seat view_away) = omega (arith, sum, now, few, some_work) in
      let kept = counted start s rule seat view_at_work view_away rule.sealed ((x + (2 ^ 64 - 1)) % 2 ^ 64) at refl
      (record { keeper = λ h. absurd (false≢true h); none_out = λ h. refl; stepped = mine.stepped; running = mine.running })
      (λ j u other old. old)
      rule.all_reserved
      (record {
        is_count =
            subst (λ b. (x + (2 ^ 64 - 1)) % 2 ^ 64 ≡ (if b then 2 ^ 63 else enrolled (set s.views seat view_away))) (sym open_yet) less;
        fewer = omega (arith, sum, few);
        none_enrolled = λ over. absurd (false≢true (sym open_yet ∙ over));
      })
      in
      (view_away, keeps, tt, rw (long) at kept, refl)

  -- the keeper seals the table, where nobody works
  pub may_seal : Allows (IsClaimTable start) slots seat (keeper_view slots, []) slots (λ x. either (eqb x 0) (2 ^ 63) x)
      (Seals (step slots slots 0 (2 ^ 63) none) (keeper_view slots, []))
  may_seal s rule long at small =
      let x : ℕ = slice_index s.words slots in
      let is_last : slice_index s.words (length s.homes) ≡ x = ap (λ n. slice_index s.words n) long in
      dite (ℕ_discrete x 0)
      (λ hit.
      let mine = rule.views_fit seat (keeper_view slots) at in
      let known = mine.keeper refl in
      let w : View = record (keeper_view slots) { sealed = true } in
      let open_yet : rule.sealed ≡ false =
      not_sealed rule.sealed x (enrolled s.views) (sym is_last ∙ rule.count.is_count) (omega (arith, hit)) in
      let now : x ≡ enrolled s.views = count_is rule.sealed x (enrolled s.views) (sym is_last ∙ rule.count.is_count) open_yet in
      let sum : enrolled (set s.views seat w) + one_if false ≡ enrolled s.views + one_if false =
      sum_by-set_at (λ (u : View). one_if u.is_enrolled) s.views seat (keeper_view slots) w at in
      let none_work : enrolled (set s.views seat w) ≡ 0 = omega (arith, sum, now, hit) in
      let kept = counted start s rule seat (keeper_view slots) w true (2 ^ 63) at refl
      (record {
        keeper = λ h. (known.0, known.1, refl, refl);
        none_out = λ h. refl;
        stepped = mine.stepped;
        running = λ h. absurd (true≢false h);
      })
      (λ j u other old. record {
        keeper = λ h. absurd (other ((old.keeper h).0 ∙ sym known.0));
        none_out = old.none_out;
        stepped = old.stepped;
        running = old.running;
      })
      (λ over. sym known.1 ∙ sym long)
      (record { is_count = refl; fewer = omega (arith, none_work); none_enrolled = λ over. none_work })
      in
      let kept' : IsClaimTable start (record { words = set s.words slots (2 ^ 63); homes = s.homes; views = set s.views seat w }) =
      rw (long) at kept in (
        w,
        keeps,
        tt,
        subst (λ b. IsClaimTable start (stepped s slots (either b (2 ^ 63) x) seat [] w keeps)) (sym (eq-eqb x 0 hit)) kept',
        ((λ _. refl), λ no. absurd (no hit)),
      ))
      (λ miss. (
        keeper_view slots,
        keeps,
        tt,
        subst (λ b. IsClaimTable start (stepped s slots (either b (2 ^ 63) x) seat [] (keeper_view slots) keeps)) (sym (ne_eqb x 0 miss))
            (missed start s rule slots seat [] (keeper_view slots) at),
        ((λ is. absurd (miss is)), λ _. refl),
      ))

  -- whoever has a seat can have another seat made
  pub may_hire : (v : View) → Splits (IsClaimTable start) seat v v view_away
  may_hire v s rule at = hired start s rule seat v at

-- the same by the seat's view and slots
module _ (start : StartOfPhase) (slots seat : ℕ) (me : ViewAndSlots) where
  pub can_retire : (word : ℕ) → slots ≡ word → me ≡ (view_at_work, [])
      → Allows (IsClaimTable start) slots seat me word (λ x. (x + (2 ^ 64 - 1)) % 2 ^ 64) (Retires (step slots word 1 0 none) me)
  can_retire word last is = rw (is, sym last) (may_retire start slots seat)

  pub can_take : (rank : ℕ) → rank < slots → me ≡ (view_at_work, [])
      → Allows (IsClaimTable start) slots seat me rank (λ x. either (eqb x 0) 1 x) (Takes (step slots rank 0 1 none) me)
  can_take rank within is = rw (is) (may_take start slots seat rank view_at_work [] within refl refl)

  pub can_enrol : (word count : ℕ) → slots ≡ word → count + 1 < 2 ^ 63 → me ≡ (view_away, [])
      → Allows (IsClaimTable start) slots seat me word (λ x. either (eqb x count) (count + 1) x)
      (Enrols (step slots word count (count + 1) none) me)
  can_enrol word count last few is = rw (is, sym last) (may_enrol start slots seat count few)

  pub can_return : (rank word steps : ℕ) (node : PreparedNode) (taken : NodeState) (view : View) (rest : List (ℕ × Option PreparedNode))
      → rank < slots → node.node ≡ local_steps start.input steps taken → word ≡ word_of (some (Some node))
      → me ≡ (after_take rank taken view, (rank, Some node) ∷ rest)
      → Allows (IsClaimTable start) slots seat me rank (λ _. word) (λ _. Returns (step slots rank word 0 none) me word)
  can_return rank word steps node taken view rest within later tells is =
      rw (is) (may_return start slots seat rank word steps node taken view rest within later tells)
