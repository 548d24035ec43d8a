-- Each kind of step at the claim table keeps its rule.
use Rattle.std.proofs.Common.{◌≡◌, ◌≢◌, ℕ, ◌+◌, ◌<◌, ◌==◌, eqb, Bool, true, false, cond, List, [], ◌∷◌, ◌++◌, length, set, Option, Some}
use Rattle.std.proofs.Common.{refl, sym, ap, subst, ◌∙◌, ⊎_elim, arith, eq-eqb, ne_eqb, length-set, get_or-set_same}
use Rattle.std.specs.Prelude.{count_by, slice_index}
use Rattle.std.proofs.lemmas.List.{get_or-set_other, set-get_or}
use Rattle.std.proofs.lemmas.Bool.{false≢true}
use Rattle.std.proofs.lemmas.List.Elements.{All-nil}
use Rattle.std.proofs.lemmas.List.Sums.{sum_by_push}
use mathlib.Core.Option.{some}
use lib.ListN.{get_elem?}
use Rattle.atomic_table.specs.Table.{State, keeps, stepped}
use Rattle.atomic_table.proofs.Lists.{at_set, at_snoc, set_again}
use Rattle.node_core.specs.Node.{NodeState, PreparedNode, is_running}
use Rattle.claim_table.specs.declared.view.View.{View}
use Rattle.claim_table.specs.Claims.{StartOfPhase, HasStepped, Home, word_of, holders, times_held, total_held, enrolled, WordsTell}
use Rattle.claim_table.specs.Claims.{AreEmptyFrom, HomesHaveStepped, AreOutOnce, IsView, IsCount, IsClaimTable}
use Rattle.claim_table.specs.ClaimSteps.{view_away}
use Rattle.claim_table.proofs.ClaimLists.{at-within, sum_by-set_at}

abbrev pub Claims : Type 0
Claims = State (Option PreparedNode) View

abbrev pub one_if : Bool → ℕ
one_if b = cond b 1 0

module _ (start : StartOfPhase) (s : Claims) (rule : IsClaimTable start s) where
  -- a view is as it was
  same_views : (seat : ℕ) (v : View) → get_elem? s.views seat ≡ some v → set s.views seat v ≡ s.views
  same_views seat v at = set_again s.views seat v at

  -- a step that finds another word than it looks for changes nothing
  pub missed : (word seat : ℕ) (c : List (ℕ × Option PreparedNode)) (v : View) → get_elem? s.views seat ≡ some v
      → IsClaimTable start (stepped s word (slice_index s.words word) seat c v keeps)
  missed word seat c v at =
      let words : set s.words word (slice_index s.words word) ≡ s.words = set-get_or s.words word 0 in
      let views : set s.views seat v ≡ s.views = same_views seat v at in
      rw (words, views) rule

  -- the word of a rank, its slot and one view change
  module _ (rank : ℕ) (home new : Home) (seat : ℕ) (v w : View) (mark : ℕ) (here : get_elem? s.homes rank ≡ some home)
      (at : get_elem? s.views seat ≡ some v)
      (held : (r : ℕ) → times_held r w + cond (eqb rank r) (holders home) 0 ≡ times_held r v + cond (eqb rank r) (holders new) 0) where
    moved_words : WordsTell (set s.words rank (word_of new)) (set s.homes rank new)
    moved_words r h found =
        ⊎_elim
        (λ t. let within = at-within s.homes rank home here in
        let long = rule.one_word_more in
        subst (λ q. slice_index (set s.words rank (word_of new)) q ≡ word_of h) (sym t.0)
        (get_or-set_same s.words rank (word_of new) 0 (omega (arith, within, long)) ∙ ap word_of t.1))
        (λ t. get_or-set_other s.words rank r (word_of new) 0 t.0 ∙ rule.words_tell r h t.1)
        (at_set s.homes rank r new h found)

    moved_homes : ((n : PreparedNode) → new ≡ some (Some n) → HasStepped start rank n.node) → HomesHaveStepped start (set s.homes rank new)
    moved_homes comes r n found =
        ⊎_elim
        (λ t. subst (λ q. HasStepped start q n.node) (sym t.0) (comes n t.1))
        (λ t. rule.homes_stepped r n t.1)
        (at_set s.homes rank r new (some (Some n)) found)

    moved_outs : AreOutOnce (set s.homes rank new) (set s.views seat w)
    moved_outs r h found =
        let sum = sum_by-set_at (times_held r) s.views seat v w at in
        let kept = held r in
        ⊎_elim
        (λ t. let same : eqb rank r ≡ true = eq-eqb rank r (sym t.0) in
        let before : total_held r s.views ≡ holders home =
        subst (λ q. total_held q s.views ≡ holders home) (sym t.0) (rule.out_once rank home here) in
        let change : times_held r w + holders home ≡ times_held r v + holders new =
        subst (λ b. times_held r w + cond b (holders home) 0 ≡ times_held r v + cond b (holders new) 0) same kept in
        let is : holders new ≡ holders h = ap holders t.1 in
        omega (arith, sum, before, change, is))
        (λ t. let other : eqb rank r ≡ false = ne_eqb rank r (λ e. t.0 (sym e)) in
        let before : total_held r s.views ≡ holders h = rule.out_once r h t.1 in
        let change : times_held r w + 0 ≡ times_held r v + 0 =
        subst (λ b. times_held r w + cond b (holders home) 0 ≡ times_held r v + cond b (holders new) 0) other kept in
        omega (arith, sum, before, change))
        (at_set s.homes rank r new h found)

    pub moved : AreEmptyFrom mark (set s.homes rank new) → ((n : PreparedNode) → new ≡ some (Some n) → HasStepped start rank n.node)
        → w.is_enrolled ≡ v.is_enrolled → IsView start mark rule.sealed seat w
        → ((j : ℕ) (u : View) → j ≢ seat → IsView start rule.mark rule.sealed j u → IsView start mark rule.sealed j u)
        → (rule.sealed ≡ true → mark ≡ length s.homes)
        → IsClaimTable start (record { words = set s.words rank (word_of new); homes = set s.homes rank new; views = set s.views seat w })
    moved filled comes works mine others full =
        let within : rank < length s.homes = at-within s.homes rank home here in
        let homes : length (set s.homes rank new) ≡ length s.homes = length-set s.homes rank new in
        let words : length (set s.words rank (word_of new)) ≡ length s.words = length-set s.words rank (word_of new) in
        let last : slice_index (set s.words rank (word_of new)) (length s.homes) ≡ slice_index s.words (length s.homes) =
        get_or-set_other s.words rank (length s.homes) (word_of new) 0 (λ e. omega (arith, within, e)) in
        let sum : enrolled (set s.views seat w) + one_if v.is_enrolled ≡ enrolled s.views + one_if w.is_enrolled =
        sum_by-set_at (λ (u : View). one_if u.is_enrolled) s.views seat v w at in
        let one : one_if w.is_enrolled ≡ one_if v.is_enrolled = ap one_if works in
        let working : enrolled (set s.views seat w) ≡ enrolled s.views = omega (arith, sum, one) in
        record {
          mark = mark;
          sealed = rule.sealed;
          all_reserved = λ over. full over ∙ sym homes;
          slots = homes ∙ rule.slots;
          one_word_more = words ∙ rule.one_word_more ∙ ap (λ (n : ℕ). n + 1) (sym homes);
          words_tell = moved_words;
          empty = filled;
          homes_stepped = moved_homes comes;
          out_once = moved_outs;
          views_fit = λ j u found. ⊎_elim
              (λ t. subst (λ q. IsView start mark rule.sealed q u) (sym t.0) (subst (IsView start mark rule.sealed seat) t.1 mine))
              (λ t. others j u t.0 (rule.views_fit j u t.1))
              (at_set s.views seat j w u found);
          count = rw (homes, last, working) rule.count;
        }

  -- the count and one view change
  pub counted : (seat : ℕ) (v w : View) (sealed : Bool) (n : ℕ) → get_elem? s.views seat ≡ some v → w.outs ≡ v.outs
      → IsView start rule.mark sealed seat w
      → ((j : ℕ) (u : View) → j ≢ seat → IsView start rule.mark rule.sealed j u → IsView start rule.mark sealed j u)
      → (sealed ≡ true → rule.mark ≡ length s.homes) → IsCount sealed n (enrolled (set s.views seat w))
      → IsClaimTable start (record { words = set s.words (length s.homes) n; homes = s.homes; views = set s.views seat w })
  counted seat v w sealed n at outs mine others full count =
      let long = rule.one_word_more in
      let words : length (set s.words (length s.homes) n) ≡ length s.words = length-set s.words (length s.homes) n in
      let last : slice_index (set s.words (length s.homes) n) (length s.homes) ≡ n =
      get_or-set_same s.words (length s.homes) n 0 (omega (arith, long)) in
      record {
        mark = rule.mark;
        sealed = sealed;
        all_reserved = full;
        slots = rule.slots;
        one_word_more = words ∙ rule.one_word_more;
        words_tell = λ r h found. let within = at-within s.homes r h found in
            get_or-set_other s.words (length s.homes) r n 0 (λ e. omega (arith, within, e)) ∙ rule.words_tell r h found;
        empty = rule.empty;
        homes_stepped = rule.homes_stepped;
        out_once = λ r h found.
            let sum = sum_by-set_at (times_held r) s.views seat v w at in
            let same : times_held r w ≡ times_held r v = ap (λ (os : List (ℕ × NodeState)). count_by (λ o. o.0 == r) os) outs in
            let before = rule.out_once r h found in
            omega (arith, sum, same, before);
        views_fit = λ j u found. ⊎_elim
            (λ t. subst (λ q. IsView start rule.mark sealed q u) (sym t.0) (subst (IsView start rule.mark sealed seat) t.1 mine))
            (λ t. others j u t.0 (rule.views_fit j u t.1))
            (at_set s.views seat j w u found);
        count = rw (last) count;
      }

  -- a seat more
  pub hired : (seat : ℕ) (v : View) → get_elem? s.views seat ≡ some v
      → IsClaimTable start (record { words = s.words; homes = s.homes; views = set s.views seat v ++ view_away ∷ [] })
  hired seat v at =
      let views : set s.views seat v ≡ s.views = same_views seat v at in
      let working : enrolled (s.views ++ view_away ∷ []) ≡ enrolled s.views =
      let sum = sum_by_push (λ (u : View). one_if u.is_enrolled) s.views view_away in
      omega (arith, sum) in
      let whole : IsClaimTable start (record { words = s.words; homes = s.homes; views = s.views ++ view_away ∷ [] }) = record {
        mark = rule.mark;
        sealed = rule.sealed;
        all_reserved = rule.all_reserved;
        slots = rule.slots;
        one_word_more = rule.one_word_more;
        words_tell = rule.words_tell;
        empty = rule.empty;
        homes_stepped = rule.homes_stepped;
        out_once = λ r h found.
            let sum = sum_by_push (times_held r) s.views view_away in
            let before = rule.out_once r h found in
            omega (arith, sum, before);
        views_fit = λ j u found. ⊎_elim
            (λ old. rule.views_fit j u old)
            (λ new. subst (IsView start rule.mark rule.sealed j) new
            (record {
              keeper = λ h. absurd (false≢true h);
              none_out = λ h. refl;
              stepped = All-nil (λ (o : ℕ × NodeState). HasStepped start o.0 o.1);
              running =
                  λ h. All-nil (λ (o : ℕ × NodeState). is_running o.1.state ≡ true);
            }))
            (at_snoc s.views view_away u j found);
        count = rw (working) rule.count;
      } in
      rw (views) whole
