-- The two ends of a claim table: as it opens, the rule holds, and when it is closed behind a keeper that has sealed it, each slot has
-- its node.
use Rattle.std.proofs.Common.{◌≡◌, ℕ, zero, suc, ◌+◌, ◌<◌, ◌≤◌, ◌==◌, Bool, true, false, not, ◌&&◌, ◌||◌, List, [], ◌∷◌, ◌++◌, map, length}
use Rattle.std.proofs.Common.{replicate, Option, Some, None, refl, sym, ap, subst, ◌∙◌, arith}
use Rattle.std.specs.Prelude.{count_by, slice_index}
use Rattle.std.specs.List.{AllZip}
use Rattle.std.proofs.lemmas.Bool.{false≢true, true≢false}
use Rattle.std.proofs.lemmas.List.{length-map}
use Rattle.std.proofs.lemmas.List.Elements.{All-nil}
use mathlib.Core.Option.{none, some, some-injective, some-ne-none}
use lib.ListN.{get_elem?}
use Rattle.atomic_table.specs.Table.{opening, Final, Seen}
use Rattle.atomic_table.proofs.Lists.{at_map}
use Rattle.node_core.specs.Node.{NodeState, PreparedNode, is_running, local_steps}
use Rattle.claim_table.specs.declared.view.View.{View}
use Rattle.claim_table.specs.Claims.{StartOfPhase, HasStepped, Home, word_of, holders, times_held, total_held, enrolled, IsView}
use Rattle.claim_table.specs.Claims.{IsClaimTable}
use Rattle.claim_table.specs.ClaimSteps.{keeper_view}
use Rattle.claim_table.proofs.ClaimLists.{at-within, at-there, sum_by-at-le, sum_by-none}
use Rattle.claim_table.proofs.Keeps.{Claims, one_if}

-- a slot of a table that opens has nothing in it
vacant : (n rank : ℕ) (home : Home) → get_elem? (map some (replicate n None)) rank ≡ some home → some None ≡ home
vacant zero rank home at = absurd (some-ne-none home (sym at))
vacant (suc n) zero home at = some-injective (some None) home at
vacant (suc n) (suc rank) home at = vacant n rank home at

-- and its word says so
word-empty : (n rank : ℕ) → rank < n → slice_index (replicate n 3 ++ 0 ∷ []) rank ≡ 3
word-empty zero rank within = absurd (omega arith)
word-empty (suc n) zero within = refl
word-empty (suc n) (suc rank) within = word-empty n rank (omega arith)

-- nobody is counted
word-last : (n : ℕ) → slice_index (replicate n 3 ++ 0 ∷ []) n ≡ 0
word-last zero = refl
word-last (suc n) = word-last n

homes_long : (n : ℕ) → length (map some (replicate {A = Option PreparedNode} n None)) ≡ n
homes_long zero = refl
homes_long (suc n) = let rest = homes_long n in omega arith

pub words_long : (n : ℕ) → length {A = ℕ} (replicate n 3 ++ 0 ∷ []) ≡ n + 1
words_long zero = refl
words_long (suc n) = let rest = words_long n in omega arith

-- the view of the one seat
one_view : (v u : View) (seat : ℕ) → get_elem? (v ∷ []) seat ≡ some u → (seat ≡ 0) × (v ≡ u)
one_view v u zero at = (refl, some-injective v u at)
one_view v u (suc seat) at = absurd (some-ne-none u (sym at))

-- the rule holds of a table as it opens
pub opening-is : (start : StartOfPhase) (n : ℕ) → length start.row ≡ n
    → IsClaimTable start (opening (replicate n 3 ++ 0 ∷ []) (replicate n None) (keeper_view 0))
opening-is start n long =
    let homes : length (map some (replicate {A = Option PreparedNode} n None)) ≡ n = homes_long n in
    let words : length {A = ℕ} (replicate n 3 ++ 0 ∷ []) ≡ n + 1 = words_long n in
    let mine : IsView start 0 false 0 (keeper_view 0) = record {
      keeper = λ h. (refl, refl, refl, refl);
      none_out = λ h. refl;
      stepped = All-nil (λ (o : ℕ × NodeState). HasStepped start o.0 o.1);
      running = λ h. All-nil (λ (o : ℕ × NodeState). is_running o.1.state ≡ true);
    } in
    record {
      mark = 0;
      sealed = false;
      all_reserved = λ over. absurd (false≢true over);
      slots = homes ∙ sym long;
      one_word_more = words ∙ ap (λ (k : ℕ). k + 1) (sym homes);
      words_tell = λ rank home at. let within = at-within (map some (replicate n None)) rank home at in
          word-empty n rank (omega (arith, within, homes)) ∙ ap word_of (vacant n rank home at);
      empty = λ rank home at. ((λ _. omega arith), (λ _. sym (vacant n rank home at)));
      homes_stepped = λ rank m at. let no = vacant n rank (some (Some m)) at in
          let no' : None ≡ Some m = some-injective None (Some m) no in absurd cc;
      out_once = λ rank home at. ap holders (vacant n rank home at);
      views_fit = λ seat u at. let only = one_view (keeper_view 0) u seat at in
          subst (λ (q : ℕ). IsView start 0 false q u) (sym only.0) (subst (λ (w : View). IsView start 0 false 0 w) only.1 mine);
      count = record {
        is_count = ap (λ (k : ℕ). slice_index (replicate n 3 ++ 0 ∷ []) k) homes ∙ word-last n;
        fewer = omega arith;
        none_enrolled = λ over. refl;
      };
    }

-- who is neither a worker nor a keeper that may still fill has nothing out
holds_none : (enrolled keeps sealed : Bool) → enrolled ≡ false → (keeps ≡ true → sealed ≡ true)
    → (enrolled || (keeps && not sealed)) ≡ false
holds_none true keeps sealed free over = absurd (true≢false free)
holds_none false false sealed free over = refl
holds_none false true true free over = refl
holds_none false true false free over = absurd (false≢true (over refl))

no_one : (b : Bool) → one_if b ≤ 0 → b ≡ false
no_one true nothing = absurd (omega arith)
no_one false nothing = refl

-- a slot that no seat has out, and to which its node has come, has it
module _ (mark rank : ℕ) where
  home_is : (home : Home) → holders home ≡ 0 → (home ≡ some None → mark ≤ rank) → rank < mark → (n : PreparedNode) × (home ≡ some (Some n))
  home_is none in_place come before = absurd (omega arith)
  home_is (some None) in_place come before = let past = come refl in absurd (omega (arith, past, before))
  home_is (some (Some n)) in_place come before = (n, refl)

module _ (start : StartOfPhase) (n : ℕ) (id : ℕ) (v : View) (is : v ≡ record (keeper_view n) { sealed = true }) where
  module _ (s : Claims) (rule : IsClaimTable start s) (at : get_elem? s.views id ≡ some v) where
    known : (rule.sealed ≡ true) × (rule.mark ≡ length s.homes)
    known =
        let keeps : v.is_keeper ≡ true = ap (λ (u : View). u.is_keeper) is in
        let over : v.sealed ≡ true = ap (λ (u : View). u.sealed) is in
        let mine = (rule.views_fit id v at).keeper keeps in
        let sealed : rule.sealed ≡ true = sym mine.2 ∙ over in
        (sealed, rule.all_reserved sealed)

    nothing_out : (r seat : ℕ) (u : View) → get_elem? s.views seat ≡ some u → times_held r u ≡ 0
    nothing_out r seat u there =
        let fits = rule.views_fit seat u there in
        let nobody : enrolled s.views ≡ 0 = rule.count.none_enrolled known.0 in
        let one : one_if u.is_enrolled ≤ enrolled s.views = sum_by-at-le (λ (w : View). one_if w.is_enrolled) s.views seat u there in
        let free : u.is_enrolled ≡ false = no_one u.is_enrolled (omega (arith, nobody, one)) in
        let none : u.outs ≡ [] =
        fits.none_out (holds_none u.is_enrolled u.is_keeper u.sealed free (λ keeps. (fits.keeper keeps).2 ∙ known.0)) in
        ap (λ (os : List (ℕ × NodeState)). count_by (λ o. o.0 == r) os) none

    closed_at : (rank : ℕ) → rank < length s.homes → (p : PreparedNode) × (get_elem? s.homes rank ≡ some (some (Some p)))
        × HasStepped start rank p.node
    closed_at rank within =
        let there = at-there s.homes rank within in
        let out : total_held rank s.views ≡ 0 = sum_by-none (times_held rank) s.views (nothing_out rank) in
        let once : total_held rank s.views ≡ holders there.0 = rule.out_once rank there.0 there.1 in
        let mark : rule.mark ≡ length s.homes = known.1 in
        let found = home_is rule.mark rank there.0 (sym once ∙ out) (rule.empty rank there.0 there.1).0 (omega (arith, within, mark)) in
        let here : get_elem? s.homes rank ≡ some (some (Some found.0)) = there.1 ∙ ap some found.1 in
        (found.0, here, rule.homes_stepped rank found.0 here)

  -- behind a keeper that has sealed the table, each slot has the node of its rank, no or some steps later
  pub closing : (ws : List ℕ) (xs : List (Option PreparedNode)) → Final (Seen (IsClaimTable start) id v) ws xs
      → (length xs ≡ length start.row)
      × ((rank : ℕ) → rank < length xs → (p : PreparedNode) × (get_elem? xs rank ≡ some (Some p)) × HasStepped start rank p.node)
  closing ws xs last =
      let s : Claims = last.0 in
      let rule : IsClaimTable start s = last.1.0 in
      let at : get_elem? s.views id ≡ some v = last.1.1 in
      let long : length s.homes ≡ length xs = last.3 in (
        sym long ∙ rule.slots,
        λ rank within. let found = closed_at s rule at rank (omega (arith, within, long)) in
            (found.0, last.4 rank (Some found.0) found.1, found.2),
      )

-- node by node, the row at the end is that of the start, no or some steps later
zipped : (input : List ℕ) (olds news : List PreparedNode) → length news ≡ length olds
    → ((rank : ℕ) (n : PreparedNode) → get_elem? news rank ≡ some n
    → HasStepped (record { input = input; row = map (λ (p : PreparedNode). p.node) olds }) rank n.node)
    → AllZip (λ (o n : PreparedNode). (k : ℕ) × (n.node ≡ local_steps input k o.node)) olds news
zipped input [] [] long each = tt
zipped input [] (n ∷ news) long each = absurd (omega arith)
zipped input (o ∷ olds) [] long each = absurd (omega arith)
zipped input (o ∷ olds) (n ∷ news) long each = (each 0 n refl, zipped input olds news (omega arith) (λ rank m at. each (suc rank) m at))

-- the same of what was taken out of the slots
pub rows-zipped : (input : List ℕ) (olds news : List PreparedNode) (xs : List (Option PreparedNode))
    → map (λ (p : PreparedNode). Some p) news ≡ xs → length xs ≡ length (map (λ (p : PreparedNode). p.node) olds)
    → ((rank : ℕ) → rank < length xs
    → (p : PreparedNode) × (get_elem? xs rank ≡ some (Some p))
    × HasStepped (record { input = input; row = map (λ (p : PreparedNode). p.node) olds }) rank p.node)
    → AllZip (λ (o n : PreparedNode). (k : ℕ) × (n.node ≡ local_steps input k o.node)) olds news
rows-zipped input olds news xs taken long each =
    let news_long : length (map (λ (p : PreparedNode). Some p) news) ≡ length news = length-map news (λ (p : PreparedNode). Some p) in
    let olds_long : length (map (λ (p : PreparedNode). p.node) olds) ≡ length olds = length-map olds (λ (p : PreparedNode). p.node) in
    let same : length (map (λ (p : PreparedNode). Some p) news) ≡ length xs = ap (λ (l : List (Option PreparedNode)). length l) taken in
    zipped input olds news (omega (arith, news_long, olds_long, same, long))
    (λ rank n at.
    let found = each rank (let within = at-within news rank n at in omega (arith, within, news_long, same)) in
    let there : get_elem? xs rank ≡ some (Some n) =
    subst (λ (l : List (Option PreparedNode)). get_elem? l rank ≡ some (Some n)) taken
    (at_map (λ (p : PreparedNode). Some p) news rank n at) in
    let both : Some found.0 ≡ Some n = some-injective (Some found.0) (Some n) (sym found.1 ∙ there) in
    let is : found.0 ≡ n = cc in
    subst (λ (p : PreparedNode). HasStepped (record { input = input; row = map (λ (p : PreparedNode). p.node) olds }) rank p.node) is
    found.2)
