-- The turn of a machine none of whose nodes runs, and its lines.
use Rattle.std.proofs.Common.{◌≡◌, ℕ, ◌+◌, ◌<◌, ◌≤◌, true, false, List, [], ◌∷◌, ◌++◌}
use Rattle.std.proofs.Common.{length, take, refl, sym, ap, subst, ◌∙◌, arith, append_assoc, append-nil}
use Rattle.std.specs.Prelude.{flat_map, get_or, if◌then◌else◌}
use Rattle.std.proofs.lemmas.Grind.{flat_map-append}
use Rattle.std.proofs.lemmas.List.{take_more, take_all}
use Rattle.bsp_exchange.specs.Landings.{Landing, landings}
use Rattle.contested_bytes.specs.declared.range.ContestedRange.{ContestedRange}
use Rattle.machine_core.specs.Machine.{MachineState}
use Rattle.machine_core.specs.Turn.{makes_exchange}
use Rattle.contested_runs.specs.Lines.{range_line, range_lines}
use Rattle.contested_runs.specs.Runs.{AreContestedRanges, AreTurnLines, landings_of}

module _ (m : MachineState) where
  pub landings-made : makes_exchange m.nodes ≡ true → landings_of m ≡ landings m.nodes
  landings-made makes = ap (λ b. if b then landings m.nodes else []) makes

  pub landings-none : makes_exchange m.nodes ≡ false → landings_of m ≡ []
  landings-none none = ap (λ b. if b then landings m.nodes else []) none

  -- its lines
  pub turn-lines : (number : ℕ) (found : List ContestedRange) → makes_exchange m.nodes ≡ true → number ≡ m.exchanges
      → AreContestedRanges (landings m.nodes) found → AreTurnLines m (range_lines number found)
  turn-lines number found makes is ranges = record {
    found = found;
    ranges = subst (λ (all : List Landing). AreContestedRanges all found) (sym (landings-made makes)) ranges;
    are = ap (λ k. range_lines k found) is;
  }

  none-contested : AreContestedRanges [] []
  none-contested = record {
    contested = λ k d within. absurd (omega (arith, within));
    exact = λ rank addr. (λ here. absurd (omega (arith, here.1.1)), λ there. absurd (omega (arith, there.2.1)));
    apart = λ i j d before within. absurd (omega (arith, within));
  }

  -- where it makes no exchange it has none
  pub no-lines : makes_exchange m.nodes ≡ false → AreTurnLines m []
  unfolding range_lines
  no-lines none = record {
    found = [];
    ranges = subst (λ (all : List Landing). AreContestedRanges all []) (sym (landings-none none)) none-contested;
    are = refl;
  }

-- the text of no range
pub no-ranges-yet : (number : ℕ) (first : List ℕ) → first ≡ first ++ range_lines number []
unfolding range_lines
no-ranges-yet number first = sym (append-nil first)

-- the text of one range more
pub next-range : (number : ℕ) (found : List ContestedRange) (i : ℕ) (c : ContestedRange) (first now new : List ℕ) → i < length found
    → ((d : ContestedRange) → c ≡ get_or found i d)
    → now ≡ first ++ range_lines number (take i found) → new ≡ now ++ range_line number c
    → new ≡ first ++ range_lines number (take (i + 1) found)
unfolding range_lines
next-range number found i c first now new within is before more =
    let whole : take (i + 1) found ≡ take i found ++ c ∷ [] =
    take_more found i c within ∙ ap (λ (d : ContestedRange). take i found ++ d ∷ []) (sym (is c)) in
    more
    ∙ ap (λ bs. bs ++ range_line number c) before
    ∙ append_assoc first (flat_map (range_line number) (take i found)) (range_line number c)
    ∙ ap (λ bs. first ++ (flat_map (range_line number) (take i found) ++ bs)) (sym (append-nil (range_line number c)))
    ∙ ap (λ bs. first ++ bs) (sym (flat_map-append (range_line number) (take i found) (c ∷ [])))
    ∙ ap (λ cs. first ++ flat_map (range_line number) cs) (sym whole)

pub all-ranges : (number : ℕ) (found : List ContestedRange) (i : ℕ) (first now : List ℕ) → length found ≤ i
    → now ≡ first ++ range_lines number (take i found) → now ≡ first ++ range_lines number found
all-ranges number found i first now past before = before ∙ ap (λ cs. first ++ range_lines number cs) (take_all i found past)
