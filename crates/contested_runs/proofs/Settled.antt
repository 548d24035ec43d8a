-- A run of which nothing is told.
use Rattle.std.proofs.Common.{◌≡◌, ℕ, zero, suc, ◌+◌, ◌<◌, true, List, [], ◌∷◌}
use Rattle.std.proofs.Common.{◌++◌, length, refl, sym, ap, subst, ◌∙◌, arith, length-append}
use Rattle.std.specs.Prelude.{codes, if◌then◌else◌}
use Rattle.std.specs.Fn.{iterate}
use Rattle.std.proofs.lemmas.Bool.{false≢true}
use Rattle.node_core.proofs.Steps.{iterate-fixed}
use Rattle.bsp_exchange.specs.Landings.{Landing, landings}
use Rattle.contested_bytes.specs.declared.range.ContestedRange.{ContestedRange}
use Rattle.contested_bytes.specs.Contested.{AreSettled}
use Rattle.machine_core.specs.Machine.{MachineState}
use Rattle.machine_core.specs.Turn.{makes_exchange, superstep, with_phases}
use Rattle.machine_core.proofs.Sound.{superstep-over}
use Rattle.settled_runs.specs.Orders.{IsSettledSuperstep, IsSettledRun}
use Rattle.contested_runs.specs.Lines.{contender_text, header, place_text, range_line, range_lines}
use Rattle.contested_runs.specs.Runs.{AreContestedRanges, AreLines, AreTurnLines, TellsContested, landings_of, over, more}

cons-some : (b : ℕ) (bs : List ℕ) → 0 < length (b ∷ bs)
cons-some b bs = omega arith

-- a line has bytes
line-some : (number : ℕ) (c : ContestedRange) (rest : List ℕ) → range_line number c ++ rest ≡ [] → ⊥
line-some number c rest none =
    let front = place_text number c ++ codes "," ++ contender_text c.first ++ codes "," ++ contender_text c.second in
    let some : 0 < length (codes "\n") = cons-some 10 [] in
    let whole : length (range_line number c ++ rest) ≡ length (range_line number c) + length rest =
    length-append (range_line number c) rest in
    let line : length (range_line number c) ≡ length front + length (codes "\n") = length-append front (codes "\n") in
    let empty : length (range_line number c ++ rest) ≡ 0 = ap length none in
    omega (arith, some, whole, line, empty)

no-ranges : (number : ℕ) (found : List ContestedRange) → [] ≡ range_lines number found → found ≡ []
unfolding range_lines
no-ranges number [] none = refl
no-ranges number (c ∷ rest) none = absurd (line-some number c (range_lines number rest) (sym none))

no-contested : (all : List Landing) → AreContestedRanges all [] → AreSettled all
no-contested all ranges rank addr contested =
    let there = (ranges.exact rank addr).1 contested in
    omega (arith, there.1.1)

turn-settled : (m : MachineState) → AreTurnLines m [] → makes_exchange m.nodes ≡ true → AreSettled (landings m.nodes)
turn-settled m lines makes =
    let none = no-ranges m.exchanges lines.found lines.are in
    let ranges = subst (λ (found : List ContestedRange). AreContestedRanges (landings_of m) found) none lines.ranges in
    subst AreSettled (ap (λ b. if b then landings m.nodes else []) makes) (no-contested (landings_of m) ranges)

parts-empty : (lines rest : List ℕ) → [] ≡ lines ++ rest → (lines ≡ []) × (rest ≡ [])
parts-empty [] rest none = (refl, sym none)
parts-empty (b ∷ lines) rest none = absurd cc

superstep-settled : (j : ℕ) (m : MachineState) (text : List ℕ) → AreLines m text → text ≡ [] → IsSettledSuperstep (iterate superstep j m)
superstep-settled j m text (over _ _ ended is) none =
    subst IsSettledSuperstep (sym (iterate-fixed superstep j m (superstep-over m ended)))
    (λ open_yet. absurd (false≢true (sym open_yet ∙ ended)))
superstep-settled zero m text (more _ lines rest _ open_yet turn left is) none = λ going makes.
    turn-settled (with_phases m) (subst (AreTurnLines (with_phases m)) (parts-empty lines rest (sym none ∙ is)).0 turn) makes
superstep-settled (suc j) m text (more _ lines rest _ open_yet turn left is) none =
    superstep-settled j (superstep m) rest left (parts-empty lines rest (sym none ∙ is)).1

cancel-header : (lines : List ℕ) → header ≡ header ++ lines → lines ≡ []
cancel-header [] same = refl
cancel-header (b ∷ lines) same = absurd (omega (arith, ap length same, length-append header (b ∷ lines)))

pub told-settled : (start : MachineState) (k : ℕ) → TellsContested start header → IsSettledRun k start
told-settled start k told = λ j before. superstep-settled j start told.0 told.1 (cancel-header told.0 told.2)
