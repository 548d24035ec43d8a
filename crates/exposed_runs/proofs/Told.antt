-- What a text tells of a run, and what it does not.
use Rattle.std.proofs.Common.{◌≡◌, ℕ, zero, suc, ◌+◌, ◌<◌, ◌≤◌, true, false, List, [], ◌∷◌, ◌++◌, length, refl, sym, ap, subst, ◌∙◌, arith}
use Rattle.std.proofs.Common.{length-append, append-nil, inl, inr}
use Rattle.std.specs.Prelude.{◌≢◌, codes, IsSome, None}
use Rattle.std.specs.Fn.{iterate}
use Rattle.std.proofs.lemmas.Bool.{false≢true}
use Rattle.node_core.proofs.Steps.{iterate-fixed}
use Rattle.exposed_bytes.specs.declared.call.Call.{Call}
use Rattle.exposed_bytes.specs.declared.exposure.Exposure.{Exposure}
use Rattle.exposed_bytes.specs.Exposed.{IsExposed}
use Rattle.exposed_bytes.specs.Found.{AreExposures}
use Rattle.machine_core.specs.Machine.{MachineState}
use Rattle.machine_core.specs.Turn.{superstep, with_phases}
use Rattle.machine_core.proofs.Sound.{superstep-over}
use Rattle.exposed_runs.specs.Lines.{call_text, exposure_line, exposure_lines, header, place_text}
use Rattle.exposed_runs.specs.Notes.{all_notes}
use Rattle.exposed_runs.specs.Runs.{AreLines, AreSuperstepLines, AreTurnLines, IsExposedIn, TellsExposed, calls_at_turn, over, more}

cons-some : (b : ℕ) (bs : List ℕ) → 0 < length (b ∷ bs)
cons-some b bs = omega arith

-- a line has bytes
line-some : (number : ℕ) (e : Exposure) (rest : List ℕ) → exposure_line number e ++ rest ≡ [] → ⊥
line-some number e rest none =
    let front = place_text number e ++ codes "," ++ call_text e.reader ++ codes "," ++ call_text e.writer in
    let some : 0 < length (codes "\n") = cons-some 10 [] in
    let whole : length (exposure_line number e ++ rest) ≡ length (exposure_line number e) + length rest =
    length-append (exposure_line number e) rest in
    let line : length (exposure_line number e) ≡ length front + length (codes "\n") = length-append front (codes "\n") in
    let empty : length (exposure_line number e ++ rest) ≡ 0 = ap length none in
    omega (arith, some, whole, line, empty)

no-ranges : (number : ℕ) (found : List Exposure) → [] ≡ exposure_lines number found → found ≡ []
unfolding exposure_lines
no-ranges number [] none = refl
no-ranges number (e ∷ rest) none = absurd (line-some number e (exposure_lines number rest) (sym none))

no-lines-of : (number : ℕ) → exposure_lines number [] ≡ []
unfolding exposure_lines
no-lines-of number = refl

parts-empty : (lines rest : List ℕ) → [] ≡ lines ++ rest → (lines ≡ []) × (rest ≡ [])
parts-empty [] rest none = (refl, sym none)
parts-empty (b ∷ lines) rest none = absurd cc

-- the calls of the next superstep of a machine
abbrev calls_of_next : MachineState → List Call
calls_of_next m = calls_at_turn (with_phases m) (all_notes m)

-- ---- nothing is told

none-exposed : (calls : List Call) (rank addr : ℕ) → AreExposures calls [] → IsExposed calls rank addr → ⊥
none-exposed calls rank addr ranges (reader, writer, here, there, exposes) =
    let told = ranges.told reader writer rank addr here there exposes in
    omega (arith, told.1.1)

superstep-none : (m : MachineState) (rank addr : ℕ) → AreSuperstepLines m [] → IsExposed (calls_of_next m) rank addr → ⊥
superstep-none m rank addr turn exposed =
    none-exposed (calls_of_next m) rank addr
    (subst (λ (found : List Exposure). AreExposures (calls_of_next m) found) (no-ranges m.exchanges turn.found turn.are) turn.ranges) exposed

nothing-in : (k : ℕ) (m : MachineState) (text : List ℕ) (rank addr : ℕ) → AreLines m text → text ≡ [] → IsExposedIn k m rank addr → ⊥
nothing-in k m text rank addr (over _ _ ended is) none exposed =
    let stays : iterate superstep k m ≡ m = iterate-fixed superstep k m (superstep-over m ended) in
    let going : m.outcome ≡ None = ap (λ (x : MachineState). x.outcome) (sym stays) ∙ exposed.going in
    false≢true (subst IsSome going ended)
nothing-in zero m text rank addr (more _ lines rest _ open_yet turn left is) none exposed =
    superstep-none m rank addr (subst (AreSuperstepLines m) (parts-empty lines rest (sym none ∙ is)).0 turn) exposed.exposed
nothing-in (suc k) m text rank addr (more _ lines rest _ open_yet turn left is) none exposed =
    nothing-in k (superstep m) rest rank addr left (parts-empty lines rest (sym none ∙ is)).1
    (record { going = exposed.going; exposed = exposed.exposed })

cancel-header : (lines : List ℕ) → header ≡ header ++ lines → lines ≡ []
cancel-header [] same = refl
cancel-header (b ∷ lines) same = absurd (omega (arith, ap length same, length-append header (b ∷ lines)))

pub nothing-told : (start : MachineState) (k rank addr : ℕ) → TellsExposed start header → IsExposedIn k start rank addr → ⊥
nothing-told start k rank addr told = nothing-in k start told.0 rank addr told.1 (cancel-header told.0 told.2)

-- ---- some line is told

abbrev SomeExposed : MachineState → Type 0
SomeExposed m = (k rank addr : ℕ) × IsExposedIn k m rank addr

range-exposed : (calls : List Call) (e : Exposure) (rest : List Exposure) → AreExposures calls (e ∷ rest) → IsExposed calls e.rank e.addr
range-exposed calls e rest ranges =
    let of = ranges.sound 0 e (omega arith) in
    let some = of.whole.some in
    (e.reader, e.writer, of.reader, of.writer, (of.whole.exact e.rank e.addr).0 (refl, omega arith, omega (arith, some)))

found-exposed : (m : MachineState) (found : List Exposure) → m.outcome ≡ None → AreExposures (calls_of_next m) found
    → (found ≡ [] → SomeExposed m) → SomeExposed m
found-exposed m [] open_yet ranges later = later refl
found-exposed m (e ∷ rest) open_yet ranges later =
    (0, e.rank, e.addr, record { going = open_yet; exposed = range-exposed (calls_of_next m) e rest ranges })

some-in : (m : MachineState) (text : List ℕ) → AreLines m text → (text ≡ [] → ⊥) → SomeExposed m
some-in m text (over _ _ ended is) some = absurd (some is)
some-in m text (more _ lines rest _ open_yet turn left is) some =
    found-exposed m turn.found open_yet turn.ranges (λ none.
    let empty : lines ≡ [] = turn.are ∙ ap (exposure_lines m.exchanges) none ∙ no-lines-of m.exchanges in
    let all : text ≡ rest = is ∙ ap (λ ls. ls ++ rest) empty in
    let found = some-in (superstep m) rest left (λ nothing. some (all ∙ nothing)) in
    (suc found.0, found.1, found.2, record { going = found.3.going; exposed = found.3.exposed }))

pub some-told : (start : MachineState) (text : List ℕ) → TellsExposed start text → text ≢ header → SomeExposed start
some-told start text told other =
    some-in start told.0 told.1 (λ none. other (told.2 ∙ ap (λ ls. header ++ ls) none ∙ append-nil header))
