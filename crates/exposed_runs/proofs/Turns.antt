-- The turn of a machine none of whose nodes runs, and its lines.
use Rattle.std.proofs.Common.{◌≡◌, ℕ, ◌+◌, ◌<◌, ◌≤◌, true, false, List, [], ◌∷◌, ◌++◌}
use Rattle.std.proofs.Common.{length, take, refl, sym, ap, subst, ◌∙◌, arith, append_assoc, append-nil}
use Rattle.std.specs.Prelude.{flat_map, get_or, if◌then◌else◌}
use Rattle.std.proofs.lemmas.Grind.{flat_map-append}
use Rattle.std.proofs.lemmas.List.{take_more, take_all}
use Rattle.exposed_bytes.specs.declared.call.Call.{Call}
use Rattle.exposed_bytes.specs.declared.exposure.Exposure.{Exposure}
use Rattle.exposed_bytes.specs.Found.{AreExposures}
use Rattle.machine_core.specs.Machine.{MachineState}
use Rattle.machine_core.specs.Turn.{makes_exchange}
use Rattle.exposed_runs.specs.declared.note.Note.{Note}
use Rattle.exposed_runs.specs.Calls.{calls}
use Rattle.exposed_runs.specs.Lines.{exposure_line, exposure_lines}
use Rattle.exposed_runs.specs.Runs.{AreTurnLines, calls_at_turn}

module _ (m : MachineState) (notes : List Note) where
  -- its lines
  pub turn-lines : (number : ℕ) (found : List Exposure) → makes_exchange m.nodes ≡ true → number ≡ m.exchanges
      → AreExposures (calls m.nodes notes) found → AreTurnLines m notes (exposure_lines number found)
  turn-lines number found makes is ranges = record {
    found = found;
    ranges = subst (λ (all : List Call). AreExposures all found) (sym (ap (λ b. if b then calls m.nodes notes else []) makes)) ranges;
    are = ap (λ k. exposure_lines k found) is;
  }

  none-exposed : AreExposures [] []
  none-exposed = record {
    sound = λ k d within. absurd (omega (arith, within));
    told = λ reader writer rank addr here there exposes. absurd (omega (arith, here.1));
    once = λ i j d before within. absurd (omega (arith, within));
  }

  -- where it makes no exchange it has none
  pub no-lines : makes_exchange m.nodes ≡ false → AreTurnLines m notes []
  unfolding exposure_lines
  no-lines none = record {
    found = [];
    ranges = subst (λ (all : List Call). AreExposures all []) (sym (ap (λ b. if b then calls m.nodes notes else []) none)) none-exposed;
    are = refl;
  }

-- pieces that are appended one after another
pub next-piece : {X Y : Type 0} (f : X → List Y) (xs : List X) (i : ℕ) (x : X) (first now new : List Y) → i < length xs
    → ((d : X) → x ≡ get_or xs i d)
    → now ≡ first ++ flat_map f (take i xs) → new ≡ now ++ f x
    → new ≡ first ++ flat_map f (take (i + 1) xs)
next-piece f xs i x first now new within is before more =
    let whole : take (i + 1) xs ≡ take i xs ++ x ∷ [] =
    take_more xs i x within ∙ ap (λ d. take i xs ++ d ∷ []) (sym (is x)) in
    more
    ∙ ap (λ bs. bs ++ f x) before
    ∙ append_assoc first (flat_map f (take i xs)) (f x)
    ∙ ap (λ bs. first ++ (flat_map f (take i xs) ++ bs)) (sym (append-nil (f x)))
    ∙ ap (λ bs. first ++ bs) (sym (flat_map-append f (take i xs) (x ∷ [])))
    ∙ ap (λ cs. first ++ flat_map f cs) (sym whole)

pub all-pieces : {X Y : Type 0} (f : X → List Y) (xs : List X) (i : ℕ) (first now : List Y) → length xs ≤ i
    → now ≡ first ++ flat_map f (take i xs) → now ≡ first ++ flat_map f xs
all-pieces f xs i first now past before = before ∙ ap (λ cs. first ++ flat_map f cs) (take_all i xs past)

-- the text of no range, of one range more, and of all
pub no-ranges-yet : (number : ℕ) (first : List ℕ) → first ≡ first ++ exposure_lines number []
unfolding exposure_lines
no-ranges-yet number first = sym (append-nil first)

pub next-range : (number : ℕ) (found : List Exposure) (i : ℕ) (e : Exposure) (first now new : List ℕ) → i < length found
    → ((d : Exposure) → e ≡ get_or found i d)
    → now ≡ first ++ exposure_lines number (take i found) → new ≡ now ++ exposure_line number e
    → new ≡ first ++ exposure_lines number (take (i + 1) found)
unfolding exposure_lines
next-range number found i e first now new within is before more =
    next-piece (exposure_line number) found i e first now new within is before more

pub all-ranges : (number : ℕ) (found : List Exposure) (i : ℕ) (first now : List ℕ) → length found ≤ i
    → now ≡ first ++ exposure_lines number (take i found) → now ≡ first ++ exposure_lines number found
all-ranges number found i first now past before = before ∙ ap (λ es. first ++ exposure_lines number es) (take_all i found past)
