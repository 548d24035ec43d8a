-- Entries for events, and one more at their end.
use Rattle.std.proofs.Common.{◌≡◌, ℕ, zero, suc, ◌+◌, ◌<◌, List, [], ◌∷◌, ◌++◌, replicate, refl, sym, ap, ◌∙◌, arith, append-nil}
use Rattle.std.proofs.lemmas.Bool.{ne_eqb}
use Rattle.std.proofs.lemmas.Grind.{flat_map-append}
use Rattle.machine_core.specs.declared.event.Event.{Event}
use Rattle.machine_core.specs.declared.event.Event.TheVariants as event
use Rattle.machine_core.specs.Machine.{MachineState}
use Rattle.machine_core.specs.Events.{after, event as event_of}
use Rattle.machine_core.proofs.Steps.{after-nil, after-cons}
use Rattle.bsp_debug.specs.declared.made.Made.{Made}
use Rattle.bsp_debug.specs.declared.made.Made.TheVariants.{Steps, Turn}
use Rattle.bsp_debug.specs.Made.{events_of_entry, events_of, IsApart, AreFew}
use Rattle.bsp_debug.specs.Trace.{Traced, IsTrace, with_steps, after_steps, stepped, turned, IsBelow, EndsBelow}

pub after-append : (m : MachineState) (xs ys : List Event) → after m (xs ++ ys) ≡ after (after m xs) ys
after-append m [] ys = ap (λ (x : MachineState). after x ys) (sym (after-nil m))
after-append m (e ∷ xs) ys =
    after-cons m e (xs ++ ys) ∙ after-append (event_of m e) xs ys ∙ ap (λ (x : MachineState). after x ys) (sym (after-cons m e xs))

pub events_of-more : (entries : List Made) (entry : Made) → events_of (entries ++ entry ∷ []) ≡ events_of entries ++ events_of_entry entry
events_of-more entries entry =
    flat_map-append events_of_entry entries (entry ∷ []) ∙ ap (λ xs. events_of entries ++ xs) (append-nil (events_of_entry entry))

pub with_some : (entries : List Made) (rank count : ℕ) → with_steps entries rank (suc count) ≡ entries ++ Steps rank (suc count) ∷ []
with_some entries rank count = rw (ne_eqb (suc count) 0 (λ same. omega (arith, same))) refl

with_none : (entries : List Made) (rank : ℕ) → with_steps entries rank 0 ≡ entries
with_none entries rank = refl

pub events_of-steps : (entries : List Made) (rank count : ℕ)
    → events_of (with_steps entries rank count) ≡ events_of entries ++ replicate count (event.Step rank)
events_of-steps entries rank zero = ap events_of (with_none entries rank) ∙ sym (append-nil (events_of entries))
events_of-steps entries rank (suc count) = ap events_of (with_some entries rank count) ∙ events_of-more entries (Steps rank (suc count))

-- an entry that stands apart from the last one
IsApart-more : (first second : Made) (others more : List Made) → IsApart first (second ∷ others) → IsApart first (second ∷ more)
IsApart-more (Steps rank count) (Steps next k) others more apart = apart
IsApart-more (Steps rank count) Turn others more apart = tt
IsApart-more Turn second others more apart = tt

AreFew-more : (entries : List Made) (rank count : ℕ) → AreFew entries → EndsBelow rank entries → 0 < count
    → AreFew (entries ++ Steps rank count ∷ [])
AreFew-more [] rank count few ends some = (some, tt, tt)
AreFew-more (Steps other k ∷ []) rank count few ends some = (few.0, (λ same. omega (arith, same, ends)), (some, tt, tt))
AreFew-more (Turn ∷ []) rank count few ends some = (tt, tt, (some, tt, tt))
AreFew-more (first ∷ second ∷ others) rank count few ends some = (
  few.0,
  IsApart-more first second others (others ++ Steps rank count ∷ []) few.1,
  AreFew-more (second ∷ others) rank count few.2 ends some,
)

pub AreFew-steps : (entries : List Made) (rank count : ℕ) → AreFew entries → EndsBelow rank entries → AreFew (with_steps entries rank count)
AreFew-steps entries rank zero few ends = rw (with_none entries rank) few
AreFew-steps entries rank (suc count) few ends =
    rw (with_some entries rank count) (AreFew-more entries rank (suc count) few ends (omega arith))

pub AreFew-turn : (entries : List Made) → AreFew entries → AreFew (entries ++ Turn ∷ [])
AreFew-turn [] few = (tt, tt, tt)
AreFew-turn (Steps other k ∷ []) few = (few.0, tt, (tt, tt, tt))
AreFew-turn (Turn ∷ []) few = (tt, tt, (tt, tt, tt))
AreFew-turn (first ∷ second ∷ others) few =
    (few.0, IsApart-more first second others (others ++ Turn ∷ []) few.1, AreFew-turn (second ∷ others) few.2)

IsBelow-next : (rank : ℕ) (entry : Made) → IsBelow rank entry → IsBelow (rank + 1) entry
IsBelow-next rank (Steps other k) below = omega (arith, below)
IsBelow-next rank Turn below = tt

pub EndsBelow-next : (rank : ℕ) (entries : List Made) → EndsBelow rank entries → EndsBelow (rank + 1) entries
EndsBelow-next rank [] ends = tt
EndsBelow-next rank (entry ∷ []) ends = IsBelow-next rank entry ends
EndsBelow-next rank (first ∷ second ∷ others) ends = EndsBelow-next rank (second ∷ others) ends

EndsBelow-last : (rank : ℕ) (entries : List Made) (last : Made) → IsBelow rank last → EndsBelow rank (entries ++ last ∷ [])
EndsBelow-last rank [] last below = below
EndsBelow-last rank (entry ∷ []) last below = below
EndsBelow-last rank (first ∷ second ∷ others) last below = EndsBelow-last rank (second ∷ others) last below

pub EndsBelow-steps : (rank count : ℕ) (entries : List Made) → EndsBelow rank entries → EndsBelow (rank + 1) (with_steps entries rank count)
EndsBelow-steps rank zero entries ends = rw (with_none entries rank) (EndsBelow-next rank entries ends)
EndsBelow-steps rank (suc count) entries ends =
    rw (with_some entries rank count) (EndsBelow-last (rank + 1) entries (Steps rank (suc count)) (omega arith))

pub EndsBelow-turn : (rank : ℕ) (entries : List Made) → EndsBelow rank (entries ++ Turn ∷ [])
EndsBelow-turn rank entries = EndsBelow-last rank entries Turn tt

-- a trace stays one
pub IsTrace-steps : (t : Traced) (rank count : ℕ) → IsTrace t → EndsBelow rank t.made → IsTrace (stepped rank count t)
IsTrace-steps t rank count is ends = record {
  machine = ap (λ (m : MachineState). after_steps m rank count) is.machine
      ∙ sym (after-append t.start (events_of t.made) (replicate count (event.Step rank)))
      ∙ ap (after t.start) (sym (events_of-steps t.made rank count));
  few = AreFew-steps t.made rank count is.few ends;
}

pub IsTrace-turn : (t : Traced) → IsTrace t → IsTrace (turned t)
IsTrace-turn t is = record {
  machine = sym (after-cons t.machine event.Turn [] ∙ after-nil (event_of t.machine event.Turn))
      ∙ ap (λ (m : MachineState). after m (event.Turn ∷ [])) is.machine
      ∙ sym (after-append t.start (events_of t.made) (event.Turn ∷ []))
      ∙ ap (after t.start) (sym (events_of-more t.made Turn));
  few = AreFew-turn t.made is.few;
}
