-- Lemmas on one more push or pop.
use Rattle.std.proofs.Common.{◌≡◌, ℕ, ◌+◌, ◌<◌, ◌≤◌, cond, List, [], ◌∷◌, ◌++◌, length, Some, sym, ap, ◌∙◌, arith}
use Rattle.std.specs.Prelude.{remove}
use Rattle.std.proofs.lemmas.Grind.{common_steps, fold-append}
use Rattle.std.proofs.lemmas.List.Edits.{length-remove}
use Rattle.bsp_slots.specs.declared.area.Area.{Area}
use Rattle.bsp_slots.specs.declared.change.Change.{Change}
use Rattle.bsp_slots.specs.declared.change.Change.TheVariants.{Push, Pop}
use Rattle.bsp_slots.specs.Area.{last_position}
use Rattle.bsp_slots.specs.Change.{changed, is_push, NamesRemoval, NamesRemovals}
use Rattle.bsp_slots.specs.Registrations.{Registrations, registrations_after, next_list, max_entries, max_pushes, push_count, pushed}
use Rattle.bsp_slots.specs.Registrations.{popped, IsSound}
use Rattle.bsp_slots.specs.Slots.{KeepsPace}
use Rattle.bsp_slots.proofs.Positions.{IsLastEntry-from}

NamesRemovals-push : (entries : List Area) (changes : List Change) (change : Change) → NamesRemovals entries changes
    → NamesRemoval (registrations_after entries changes) change → NamesRemovals entries (changes ++ change ∷ [])
NamesRemovals-push entries [] change names last = (last, tt)
NamesRemovals-push entries (c ∷ changes) change names last = (names.0, NamesRemovals-push (changed entries c) changes change names.1 last)

module _ (s : Registrations) where
  pub next_list-more : (change : Change) → registrations_after s.in_effect (s.changes ++ change ∷ []) ≡ changed (next_list s) change
  next_list-more change = fold-append changed s.in_effect s.changes (change ∷ [])

  IsSound-more : (change : Change) → IsSound s → length (changed (next_list s) change) ≤ max_entries s.large
      → push_count s + cond (is_push change) 1 0 ≤ max_pushes s.large → NamesRemoval (next_list s) change
      → IsSound (record s { changes = s.changes ++ change ∷ [] })
  IsSound-more change sound fits few names = record {
    in_effect_fits = sound.in_effect_fits;
    next_fits = rw (next_list-more change) fits;
    pushes_fit = grind (arith, common_steps);
    names_removals = NamesRemovals-push s.in_effect s.changes change sound.names_removals names;
  }

  pub IsSound-pushed : (area : Area) → IsSound s → length (next_list s) < max_entries s.large → push_count s < max_pushes s.large
      → IsSound (pushed s area)
  IsSound-pushed area sound fits few = IsSound-more (Push area) sound (grind (arith, common_steps)) (omega arith) tt

  pub IsSound-popped : (addr slot : ℕ) → IsSound s → last_position (next_list s) addr ≡ Some slot → IsSound (popped s addr slot)
  IsSound-popped addr slot sound found =
      let shorter = length-remove (next_list s) slot (IsLastEntry-from (next_list s) addr slot found).within in
      let fits = sound.next_fits in
      IsSound-more (Pop addr slot) sound (rw found (omega arith)) (omega (arith, sound.pushes_fit)) found

  pub KeepsPace-pushed : {next next' : List Area} {changes' : List Change} {pushes : ℕ} (area : Area) → KeepsPace s next pushes
      → next' ≡ next ++ area ∷ [] → changes' ≡ s.changes ++ Push area ∷ [] → length next < max_entries s.large
      → pushes < max_pushes s.large
      → KeepsPace (record { in_effect = s.in_effect; changes = changes'; large = s.large }) next' (pushes + 1)
  KeepsPace-pushed {next} {next'} {changes'} {pushes} area pace next_is changes_is fits few = rw changes_is (record {
    next_is = next_is ∙ ap (λ (xs : List Area). xs ++ area ∷ []) pace.next_is ∙ sym (next_list-more (Push area));
    pushes_are = grind (arith, common_steps, pace.pushes_are);
    sound = IsSound-pushed area pace.sound (rw (← pace.next_is) fits) (rw (← pace.pushes_are) few);
  })

  pub KeepsPace-popped : {next next' : List Area} {changes' : List Change} {pushes : ℕ} (addr slot : ℕ) → KeepsPace s next pushes
      → next' ≡ remove next slot → changes' ≡ s.changes ++ Pop addr slot ∷ [] → last_position next addr ≡ Some slot
      → KeepsPace (record { in_effect = s.in_effect; changes = changes'; large = s.large }) next' pushes
  KeepsPace-popped {next} {next'} {changes'} {pushes} addr slot pace next_is changes_is found =
      let found' = rw pace.next_is at found in
      let removed : remove (next_list s) slot ≡ changed (next_list s) (Pop addr slot) = rw found' in
      rw changes_is (record {
        next_is = next_is ∙ ap (λ (xs : List Area). remove xs slot) pace.next_is ∙ removed ∙ sym (next_list-more (Pop addr slot));
        pushes_are = grind (arith, common_steps, pace.pushes_are);
        sound = IsSound-popped addr slot pace.sound found';
      })
