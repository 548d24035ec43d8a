-- The targets of `.word`, as the code and as the definitions have them.
use Rattle.std.proofs.Common.{◌≡◌, ℕ, ◌<◌, Bool, ◌+◌, false, ◌||◌, List, [], ◌∷◌, ◌++◌, length, map, take, All, Some, None, is_none, true}
use Rattle.std.proofs.Common.{get_or, w32, refl, sym, ◌∙◌, ap}
use Rattle.std.specs.Int.{to_le_bytes}
use Rattle.std.specs.List.{flat_map, list_any}
use Rattle.std.proofs.lemmas.List.{get_or-map, length-map, map_more, flat_map_more}
use Rattle.std.proofs.lemmas.List.Folds.{list_any_at, list_any-append}
use Rattle.asm_syntax.specs.Statements.{words}
use Rattle.asm_syntax.specs.Views.{target_value}
use Rattle.asm_syntax.specs.declared.statement.Target.{Target}
use Rattle.rv_asm.specs.Layout.{word_bytes}
use Rattle.rv_asm.specs.Symbols.{Symbols}
use Rattle.rv_asm.specs.Targets.{value_of, uses_undefined}

list_any_of_map : {X Y : Type 0} (p : Y → Bool) (g : X → Y) (xs : List X) → list_any p (map g xs) ≡ list_any (λ x. p (g x)) xs
list_any_of_map p g [] = refl
list_any_of_map p g (x ∷ xs) = ap (λ b. p (g x) || b) (list_any_of_map p g xs)

pub All_of_map : {X Y : Type 0} (P : Y → Type 0) (g : X → Y) (xs : List X) → All P (map g xs) → All (λ x. P (g x)) xs
All_of_map P g xs h = λ k d lt. rw (get_or-map g xs k d (g d) lt) at (h k (g d) (rw (length-map xs g) lt))

-- a target whose label no line has makes the statement one that uses such a label
pub undefined_at : (symbols : Symbols) (targets : List Target) (i : ℕ) (d : Target) → i < length targets
    → value_of symbols (target_value (get_or targets i d)) ≡ None → uses_undefined symbols (words (map target_value targets)) ≡ true
undefined_at symbols targets i d lt e =
    list_any_of_map (λ t. is_none (value_of symbols t)) target_value targets
    ∙ list_any_at (λ t. is_none (value_of symbols (target_value t))) targets i d lt (ap is_none e)

-- one more word is written
pub words_more : (symbols : Symbols) (before old new private : List ℕ) (targets : List Target) (i value : ℕ) (d : Target)
    → i < length targets
    → Some value ≡ value_of symbols (target_value (get_or targets i d))
    → old ≡ before ++ flat_map (word_bytes symbols) (map target_value (take i targets)) → new ≡ old ++ private → private
    ≡ to_le_bytes w32 value
    → new ≡ before ++ flat_map (word_bytes symbols) (map target_value (take (i + 1) targets))
words_more symbols before old new private targets i value d lt known was is is_private =
    let more = flat_map_more (word_bytes symbols) before (map target_value (take i targets)) (target_value (get_or targets i d)) in
    rw (is, was, is_private, map_more target_value targets i d lt) (rw (sym known) at more)

pub defined_more : (symbols : Symbols) (targets : List Target) (i value : ℕ) (d : Target) → i < length targets
    → Some value ≡ value_of symbols (target_value (get_or targets i d))
    → uses_undefined symbols (words (map target_value (take i targets))) ≡ false
    → uses_undefined symbols (words (map target_value (take (i + 1) targets))) ≡ false
defined_more symbols targets i value d lt known so_far =
    rw (
      map_more target_value targets i d lt,
      list_any-append (λ t. is_none (value_of symbols t)) (map target_value (take i targets))
          (target_value (get_or targets i d) ∷ []),
      so_far,
      sym known,
    ) refl
