-- Tables of names: those of the code against those of the definitions.
use Rattle.std.proofs.Common.{◌≡◌, ℕ, ◌<◌, true, List, Option, Some, None, map, refl, sym, ◌∙◌, ap, Bor}
use Rattle.std.specs.Prelude.{IfSome, nat_lt}
use Rattle.std.specs.List.{find, list_all}
use Rattle.std.specs.Option.{option_map}
use Rattle.std.specs.Str.{bytes_eq}
use Rattle.std.proofs.lemmas.Bool.{ltb-true}
use Rattle.std.proofs.lemmas.List.Elements.{All-contains}
use Rattle.std.proofs.lemmas.List.Sums.{AllPass-from_list_all}
use Rattle.std.proofs.lemmas.Option.{same_Some}
use Rattle.rv_tables.specs.Names.{named_by}
use Rattle.rv_tables.specs.Operands.{IsRegister}
use Rattle.rv_tables.proofs.Finds.{find-found, find-map}

-- what contracts see of an entry
abbrev pub entry : {V : Type 0} → Bor (List ℕ) × V → List ℕ × V
entry p = (p.0.now, p.1)

pub value_of_found : {V : Type 0} (name : List ℕ) (entries : List (Bor (List ℕ) × V)) (names : List (List ℕ × V))
    (r : Option (Bor (Bor (List ℕ) × V))) → map entry entries ≡ names
    → option_map (λ x. x.now) r ≡ find (λ p. bytes_eq p.0.now name) entries → option_map (λ x. x.now.1) r ≡ named_by names name
value_of_found {V} name entries names r same found =
    through r ∙ ap (option_map (λ p. p.1)) found
    ∙ (through_entry (find (λ p. bytes_eq p.0.now name) entries)
    ∙ ap (option_map (λ p. p.1)) (sym (find-map entry (λ p. bytes_eq p.0 name) entries) ∙ ap (find (λ p. bytes_eq p.0 name)) same))
  where
    through : (o : Option (Bor (Bor (List ℕ) × V))) → option_map (λ x. x.now.1) o ≡ option_map (λ p. p.1) (option_map (λ x. x.now) o)
    through None = refl
    through (Some x) = refl

    through_entry : (o : Option (Bor (List ℕ) × V)) → option_map (λ p. p.1) o ≡ option_map (λ p. p.1) (option_map entry o)
    through_entry None = refl
    through_entry (Some x) = refl

-- where each number of a table is a register's, so is the one that a name has
pub IsRegister-named_by : (names : List (List ℕ × ℕ)) → list_all (λ p. nat_lt p.1 32) names ≡ true → (name : List ℕ) (r : Option ℕ)
    → r ≡ named_by names name → IfSome r IsRegister
IsRegister-named_by names within name None e = tt
IsRegister-named_by names within name (Some n) e = of_found (find (λ p. bytes_eq p.0 name) names) refl (sym e) where
  of_found : (o : Option (List ℕ × ℕ)) → find (λ p. bytes_eq p.0 name) names ≡ o → option_map (λ p. p.1) o ≡ Some n → n < 32
  of_found None at e = cc
  of_found (Some p) at e =
      let found = find-found (λ q. bytes_eq q.0 name) names p at in
      let below = All-contains (λ q. nat_lt q.1 32 ≡ true) names p (AllPass-from_list_all (λ q. nat_lt q.1 32) names within) found.0 in
      rw (← same_Some p.1 n e) (ltb-true p.1 32 below)
