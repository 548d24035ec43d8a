-- A table of names finds what has a name among the things that it was made of; so one of the rows' names finds the instruction of a name.
use Rattle.std.proofs.Common.{◌≡◌, ℕ, List, Option, Some, None, map, refl, ◌∙◌, ap}
use Rattle.std.specs.List.{find}
use Rattle.std.specs.Option.{option_map}
use Rattle.std.specs.Str.{bytes_eq}
use Rattle.rv_tables.specs.Mnemonics.{mnemonic_of, row_named, instruction_named}
use Rattle.rv_tables.specs.Names.{named_by}
use Rattle.rv_tables.specs.Rows.{encodings}
use Rattle.rv_tables.specs.declared.instr.Instr.{Instr}
use Rattle.rv_tables.proofs.Finds.{find-map}

pub named_by-entries : {A V : Type 0} (name_of : A → List ℕ) (value : A → V) (xs : List A) (name : List ℕ)
    → named_by (map (λ x. (name_of x, value x)) xs) name ≡ option_map value (find (λ x. bytes_eq (name_of x) name) xs)
named_by-entries {A} {V} name_of value xs name =
    ap (option_map (λ (p : List ℕ × V). p.1)) (find-map (λ (x : A). (name_of x, value x)) (λ (p : List ℕ × V). bytes_eq p.0 name) xs)
    ∙ through (find (λ x. bytes_eq (name_of x) name) xs) where
      through : (o : Option A) → option_map (λ (p : List ℕ × V). p.1) (option_map (λ x. (name_of x, value x)) o) ≡ option_map value o
      through None = refl
      through (Some x) = refl

pub instruction_named-table : (names : List (List ℕ × Instr)) → names ≡ map (λ e. (mnemonic_of (e.read 0), e.read 0)) encodings
    → (name : List ℕ) → named_by names name ≡ instruction_named name
unfolding row_named instruction_named
instruction_named-table names same name =
    rw same (named_by-entries (λ e. mnemonic_of (e.read 0)) (λ e. e.read 0) encodings name)
