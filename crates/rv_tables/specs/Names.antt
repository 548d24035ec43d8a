-- Tables of names, each with what has it.
use Rattle.std.specs.Prelude.{ℕ, List, Option, find}
use Rattle.std.specs.Option.{option_map}
use Rattle.std.specs.Str.{bytes_eq}

-- what has a name, or none
abbrev pub named_by : {V : Type 0} → List (List ℕ × V) → List ℕ → Option V
named_by names name = option_map (λ p. p.1) (find (λ p. bytes_eq p.0 name) names)
