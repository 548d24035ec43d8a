-- What is added to the bytes that stand already.
use Rattle.std.specs.Prelude.{◌≡◌, ℕ, ◌++◌, List}

-- bytes with a property stand behind the old ones
abbrev pub Adds : (List ℕ → Type 0) → List ℕ → List ℕ → Type 0
Adds P before after = (private : List ℕ) × (after ≡ before ++ private) × P private
