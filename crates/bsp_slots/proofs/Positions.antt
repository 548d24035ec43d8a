-- Lemmas on the position of the last entry of an address.
use Rattle.std.proofs.Common.{◌≡◌, ◌≢◌, ℕ, zero, suc, ◌+◌, Bool, true, false, cond, eqb, List, [], ◌∷◌, length, Option, Some, None, All}
use Rattle.std.proofs.Common.{MatchOption, refl, sym, eq-eqb, add-one, arith}
use Rattle.std.specs.List.{AllWithin}
use Rattle.std.specs.Option.{option_or, option_map}
use Rattle.std.proofs.lemmas.Bool.Decides.{nat_tests}
use Rattle.std.proofs.lemmas.List.Elements.{All-cons}
use Rattle.bsp_slots.specs.declared.area.Area.{Area}
use Rattle.bsp_slots.specs.Area.{last_position, IsLastEntry}

-- no entry has the address
last_position-none : (entries : List Area) (addr : ℕ) → All (λ area. area.addr ≢ addr) entries → last_position entries addr ≡ None
last_position-none [] addr none = refl
last_position-none (area ∷ rest) addr none =
    let tail = last_position-none rest addr (λ k d within. none (suc k) d (omega arith)) in
    let head = none 0 area (omega arith) in
    rw tail (grind (arith, nat_tests))

last_position-some : (entries : List Area) (addr i : ℕ) → IsLastEntry entries addr i → last_position entries addr ≡ Some i
last_position-some [] addr i last = absurd (omega arith)
last_position-some (area ∷ rest) addr zero last =
    let tail = last_position-none rest addr (λ k d within. last.later (suc k) d (omega arith) (omega arith)) in
    rw (tail, eq-eqb area.addr addr (last.here area)) refl
last_position-some (area ∷ rest) addr (suc i) last =
    let tail =
    last_position-some rest addr i
    (record { within = omega arith; here = last.here; later = λ k d from within. last.later (suc k) d (omega arith) (omega arith) }) in
    rw tail refl

-- what a search from the end answers
pub last_position-from : (entries : List Area) (addr : ℕ) (r : Option ℕ) → ((i : ℕ) → r ≡ Some i → IsLastEntry entries addr i)
    → (r ≡ None → All (λ area. area.addr ≢ addr) entries) → r ≡ last_position entries addr
last_position-from entries addr None some none = sym (last_position-none entries addr (none refl))
last_position-from entries addr (Some i) some none = sym (last_position-some entries addr i (some i refl))

-- what holds of the entries from a position on, with one more in front
AllWithin-cons : (P : Area → Type 0) (area : Area) (rest : List Area) (low : ℕ) → AllWithin P rest low (length rest)
    → AllWithin P (area ∷ rest) (low + 1) (length (area ∷ rest))
AllWithin-cons P area rest low holds zero d from within = absurd (omega arith)
AllWithin-cons P area rest low holds (suc k) d from within = holds k d (omega arith) (omega arith)

-- the last entry of an address, or that there is none, with one more entry in front
last-cons : (area : Area) (rest : List Area) (addr : ℕ) (tail : Option ℕ) (here : Bool) → here ≡ eqb area.addr addr
    → MatchOption tail (All (λ area. area.addr ≢ addr) rest) (IsLastEntry rest addr)
    → MatchOption (option_or (option_map suc tail) (cond here (Some 0) None)) (All (λ area. area.addr ≢ addr) (area ∷ rest))
    (IsLastEntry (area ∷ rest) addr)
last-cons area rest addr None true e none = record {
  within = omega arith;
  here = λ d. grind (arith, nat_tests);
  later = AllWithin-cons (λ area. area.addr ≢ addr) area rest 0 (λ k d _ within. none k d within);
}
last-cons area rest addr None false e none = All-cons (λ area. area.addr ≢ addr) area rest (grind (arith, nat_tests)) none
last-cons area rest addr (Some i) here e last = record {
  within = omega (arith, last.within);
  here = last.here;
  later = rw (← add-one i) (AllWithin-cons (λ area. area.addr ≢ addr) area rest (i + 1) last.later);
}

pub last_position-cases : (entries : List Area) (addr : ℕ)
    → MatchOption (last_position entries addr) (All (λ area. area.addr ≢ addr) entries) (IsLastEntry entries addr)
last_position-cases [] addr = λ k d within. absurd (omega arith)
last_position-cases (area ∷ rest) addr = last-cons area rest addr (last_position rest addr) _ refl (last_position-cases rest addr)

pub IsLastEntry-from : (entries : List Area) (addr i : ℕ) → last_position entries addr ≡ Some i → IsLastEntry entries addr i
IsLastEntry-from entries addr i found = rw found at (last_position-cases entries addr)
