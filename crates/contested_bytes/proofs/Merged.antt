-- Ranges in their order, added one after another.
use Rattle.std.proofs.Common.{◌≡◌, ℕ, ◌+◌, ◌<◌, ◌≤◌, ◌⊎◌, ◌↔◌, inl, inr, List, [], ◌∷◌, ◌++◌, length, get_or, take, sym, ap, subst, ◌∙◌}
use Rattle.std.proofs.Common.{arith}
use Rattle.std.specs.Prelude.{All}
use Rattle.std.proofs.lemmas.List.{take_more, take_all}
use Rattle.std.proofs.lemmas.List.Elements.{Contains-append_left, Contains-push, Contains-push_cases}
use Rattle.contested_bytes.specs.declared.range.ContestedRange.{ContestedRange}
use Rattle.contested_bytes.specs.Ranges.{Has, IsIn}
use Rattle.contested_bytes.specs.Places.{StartsBy, StartInOrder}

-- the same bytes as some ranges
abbrev pub HasSameBytes : List ContestedRange → List ContestedRange → Type 0
HasSameBytes one other = (rank addr : ℕ) → IsIn one rank addr ↔ IsIn other rank addr

in_one_more : (found : List ContestedRange) (r : ContestedRange) (rank addr : ℕ)
    → IsIn (found ++ r ∷ []) rank addr ↔ (IsIn found rank addr ⊎ Has r rank addr)
in_one_more found r rank addr = (
  λ there. elim (Contains-push_cases found r there.0 there.1) [
    | inl old ↦ inl (there.0, old, there.2)
    | inr new ↦ inr (subst (λ c. Has c rank addr) (sym new) there.2)
  ],
  λ either. elim either [
    | inl old ↦ (old.0, Contains-append_left found (r ∷ []) old.0 old.1, old.2)
    | inr new ↦ (r, Contains-push found r, new)
  ],
)

pub more_bytes : (found merged new : List ContestedRange) (i : ℕ) (r : ContestedRange) → i < length found
    → ((d : ContestedRange) → r ≡ get_or found i d) → HasSameBytes merged (take i found)
    → ((rank addr : ℕ) → IsIn new rank addr ↔ (IsIn merged rank addr ⊎ Has r rank addr)) → HasSameBytes new (take (i + 1) found)
more_bytes found merged new i r within is before added rank addr =
    let whole : take (i + 1) found ≡ take i found ++ r ∷ [] = take_more found i r within ∙ ap (λ c. take i found ++ c ∷ []) (sym (is r)) in
    let more = in_one_more (take i found) r rank addr in
    subst (λ l. IsIn new rank addr ↔ IsIn l rank addr) (sym whole) (
      λ here. more.1 (elim ((added rank addr).0 here) [ inl old ↦ inl ((before rank addr).0 old) | inr has ↦ inr has ]),
      λ there. (added rank addr).1 (elim (more.0 there) [ inl old ↦ inl ((before rank addr).1 old) | inr has ↦ inr has ]),
    )

-- the ranges that were merged begin no later than each of those that are left
abbrev pub StartBeforeRest : List ContestedRange → ℕ → List ContestedRange → Type 0
StartBeforeRest found i merged =
    (k : ℕ) (d : ContestedRange) → i ≤ k → k < length found → All (StartsBy (get_or found k d).rank (get_or found k d).addr) merged

pub starts_no_later : (found merged : List ContestedRange) (i : ℕ) (r : ContestedRange) → i < length found
    → ((d : ContestedRange) → r ≡ get_or found i d) → StartBeforeRest found i merged → All (StartsBy r.rank r.addr) merged
starts_no_later found merged i r within is before =
    subst (λ (c : ContestedRange). All (StartsBy c.rank c.addr) merged) (sym (is r)) (before i r (omega arith) within)

pub more_starts : (found merged new : List ContestedRange) (i : ℕ) (r : ContestedRange) → ((d : ContestedRange) → r ≡ get_or found i d)
    → StartInOrder found → StartBeforeRest found i merged
    → ((rank addr : ℕ) → All (StartsBy rank addr) merged → StartsBy rank addr r → All (StartsBy rank addr) new)
    → StartBeforeRest found (i + 1) new
more_starts found merged new i r is order before added k d after within =
    let later = get_or found k d in
    added later.rank later.addr (before k d (omega (arith, after)) within)
    (subst (StartsBy later.rank later.addr) (sym (is d)) (order i k d (omega (arith, after)) within))

pub all_bytes : (found merged : List ContestedRange) (i : ℕ) → length found ≤ i → HasSameBytes merged (take i found)
    → HasSameBytes merged found
all_bytes found merged i whole before = subst (HasSameBytes merged) (take_all i found whole) before
