-- A range is added to ranges.
use Rattle.std.proofs.Common.{◌≡◌, ℕ, ◌+◌, ◌-◌, ◌<◌, ◌≤◌, ◌⊎◌, ◌↔◌, inl, inr, List, [], ◌∷◌, ◌++◌, length, get_or, set, sym, ap, subst, ◌∙◌}
use Rattle.std.proofs.Common.{arith}
use Rattle.std.specs.Prelude.{All}
use Rattle.std.proofs.lemmas.Bool.{cases_eq, cases_lt}
use Rattle.std.proofs.lemmas.List.{get_or_default, get_or-set_same, get_or-set_other, get_or_append_left, get_or_push, length-set}
use Rattle.std.proofs.lemmas.List.{length_push}
use Rattle.std.proofs.lemmas.List.Elements.{All-set, All-get_or}
use Rattle.contested_bytes.specs.declared.range.ContestedRange.{ContestedRange}
use Rattle.bsp_exchange.specs.Landings.{Landing}
use Rattle.contested_bytes.specs.Ranges.{IsIn, Has, IsContestedRange, EndsBefore, AreApart}
use Rattle.contested_bytes.specs.Places.{StartsBy, Joins}

-- ---- a range in the place of one that it has grown from

bytes-there : (found : List ContestedRange) (place : ℕ) (was now more : ContestedRange) (rank addr : ℕ) → place < length found
    → was ≡ get_or found place was → (Has now rank addr ↔ (Has was rank addr ⊎ Has more rank addr)) → IsIn (set found place now) rank addr
    → IsIn found rank addr ⊎ Has more rank addr
bytes-there found place was now more rank addr within is grown there =
    let c = there.0 in
    let i = there.1.0 in
    let long = length-set found place now in
    elim (cases_eq i place) [
      | inl same ↦
          let here : now ≡ c =
          sym (ap (λ n. get_or (set found place now) n c) same ∙ get_or-set_same found place now c within) ∙ there.1.2 in
          elim (grown.0 (subst (λ d. Has d rank addr) (sym here) there.2)) [
            | inl old ↦ inl (was, (place, within, sym is), old)
            | inr new ↦ inr new
          ]
      | inr apart ↦ inl (c, (i, omega (arith, long, there.1.1), sym (get_or-set_other found place i now c apart) ∙ there.1.2), there.2)
    ]

bytes-back : (found : List ContestedRange) (place : ℕ) (was now more : ContestedRange) (rank addr : ℕ) → place < length found
    → was ≡ get_or found place was → (Has now rank addr ↔ (Has was rank addr ⊎ Has more rank addr))
    → IsIn found rank addr ⊎ Has more rank addr → IsIn (set found place now) rank addr
bytes-back found place was now more rank addr within is grown there =
    let long = length-set found place now in
    let in_y : Has now rank addr → IsIn (set found place now) rank addr =
    λ has. (now, (place, omega (arith, long, within), get_or-set_same found place now now within), has) in
    elim there [
      | inl old ↦
          let c = old.0 in
          let i = old.1.0 in
          elim (cases_eq i place) [
            | inl same ↦
                let here : c ≡ was = sym old.1.2 ∙ ap (λ n. get_or found n c) same ∙ get_or_default found place c was within ∙ sym is in
                in_y (grown.1 (inl (subst (λ d. Has d rank addr) here old.2)))
            | inr apart ↦ (c, (i, omega (arith, long, old.1.1), get_or-set_other found place i now c apart ∙ old.1.2), old.2)
          ]
      | inr new ↦ in_y (grown.1 (inr new))
    ]

pub bytes-grown : (found : List ContestedRange) (place : ℕ) (was now more : ContestedRange) → place < length found
    → was ≡ get_or found place was → ((rank addr : ℕ) → Has now rank addr ↔ (Has was rank addr ⊎ Has more rank addr)) → (rank addr : ℕ)
    → IsIn (set found place now) rank addr ↔ (IsIn found rank addr ⊎ Has more rank addr)
bytes-grown found place was now more within is grown rank addr = (
  bytes-there found place was now more rank addr within is (grown rank addr),
  bytes-back found place was now more rank addr within is
      (grown rank addr),
)

pub contested-grown : (all : List Landing) (found : List ContestedRange) (k : ℕ) (x y : ContestedRange) → k < length found
    → x ≡ get_or found k x → y ≡ record x { len = y.len } → x.len ≤ y.len → All (IsContestedRange all) found
    → All (IsContestedRange all) (set found k y)
contested-grown all found k x y within is same more contested =
    let was : IsContestedRange all x =
    subst (IsContestedRange all) (sym is) (All-get_or (IsContestedRange all) found k x within contested) in
    let longer : IsContestedRange all (record x { len = y.len }) =
    record { some = omega (arith, was.some, more); first = was.first; second = was.second; differ = was.differ } in
    All-set (IsContestedRange all) found k y (subst (IsContestedRange all) (sym same) longer) contested

ends-before-same : (c x y : ContestedRange) → y.rank ≡ x.rank → y.addr ≡ x.addr → EndsBefore c x → EndsBefore c y
ends-before-same c x y rank addr before = elim before [
  | inl lower ↦ inl (omega (arith, lower, rank))
  | inr same ↦ inr (same.0 ∙ sym rank, omega (arith, same.1, addr))
]

pub apart-grown : (found : List ContestedRange) (k : ℕ) (x y : ContestedRange) → k + 1 ≡ length found → x ≡ get_or found k x
    → y.rank ≡ x.rank → y.addr ≡ x.addr → AreApart found → AreApart (set found k y)
apart-grown found k x y last is rank addr apart i j d before within =
    let long = length-set found k y in
    let first : get_or (set found k y) i d ≡ get_or found i d =
    get_or-set_other found k i y d (λ same. omega (arith, same, before, within, long, last)) in
    let was : EndsBefore (get_or found i d) (get_or found j d) = apart i j d before (omega (arith, within, long)) in
    elim (cases_eq j k) [
      | inl same ↦
          let old : get_or found j d ≡ x = ap (λ n. get_or found n d) same ∙ get_or_default found k d x (omega (arith, last)) ∙ sym is in
          let new : get_or (set found k y) j d ≡ y =
          ap (λ n. get_or (set found k y) n d) same ∙ get_or-set_same found k y d (omega (arith, last)) in
          subst (λ c. EndsBefore c (get_or (set found k y) j d)) (sym first)
          (subst (EndsBefore (get_or found i d)) (sym new)
          (ends-before-same (get_or found i d) x y rank addr (subst (EndsBefore (get_or found i d)) old was)))
      | inr other ↦
          subst (λ c. EndsBefore c (get_or (set found k y) j d)) (sym first)
          (subst (EndsBefore (get_or found i d)) (sym (get_or-set_other found k j y d other)) was)
    ]

-- ---- one range more

ends-before-start : (c l r : ContestedRange) → EndsBefore c l → StartsBy r.rank r.addr l → EndsBefore c r
ends-before-start c l r before starts = elim before [
  | inl lower ↦ elim starts [ inl under ↦ inl (omega (arith, lower, under)) | inr same ↦ inl (omega (arith, lower, same.0)) ]
  | inr level ↦
      elim starts [ inl under ↦ inl (omega (arith, level.0, under)) | inr same ↦ inr (level.0 ∙ same.0, omega (arith, level.1, same.1)) ]
]

last-before : (l r : ContestedRange) → StartsBy r.rank r.addr l → (Joins l r → ⊥) → EndsBefore l r
last-before l r starts apart = elim starts [
  | inl lower ↦ inl lower
  | inr same ↦ elim (cases_lt (l.addr + l.len) r.addr) [
    | inl past ↦ inr (same.0, past)
    | inr meets ↦ absurd (apart (record { rank = same.0; from = same.1; to = omega (arith, meets) }))
  ]
]

pub apart-more : (found : List ContestedRange) (r : ContestedRange) → AreApart found → All (StartsBy r.rank r.addr) found
    → ((d : ContestedRange) → 0 < length found → Joins (get_or found (length found - 1) d) r → ⊥) → AreApart (found ++ r ∷ [])
apart-more found r apart starts last i j d before within =
    let long = length_push found r in
    let first : get_or (found ++ r ∷ []) i d ≡ get_or found i d =
    get_or_append_left found (r ∷ []) d i (omega (arith, before, within, long)) in
    elim (cases_eq j (length found)) [
      | inl end ↦
          let n = length found - 1 in
          let here : EndsBefore (get_or found n d) r =
          last-before (get_or found n d) r (starts n d (omega (arith, before, end))) (last d (omega (arith, before, end))) in
          let all : EndsBefore (get_or found i d) r = elim (cases_eq i n) [
            | inl same ↦ subst (λ k. EndsBefore (get_or found k d) r) (sym same) here
            | inr other ↦ ends-before-start (get_or found i d) (get_or found n d) r
                (apart i n d (omega (arith, other, before, end)) (omega (arith, before, end))) (starts n d (omega (arith, before, end)))
          ] in
          subst (λ c. EndsBefore c (get_or (found ++ r ∷ []) j d)) (sym first)
          (subst (EndsBefore (get_or found i d)) (sym (get_or_push found r d j (sym end))) all)
      | inr inside ↦
          subst (λ c. EndsBefore c (get_or (found ++ r ∷ []) j d)) (sym first)
          (subst (EndsBefore (get_or found i d)) (sym (get_or_append_left found (r ∷ []) d j (omega (arith, inside, within, long))))
          (apart i j d before (omega (arith, inside, within, long))))
    ]
