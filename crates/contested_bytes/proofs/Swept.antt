-- Each landing compared with the one of those before it that reaches furthest.
use Rattle.std.proofs.Common.{◌≡◌, ℕ, ◌+◌, ◌<◌, ◌≤◌, ◌⊎◌, ◌↔◌, inl, inr, List, length, get_or, refl, sym, subst, ◌∙◌, arith}
use Rattle.std.specs.Prelude.{Contains, IsTrue}
use Rattle.std.proofs.lemmas.Bool.{cases_eq, cases_lt}
use Rattle.std.proofs.lemmas.List.{get_or_default}
use Rattle.bsp_exchange.specs.Landings.{Landing, landing_byte}
use Rattle.contested_bytes.specs.declared.range.ContestedRange.{ContestedRange}
use Rattle.contested_bytes.specs.Contested.{reaches, Differ, IsContested}
use Rattle.contested_bytes.specs.Ranges.{IsIn}
use Rattle.contested_bytes.specs.Places.{IsNoLater, ComeInOrder, ReachesAsFar}
use Rattle.contested_bytes.proofs.Compared.{reaches-from, reaches-rank, reaches-start, reaches-end}

-- what is found of the landings below this one: all of which two of them differ, and nothing that is not contested
abbrev pub AreFound : List Landing → ℕ → List ContestedRange → Type 0
AreFound all at found =
    (i j rank addr : ℕ) (d : Landing) → i < at → j < at → Differ rank addr (get_or all i d) (get_or all j d) → IsIn found rank addr

abbrev pub AreContested : List Landing → List ContestedRange → Type 0
AreContested all found = (rank addr : ℕ) → IsIn found rank addr → IsContested all rank addr

-- none of those below this one reaches further
abbrev pub ReachesFurthest : List Landing → ℕ → ℕ → Type 0
ReachesFurthest all at furthest = (k : ℕ) (d : Landing) → k < at → ReachesAsFar (get_or all k d) (get_or all furthest d)

as_far_itself : (a : Landing) → ReachesAsFar a a
as_far_itself a = inr (refl, omega arith)

as_far-trans : (a b c : Landing) → ReachesAsFar a b → ReachesAsFar b c → ReachesAsFar a c
as_far-trans a b c first second = elim first [
  | inl lower ↦ elim second [ inl under ↦ inl (omega (arith, lower, under)) | inr same ↦ inl (omega (arith, lower, same.0)) ]
  | inr level ↦
      elim second [ inl under ↦ inl (omega (arith, level.0, under)) | inr same ↦ inr (level.0 ∙ same.0, omega (arith, level.1, same.1)) ]
]

pub differ-itself : (rank addr : ℕ) (a : Landing) → Differ rank addr a a → ⊥
differ-itself rank addr a differ = differ.bytes refl

pub differ-sym : (rank addr : ℕ) (a b : Landing) → Differ rank addr a b → Differ rank addr b a
differ-sym rank addr a b differ = record { first = differ.second; second = differ.first; bytes = λ same. differ.bytes (sym same) }

pub found-first : (all : List Landing) (found : List ContestedRange) → AreFound all 1 found
found-first all found i j rank addr d first second differ =
    let same : i ≡ j = omega (arith, first, second) in
    absurd (differ-itself rank addr (get_or all j d) (subst (λ k. Differ rank addr (get_or all k d) (get_or all j d)) same differ))

pub furthest-first : (all : List Landing) → ReachesFurthest all 1 0
furthest-first all k d within =
    let same : k ≡ 0 = omega (arith, within) in
    subst (λ n. ReachesAsFar (get_or all n d) (get_or all 0 d)) (sym same) (as_far_itself (get_or all 0 d))

-- the landing that reaches furthest has each byte that both an earlier one and the next one have
far_reaches : (rank addr : ℕ) (a far next : Landing) → IsNoLater far.rank far.addr next.rank next.addr → ReachesAsFar a far
    → Differ rank addr a next → IsTrue (reaches rank addr far)
far_reaches rank addr a far next order reach differ =
    let of_a = reaches-rank rank addr a differ.first in
    let of_next = reaches-rank rank addr next differ.second in
    let starts = reaches-start rank addr next differ.second in
    let ends = reaches-end rank addr a differ.first in
    elim reach [
      | inl lower ↦ elim order [
        | inl under ↦ absurd (omega (arith, lower, under, of_a, of_next))
        | inr level ↦ absurd (omega (arith, lower, level.0, of_a, of_next))
      ]
      | inr same ↦ elim order [
        | inl under ↦ absurd (omega (arith, same.0, under, of_a, of_next))
        | inr level ↦ reaches-from rank addr far (sym same.0 ∙ of_a) (omega (arith, level.1, starts)) (omega (arith, same.1, ends))
      ]
    ]

-- so where those two differ, one of them differs from it
found-with : (all : List Landing) (at furthest i rank addr : ℕ) (d : Landing) (old new : List ContestedRange) → i < at → furthest < at
    → at < length all → ComeInOrder all → ReachesFurthest all at furthest → AreFound all at old
    → (IsIn old rank addr ⊎ Differ rank addr (get_or all furthest d) (get_or all at d) → IsIn new rank addr)
    → Differ rank addr (get_or all i d) (get_or all at d) → IsIn new rank addr
found-with all at furthest i rank addr d old new before place within order reach found added differ =
    let a = get_or all i d in
    let far = get_or all furthest d in
    let next = get_or all at d in
    let here = far_reaches rank addr a far next (order furthest at d place within) (reach i d before) differ in
    elim (cases_eq (landing_byte addr far) (landing_byte addr next)) [
      | inl same ↦
          added (inl (found i furthest rank addr d before place
          (record { first = differ.first; second = here; bytes = λ e. differ.bytes (e ∙ same) })))
      | inr apart ↦ added (inr (record { first = here; second = differ.second; bytes = apart }))
    ]

pub found-more : (all : List Landing) (at furthest : ℕ) (old new : List ContestedRange) → furthest < at → at < length all → ComeInOrder all
    → ReachesFurthest all at furthest → AreFound all at old
    → ((rank addr : ℕ) (d : Landing) → IsIn old rank addr ⊎ Differ rank addr (get_or all furthest d) (get_or all at d) → IsIn new rank addr)
    → AreFound all (at + 1) new
found-more all at furthest old new place within order reach found added i j rank addr d first second differ =
    elim (cases_lt i at) [
      | inl i_before ↦ elim (cases_lt j at) [
        | inl j_before ↦ added rank addr d (inl (found i j rank addr d i_before j_before differ))
        | inr j_after ↦
            let same : j ≡ at = omega (arith, j_after, second) in
            found-with all at furthest i rank addr d old new i_before place within order reach found (added rank addr d)
            (subst (λ k. Differ rank addr (get_or all i d) (get_or all k d)) same differ)
      ]
      | inr i_after ↦
          let i_is : i ≡ at = omega (arith, i_after, first) in
          let turned : Differ rank addr (get_or all j d) (get_or all at d) =
          differ-sym rank addr (get_or all at d) (get_or all j d)
          (subst (λ k. Differ rank addr (get_or all k d) (get_or all j d)) i_is differ) in
          elim (cases_lt j at) [
            | inl j_before ↦ found-with all at furthest j rank addr d old new j_before place within order reach found
                (added rank addr d) turned
            | inr j_after ↦
                let same : j ≡ at = omega (arith, j_after, second) in
                absurd (differ-itself rank addr (get_or all at d)
                (subst (λ k. Differ rank addr (get_or all k d) (get_or all at d)) same turned))
          ]
    ]

pub contested-more : (all : List Landing) (a b : Landing) (old new : List ContestedRange) → Contains all a → Contains all b
    → AreContested all old → ((rank addr : ℕ) → IsIn new rank addr → IsIn old rank addr ⊎ Differ rank addr a b) → AreContested all new
contested-more all a b old new first second before added rank addr here =
    elim (added rank addr here) [ inl was ↦ before rank addr was | inr differ ↦ (a, b, first, second, differ) ]

pub furthest-more : (all : List Landing) (at furthest next : ℕ) → ReachesFurthest all at furthest
    → ((d : Landing) → ReachesAsFar (get_or all furthest d) (get_or all next d))
    → ((d : Landing) → ReachesAsFar (get_or all at d) (get_or all next d)) → ReachesFurthest all (at + 1) next
furthest-more all at furthest next reach first second k d within =
    elim (cases_lt k at) [
      | inl before ↦ as_far-trans (get_or all k d) (get_or all furthest d) (get_or all next d) (reach k d before) (first d)
      | inr after ↦
          let same : k ≡ at = omega (arith, after, within) in
          subst (λ n. ReachesAsFar (get_or all n d) (get_or all next d)) (sym same) (second d)
    ]

pub found-whole : (all : List Landing) (at : ℕ) (found : List ContestedRange) → length all ≤ at → AreFound all at found
    → AreContested all found → (rank addr : ℕ) → IsIn found rank addr ↔ IsContested all rank addr
found-whole all at found whole complete sound rank addr = (
  sound rank addr,
  λ contested.
      let a = contested.0 in
      let b = contested.1 in
      let i = contested.2.0 in
      let j = contested.3.0 in
      let here : get_or all j a ≡ b = get_or_default all j a b contested.3.1 ∙ contested.3.2 in
      complete i j rank addr a (omega (arith, whole, contested.2.1)) (omega (arith, whole, contested.3.1))
      (subst (λ x. Differ rank addr x (get_or all j a)) (sym contested.2.2) (subst (Differ rank addr a) (sym here) contested.4)),
)

-- ---- the same, where two landings are known by themselves

pub order_at : (all : List Landing) (furthest at : ℕ) (x y : Landing) → furthest < at → at < length all → x ≡ get_or all furthest x
    → y ≡ get_or all at y → ComeInOrder all → x.rank ≡ y.rank → x.addr ≤ y.addr
order_at all furthest at x y place within first second order ranks =
    let before : IsNoLater x.rank x.addr (get_or all at x).rank (get_or all at x).addr =
    subst (λ (l : Landing). IsNoLater l.rank l.addr (get_or all at x).rank (get_or all at x).addr) (sym first)
    (order furthest at x place within) in
    let here : get_or all at x ≡ y = get_or_default all at x y within ∙ sym second in
    let both : IsNoLater x.rank x.addr y.rank y.addr = subst (λ (l : Landing). IsNoLater x.rank x.addr l.rank l.addr) here before in
    elim both [ inl lower ↦ absurd (omega (arith, lower, ranks)) | inr level ↦ level.1 ]

pub contains_at : (all : List Landing) (at : ℕ) (x : Landing) → at < length all → x ≡ get_or all at x → Contains all x
contains_at all at x within is = (at, within, sym is)

pub found-step : (all : List Landing) (at furthest : ℕ) (x y : Landing) (old new : List ContestedRange) → furthest < at → at < length all
    → x ≡ get_or all furthest x → y ≡ get_or all at y → ComeInOrder all → ReachesFurthest all at furthest → AreFound all at old
    → ((rank addr : ℕ) → IsIn new rank addr ↔ (IsIn old rank addr ⊎ Differ rank addr x y)) → AreFound all (at + 1) new
found-step all at furthest x y old new place within first second order reach found added =
    found-more all at furthest old new place within order reach found (λ rank addr d either. (added rank addr).1 (elim either [
      | inl was ↦ inl was
      | inr differ ↦
          let far : get_or all furthest d ≡ x = get_or_default all furthest d x (omega (arith, place, within)) ∙ sym first in
          let next : get_or all at d ≡ y = get_or_default all at d y within ∙ sym second in
          inr (subst (Differ rank addr x) next (subst (λ a. Differ rank addr a (get_or all at d)) far differ))
    ]))

pub next_within : (furthest at next : ℕ) → furthest < at → (next ≡ furthest) ⊎ (next ≡ at) → next < at + 1
next_within furthest at next place either = elim either [ inl same ↦ omega (arith, place, same) | inr same ↦ omega (arith, same) ]
