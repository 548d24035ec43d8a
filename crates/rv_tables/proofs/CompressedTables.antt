-- Tables of compressed rows of which no halfword is of two: the row that a lookup finds is the one that the halfword meets.
use Rattle.std.proofs.Common.{◌≡◌, ℕ, Bool, true, false, not, ◌&&◌, ◌||◌, List, [], ◌∷◌, Option, Some, None, refl, sym, ◌∙◌, ap, eqb, ◌⊎◌}
use Rattle.std.proofs.Common.{inl, inr}
use Rattle.std.specs.List.{AllPairs, Contains, find, list_all, list_any}
use Rattle.std.specs.Option.{option_map}
use Rattle.std.proofs.lemmas.Bool.{eqb-true, eq-eqb, not-true, both_ways, and_parts}
use Rattle.std.proofs.lemmas.List.Elements.{All-contains}
use Rattle.std.proofs.lemmas.List.Folds.{Any-from_list_any}
use Rattle.std.proofs.lemmas.List.Sums.{AllPass-from_list_all}
use Rattle.std.proofs.lemmas.Option.{same_Some}
use Rattle.rv_tables.specs.CompressedTables.{Fixed, CompressedRow, has, has_none, is_of, meets, expanded, expansion_by, ExpandsBy}
use Rattle.rv_tables.specs.CompressedTables.{AreDisjoint}
use Rattle.rv_tables.specs.Fields.{bits}
use Rattle.rv_tables.specs.Halfwords.{quadrant, funct3}
use Rattle.rv_tables.proofs.Finds.{find-found, find-finds}
use Rattle.rv_tables.proofs.Pairs.{same_by_pairs}

-- Two rows are apart where they have another quadrant or funct3, where both fix some bits and to other values, or where one
-- leaves a code to others that the other one has.

any_found : {X : Type 0} (p : X → Bool) (xs : List X) → list_any p xs ≡ true → (x : X) × Contains xs x × (p x ≡ true)
any_found p xs h = let (k, x, within, at, passes) = Any-from_list_any p xs h in (x, (k, within, at), passes)

all_at : {X : Type 0} (p : X → Bool) (xs : List X) (x : X) → list_all p xs ≡ true → Contains xs x → p x ≡ true
all_at p xs x h listed = All-contains (λ y. p y ≡ true) xs x (AllPass-from_list_all p xs h) listed

abbrev same_span : Fixed → Fixed → Bool
same_span f g = eqb f.span.high g.span.high && eqb f.span.low g.span.low

abbrev clashes : Fixed → Fixed → Bool
clashes f g = same_span f g && not (eqb f.value g.value)

abbrev is_among : List Fixed → Fixed → Bool
is_among fs c = list_any (λ f. same_span c f && eqb c.value f.value) fs

abbrev clash : List Fixed → List Fixed → Bool
clash fs gs = list_any (λ f. list_any (clashes f) gs) fs

abbrev leaves_to : {I J : Type 0} → CompressedRow I → CompressedRow J → Bool
leaves_to r s = list_any (list_all (is_among s.fixed)) r.others

abbrev pub apart : {I J : Type 0} → CompressedRow I → CompressedRow J → Bool
apart r s =
    not (eqb r.quadrant s.quadrant) || not (eqb r.funct3 s.funct3) || clash r.fixed s.fixed || leaves_to r s || leaves_to s r

same_bits : (h : ℕ) (f g : Fixed) → same_span f g ≡ true → bits h f.span.high f.span.low ≡ bits h g.span.high g.span.low
same_bits h f g e =
    let parts = and_parts (eqb f.span.high g.span.high) (eqb f.span.low g.span.low) e in
    let high = eqb-true _ _ parts.0 in
    let low = eqb-true _ _ parts.1 in
    cc

has_bits : (h : ℕ) (fs : List Fixed) (f : Fixed) → has h fs ≡ true → Contains fs f → bits h f.span.high f.span.low ≡ f.value
has_bits h fs f has_fs listed =
    eqb-true _ _ (all_at (λ g. eqb (bits h g.span.high g.span.low) g.value) fs f has_fs listed)

no_clash : (h : ℕ) (fs gs : List Fixed) → clash fs gs ≡ true → has h fs ≡ true → has h gs ≡ true → ⊥
no_clash h fs gs e has_fs has_gs =
    let (f, f_in, some) = any_found (λ f. list_any (clashes f) gs) fs e in
    let (g, g_in, clashing) = any_found (clashes f) gs some in
    let parts = and_parts (same_span f g) (not (eqb f.value g.value)) clashing in
    let same : f.value ≡ g.value =
    sym (has_bits h fs f has_fs f_in) ∙ same_bits h f g parts.0 ∙ has_bits h gs g has_gs g_in in
    both_ways _ (not-true _ parts.1) (eq-eqb _ _ same)

has_left : (h : ℕ) (code fs : List Fixed) → list_all (is_among fs) code ≡ true → has h fs ≡ true → has h code ≡ true
has_left h [] fs e has_fs = refl
has_left h (c ∷ code) fs e has_fs =
    let parts = and_parts (is_among fs c) (list_all (is_among fs) code) e in
    let (f, f_in, same) = any_found (λ f. same_span c f && eqb c.value f.value) fs parts.0 in
    let match = and_parts (same_span c f) (eqb c.value f.value) same in
    let here : bits h c.span.high c.span.low ≡ c.value =
    same_bits h c f match.0 ∙ has_bits h fs f has_fs f_in ∙ sym (eqb-true _ _ match.1) in
    let rest = has_left h code fs parts.1 has_fs in
    rw (eq-eqb _ _ here) rest

not_left : {I J : Type 0} (h : ℕ) (r : CompressedRow I) (s : CompressedRow J) → leaves_to r s ≡ true → has_none h r.others ≡ true
    → has h s.fixed ≡ true → ⊥
not_left h r s e none has_s =
    let (code, code_in, left) = any_found (list_all (is_among s.fixed)) r.others e in
    both_ways _ (not-true _ (all_at (λ c. not (has h c)) r.others code none code_in)) (has_left h code s.fixed left has_s)

-- what it is to be of a row
of_parts : {I : Type 0} (h : ℕ) (r : CompressedRow I) → is_of h r ≡ true
    → (quadrant h ≡ r.quadrant) × (funct3 h ≡ r.funct3) × (has h r.fixed ≡ true) × (has_none h r.others ≡ true)
of_parts h r e =
    let q = eqb (quadrant h) r.quadrant in
    let f = eqb (funct3 h) r.funct3 in
    let last = and_parts ((q && f) && has h r.fixed) (has_none h r.others) e in
    let third = and_parts (q && f) (has h r.fixed) last.0 in
    let two = and_parts q f third.0 in
    (eqb-true _ _ two.0, eqb-true _ _ two.1, third.1, last.1)

or_cases : (a b : Bool) → (a || b) ≡ true → (a ≡ true) ⊎ (b ≡ true)
or_cases true b e = inl refl
or_cases false b e = inr e

pub AreDisjoint-from_apart : {I J : Type 0} (r : CompressedRow I) (s : CompressedRow J) → apart r s ≡ true → AreDisjoint r s
AreDisjoint-from_apart r s e h of_r of_s =
    let (q_r, f_r, fixed_r, others_r) = of_parts h r of_r in
    let (q_s, f_s, fixed_s, others_s) = of_parts h s of_s in
    elim (or_cases _ _ e) [
      | inr left ↦ not_left h s r left others_s fixed_r
      | inl e4 ↦ elim (or_cases _ _ e4) [
        | inr left ↦ not_left h r s left others_r fixed_s
        | inl e3 ↦ elim (or_cases _ _ e3) [
          | inr clashing ↦ no_clash h r.fixed s.fixed clashing fixed_r fixed_s
          | inl e2 ↦ elim (or_cases _ _ e2) [
            | inr f ↦ both_ways _ (not-true _ f) (eq-eqb _ _ (sym f_r ∙ f_s))
            | inl q ↦ both_ways _ (not-true _ q) (eq-eqb _ _ (sym q_r ∙ q_s))
          ]
        ]
      ]
    ]

-- no halfword is of a row of each of two tables
pub tables_apart : {I J : Type 0} (t : List (CompressedRow I)) (u : List (CompressedRow J))
    → list_all (λ (r : CompressedRow I). list_all (apart r) u) t ≡ true → (r : CompressedRow I) (s : CompressedRow J) → Contains t r
    → Contains u s → AreDisjoint r s
tables_apart {I} {J} t u e r s r_in s_in =
    AreDisjoint-from_apart r s (all_at (apart r) u s (all_at (λ (x : CompressedRow I). list_all (apart x) u) t r e r_in) s_in)

-- a halfword is of one row at most
pub one_row : {I : Type 0} (table : List (CompressedRow I)) → AllPairs AreDisjoint table → (h : ℕ) (r s : CompressedRow I)
    → Contains table r → Contains table s → is_of h r ≡ true → is_of h s ≡ true → r ≡ s
one_row table disjoint h r s r_in s_in of_r of_s =
    same_by_pairs AreDisjoint table r s disjoint r_in s_in (λ apart. apart h of_r of_s) (λ apart. apart h of_s of_r)

pub of_met : {I : Type 0} (h : ℕ) (r : CompressedRow I) → meets h r ≡ true → is_of h r ≡ true
of_met h r met = (and_parts (is_of h r) (has_none h r.reserved) met).0

pub ExpandsBy-from_expansion : {I : Type 0} (table : List (CompressedRow I)) (h : ℕ) (i : I) → expansion_by table h ≡ Some i
    → ExpandsBy table h i
ExpandsBy-from_expansion {I} table h i e = from_first (find (meets h) table) refl e where
  from_first : (o : Option (CompressedRow I)) → find (meets h) table ≡ o → option_map (expanded h) o ≡ Some i → ExpandsBy table h i
  from_first None at e = cc
  from_first (Some r) at e =
      let found = find-found (meets h) table r at in
      record { row = r; listed = found.0; met = found.1; instruction = same_Some _ _ e }

-- the row that a halfword meets is the one that the lookup finds
pub expansion_by-met : {I : Type 0} (table : List (CompressedRow I)) → AllPairs AreDisjoint table → (h : ℕ) (r : CompressedRow I)
    → Contains table r → meets h r ≡ true → expansion_by table h ≡ Some (expanded h r)
expansion_by-met table disjoint h r listed met =
    let first = find-finds (meets h) table r listed met in
    let found = find-found (meets h) table first.0 first.1 in
    let same : first.0 ≡ r = one_row table disjoint h first.0 r found.0 listed (of_met h first.0 found.1) (of_met h r met) in
    ap (option_map (expanded h)) (first.1 ∙ ap Some same)

pub expansion_by-ExpandsBy : {I : Type 0} (table : List (CompressedRow I)) → AllPairs AreDisjoint table → (h : ℕ) (i : I)
    → ExpandsBy table h i → expansion_by table h ≡ Some i
expansion_by-ExpandsBy table disjoint h i x = expansion_by-met table disjoint h x.row x.listed x.met ∙ ap Some x.instruction
