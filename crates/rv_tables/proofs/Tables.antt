-- Tables of which no word meets two rows: the row that a lookup finds is the one that the word meets. What a table has in range is
-- found in range.
use Rattle.std.proofs.Common.{◌≡◌, ℕ, Bool, true, not, List, Option, Some, None, refl, sym, ◌∙◌, ap, eqb, bit_and}
use Rattle.std.specs.List.{AllPairs, Contains, find, list_all}
use Rattle.std.specs.Option.{option_map}
use Rattle.std.proofs.lemmas.Bool.{eqb-true, eq-eqb, both_ways, not-true}
use Rattle.std.proofs.lemmas.List.Elements.{All-contains}
use Rattle.std.proofs.lemmas.List.Sums.{AllPass-from_list_all}
use Rattle.std.proofs.lemmas.Nat.{and_assoc, and_comm}
use Rattle.std.proofs.lemmas.Option.{same_Some}
use lib.Bits.{and_self}
use Rattle.rv_tables.specs.declared.instr.Row.{Row}
use Rattle.rv_tables.specs.Operands.{IsFound}
use Rattle.rv_tables.specs.Tables.{RowEncoding, meets, MeetsRow, IsDisjoint, Reads, read_off}
use Rattle.rv_tables.proofs.Finds.{find-found, find-finds}
use Rattle.rv_tables.proofs.Pairs.{all_pairs, AllPairs-from_pass, same_by_pairs}

-- two rows whose values differ in a bit that both masks have
abbrev pub apart : {F G : Type 0} → Row F → Row G → Bool
apart a b = let both = bit_and a.mask b.mask in not (eqb (bit_and a.value both) (bit_and b.value both))

under_both : (w m n : ℕ) → bit_and (bit_and w m) (bit_and m n) ≡ bit_and w (bit_and m n)
under_both w m n = and_assoc (bit_and m n) w m ∙ ap (bit_and w) (sym (and_assoc n m m) ∙ ap (λ k. bit_and k n) (and_self m))

pub IsDisjoint-from_apart : {F G : Type 0} (a : Row F) (b : Row G) → apart a b ≡ true → IsDisjoint a b
IsDisjoint-from_apart a b h w meets_a meets_b =
    let both = bit_and a.mask b.mask in
    let by_a : bit_and a.value both ≡ bit_and w both = ap (λ v. bit_and v both) (sym meets_a) ∙ under_both w a.mask b.mask in
    let by_b : bit_and b.value both ≡ bit_and w both =
    ap (λ v. bit_and v both) (sym meets_b) ∙ ap (bit_and (bit_and w b.mask)) (and_comm a.mask b.mask)
    ∙ under_both w b.mask a.mask ∙ ap (bit_and w) (and_comm b.mask a.mask) in
    both_ways _ (not-true _ h) (eq-eqb _ _ (by_a ∙ sym by_b))

-- no word meets two rows of a table
abbrev pub HasDisjointRows : {F R : Type 0} → List (RowEncoding F R) → Type 0
HasDisjointRows table = AllPairs (λ x y. IsDisjoint x.row y.row) table

pub HasDisjointRows-from_apart : {F R : Type 0} (table : List (RowEncoding F R))
    → all_pairs (λ (x y : RowEncoding F R). apart x.row y.row) table ≡ true → HasDisjointRows table
HasDisjointRows-from_apart {F} {R} table h =
    AllPairs-from_pass (λ (x y : RowEncoding F R). apart x.row y.row) (λ x y. IsDisjoint x.row y.row) table
    (λ x y. IsDisjoint-from_apart x.row y.row) h

-- no word meets a row of each of two tables
pub tables_apart : {F G R S : Type 0} (t : List (RowEncoding F R)) (u : List (RowEncoding G S))
    → list_all (λ (x : RowEncoding F R). list_all (λ (y : RowEncoding G S). apart x.row y.row) u) t ≡ true
    → (x : RowEncoding F R) (y : RowEncoding G S) → Contains t x → Contains u y → IsDisjoint x.row y.row
tables_apart {F} {G} {R} {S} t u h x y x_in y_in =
    let of_x =
    All-contains (λ (e : RowEncoding F R). list_all (λ (f : RowEncoding G S). apart e.row f.row) u ≡ true) t x
    (AllPass-from_list_all _ t h) x_in in
    IsDisjoint-from_apart x.row y.row
    (All-contains (λ (f : RowEncoding G S). apart x.row f.row ≡ true) u y (AllPass-from_list_all _ u of_x) y_in)

-- the row that a word meets is the one that the lookup finds
pub read_off-met : {F R : Type 0} (table : List (RowEncoding F R)) → HasDisjointRows table → (w : ℕ) (e : RowEncoding F R)
    → Contains table e → MeetsRow w e.row → read_off table w ≡ Some (e.read w)
read_off-met table disjoint w e listed met =
    let first = find-finds (meets w) table e listed (eq-eqb _ _ met) in
    let found = find-found (meets w) table first.0 first.1 in
    let first_met = eqb-true _ _ found.1 in
    let same : first.0 ≡ e =
    same_by_pairs (λ x y. IsDisjoint x.row y.row) table first.0 e disjoint found.0 listed (λ apart. apart w first_met met)
    (λ apart. apart w met first_met) in
    ap (option_map (λ f. f.read w)) (first.1 ∙ ap Some same)

pub Reads-from_read_off : {F R : Type 0} (table : List (RowEncoding F R)) (w : ℕ) (r : R) → read_off table w ≡ Some r → Reads table w r
Reads-from_read_off {F} {R} table w r h = from_first (find (meets w) table) refl h where
  from_first : (o : Option (RowEncoding F R)) → find (meets w) table ≡ o → option_map (λ e. e.read w) o ≡ Some r → Reads table w r
  from_first None e h = cc
  from_first (Some f) e h =
      let found = find-found (meets w) table f e in
      record { encoding = f; listed = found.0; met = eqb-true _ _ found.1; operands = same_Some _ _ h }

pub read_off-Reads : {F R : Type 0} (table : List (RowEncoding F R)) → HasDisjointRows table → (w : ℕ) (r : R) → Reads table w r
    → read_off table w ≡ Some r
read_off-Reads table disjoint w r s = read_off-met table disjoint w s.encoding s.listed s.met ∙ ap Some s.operands

-- what is found is what is meant, and all that this may be is in its range
pub found : {T : Type 0} (InRange : T → Type 0) (meant r : Option T) → ((x : T) → meant ≡ Some x → InRange x) → r ≡ meant
    → IsFound InRange meant r
found InRange meant None in_range e = record { value = e; encodable = tt }
found InRange meant (Some x) in_range e = record { value = e; encodable = in_range x (sym e) }
