-- Texts that grow by one line after another.
use Rattle.std.proofs.Common.{◌≡◌, ℕ, ◌+◌, ◌<◌, ◌≤◌, List, [], ◌∷◌, ◌++◌, length}
use Rattle.std.proofs.Common.{take, min, Some, sym, ap, ap₂, ◌∙◌, arith, append_assoc, append-nil}
use Rattle.std.specs.Prelude.{slice_get, slice_index, flat_map, zip, if◌then◌else◌}
use Rattle.std.specs.List.{range_with_len}
use Rattle.std.proofs.lemmas.Bool.{lt-ltb, le-ltb}
use Rattle.std.proofs.lemmas.Grind.{flat_map-append}
use Rattle.std.proofs.lemmas.List.{map-id, take_more, length-map}
use Rattle.std.proofs.lemmas.List.FromFn.{map-range_with_len_more}
use Rattle.std.proofs.lemmas.Option.{slice_get_within, get_or_from_slice_get}
use Rattle.std.proofs.lemmas.Slice.Zip.{length-zip}
use Rattle.machine_core.specs.Machine.{MachineState}
use Rattle.bsp_profile.specs.Lines.{flow_line, flow_lines_between}
use Rattle.bsp_profile.specs.Moves.{moved, moves, row_of, rows}
use Rattle.bsp_profile.specs.Tally.{place, Tells}

-- the text of one piece more
flat_map-push : {X : Type 0} (f : X → List ℕ) (xs : List X) (x : X) → flat_map f (xs ++ x ∷ []) ≡ flat_map f xs ++ f x
flat_map-push f xs x = flat_map-append f xs (x ∷ []) ∙ ap (λ ys. flat_map f xs ++ ys) (append-nil (f x))

grown : {X : Type 0} (f : X → List ℕ) (xs : List X) (x : X) (first now new : List ℕ) → now ≡ first ++ flat_map f xs → new ≡ now ++ f x
    → new ≡ first ++ flat_map f (xs ++ x ∷ [])
grown f xs x first now new before more =
    more ∙ ap (λ bs. bs ++ f x) before ∙ append_assoc first (flat_map f xs) (f x) ∙ ap (λ bs. first ++ bs) (sym (flat_map-push f xs x))

-- the next of a list
pub next_line : {X : Type 0} (f : X → List ℕ) (xs : List X) (i : ℕ) (x : X) (first now new : List ℕ) → slice_get xs i ≡ Some x
    → now ≡ first ++ flat_map f (take i xs) → new ≡ now ++ f x → new ≡ first ++ flat_map f (take (i + 1) xs)
next_line f xs i x first now new found before more =
    grown f (take i xs) x first now new before more
    ∙ ap (λ ys. first ++ flat_map f ys)
    (ap (λ y. take i xs ++ y ∷ []) (sym (get_or_from_slice_get xs i x x found)) ∙ sym (take_more xs i x (slice_get_within xs i x found)))

range-more : (n : ℕ) → range_with_len 0 (n + 1) ≡ range_with_len 0 n ++ n ∷ []
range-more n =
    sym (map-id (range_with_len 0 (n + 1))) ∙ map-range_with_len_more (λ k. k) 0 n n (omega arith)
    ∙ ap (λ ks. ks ++ n ∷ []) (map-id (range_with_len 0 n))

-- the next of some numbers from 0 on
pub next_of_range : (f : ℕ → List ℕ) (n : ℕ) (first now new : List ℕ) → now ≡ first ++ flat_map f (range_with_len 0 n) → new ≡ now ++ f n
    → new ≡ first ++ flat_map f (range_with_len 0 (n + 1))
next_of_range f n first now new before more =
    grown f (range_with_len 0 n) n first now new before more ∙ ap (λ ks. first ++ flat_map f ks) (sym (range-more n))

pub length-rows-le : (m : MachineState) → length (rows m) ≤ length m.nodes
length-rows-le m =
    let all : length (rows m) ≡ length (zip m.nodes m.started) = length-map (zip m.nodes m.started) (row_of m) in
    let both : length (zip m.nodes m.started) ≡ min (length m.nodes) (length m.started) = length-zip m.nodes m.started in
    omega (arith, all, both)

-- the line of two ranks between which bytes go, and of two between which none go
module _ (m : MachineState) (count : ℕ) (cells : List ℕ) (tells : Tells m.nodes count cells) (from to : ℕ) (from_in : from < count)
    (to_in : to < count) (bytes superstep : ℕ) (is : bytes ≡ slice_index cells (place count (from + 1) to)) where
  told : bytes ≡ moved (moves m.nodes) from to
  told = is ∙ tells.bytes from to from_in to_in

  pub flow_yes : superstep ≡ m.exchanges → 0 < bytes → flow_line (record { superstep = superstep; from = from; to = to; bytes = bytes })
      ≡ flow_lines_between m from to
  flow_yes now some =
      ap₂ (λ s b. flow_line (record { superstep = s; from = from; to = to; bytes = b })) now told
      ∙ sym (ap (λ b. if b then flow_line (record { superstep = m.exchanges; from = from; to = to; bytes = moved (moves m.nodes) from to })
      else []) (lt-ltb 0 (moved (moves m.nodes) from to) (omega (arith, told, some))))

  pub flow_no : bytes ≤ 0 → [] ≡ flow_lines_between m from to
  flow_no none =
      sym (ap (λ b. if b then flow_line (record { superstep = m.exchanges; from = from; to = to; bytes = moved (moves m.nodes) from to })
      else []) (le-ltb 0 (moved (moves m.nodes) from to) (omega (arith, told, none))))

pub same_text : (now new more : List ℕ) → new ≡ now → [] ≡ more → new ≡ now ++ more
same_text now new more same none = same ∙ sym (append-nil now) ∙ ap (λ bs. now ++ bs) none
