-- What hints expand to does nothing.
use Rattle.std.proofs.Common.{◌≡◌, ℕ, false, [], ◌∷◌, pos, refl, arith, ◌⊎◌, inl, inr}
use Rattle.std.specs.Prelude.{IfSome}
use Rattle.std.specs.List.{All}
use Rattle.std.proofs.lemmas.Bool.{true≢false}
use Rattle.std.proofs.lemmas.Bool.Decides.{nat_tests}
use Rattle.std.proofs.lemmas.List.Elements.{All-from_recursion, All-contains}
use Rattle.rv_tables.specs.declared.instr.Instr.{Instr}
use Rattle.rv_tables.specs.Fields.{sign_extended}
use Rattle.rv_tables.specs.Halfwords.{rd, immediate, small_layout}
use Rattle.rv_tables.specs.Compressed.{compressed_rows, expansion_of, IsHint, DoesNothing, rd_is_0, small_is_0, c_addi4spn, c_lw, c_sw}
use Rattle.rv_tables.specs.Compressed.{c_addi, c_jal, c_li, c_addi16sp, c_lui, c_srli, c_srai, c_andi, c_sub, c_xor, c_or, c_and, c_j}
use Rattle.rv_tables.specs.Compressed.{c_beqz, c_bnez, c_slli, c_lwsp, c_jr, c_mv, c_ebreak, c_jalr, c_add, c_swsp}
use Rattle.rv_tables.specs.CompressedTables.{CompressedRow, expanded, has_none}
use Rattle.rv_tables.proofs.CompressedSpelling.{expansion_of-met}
use Rattle.rv_tables.proofs.Pairs.{◌⨾◌}

rd_0 : (h : ℕ) → has_none h (rd_is_0 ∷ []) ≡ false → rd h ≡ 0
rd_0 h e = grind (arith, nat_tests)

small_0 : (h : ℕ) → has_none h (small_is_0 ∷ []) ≡ false → immediate h small_layout ≡ 0
small_0 h e = grind (arith, nat_tests)

rd_or_small_0 : (h : ℕ) → has_none h (small_is_0 ∷ rd_is_0 ∷ []) ≡ false → (rd h ≡ 0) ⊎ (immediate h small_layout ≡ 0)
rd_or_small_0 h e = grind (arith, nat_tests)

signed_0 : (n : ℕ) → n ≡ 0 → sign_extended 6 n ≡ pos 0
signed_0 n e = rw e

-- a hint of the row does nothing
abbrev IdlesAtHints : CompressedRow Instr → Type 0
IdlesAtHints r = (h : ℕ) → has_none h r.hints ≡ false → DoesNothing (expanded h r)

addi : IdlesAtHints c_addi
addi h e =
    elim (rd_or_small_0 h e) [ inl zero ↦ inl zero | inr zero ↦ inr (refl, signed_0 (immediate h small_layout) zero) ]

li : IdlesAtHints c_li
li h e = inl (rd_0 h e)

lui : IdlesAtHints c_lui
lui h e = rd_0 h e

srli : IdlesAtHints c_srli
srli h e = inr (refl, small_0 h e)

srai : IdlesAtHints c_srai
srai h e = inr (refl, small_0 h e)

slli : IdlesAtHints c_slli
slli h e = elim (rd_or_small_0 h e) [ inl zero ↦ inl zero | inr zero ↦ inr (refl, zero) ]

mv : IdlesAtHints c_mv
mv h e = rd_0 h e

add : IdlesAtHints c_add
add h e = rd_0 h e

none : (r : CompressedRow Instr) → r.hints ≡ [] → IdlesAtHints r
none r no_hints h e = absurd (true≢false (rw no_hints at e))

-- row by row, in the order of the list
each_row : All IdlesAtHints compressed_rows
unfolding compressed_rows
each_row =
    All-from_recursion IdlesAtHints compressed_rows
    (none c_addi4spn refl ⨾ none c_lw refl ⨾ none c_sw refl
    ⨾ addi ⨾ none c_jal refl ⨾ li ⨾ none c_addi16sp refl ⨾ lui
    ⨾ srli ⨾ srai ⨾ none c_andi refl ⨾ none c_sub refl ⨾ none c_xor refl ⨾ none c_or refl ⨾ none c_and refl
    ⨾ none c_j refl ⨾ none c_beqz refl ⨾ none c_bnez refl
    ⨾ slli ⨾ none c_lwsp refl ⨾ none c_jr refl ⨾ mv ⨾ none c_ebreak refl ⨾ none c_jalr refl ⨾ add ⨾ none c_swsp refl ⨾ tt)

pub IfSome-hint : (h : ℕ) → IsHint h → IfSome (expansion_of h) DoesNothing
IfSome-hint h x =
    rw (expansion_of-met h x.row x.listed x.met) (All-contains IdlesAtHints compressed_rows x.row each_row x.listed h x.is_hint)
