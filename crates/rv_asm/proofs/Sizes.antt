-- The bytes of a statement are as many as its size says.
use Rattle.std.proofs.Common.{◌≡◌, ℕ, suc, ◌+◌, ◌*◌, ◌^◌, Bool, false, ◌||◌, List, [], ◌∷◌, ◌++◌, length, flat_map, Option, Some, None}
use Rattle.std.proofs.Common.{is_none, IsSomeAnd, refl, ◌∙◌, ap, arith, length-append, w16, w32}
use Rattle.std.specs.List.{list_any}
use Rattle.std.specs.Int.{to_le_bytes}
use Rattle.std.specs.Option.{option_map_or}
use Rattle.std.proofs.lemmas.List.{length-map}
use Rattle.std.proofs.Math.ListN.{length-replicate}
use Rattle.rv_tables.specs.declared.instr.Instr.{Instr}
use Rattle.rv_tables.specs.declared.instr.Instr.TheVariants.{Branch, Jal}
use Rattle.asm_syntax.specs.Operands.{Target}
use Rattle.asm_syntax.specs.Statements.{Statement, instruction, float_instruction, branch, jump_and_link, load_immediate, load_address}
use Rattle.asm_syntax.specs.Statements.{atomic_instruction}
use Rattle.asm_syntax.specs.Statements.{words, halves, bytes, ascii, space, align, entry}
use Rattle.rv_asm.specs.Layout.{Spell, load_of, lui_addi, size_of, HasBytes, word_bytes}
use Rattle.rv_asm.specs.Places.{end_of_statement}
use Rattle.rv_asm.specs.Symbols.{Symbols}
use Rattle.rv_asm.specs.Targets.{modulo, value_of, offset_to}
use Rattle.rv_asm.specs.Text.{LineHasBytes}

length-spelled : (is : List Instr) (private : List ℕ) → Spell is private → length private ≡ 4 * length is
length-spelled [] private e = ap length e
length-spelled (i ∷ is) private (w, more, word, rest, e) =
    let tail = length-spelled is more rest in
    let whole = ap length e in
    omega (arith, tail, whole)

length-code : (o : Option ℕ) (code : ℕ → List Instr) (n : ℕ) (private : List ℕ) → ((v : ℕ) → 4 * length (code v) ≡ n)
    → IsSomeAnd o (λ v. Spell (code v) private) → length private ≡ n
length-code None code n private size h = absurd h
length-code (Some v) code n private size h = length-spelled (code v) private h ∙ size v

word-more : (o : Option ℕ) (rest : List ℕ) (n : ℕ) (undefined : Bool) → (is_none o || undefined) ≡ false
    → (undefined ≡ false → length rest ≡ 4 * n) → length (option_map_or (to_le_bytes w32) o [] ++ rest) ≡ 4 * suc n
word-more None rest n undefined h more = cc
word-more (Some v) rest n undefined h more = let tail = more h in omega (arith, tail)

length-words : (symbols : Symbols) (targets : List Target) → list_any (λ target. is_none (value_of symbols target)) targets ≡ false
    → length (flat_map (word_bytes symbols) targets) ≡ 4 * length targets
length-words symbols [] h = refl
length-words symbols (t ∷ ts) h =
    word-more (value_of symbols t) (flat_map (word_bytes symbols) ts) (length ts) _ h (length-words symbols ts)

length-pairs : {X : Type 0} (f : X → List ℕ) (xs : List X) → ((x : X) → length (f x) ≡ 2) → length (flat_map f xs) ≡ 2 * length xs
length-pairs f [] h = refl
length-pairs f (x ∷ xs) h =
    let tail = length-pairs f xs h in let first = h x in omega (arith, length-append (f x) (flat_map f xs), tail, first)

pub length-private : (symbols : Symbols) (address : ℕ) (statement : Statement) (private : List ℕ)
    → HasBytes symbols address statement private
    → length private ≡ size_of statement address
length-private symbols address (instruction i) private h = length-spelled (i ∷ []) private h
length-private symbols address (float_instruction i) private (w, w_in, is, e) = ap length e
length-private symbols address (atomic_instruction i) private (w, w_in, is, e) = ap length e
length-private symbols address (branch op rs1 rs2 target) private h =
    length-code (value_of symbols target) (λ v. Branch op rs1 rs2 (offset_to address v) ∷ []) 4 private (λ _. refl) h
length-private symbols address (jump_and_link rd target) private h =
    length-code (value_of symbols target) (λ v. Jal rd (offset_to address v) ∷ []) 4 private (λ _. refl) h
length-private symbols address (load_immediate rd n) private h = length-spelled (load_of rd (modulo (2 ^ 32) n)) private h
length-private symbols address (load_address rd target) private h = length-code (value_of symbols target) (lui_addi rd) 8 private
    (λ _. refl) h
length-private symbols address (words targets) private h = ap length h.1 ∙ length-words symbols targets h.0
length-private symbols address (halves ns) private h = ap length h ∙ length-pairs (λ n. to_le_bytes w16 (modulo (2 ^ 16) n)) ns (λ _. refl)
length-private symbols address (bytes ns) private h = ap length h ∙ length-map ns _
length-private symbols address (ascii text) private h = ap length h
length-private symbols address (space n) private h = ap length h ∙ length-replicate n 0
length-private symbols address (align n) private h = ap length h ∙ length-replicate _ 0
length-private symbols address (entry target) private h = ap length h.1

pub length-line : (symbols : Symbols) (address : ℕ) (statement : Option Statement) (private : List ℕ)
    → LineHasBytes symbols address statement private → address + length private ≡ end_of_statement address statement
length-line symbols address None private h = omega (arith, ap length h)
length-line symbols address (Some s) private h = ap (λ n. address + n) (length-private symbols address s private h)
