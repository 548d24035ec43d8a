-- A text has one image at most.
use Rattle.std.proofs.Common.{◌≡◌, Bool, ℕ, zero, suc, ◌+◌, ◌^◌, List, [], ◌∷◌, ◌++◌, length, map, Any, Contains, IsSome, IsSomeAnd, Option}
use Rattle.std.proofs.Common.{Some, None, Result, Ok, refl, sym, ◌∙◌, ap, subst, arith, w32}
use Rattle.std.specs.Int.{to_le_bytes}
use Rattle.std.proofs.lemmas.List.Elements.{All-contains}
use Rattle.rv_atomics.specs.declared.extensions.Extensions.{Extensions}
use Rattle.node_memory.specs.Image.{Image, segments_from_0}
use Rattle.rv_tables.specs.declared.instr.Instr.{Instr}
use Rattle.rv_tables.specs.declared.instr.Instr.TheVariants.{Branch, Jal}
use Rattle.asm_syntax.specs.Statements.{Line, Statement, instruction, float_instruction, branch, jump_and_link, load_immediate}
use Rattle.asm_syntax.specs.Statements.{atomic_instruction}
use Rattle.asm_syntax.specs.Statements.{load_address, words, halves, bytes, ascii, space, align, entry}
use Rattle.asm_syntax.specs.declared.error.LineError.{LineError}
use Rattle.rv_asm.specs.Layout.{Spell, load_of, lui_addi, HasBytes}
use Rattle.rv_asm.specs.Symbols.{Symbols}
use Rattle.rv_asm.specs.Targets.{modulo, value_of, offset_to}
use Rattle.rv_asm.specs.Text.{LineHasBytes, AreLaid, IsImageOfText, last_entry}
use Rattle.rv_asm.proofs.EachAtomicWord.{one_atomic_word}
use Rattle.rv_asm.proofs.EachFloatWord.{one_float_word}
use Rattle.rv_asm.proofs.EachWord.{one_word}
use Rattle.rv_asm.proofs.Sizes.{length-line}

one_spelling : (is : List Instr) (x y : List ℕ) → Spell is x → Spell is y → x ≡ y
one_spelling [] x y h k = h ∙ sym k
one_spelling (i ∷ is) x y (v, more, word, rest, e) (w, more', word', rest', e') =
    e ∙ (λ j. to_le_bytes w32 (one_word i v w word word' j) ++ one_spelling is more more' rest rest' j) ∙ sym e'

one_code : (o : Option ℕ) (code : ℕ → List Instr) (x y : List ℕ) → IsSomeAnd o (λ v. Spell (code v) x) → IsSomeAnd o (λ v. Spell (code v) y)
    → x ≡ y
one_code None code x y h k = absurd h
one_code (Some v) code x y h k = one_spelling (code v) x y h k

one_statement : (symbols : Symbols) (address : ℕ) (statement : Statement) (x y : List ℕ) → HasBytes symbols address statement x
    → HasBytes symbols address statement y → x ≡ y
one_statement symbols address (instruction i) x y h k = one_spelling (i ∷ []) x y h k
one_statement symbols address (float_instruction i) x y (v, v_in, is_v, e) (w, w_in, is_w, e') =
    e ∙ ap (to_le_bytes w32) (one_float_word i v w v_in w_in is_v is_w) ∙ sym e'
one_statement symbols address (atomic_instruction i) x y (v, v_in, is_v, e) (w, w_in, is_w, e') =
    e ∙ ap (to_le_bytes w32) (one_atomic_word i v w v_in w_in is_v is_w) ∙ sym e'
one_statement symbols address (branch op rs1 rs2 target) x y h k =
    one_code (value_of symbols target) (λ v. Branch op rs1 rs2 (offset_to address v) ∷ []) x y h k
one_statement symbols address (jump_and_link rd target) x y h k =
    one_code (value_of symbols target) (λ v. Jal rd (offset_to address v) ∷ []) x y h k
one_statement symbols address (load_immediate rd n) x y h k = one_spelling (load_of rd (modulo (2 ^ 32) n)) x y h k
one_statement symbols address (load_address rd target) x y h k = one_code (value_of symbols target) (lui_addi rd) x y h k
one_statement symbols address (words targets) x y h k = h.1 ∙ sym k.1
one_statement symbols address (halves ns) x y h k = h ∙ sym k
one_statement symbols address (bytes ns) x y h k = h ∙ sym k
one_statement symbols address (ascii text) x y h k = h ∙ sym k
one_statement symbols address (space n) x y h k = h ∙ sym k
one_statement symbols address (align n) x y h k = h ∙ sym k
one_statement symbols address (entry target) x y h k = h.1 ∙ sym k.1

one_line : (symbols : Symbols) (address : ℕ) (statement : Option Statement) (x y : List ℕ) → LineHasBytes symbols address statement x
    → LineHasBytes symbols address statement y
    → x ≡ y
one_line symbols address None x y h k = h ∙ sym k
one_line symbols address (Some statement) x y h k = one_statement symbols address statement x y h k

one_layout : (symbols : Symbols) (address : ℕ) (lines : List Line) (x y : List ℕ) → AreLaid symbols address lines x
    → AreLaid symbols address lines y → x ≡ y
one_layout symbols address [] x y h k = h ∙ sym k
one_layout symbols address (line ∷ rest) x y (private, more, e, labels, has, laid) (private', more', e', labels', has', laid') =
    let same : private ≡ private' = one_line symbols address line.statement private private' has has' in
    e ∙ (λ j. same j ++ one_layout symbols (address + length private) rest more more' laid
    (subst (λ o. AreLaid symbols (address + length o) rest more') (sym same) laid') j) ∙ sym e'

-- a label has one address, whatever the others have
agree : (symbols symbols' : Symbols) (address : ℕ) (lines : List Line) (x y : List ℕ) (name : List ℕ) → AreLaid symbols address lines x
    → AreLaid symbols' address lines y
    → Any (λ line. Contains line.labels name) lines → symbols name ≡ symbols' name
agree symbols symbols' address [] x y name h k (i, line, lt, is, member) = absurd (omega (arith, lt))
agree symbols symbols' address (first ∷ rest) x y name (private, more, e, labels, has, laid) (private', more', e', labels', has', laid')
    (zero, line, lt, is, member) =
    let here : Contains first.labels name = subst (λ l. Contains l.labels name) (sym is) member in
    All-contains (λ label. symbols label ≡ Some address) first.labels name labels here
    ∙ sym (All-contains (λ label. symbols' label ≡ Some address) first.labels name labels' here)
agree symbols symbols' address (first ∷ rest) x y name (private, more, e, labels, has, laid) (private', more', e', labels', has', laid')
    (suc i, line, lt, is, member) =
    let ends : address + length private' ≡ address + length private =
    length-line symbols' address first.statement private' has' ∙ sym (length-line symbols address first.statement private has) in
    agree symbols symbols' (address + length private) rest more more' name laid (subst (λ n. AreLaid symbols' n rest more') ends laid')
    (i, line, omega (arith, lt), is, member)

ok_lines : (xs ys : List Line) → map {B = Result Line LineError} Ok xs ≡ map Ok ys → xs ≡ ys
ok_lines [] [] e = refl
ok_lines [] (y ∷ ys) e = cc
ok_lines (x ∷ xs) [] e = cc
ok_lines (x ∷ xs) (y ∷ ys) e =
    let first : x ≡ y = cc in
    let others : map {B = Result Line LineError} Ok xs ≡ map Ok ys = cc in
    λ j. first j ∷ ok_lines xs ys others j

same_where : (P : Type 0) (o p : Option ℕ) → (IsSome o → o ≡ p) → (IsSome p → o ≡ p) → o ≡ p
same_where P None None f g = refl
same_where P None (Some y) f g = g refl
same_where P (Some x) p f g = f refl

pub one_image : (extensions : Extensions) (text : List ℕ) (image image' : Image) → IsImageOfText extensions text image
    → IsImageOfText extensions text image'
    → image ≡ image'
one_image extensions text image image' h k =
    let lines : k.out.lines ≡ h.out.lines = ok_lines k.out.lines h.out.lines (sym k.out.are_lines ∙ h.out.are_lines) in
    let laid : AreLaid k.symbols 0 h.out.lines k.bytes = subst (λ ls. AreLaid k.symbols 0 ls k.bytes) lines k.out.laid in
    let enters : last_entry k.symbols 0 h.out.lines ≡ image'.entry =
    subst (λ ls. last_entry k.symbols 0 ls ≡ image'.entry) lines k.out.entry_is in
    let each : (name : List ℕ) → h.symbols name ≡ k.symbols name =
    λ name. same_where (Unit {0}) (h.symbols name) (k.symbols name)
    (λ some. agree h.symbols k.symbols 0 h.out.lines h.bytes k.bytes name h.out.laid laid (h.only_labels name some))
    (λ some. agree h.symbols k.symbols 0 h.out.lines h.bytes k.bytes name h.out.laid laid
    (subst (Any (λ line. Contains line.labels name)) lines (k.only_labels name some))) in
    let same : h.symbols ≡ k.symbols = (λ i name. each name i) in
    let bytes : h.bytes ≡ k.bytes =
    one_layout k.symbols 0 h.out.lines h.bytes k.bytes (subst (λ s. AreLaid s 0 h.out.lines h.bytes) same h.out.laid) laid in
    let entry : image.entry ≡ image'.entry = sym h.out.entry_is ∙ ap (λ s. last_entry s 0 h.out.lines) same ∙ enters in
    let segments : image.segments ≡ image'.segments = h.segments_are ∙ ap segments_from_0 bytes ∙ sym k.segments_are in
    λ i. record { entry = entry i; segments = segments i }
