-- A text without a fault has an image.
use Rattle.std.proofs.Common.{◌≡◌, ℕ, suc, ◌+◌, ◌^◌, ◌<◌, ◌≤◌, ◌-◌, ◌==◌, Bool, true, false, not, ◌&&◌, ◌||◌, List, [], ◌∷◌, ◌++◌, length}
use Rattle.std.proofs.Common.{map, flat_map, replicate, All, Option, Some, None, is_none, IsSome, IsSomeAnd, IfSome, Ok, option_map}
use Rattle.std.proofs.Common.{option_and_then, ℤ, pos, negsuc, T, eqb-true, neg_ℤ, ◌≤ℤ◌, ◌<ℤ◌, int_le, int_rem, unsigned_abs, refl, sym}
use Rattle.std.proofs.Common.{◌∙◌, ap, subst, if◌then◌else◌, arith, w16, w32}
use Rattle.std.specs.Int.{cast_signed, to_le_bytes}
use Rattle.std.specs.Option.{option_map_or, option_or}
use Rattle.std.proofs.lemmas.Int.{ints}
use lib.Signed.{le_z_yes}
use Rattle.std.proofs.lemmas.List.Elements.{All-nil, All-cons, All-head, All-tail}
use Rattle.rv_atomics.specs.declared.extensions.Extensions.{Extensions}
use Rattle.node_memory.specs.Image.{Image, segments_from_0}
use Rattle.rv_tables.specs.declared.instr.Instr.{Instr}
use Rattle.rv_tables.specs.declared.instr.Instr.TheVariants.{I, Branch, Upper, Jal}
use Rattle.rv_tables.specs.declared.instr.IOp.TheVariants.{Addi}
use Rattle.rv_tables.specs.declared.instr.UpperOp.TheVariants.{Lui}
use Rattle.rv_tables.specs.Fields.{bits, sign_extended}
use Rattle.rv_tables.specs.Operands.{IsSigned, IsEven, IsEncodable, IsImmediate, IsBranchOffset, IsJumpOffset}
use Rattle.asm_syntax.specs.Lines.{lines_of}
use Rattle.asm_syntax.specs.Parse.{line_of}
use Rattle.asm_syntax.specs.Statements.{Line, Statement, IsInRange, instruction, float_instruction, branch, jump_and_link, load_immediate}
use Rattle.asm_syntax.specs.Statements.{atomic_instruction}
use Rattle.asm_syntax.specs.Statements.{load_address, words, halves, bytes, ascii, space, align, entry}
use Rattle.rv_asm.specs.declared.errors.AsmKind.{AsmKind}
use Rattle.rv_asm.specs.declared.errors.AsmKind.TheVariants.{OutOfRange, UndefinedLabel}
use Rattle.rv_asm.specs.Faults.{text_fault, fault_alone, fault_of_use, fault_of_uses, first_faulty_line}
use Rattle.rv_asm.specs.Layout.{Spell, is_short, lui_addi, load_of, word_bytes, size_of, HasBytes}
use Rattle.rv_asm.specs.Places.{places_of, symbols_of, line_statement, end_of_statement, end_from}
use Rattle.rv_asm.specs.Symbols.{Symbols}
use Rattle.rv_asm.specs.Targets.{modulo, value_of, offset_to, is_signed, is_reached}
use Rattle.rv_asm.specs.Text.{LineHasBytes, AreLaid, IsImageOfText, last_entry}
use Rattle.rv_asm.proofs.EachAtomicWord.{the_atomic_word}
use Rattle.rv_asm.proofs.EachFloatWord.{the_word}
use Rattle.rv_asm.proofs.EachWord.{word_of}
use Rattle.rv_asm.proofs.Laying.{uses_from, uses-placed, ok_parts}
use Rattle.rv_asm.proofs.Sizes.{length-line}
use Rattle.rv_asm.proofs.Sound.{AreSound, sound_text}
use Rattle.rv_asm.proofs.Spelling.{load_of-short, load_of-long}
use Rattle.rv_asm.proofs.Whole.{image-laid}

spelled : (is : List Instr) → All IsEncodable is → (private : List ℕ) × Spell is private
spelled [] h = ([], refl)
spelled (i ∷ is) h =
    let w = word_of i (All-head IsEncodable i is h) in
    let rest = spelled is (All-tail IsEncodable i is h) in
    (to_le_bytes w32 w.0 ++ rest.0, (w.0, rest.0, w.1, rest.1, refl))

one : (i : Instr) → IsEncodable i → (private : List ℕ) × Spell (i ∷ []) private
one i h = spelled (i ∷ []) (All-cons IsEncodable i [] h (All-nil IsEncodable))

and_true : (a b : Bool) → (a && b) ≡ true → (a ≡ true) × (b ≡ true)
and_true true b h = (refl, h)
and_true false b h = cc

below : (k : ℕ) (z : ℤ) → 0 < k → z ≤ℤ pos (k - 1) → z <ℤ pos k
below k z some h = omega (arith, ints)

within : (width : ℕ) (z : ℤ) → 0 < 2 ^ (width - 1) → is_signed width z ≡ true → IsSigned width z
within width z some h =
    let p = and_true (int_le (neg_ℤ (pos (2 ^ (width - 1)))) z) (int_le z (pos (2 ^ (width - 1) - 1))) h in
    (le_z_yes (subst T (sym p.0) tt), below (2 ^ (width - 1)) z some (le_z_yes (subst T (sym p.1) tt)))

zero_abs : (x : ℤ) → (unsigned_abs x == 0) ≡ true → x ≡ pos 0
zero_abs (pos n) h = ap pos (eqb-true n 0 h)
zero_abs (negsuc n) h = let e : suc n ≡ 0 = eqb-true (suc n) 0 h in cc

even : (z : ℤ) → (unsigned_abs (int_rem z (pos 2)) == 0) ≡ true → IsEven z
even z h = zero_abs (int_rem z (pos 2)) h

extended : (n : ℕ) → n < 2 ^ 12 → IsSigned 12 (sign_extended 12 n)
extended n h = grind (arith, ints)

short_immediate : (word : ℕ) → is_short word ≡ true → IsImmediate (cast_signed w32 word)
short_immediate word e = within 12 (cast_signed w32 word) (omega arith) e

low_immediate : (word : ℕ) → IsImmediate (sign_extended 12 (bits word 11 0))
low_immediate word = let low : bits word 11 0 < 2 ^ 12 = omega arith in extended (bits word 11 0) low

lui_addi_spelled : (rd word : ℕ) → rd < 32 → (private : List ℕ) × Spell (lui_addi rd word) private
lui_addi_spelled rd word rd_in =
    let high : bits (word + 0x800) 31 12 < 2 ^ 20 = omega arith in
    let upper : Instr = Upper Lui rd (bits (word + 0x800) 31 12) in
    let low : Instr = I Addi rd rd (sign_extended 12 (bits word 11 0)) in
    spelled (upper ∷ low ∷ [])
    (All-cons IsEncodable upper (low ∷ []) (rd_in, high)
    (All-cons IsEncodable low [] (rd_in, rd_in, low_immediate word) (All-nil IsEncodable)))

load_spelled : (rd word : ℕ) (short : Bool) → is_short word ≡ short → rd < 32 → (private : List ℕ) × Spell (load_of rd word) private
load_spelled rd word true e rd_in =
    subst (λ is. (private : List ℕ) × Spell is private) (sym (load_of-short rd word e))
    (one (I Addi rd 0 (cast_signed w32 word)) (rd_in, omega arith, short_immediate word e))
load_spelled rd word false e rd_in =
    subst (λ is. (private : List ℕ) × Spell is private) (sym (load_of-long rd word e)) (lui_addi_spelled rd word rd_in)

reached_branch : (offset : ℤ) → is_reached 13 offset ≡ true → IsBranchOffset offset
reached_branch offset e = let p = and_true _ _ e in (within 13 offset (omega arith) p.0, even offset p.1)

reached_jump : (offset : ℤ) → is_reached 21 offset ≡ true → IsJumpOffset offset
reached_jump offset e = let p = and_true _ _ e in (within 21 offset (omega arith) p.0, even offset p.1)

-- the tests of a use of labels
abbrev pub by_uses : Bool → Bool → Option AsmKind
by_uses reach undefined = if reach then Some OutOfRange else (if undefined then Some UndefinedLabel else None)

uses_pass : (reach undefined : Bool) → by_uses reach undefined ≡ None → (reach ≡ false) × (undefined ≡ false)
uses_pass true undefined h = cc
uses_pass false true h = cc
uses_pass false false h = (refl, refl)

code_of : (o : Option ℕ) (code : ℕ → List Instr) → (is_none o || false) ≡ false
    → ((v : ℕ) → o ≡ Some v → (private : List ℕ) × Spell (code v) private) → (private : List ℕ) × IsSomeAnd o (λ v. Spell (code v) private)
code_of None code h f = cc
code_of (Some v) code h f = f v refl

not_false : (b : Bool) → not b ≡ false → b ≡ true
not_false true h = refl
not_false false h = cc

jump_of : (o : Option ℕ) (width address : ℕ) (code : ℕ → Instr)
    → by_uses (option_map_or (λ v. not (is_reached width (offset_to address v))) o false) (is_none o || false) ≡ None
    → ((v : ℕ) → is_reached width (offset_to address v) ≡ true → IsEncodable (code v))
    → (private : List ℕ) × IsSomeAnd o (λ v. Spell (code v ∷ []) private)
jump_of None width address code h f = cc
jump_of (Some v) width address code h f =
    one (code v)
    (f v (not_false (is_reached width (offset_to address v)) (uses_pass (not (is_reached width (offset_to address v))) false h).0))

some_of : (o : Option ℕ) → (is_none o || false) ≡ false → IsSome o
some_of None h = cc
some_of (Some v) h = refl

statement_bytes : (symbols : Symbols) (address : ℕ) (statement : Statement) → IsInRange statement
    → fault_of_use symbols address statement ≡ None
    → (private : List ℕ) × HasBytes symbols address statement private
statement_bytes symbols address (instruction i) r h = one i r
statement_bytes symbols address (float_instruction i) r h =
    let w = the_word i r in (to_le_bytes w32 w.word, (w.word, w.fits, w.only.0, refl))
statement_bytes symbols address (atomic_instruction i) r h =
    let w = the_atomic_word i r in (to_le_bytes w32 w.word, (w.word, w.fits, w.only.0, refl))
statement_bytes symbols address (branch op rs1 rs2 target) r h =
    jump_of (value_of symbols target) 13 address (λ v. Branch op rs1 rs2 (offset_to address v)) h
    (λ v e. (r.0, r.1, reached_branch (offset_to address v) e))
statement_bytes symbols address (jump_and_link rd target) r h =
    jump_of (value_of symbols target) 21 address (λ v. Jal rd (offset_to address v)) h (λ v e. (r.0, reached_jump (offset_to address v) e))
statement_bytes symbols address (load_immediate rd number) r h =
    load_spelled rd (modulo (2 ^ 32) number) (is_short (modulo (2 ^ 32) number)) refl r.0
statement_bytes symbols address (load_address rd target) r h =
    code_of (value_of symbols target) (lui_addi rd) (uses_pass false _ h).1 (λ v e. lui_addi_spelled rd v r.0)
statement_bytes symbols address (words targets) r h = (flat_map (word_bytes symbols) targets, ((uses_pass false _ h).1, refl))
statement_bytes symbols address (halves ns) r h = (flat_map (λ number. to_le_bytes w16 (modulo (2 ^ 16) number)) ns, refl)
statement_bytes symbols address (bytes ns) r h = (map (modulo (2 ^ 8)) ns, refl)
statement_bytes symbols address (ascii text) r h = (text, refl)
statement_bytes symbols address (space number) r h = (replicate number 0, refl)
statement_bytes symbols address (align number) r h = (replicate (size_of (align number) address) 0, refl)
statement_bytes symbols address (entry target) r h = ([], (some_of (value_of symbols target) (uses_pass false _ h).1, refl))

line_bytes : (symbols : Symbols) (address : ℕ) (statement : Option Statement) → IfSome statement IsInRange
    → option_and_then (fault_of_use symbols address) statement ≡ None → (private : List ℕ) × LineHasBytes symbols address statement private
line_bytes symbols address None r h = ([], refl)
line_bytes symbols address (Some statement) r h = statement_bytes symbols address statement r h

fault_parts : (number : ℕ) (fault : Option AsmKind) (others : Option (ℕ × AsmKind))
    → option_or (option_map (λ kind. (number, kind)) fault) others ≡ None → (fault ≡ None) × (others ≡ None)
fault_parts number None others h = (refl, h)
fault_parts number (Some kind) others h = cc

-- lines, and their bytes from an address on
record Laid (extensions : Extensions) (symbols : Symbols) (address : ℕ) (texts : List (List ℕ)) : Type 0 where
  lines : List Line
  bytes : List ℕ
  are_lines : map (line_of extensions) texts ≡ map Ok lines
  laid : AreLaid symbols address lines bytes

module _ (extensions : Extensions)
    (ranges : (text : List ℕ) (line : Line) → line_of extensions text ≡ Ok line → IfSome line.statement IsInRange) where
  lay : (symbols : Symbols) (number address : ℕ) (texts : List (List ℕ)) → AreSound extensions symbols address texts
      → uses_from extensions symbols number address texts ≡ None
      → Laid extensions symbols address texts
  lay symbols number address [] sound uses = record { lines = []; bytes = []; are_lines = refl; laid = refl }
  lay symbols number address (text ∷ rest) sound uses =
      let p = ok_parts (line_of extensions text)
      (λ l. All (λ label. symbols label ≡ Some address) l.labels × (end_of_statement address l.statement ≤ 2 ^ 24))
      sound.0 in
      let says : line_statement (line_of extensions text) ≡ p.0.statement = ap line_statement p.1 in
      let faults = fault_parts number (option_and_then (fault_of_use symbols address) (line_statement (line_of extensions text)))
      (uses_from extensions symbols (number + 1) (end_from address (line_of extensions text)) rest) uses in
      let none : option_and_then (fault_of_use symbols address) p.0.statement ≡ None =
      sym (ap (option_and_then (fault_of_use symbols address)) says) ∙ faults.0 in
      let private = line_bytes symbols address p.0.statement (ranges text p.0 p.1) none in
      let ends : end_from address (line_of extensions text) ≡ address + length private.0 =
      ap (end_of_statement address) says ∙ sym (length-line symbols address p.0.statement private.0 private.1) in
      let more = lay symbols (number + 1) (end_from address (line_of extensions text)) rest sound.1 faults.1 in
      record {
        lines = p.0 ∷ more.lines;
        bytes = private.0 ++ more.bytes;
        are_lines = (λ i. p.1 i ∷ more.are_lines i);
        laid = (private.0, more.bytes, refl, p.2.0, private.1, subst (λ e. AreLaid symbols e more.lines more.bytes) ends more.laid);
      }

  pub some_image : (text : List ℕ) → text_fault extensions text ≡ None → (image : Image) × IsImageOfText extensions text image
  unfolding text_fault
  some_image text h =
      let symbols = symbols_of (places_of extensions text) in
      let parts = none_parts (first_faulty_line fault_alone (places_of extensions text))
      (first_faulty_line (fault_of_uses symbols) (places_of extensions text)) h in
      let l = lay symbols 1 0 (lines_of text) (sound_text extensions symbols text parts.0 (λ q. refl))
      (sym (uses-placed extensions symbols 1 0 (λ _. false) (lines_of text)) ∙ parts.1) in
      let image : Image = record { entry = last_entry symbols 0 l.lines; segments = segments_from_0 l.bytes } in (
        image,
        image-laid extensions text symbols l.bytes image (λ q. refl)
            (record { lines = l.lines; are_lines = l.are_lines; laid = l.laid; entry_is = refl }) refl,
      )
    where
      none_parts : (first second : Option (ℕ × AsmKind)) → option_or first second ≡ None → (first ≡ None) × (second ≡ None)
      none_parts None second e = (refl, e)
      none_parts (Some fault) second e = cc
