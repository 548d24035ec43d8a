-- The statement with a mnemonic is that of the instruction with this mnemonic, or else the one of the language's own.
use Rattle.std.proofs.Common.{◌≡◌, ℕ, true, List, Option, Some, None, map, refl, ◌∙◌, ap}
use Rattle.std.specs.List.{find, list_all}
use Rattle.std.specs.Option.{option_map, option_or}
use Rattle.std.specs.Str.{bytes_eq}
use Rattle.std.proofs.lemmas.Iterator.Adapters.{option_map_id}
use Rattle.std.proofs.lemmas.List.Folds.{find-append}
use Rattle.rv_tables.specs.declared.instr.Instr.{Instr}
use Rattle.rv_tables.specs.declared.instr.Instr.TheVariants.{R, I, Shift, Load, Store, Branch, Upper, Jal, Jalr, Plain}
use Rattle.rv_tables.specs.Mnemonics.{mnemonic_of, row_named, instruction_named}
use Rattle.rv_tables.specs.Names.{named_by}
use Rattle.rv_tables.specs.Rows.{Encoding, encodings}
use Rattle.rv_tables.proofs.Finds.{find-agree, find-map}
use Rattle.rv_tables.proofs.RowNames.{named_by-entries}
use Rattle.asm_syntax.specs.declared.form.Form.{Form}
use Rattle.asm_syntax.specs.Forms.{rule_of, form_of, forms, own_forms, integer_form_named, own_form_named}

-- the statement of an instruction has the instruction's mnemonic
same_mnemonic : (i : Instr) → (rule_of (form_of i)).mnemonic ≡ mnemonic_of i
same_mnemonic (R op rd rs1 rs2) = refl
same_mnemonic (I op rd rs1 imm) = refl
same_mnemonic (Shift op rd rs1 shamt) = refl
same_mnemonic (Load op rd rs1 imm) = refl
same_mnemonic (Store op rs1 rs2 imm) = refl
same_mnemonic (Branch op rs1 rs2 imm) = refl
same_mnemonic (Upper op rd imm) = refl
same_mnemonic (Jal rd imm) = refl
same_mnemonic (Jalr rd rs1 imm) = refl
same_mnemonic (Plain op) = refl

all_rows : list_all (λ (e : Encoding). true) encodings ≡ true
unfolding encodings
all_rows = refl

form_of_row : (o : Option Encoding) → option_map (λ e. form_of (e.read 0)) o ≡ option_map form_of (option_map (λ e. e.read 0) o)
form_of_row None = refl
form_of_row (Some e) = refl

among_rows : (name : List ℕ)
    → find (λ f. bytes_eq (rule_of f).mnemonic name) (map (λ e. form_of (e.read 0)) encodings) ≡ option_map form_of (instruction_named name)
unfolding instruction_named row_named
among_rows name =
    let by_name = λ (e : Encoding). bytes_eq (mnemonic_of (e.read 0)) name in
    let by_rule = λ (e : Encoding). bytes_eq (rule_of (form_of (e.read 0))).mnemonic name in
    let same = find-agree by_rule by_name (λ e. true) encodings (λ e t. ap (λ m. bytes_eq m name) (same_mnemonic (e.read 0))) all_rows in
    find-map (λ e. form_of (e.read 0)) (λ f. bytes_eq (rule_of f).mnemonic name) encodings
    ∙ ap (option_map (λ e. form_of (e.read 0))) same
    ∙ form_of_row (find by_name encodings)

pub integer_form_parts : (name : List ℕ)
    → integer_form_named name ≡ option_or (option_map form_of (instruction_named name)) (own_form_named name)
unfolding integer_form_named own_form_named forms
integer_form_parts name =
    find-append (λ f. bytes_eq (rule_of f).mnemonic name) (map (λ e. form_of (e.read 0)) encodings) own_forms
    ∙ ap (λ o. option_or o (find (λ f. bytes_eq (rule_of f).mnemonic name) own_forms)) (among_rows name)

pub own_form_named-table : (names : List (List ℕ × Form)) → names ≡ map (λ f. ((rule_of f).mnemonic, f)) own_forms → (name : List ℕ)
    → named_by names name ≡ own_form_named name
unfolding own_form_named
own_form_named-table names same name =
    rw same (named_by-entries (λ f. (rule_of f).mnemonic) (λ f. f) own_forms name
    ∙ option_map_id (find (λ f. bytes_eq (rule_of f).mnemonic name) own_forms))
