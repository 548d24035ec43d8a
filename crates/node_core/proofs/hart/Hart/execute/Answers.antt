-- Where memory is refused, the code at pc is an instruction that may be refused, of whole numbers or of floating point, and is no store into
-- private pages.
use Rattle.std.proofs.Common.{◌≡◌, ◌%◌, Some, sym, ap, ◌∙◌}
use Rattle.std.specs.Prelude.{option_map}
use Rattle.rv_tables.specs.Codes.{code_in, code_length}
use Rattle.node_core.specs.Executed.{fetched}
use Rattle.node_core.specs.Hart.{PreparedHart}
use Rattle.decode_cache.proofs.Fetch.{code_at_word}
use Rattle.rv_tables.specs.declared.code.Code.TheVariants.{Word}
use Rattle.node_core.proofs.Fetch.{fetched-word}
use Rattle.node_core.proofs.Refused.{may_refuse, may_refuse-float, no_private_store}
use Rattle.node_core.proofs.hart.Hart.execute.Goals.{in-Some, in-None+in-Some-fetch}
use Rattle.node_core.proofs.hart.Hart.execute.Goals as goal

pub returns-clause-refuses : goal.returns-clause-refuses
returns-clause-refuses g c =
    let h = c.args.self.now.hart in
    let pc : c.self.inside.pc ≡ h.pc = ap (λ (p : PreparedHart). p.hart.pc) c.self.view_is in
    let aligned : h.pc % 2 ≡ 0 = rw (← pc) c.if-self-ne0.false in
    let view = ap (λ (p : PreparedHart). fetched p.hart) c.self.view_is in
    let word = c.match-load32_in_page.word in
    let code : Some (code_in word) ≡ fetched h = elim c.match-load32_in_page.branch [
      | in-Some w ↦
          rw w.word-is
          (code_at_word c.self.inside.memory.bytes c.self.inside.pc w.in-Some.word w.in-Some.ensures.value w.in-Some.ensures.low ∙ view)
      | in-None+in-Some-fetch w ↦ rw w.word-is (ap (option_map code_in) (sym w.in-Some-fetch.is) ∙ w.fetch.ensures)
    ] in
    let four : code_length word ≡ 4 = sym c.code_length.ensures ∙ c.if-code_length-ne4.false in
    may_refuse c.effect.result c.args.input.now h (Word word) c.in-Some-decode.instr aligned (fetched-word h word code four)
    (sym c.decode.ensures.value ∙ c.in-Some-decode.is) c.effect.ensures.refuses

pub returns-in_default-clause-refuses : goal.returns-in_default-clause-refuses
returns-in_default-clause-refuses g c =
    let h = c.args.self.now.hart in
    let pc : c.self.inside.pc ≡ h.pc = ap (λ (p : PreparedHart). p.hart.pc) c.self.view_is in
    let aligned : h.pc % 2 ≡ 0 = rw (← pc) c.if-self-ne0.false in
    let view = ap (λ (p : PreparedHart). fetched p.hart) c.self.view_is in
    let word = c.match-load32_in_page.word in
    let code : Some (code_in word) ≡ fetched h = elim c.match-load32_in_page.branch [
      | in-Some w ↦
          rw w.word-is
          (code_at_word c.self.inside.memory.bytes c.self.inside.pc w.in-Some.word w.in-Some.ensures.value w.in-Some.ensures.low ∙ view)
      | in-None+in-Some-fetch w ↦ rw w.word-is (ap (option_map code_in) (sym w.in-Some-fetch.is) ∙ w.fetch.ensures)
    ] in
    let four : code_length word ≡ 4 = sym c.code_length.ensures ∙ c.if-code_length-ne4.false in
    may_refuse-float c.execute_float.result c.args.input.now h (Word word) aligned (fetched-word h word code four)
    (sym c.decode.ensures.value ∙ c.in_default.is) c.execute_float.ensures.refuses

pub returns-clause-shared : goal.returns-clause-shared
returns-clause-shared g c =
    let h = c.args.self.now.hart in
    let view = ap (λ (p : PreparedHart). fetched p.hart) c.self.view_is in
    let word = c.match-load32_in_page.word in
    let code : Some (code_in word) ≡ fetched h = elim c.match-load32_in_page.branch [
      | in-Some w ↦
          rw w.word-is
          (code_at_word c.self.inside.memory.bytes c.self.inside.pc w.in-Some.word w.in-Some.ensures.value w.in-Some.ensures.low ∙ view)
      | in-None+in-Some-fetch w ↦ rw w.word-is (ap (option_map code_in) (sym w.in-Some-fetch.is) ∙ w.fetch.ensures)
    ] in
    let four : code_length word ≡ 4 = sym c.code_length.ensures ∙ c.if-code_length-ne4.false in
    no_private_store c.effect.result c.effect.new.self.private h (Word word) c.in-Some-decode.instr (fetched-word h word code four)
    (sym c.decode.ensures.value ∙ c.in-Some-decode.is) c.effect.ensures.shared
