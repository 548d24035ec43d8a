-- A signed word, cast to `i32`, is the whole number that the definition rounds.
use Rattle.std.proofs.Common.{rules, ◌≡◌, ◌∙◌, ap, ℤ, of_z, to_z, w32}
use Rattle.rv_float_modes.specs.Operations.{word_in}
use Rattle.float_unit.specs.Values.{whole}
use Rattle.float_unit.proofs.convert.word_otherwise.Goals as goal

pub returns-in-Signed-clause-value : goal.returns-in-Signed-clause-value
returns-in-Signed-clause-value c =
    let number : to_z w32 (of_z w32 c.cast_signed.result) ≡ whole c.args.kind c.args.x = search rules in
    c.word_to_s_in.ensures ∙ ap (λ (n : ℤ). word_in c.args.mode n) number
