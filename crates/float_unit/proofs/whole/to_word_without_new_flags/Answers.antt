-- What is in range, whole or with NX set, becomes the word of its whole part and sign, and raises no new flag.
use Rattle.std.proofs.Common.{◌≡◌, Bool, true, ◌&&◌, ◌||◌, sym, ap, ◌∙◌, inl, inr}
use Rattle.std.proofs.lemmas.Bool.{and_parts, or_cases}
use Rattle.std.specs.Float.{is_sign_negative}
use Rattle.float_unit.specs.NoNewFlags.{is_in_range, is_whole}
use Rattle.float_unit.specs.Whole.{pattern}
use Rattle.float_unit.proofs.Patterns.{is_of, sign_read}
use Rattle.float_unit.proofs.Words.{raised_none, raised_there, word_is, IsOf}
use Rattle.float_unit.proofs.whole.to_word_without_new_flags.Goals as goal
use lib.Ieee.{of_bits}

pub returns-then-raises_no_new_flags-clause-value : goal.returns-then-raises_no_new_flags-clause-value
returns-then-raises_no_new_flags-clause-value g c =
    let f = g.W.Pattern.format in
    let a = g.W.Pattern.bits c.args.a in
    let n = c.whole_part.result in
    let p = c.whole_part.ensures in
    let both = is_in_range c.args.kind f a && (c.args.flags.nx || is_whole f a) in
    let found_at : both ≡ true = sym {b = both} c.if-raises_no_new_flags.ensures in
    let found = and_parts (is_in_range c.args.kind f a) (c.args.flags.nx || is_whole f a) found_at in
    let of : IsOf c.args.kind (is_sign_negative (of_bits f a)) n = is_of c.args.kind f a n found.0 p.cut p.below p.narrow in
    c.signed.ensures
    ∙ ap (λ (s : Bool). pattern s n) (sign_read f a _ _ c.top.ensures c.to_u64.ensures.value p.cut.finite)
    ∙ sym (word_is c.args.kind f a n p.cut p.short of)

pub returns-then-raises_no_new_flags-clause-flags : goal.returns-then-raises_no_new_flags-clause-flags
returns-then-raises_no_new_flags-clause-flags g c =
    let f = g.W.Pattern.format in
    let a = g.W.Pattern.bits c.args.a in
    let n = c.whole_part.result in
    let p = c.whole_part.ensures in
    let both = is_in_range c.args.kind f a && (c.args.flags.nx || is_whole f a) in
    let found_at : both ≡ true = sym {b = both} c.if-raises_no_new_flags.ensures in
    let found = and_parts (is_in_range c.args.kind f a) (c.args.flags.nx || is_whole f a) found_at in
    let of : IsOf c.args.kind (is_sign_negative (of_bits f a)) n = is_of c.args.kind f a n found.0 p.cut p.below p.narrow in
    elim (or_cases c.args.flags.nx (is_whole f a) found.1) [
      | inl there ↦ raised_there c.args.kind f a n c.args.flags p.cut p.short of there
      | inr whole ↦ raised_none c.args.kind f a n c.args.flags p.cut p.short of (p.whole whole)
    ]
