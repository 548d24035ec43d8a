-- The options are the values that the matches of `list` have; a value that is missing contradicts the shape of the command.
use Rattle.std.proofs.Common.{◌∙◌, ap, codes, List, Some, sym, ℕ}
use Rattle.clap.specs.Words.{found_of}
use Rattle.clap.proofs.WalkLemmas.{first_value-rows}
use Rattle.bspemu.proofs.Getters.{flag_of_getter, no_flag_of_getter, none≢some, same_text}
use Rattle.bspemu.proofs.options.options_of_list.Goals as goal

pub returns-clause-some : goal.returns-clause-some
returns-clause-some c =
    let found = found_of c.args.list.now in
    record {
      image = sym (c.in_ok-get_str.ensures ∙ first_value-rows found (codes "image"));
      format =
          sym (c.in_ok-get_str-2.ensures ∙ first_value-rows found (codes "format"))
          ∙ ap (λ (name : List ℕ). Some name) c.in_ok-format_named.ensures.some.0;
      extensions = c.in_ok-extensions.ensures.some;
      large = flag_of_getter _ found (codes "large") c.in_ok-large.ensures.none c.in_ok-large.ensures.value;
      language = c.in_ok-format_named.ensures.some.1;
    }

pub returns-in_err-extensions-clause-none : goal.returns-in_err-extensions-clause-none
returns-in_err-extensions-clause-none c =
    rw c.from_residual.ensures (λ o gives. c.in_err-extensions.ensures.none o.extensions gives.extensions)

pub returns-in_err-large-clause-none : goal.returns-in_err-large-clause-none
returns-in_err-large-clause-none c =
    rw c.from_residual-in_err-large.ensures
    (λ o gives. no_flag_of_getter o.large (found_of c.args.list.now) (codes "large") c.in_err-large.ensures.value gives.large)

pub returns-in_err-get_str-clause-none : goal.returns-in_err-get_str-clause-none
returns-in_err-get_str-clause-none c =
    let row = c.in_err-get_str.ensures ∙ first_value-rows (found_of c.args.list.now) (codes "image") in
    rw c.from_residual-in_err-get_str.ensures (λ o gives. none≢some (row ∙ gives.image))

pub returns-in_err-get_str-2-clause-none : goal.returns-in_err-get_str-2-clause-none
returns-in_err-get_str-2-clause-none c =
    let row = c.in_err-get_str-2.ensures ∙ first_value-rows (found_of c.args.list.now) (codes "format") in
    rw c.from_residual-in_err-get_str-2.ensures (λ o gives. none≢some (row ∙ gives.format))

pub returns-in_err-format_named-clause-none : goal.returns-in_err-format_named-clause-none
returns-in_err-format_named-clause-none c =
    let row = c.in_ok-get_str-2.ensures ∙ first_value-rows (found_of c.args.list.now) (codes "format") in
    rw c.from_residual-in_err-format_named.ensures (λ o gives. c.in_err-format_named.ensures.none o.format (same_text (row ∙ gives.format)))
