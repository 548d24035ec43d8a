-- Each of the options is the value that its getter reads; where one is missing, the matches cannot give the options.
use Rattle.std.proofs.Common.{◌∙◌, ap, codes, List, Some, sym, ℕ}
use Rattle.clap.specs.Words.{found_of}
use Rattle.clap.proofs.WalkLemmas.{first_value-rows}
use Rattle.bspemu.proofs.Getters.{no_number_of_getter, none≢some, number_of_getter, same_text}
use Rattle.bspemu.proofs.options.options_of_machine.Goals as goal

pub returns-clause-some : goal.returns-clause-some
returns-clause-some c =
    let found = found_of c.args.found.now in
    record {
      image = sym (c.in_ok-get_str.ensures ∙ first_value-rows found (codes "image"));
      input = sym (c.get_str-2.ensures ∙ first_value-rows found (codes "input"));
      format =
          sym (c.in_ok-get_str-2.ensures ∙ first_value-rows found (codes "format"))
          ∙ ap (λ (name : List ℕ). Some name) c.in_ok-format_named.ensures.some.0;
      ledger = c.in_ok-ledger_of.ensures.some;
      settings = c.in_ok-settings.ensures.some;
      language = c.in_ok-format_named.ensures.some.1;
      g = number_of_getter 32 _ found (codes "g") c.in_ok-get_one.ensures.none c.in_ok-get_one.ensures.value;
      l = number_of_getter 32 _ found (codes "l") c.in_ok-get_one-2.ensures.none c.in_ok-get_one-2.ensures.value;
    }

pub returns-in_err-get_str-clause-none : goal.returns-in_err-get_str-clause-none
returns-in_err-get_str-clause-none c =
    let row = c.in_err-get_str.ensures ∙ first_value-rows (found_of c.args.found.now) (codes "image") in
    rw c.from_residual-in_err-get_str.ensures (λ o gives. none≢some (row ∙ gives.image))

pub returns-in_err-get_str-2-clause-none : goal.returns-in_err-get_str-2-clause-none
returns-in_err-get_str-2-clause-none c =
    let row = c.in_err-get_str-2.ensures ∙ first_value-rows (found_of c.args.found.now) (codes "format") in
    rw c.from_residual-in_err-get_str-2.ensures (λ o gives. none≢some (row ∙ gives.format))

pub returns-in_err-format_named-clause-none : goal.returns-in_err-format_named-clause-none
returns-in_err-format_named-clause-none c =
    let row = c.in_ok-get_str-2.ensures ∙ first_value-rows (found_of c.args.found.now) (codes "format") in
    rw c.from_residual-in_err-format_named.ensures
    (λ o gives. c.in_err-format_named.ensures.none o.job.format (same_text (row ∙ gives.format)))

pub returns-in_err-settings-clause-none : goal.returns-in_err-settings-clause-none
returns-in_err-settings-clause-none c =
    rw c.from_residual.ensures (λ o gives. c.in_err-settings.ensures.none o.job.settings gives.settings)

pub returns-in_err-ledger_of-clause-none : goal.returns-in_err-ledger_of-clause-none
returns-in_err-ledger_of-clause-none c =
    rw c.from_residual-in_err-ledger_of.ensures (λ o gives. c.in_err-ledger_of.ensures.none o.job.ledger gives.ledger)

pub returns-in_err-get_one-clause-none : goal.returns-in_err-get_one-clause-none
returns-in_err-get_one-clause-none c =
    rw c.from_residual-in_err-get_one.ensures
    (λ o gives. no_number_of_getter 32 o.job.g (found_of c.args.found.now) (codes "g") c.in_err-get_one.ensures.value gives.g)

pub returns-in_err-get_one-2-clause-none : goal.returns-in_err-get_one-2-clause-none
returns-in_err-get_one-2-clause-none c =
    rw c.from_residual-in_err-get_one-2.ensures
    (λ o gives. no_number_of_getter 32 o.job.l (found_of c.args.found.now) (codes "l") c.in_err-get_one-2.ensures.value gives.l)
