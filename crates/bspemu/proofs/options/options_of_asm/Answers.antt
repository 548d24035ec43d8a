-- The options are the values that the matches of `asm` have; a value that is missing contradicts the shape of the command.
use Rattle.std.proofs.Common.{◌∙◌, codes, sym}
use Rattle.clap.specs.Words.{found_of}
use Rattle.clap.proofs.WalkLemmas.{first_value-rows}
use Rattle.bspemu.proofs.Getters.{none≢some}
use Rattle.bspemu.proofs.options.options_of_asm.Goals as goal

pub returns-clause-some : goal.returns-clause-some
returns-clause-some c =
    let found = found_of c.args.asm.now in
    record {
      text = sym (c.in_ok-get_str.ensures ∙ first_value-rows found (codes "text"));
      image = sym (c.in_ok-get_str-2.ensures ∙ first_value-rows found (codes "image"));
      extensions = c.in_ok-extensions_of.ensures.some;
    }

pub returns-in_err-get_str-clause-none : goal.returns-in_err-get_str-clause-none
returns-in_err-get_str-clause-none c =
    let row = c.in_err-get_str.ensures ∙ first_value-rows (found_of c.args.asm.now) (codes "text") in
    rw c.from_residual.ensures (λ o gives. none≢some (row ∙ gives.text))

pub returns-in_err-get_str-2-clause-none : goal.returns-in_err-get_str-2-clause-none
returns-in_err-get_str-2-clause-none c =
    let row = c.in_err-get_str-2.ensures ∙ first_value-rows (found_of c.args.asm.now) (codes "image") in
    rw c.from_residual-in_err-get_str-2.ensures (λ o gives. none≢some (row ∙ gives.image))

pub returns-in_err-extensions_of-clause-none : goal.returns-in_err-extensions_of-clause-none
returns-in_err-extensions_of-clause-none c =
    rw c.from_residual-in_err-extensions_of.ensures (λ o gives. c.in_err-extensions_of.ensures.none o.extensions gives.extensions)
