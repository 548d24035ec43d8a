-- There is a conflict if, and only if, the options that were read ask for several ways of telling the run.
use Rattle.std.proofs.Common.{◌∙◌, codes}
use Rattle.clap.specs.Words.{found_of, rows_of}
use Rattle.clap.proofs.WalkLemmas.{first_value-rows}
use Rattle.bspemu.specs.Options.{text_of}
use Rattle.bspemu.proofs.Getters.{flag_of_getter, no_flag_of_getter}
use Rattle.bspemu.proofs.OutputModes.{Reads, single_of_reads, several_of_reads}
use Rattle.bspemu.proofs.options.conflict_of_run.Goals as goal

pub returns-clause-some : goal.returns-clause-some
returns-clause-some c =
    let found = found_of c.args.run.now in
    let reads : Reads (rows_of found) _ (text_of c.get_str.result) (text_of c.get_str-2.result) (text_of c.get_str-3.result)
    (text_of c.get_str-4.result) = record {
      flag = flag_of_getter _ found (codes "live") c.in_ok-is_live.ensures.none c.in_ok-is_live.ensures.value;
      profile_is = c.get_str.ensures ∙ first_value-rows found (codes "profile");
      counts_is = c.get_str-2.ensures ∙ first_value-rows found (codes "counts");
      contested_is = c.get_str-3.ensures ∙ first_value-rows found (codes "contested");
      exposed_is = c.get_str-4.ensures ∙ first_value-rows found (codes "exposed");
    } in
    several_of_reads (rows_of found) _ _ _ _ _ c.conflict_of.result reads c.conflict_of.ensures.some

pub returns-clause-none : goal.returns-clause-none
returns-clause-none c =
    let found = found_of c.args.run.now in
    let reads : Reads (rows_of found) _ (text_of c.get_str.result) (text_of c.get_str-2.result) (text_of c.get_str-3.result)
    (text_of c.get_str-4.result) = record {
      flag = flag_of_getter _ found (codes "live") c.in_ok-is_live.ensures.none c.in_ok-is_live.ensures.value;
      profile_is = c.get_str.ensures ∙ first_value-rows found (codes "profile");
      counts_is = c.get_str-2.ensures ∙ first_value-rows found (codes "counts");
      contested_is = c.get_str-3.ensures ∙ first_value-rows found (codes "contested");
      exposed_is = c.get_str-4.ensures ∙ first_value-rows found (codes "exposed");
    } in
    single_of_reads (rows_of found) _ _ _ _ _ c.conflict_of.result reads c.conflict_of.ensures.none

pub returns-in_err-is_live-clause-none : goal.returns-in_err-is_live-clause-none
returns-in_err-is_live-clause-none c =
    rw c.from_residual.ensures
    (λ asks. no_flag_of_getter asks.live (found_of c.args.run.now) (codes "live") c.in_err-is_live.ensures.value asks.flag)
