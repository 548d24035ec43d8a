-- What the matches of `run` say of how it is told.
use Rattle.std.proofs.Common.{◌≡◌, ◌∙◌, Bool, true, false, Option, Some, None, List, codes, sym}
use Rattle.std.specs.Prelude.{IfNone, IfSome, is_some}
use Rattle.clap.specs.Words.{Row, Text, first_of, one_of}
use Rattle.bspemu.specs.Options.{AsksForSeveral, GivesFlag, GivesOutputMode, IsNeverMet, Tells, are_several}
use Rattle.bspemu.specs.declared.options.OutputMode.{OutputMode}
use Rattle.bspemu.proofs.Getters.{one_flag}

-- the flag and the paths that were read are those of the rows
pub record Reads (rows : List Row) (live : Bool) (profile counts contested exposed : Option Text) : Type 0 where
  pub flag : GivesFlag (one_of (codes "live") rows) live
  pub profile_is : profile ≡ first_of (codes "profile") rows
  pub counts_is : counts ≡ first_of (codes "counts") rows
  pub contested_is : contested ≡ first_of (codes "contested") rows
  pub exposed_is : exposed ≡ first_of (codes "exposed") rows

pub output_mode_of_reads : (rows : List Row) (live : Bool) (profile counts contested exposed : Option Text) (r : Option OutputMode)
    → Reads rows live profile counts contested exposed
    → IfSome r (Tells live profile counts contested exposed) → IfSome r (GivesOutputMode rows)
output_mode_of_reads rows live profile counts contested exposed None reads tells = tt
output_mode_of_reads rows live profile counts contested exposed (Some t) reads tells = record {
  live = live;
  flag = reads.flag;
  tells = rw (← reads.profile_is) (rw (← reads.counts_is) (rw (← reads.contested_is) (rw (← reads.exposed_is) tells)));
}

pub no_output_mode_of_reads : (rows : List Row) (live : Bool) (profile counts contested exposed : Option Text) (r : Option OutputMode)
    → Reads rows live profile counts contested exposed
    → IfNone r (IsNeverMet (Tells live profile counts contested exposed)) → IfNone r (IsNeverMet (GivesOutputMode rows))
no_output_mode_of_reads rows live profile counts contested exposed None reads never = λ t gives.
    never t (rw (one_flag live gives.live (one_of (codes "live") rows) reads.flag gives.flag)
    (rw reads.profile_is (rw reads.counts_is (rw reads.contested_is (rw reads.exposed_is gives.tells)))))
no_output_mode_of_reads rows live profile counts contested exposed (Some t) reads never = tt

pub several_of_reads : {M : Type 0} (rows : List Row) (live : Bool) (profile counts contested exposed : Option Text) (r : Option M)
    → Reads rows live profile counts contested exposed
    → IfSome r (λ m. are_several live (is_some profile) (is_some counts) (is_some contested) (is_some exposed) ≡ true) → IfSome r (λ m. AsksForSeveral rows)
several_of_reads rows live profile counts contested exposed None reads several = tt
several_of_reads rows live profile counts contested exposed (Some m) reads several = record {
  live = live;
  flag = reads.flag;
  several = rw (← reads.profile_is) (rw (← reads.counts_is) (rw (← reads.contested_is) (rw (← reads.exposed_is) several)));
}

no_several : (rows : List Row) (live : Bool) (profile counts contested exposed : Option Text) → Reads rows live profile counts contested exposed
    → are_several live (is_some profile) (is_some counts) (is_some contested) (is_some exposed) ≡ false → AsksForSeveral rows → ⊥
no_several rows live profile counts contested exposed reads single asks =
    let flag = one_flag asks.live live (one_of (codes "live") rows) asks.flag reads.flag in
    let there : are_several live (is_some profile) (is_some counts) (is_some contested) (is_some exposed) ≡ true =
    rw (← flag) (rw reads.profile_is (rw reads.counts_is (rw reads.contested_is (rw reads.exposed_is asks.several)))) in
    let bad : true ≡ false = sym there ∙ single in
    cc

pub single_of_reads : {M : Type 0} (rows : List Row) (live : Bool) (profile counts contested exposed : Option Text) (r : Option M)
    → Reads rows live profile counts contested exposed
    → IfNone r (are_several live (is_some profile) (is_some counts) (is_some contested) (is_some exposed) ≡ false) → IfNone r (AsksForSeveral rows → ⊥)
single_of_reads rows live profile counts contested exposed None reads single = no_several rows live profile counts contested exposed reads single
single_of_reads rows live profile counts contested exposed (Some m) reads single = tt
