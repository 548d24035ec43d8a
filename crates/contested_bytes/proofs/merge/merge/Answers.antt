-- A range more that is added has its bytes among those of the merged ones, which stay contested and apart.
use Rattle.std.proofs.lemmas.List.{get_or_default}
use Rattle.contested_bytes.proofs.Merged.{more_bytes, starts_no_later, more_starts, all_bytes}
use Rattle.contested_bytes.proofs.merge.merge.Goals as goal

pub loop-range-preserved : goal.loop-range-preserved
loop-range-preserved g c =
    let found = c.args.found.now in
    let merged = c.loop-range.merged.items in
    let new = c.add_range.new.found.items in
    let i = c.loop-range.range-index in
    let known = c.loop-range.invariant in
    let added = c.in_ok-add_range.ensures in
    record {
      within = added.within;
      bytes =
          more_bytes found merged new i _ c.loop-range-test.true
          (λ d. get_or_default found i _ d c.loop-range-test.true) known.bytes added.bytes;
      contested = λ all contested. added.contested all (known.contested all contested) (contested i _ c.loop-range-test.true);
      apart =
          added.apart known.apart
          (starts_no_later found merged i _ c.loop-range-test.true (λ d. get_or_default found i _ d c.loop-range-test.true) known.starts);
      starts =
          more_starts found merged new i _ (λ d. get_or_default found i _ d c.loop-range-test.true) c.requires.order
          known.starts added.starts;
    }

pub returns-clause-bytes : goal.returns-clause-bytes
returns-clause-bytes g c =
    all_bytes c.args.found.now c.loop-range.merged.items c.loop-range.range-index c.loop-range-test.false c.loop-range.invariant.bytes
