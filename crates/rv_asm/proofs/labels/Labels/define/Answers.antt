-- A label that is inserted is found at its address, beside all others; one that was there already is a duplicate.
use Rattle.std.proofs.Common.{refl, inr, rules}
use Rattle.std.proofs.lemmas.Map.Text.{btree_map_updates_str}
use Rattle.rv_asm.proofs.labels.Labels.define.Goals as goal

pub returns-in-Ok-None-clause-ok : goal.returns-in-Ok-None-clause-ok
returns-in-Ok-None-clause-ok g c =
    btree_map_updates_str c.args.name.now c.args.self.now.addresses c.insert.new.self _ c.in-Ok-None.ensures.updates

pub returns-in-Ok-Some-clause-err : goal.returns-in-Ok-Some-clause-err
returns-in-Ok-Some-clause-err g c = inr (refl, search rules)
