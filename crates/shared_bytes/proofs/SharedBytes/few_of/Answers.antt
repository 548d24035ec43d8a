-- The first `len` of the 22 bytes that were copied are the first `len` of all: a prefix of a prefix.
use Rattle.std.proofs.Common.{take, ap, ◌∙◌}
use Rattle.std.proofs.lemmas.List.{take-take}
use Rattle.shared_bytes.proofs.SharedBytes.few_of.Goals as goal

pub returns : goal.returns
returns g c = ap (take c.args.len) c.copy_from_slice.ensures.after ∙ take-take c.args.len 22 c.args.bytes.now c.requires.few
