-- Both calls are in the list in the other order too.
use Rattle.std.proofs.lemmas.List.Sorted.{Contains-permutation}
use Rattle.exposed_bytes.proofs.laws.an_order_of_calls_does_not_matter.Goals as goal

pub returns : goal.returns
returns c = λ calls others rank addr moved is. (
  is.0,
  is.1,
  Contains-permutation calls others is.0 moved is.2,
  Contains-permutation calls others is.1 moved is.3,
  is.4,
)
