-- A code has an instruction in one table at most.
use Rattle.std.proofs.Common.{◌≡◌, None, IsSome}
use Rattle.std.proofs.lemmas.Bool.{false≢true}
use Rattle.rv_tables.specs.Codes.{decoded}
use Rattle.rv_tables.specs.declared.code.Code.{Code}
use Rattle.rv_tables.specs.declared.code.Code.TheVariants.{Half, Word}
use Rattle.rv_float_tables.specs.Codes.{float_decoded}
use Rattle.rv_atomics.specs.Codes.{atomic_decoded}
use Rattle.rv_atomics.proofs.Spelling as Words

pub none_of_integers : (c : Code) → IsSome (atomic_decoded c) → decoded c ≡ None
none_of_integers (Half half) some = absurd (false≢true some)
none_of_integers (Word word) some = Words.none_of_integers word some

pub none_of_floats : (c : Code) → IsSome (atomic_decoded c) → float_decoded c ≡ None
none_of_floats (Half half) some = absurd (false≢true some)
none_of_floats (Word word) some = Words.none_of_floats word some
