-- A code has an instruction in one table at most.
use Rattle.std.proofs.Common.{◌≡◌, None, IsSome}
use Rattle.rv_tables.specs.Codes.{decoded}
use Rattle.rv_tables.specs.declared.code.Code.{Code}
use Rattle.rv_tables.specs.declared.code.Code.TheVariants.{Half, Word}
use Rattle.rv_float_tables.specs.Codes.{float_decoded}
use Rattle.rv_float_tables.proofs.CompressedRows as Halves
use Rattle.rv_float_tables.proofs.Spelling as Words

pub none_of_integers : (c : Code) → IsSome (float_decoded c) → decoded c ≡ None
none_of_integers (Half half) some = Halves.none_of_integers half some
none_of_integers (Word word) some = Words.none_of_integers word some
