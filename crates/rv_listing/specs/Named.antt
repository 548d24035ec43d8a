-- The statement of a code where instructions of some extensions have their names. No code has an instruction in two of the tables.
use Rattle.std.specs.Prelude.{ℕ, if◌then◌else◌, List, None}
use Rattle.std.specs.Option.{option_map_or}
use Rattle.rv_tables.specs.declared.code.Code.{Code}
use Rattle.rv_float_tables.specs.Codes.{float_decoded}
use Rattle.rv_atomics.specs.declared.extensions.Extensions.{Extensions}
use Rattle.rv_atomics.specs.Codes.{atomic_decoded}
use Rattle.rv_listing.specs.Atomics.{atomic_instruction_text}
use Rattle.rv_listing.specs.Floats.{float_code_text}
use Rattle.rv_listing.specs.Statement.{statement_of}

-- the statement of a code at `addr`: the instruction that it has in floating point or in A, where these are among the extensions, or else
-- what it is without them
unfoldable pub named_statement_of : Extensions → Code → ℕ → List ℕ
named_statement_of extensions code addr =
    option_map_or (float_code_text code) (if extensions.float then float_decoded code else None)
    (option_map_or atomic_instruction_text (if extensions.atomic then atomic_decoded code else None) (statement_of code addr))
