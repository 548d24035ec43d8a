-- Past register 31 the list of names has none.
use Rattle.std.proofs.Common.{◌≤◌, sym, arith}
use Rattle.std.proofs.lemmas.Option.{slice_get_past}
use Rattle.rv_float_tables.specs.Registers.{convention_names}
use Rattle.rv_float_tables.proofs.registers.float_reg_name.Goals as goal

pub returns-in_default : goal.returns-in_default
unfolding convention_names
returns-in_default c =
    let past : 32 ≤ c.args.number = omega arith in
    sym (slice_get_past convention_names c.args.number past)
