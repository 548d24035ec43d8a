-- A load, and the injection of a sign, are made whatever else their instructions are given.
use Rattle.float_unit.proofs.unit.FloatUnit.apply.Goals as goal

pub returns-in-Load : goal.returns-in-Load
returns-in-Load c = rw (c.in-Load.is) (c.load.ensures c.in-Load.rs1 c.args.x c.in-Load.imm)

pub returns-in-Single-format-3 : goal.returns-in-Single-format-3
returns-in-Single-format-3 c = rw (c.in-Sign.is, c.in-Single-format-3.is) (c.inject_sign.ensures c.args.x c.args.loaded)

pub returns-in-Double-format-3 : goal.returns-in-Double-format-3
returns-in-Double-format-3 c =
    rw (c.in-Sign.is, c.in-Double-format-3.is) (c.inject_sign-in-Double-format-3.ensures c.args.x c.args.loaded)
