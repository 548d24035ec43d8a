-- What the code's values of kept states stand for.
use Rattle.std.specs.Prelude.{string_bytes}
use Rattle.debug_lines.specs.Kept.{Group}
use Rattle.debug_lines.specs.declared.kept.Group.{Group as GroupCode}

abbrev pub group_value : {B : Type 0} → GroupCode B → Group
group_value g = record { first = g.first; last = g.last; site = string_bytes g.site }
