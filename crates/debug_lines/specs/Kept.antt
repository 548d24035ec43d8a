-- How the states that a debugger keeps are told (own format): a line for each, with its number, its superstep, and where its nodes are.
-- Nodes of ranks in a row that are at the same place are told as one, so that the line of many nodes stays short.
use Rattle.std.specs.Prelude.{ℕ, ◌==◌, if◌then◌else◌, List, [], ◌∷◌, ◌++◌, bytes_eq, codes}
use Rattle.std.specs.Fmt.{decimal}
use Rattle.std.specs.List.{flat_map}
use Rattle.rv_listing.specs.Numerals.{eight_digits}
use Rattle.node_core.specs.Names.{state_name}
use Rattle.node_core.specs.Node.{NodeState}

-- where a node is, without its rank
abbrev pub site : NodeState → List ℕ
site n = codes " pc " ++ eight_digits n.hart.pc ++ codes " state " ++ state_name n.state

-- nodes of some ranks in a row, all of them at one place
pub record Group : Type 0 where
  pub first : ℕ
  pub last : ℕ
  pub site : List ℕ

-- a node by itself
abbrev pub alone : NodeState → Group
alone n = record { first = n.hart.rank; last = n.hart.rank; site = site n }

-- a group and those behind it, of which it takes the first one in where that is at its place
abbrev pub joined : Group → List Group → List Group
joined g [] = g ∷ []
joined g (next ∷ others) = if bytes_eq g.site next.site then record g { last = next.last } ∷ others else g ∷ next ∷ others

-- the groups of nodes in the order of their ranks, as large as can be
abbrev pub groups_of : List NodeState → List Group
groups_of [] = []
groups_of (n ∷ nodes) = joined (alone n) (groups_of nodes)

-- the ranks of a group
abbrev pub ranks_text : (first last : ℕ) → List ℕ
ranks_text first last =
    if first == last then codes ", rank " ++ decimal first else codes ", ranks " ++ decimal first ++ codes " to " ++ decimal last

abbrev pub group_text : Group → List ℕ
group_text g = ranks_text g.first g.last ++ g.site

-- the line of a state that is kept under a number
abbrev pub kept_text : (number superstep : ℕ) → List NodeState → List ℕ
kept_text number superstep nodes =
    codes "kept " ++ decimal number ++ codes " superstep " ++ decimal superstep ++ flat_map group_text (groups_of nodes) ++ codes "\n"
