-- Five landings, from puts of ranks 0 and 2 and a get of rank 1, all of them in the memory of rank 1.
use Rattle.std.specs.Prelude.{[], ◌∷◌}
use Rattle.bsp_exchange.specs.Landings.{Landing, get_key, put_key}

abbrev pub put_by_0 : Landing
put_by_0 = record { rank = 1; addr = 16; bytes = 1 ∷ 2 ∷ 3 ∷ 4 ∷ []; key = put_key 0 0 }

abbrev pub alike_by_2 : Landing
alike_by_2 = record { rank = 1; addr = 19; bytes = 4 ∷ 5 ∷ []; key = put_key 2 0 }

abbrev pub other_by_2 : Landing
other_by_2 = record { rank = 1; addr = 19; bytes = 9 ∷ 5 ∷ []; key = put_key 2 0 }

abbrev pub behind_by_2 : Landing
behind_by_2 = record { rank = 1; addr = 20; bytes = 5 ∷ 6 ∷ []; key = put_key 2 0 }

abbrev pub get_by_1 : Landing
get_by_1 = record { rank = 1; addr = 16; bytes = 7 ∷ []; key = get_key 1 0 }
