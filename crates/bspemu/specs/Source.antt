-- Where the bytes of an image, an input or a debugger's lines come from.
use Rattle.std.specs.Prelude.{ℕ, List, [], Option, Some, None, if◌then◌else◌, codes}
use Rattle.std.specs.Str.{bytes_eq}
use Rattle.std.specs.Borrow.{Bor}
use Rattle.bspemu.specs.declared.files.Source.{Source}
use Rattle.bspemu.specs.declared.files.Source.TheVariants.{File, Standard, Closed, Empty}

-- the places that a command line can name
pub data Place : Type 0 where
  file : Place
  standard_input : Place
  nowhere : Place

abbrev pub place_of : {F I : Type 0} → Source F I → Place
place_of (File f) = file
place_of (Standard i) = standard_input
place_of Closed = standard_input
place_of Empty = nowhere

-- the place of an image: `-` is standard input, and every other text the path of a file
abbrev pub image_place : List ℕ → Place
image_place path = if bytes_eq path (codes "-") then standard_input else file

-- the place of an input: a file where there is a path, and else nowhere
abbrev pub input_place : Option (Bor (List ℕ)) → Place
input_place None = nowhere
input_place (Some path) = file

-- the place of a debugger's lines, by the path of its image: standard input, where that is not the image
abbrev pub lines_place : List ℕ → Place
lines_place path = if bytes_eq path (codes "-") then nowhere else standard_input

-- the bytes that a source has left, where its reader says: nowhere has none
abbrev pub bytes_left : {F I : Type 0} → (F → Option (List ℕ)) → (I → Option (List ℕ)) → Source F I → Option (List ℕ)
bytes_left of_file of_input (File f) = of_file f
bytes_left of_file of_input (Standard i) = of_input i
bytes_left of_file of_input Closed = None
bytes_left of_file of_input Empty = Some []
