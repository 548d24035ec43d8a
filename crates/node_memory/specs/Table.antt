-- The table of pages behind a memory: what a page holds, and what the table shows as the memory's bytes.
use Rattle.std.specs.Prelude.{◌≡◌, ℕ, ◌*◌, Bool, true, false, List, length, map, replicate, IsTrue}
use Rattle.std.specs.List.{All, flat_map}
use Rattle.std.specs.Arc.{arc_value}
use Rattle.node_memory.specs.Bytes.{is_memory_size}
use Rattle.node_memory.specs.Pages.{PagedMemory}
use Rattle.node_memory.specs.declared.page.Page.{Page}
use Rattle.node_memory.specs.declared.page.Page.TheVariants.{Private, Shared}

-- the bytes of a page, whoever has it
abbrev pub page_bytes : {A : Type 0} → Page A → List ℕ
page_bytes (Private b) = b.value.bytes
page_bytes (Shared s) = arc_value s

abbrev pub is_private : {A : Type 0} → Page A → Bool
is_private (Private b) = true
is_private (Shared s) = false

-- a page of zeros that memories share
pub record IsPageOfZeros {A : Type 0} (page : Page A) : Type 0 where
  pub zeros : page_bytes page ≡ replicate 4096 0
  pub shared : is_private page ≡ false

-- the pages' bytes one after another, and which pages are private
abbrev pub table_view : {A : Type 0} → List (Page A) → PagedMemory
table_view pages = record { bytes = flat_map page_bytes pages; private = map is_private pages }

-- each page has 4,096 bytes, and all together a size that memories may have
pub record IsTable {A : Type 0} (pages : List (Page A)) : Type 0 where
  pub sized : IsTrue (is_memory_size (length pages * 4096))
  pub whole : All (λ p. length (page_bytes p) ≡ 4096) pages
