-- A memory's table of pages in the words of `Shown`.
use Rattle.std.proofs.Common.{◌≡◌, ℕ, ◌<◌, List, length, get_or, set, refl, ap, ◌∙◌}
use Rattle.std.proofs.lemmas.List.{length-set}
use Rattle.std.proofs.lemmas.List.Elements.{All-set}
use Rattle.node_memory.specs.Pages.{PagedMemory}
use Rattle.node_memory.specs.Table.{page_bytes, is_private, table_view, IsTable}
use Rattle.node_memory.specs.declared.page.Page.{Page}
use Rattle.node_memory.proofs.Shown.{Shows, whole-at}

pub table : {A : Type 0} (pages : List (Page A)) (m : PagedMemory) → table_view pages ≡ m → IsTable pages
    → Shows page_bytes is_private pages m
table pages m view h = record { bytes = ap (λ x. x.bytes) view; private = ap (λ x. x.private) view; whole = h.whole; sized = h.sized }

-- another page of as many bytes
pub IsTable-set : {A : Type 0} (pages : List (Page A)) (i : ℕ) (p : Page A) → IsTable pages → length (page_bytes p) ≡ 4096
    → IsTable (set pages i p)
IsTable-set pages i p h long =
    record {
      sized = rw (length-set pages i p) h.sized;
      whole = All-set (λ q. length (page_bytes q) ≡ 4096) pages i p long h.whole;
    }

-- the page at `i`, or one of the same bytes
pub IsTable-same : {A : Type 0} (pages : List (Page A)) (i : ℕ) (x p : Page A) → IsTable pages → i < length pages → x ≡ get_or pages i x
    → page_bytes p ≡ page_bytes x → IsTable (set pages i p)
IsTable-same pages i x p h in' is same = IsTable-set pages i p h (ap length same ∙ whole-at page_bytes pages pages i x h.whole refl in' is)
