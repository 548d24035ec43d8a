-- A range within a page lies in the memory if it begins there: a memory has whole pages.
use Rattle.std.proofs.Common.{◌≡◌, ℕ, ◌+◌, ◌*◌, ◌<◌, ◌≤◌, ◌%◌, arith}

pub stand_in_page : (pages size addr len : ℕ) → pages * 4096 ≡ size → addr < size → addr % 4096 + len ≤ 4096 → addr + len ≤ size
stand_in_page pages size addr len whole begins one_page = omega arith
