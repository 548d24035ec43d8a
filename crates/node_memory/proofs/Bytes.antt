-- Lengths of ranges of a memory.
use Rattle.std.proofs.Common.{◌≡◌, ℕ, ◌+◌, ◌<◌, ◌≤◌, List, length, true, false, arith}
use Rattle.std.proofs.lemmas.List.{places}
use Rattle.std.proofs.lemmas.Bool.Decides.{nat_tests}
use Rattle.node_memory.specs.Bytes.{fits, bytes_at}

pub fits-le : (size addr n : ℕ) → fits size addr n ≡ true → addr + n ≤ size
fits-le size addr n fit = grind (arith, nat_tests)

pub fits-true : (size addr n : ℕ) → addr + n ≤ size → fits size addr n ≡ true
fits-true size addr n within = grind (arith, nat_tests)

pub fits-false : (size addr n : ℕ) → size < addr + n → fits size addr n ≡ false
fits-false size addr n past = grind (arith, nat_tests)

pub length-bytes_at : (m : List ℕ) (addr n : ℕ) → fits (length m) addr n ≡ true → length (bytes_at m addr n) ≡ n
length-bytes_at m addr n fit =
    let within : addr + n ≤ length m = fits-le (length m) addr n fit in
    grind (arith, places)
