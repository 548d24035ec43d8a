-- What a transfer has moved that goes on after a short read or write, or stops.
use Rattle.std.proofs.Common.{◌≡◌, ℕ, ◌+◌, ◌<◌, ◌≤◌, ◌-◌, List, ◌++◌, length, take, drop, sym, ap, ◌∙◌, subst, arith, append_assoc}
use Rattle.std.proofs.Common.{take-append-drop, length-append, Option}
use Rattle.std.proofs.lemmas.List.{length-take-le, take_rest}
use lib.Seq.{take-append_seam}
use Rattle.std.specs.Io.KnownBytes.{Appends}
use Rattle.counted_io.specs.Transfers.{AppendsPrefix}

-- a short write moves the first n bytes of the rest to what is done
pub split-moved : (all done rest : List ℕ) (n : ℕ) → all ≡ done ++ rest
    → all ≡ (done ++ take n rest) ++ take (length rest - n) (drop n rest)
split-moved all done rest n e =
    e ∙ ap (λ l. done ++ l) (sym (take-append-drop n rest)) ∙ sym (append_assoc done (take n rest) (drop n rest))
    ∙ ap (λ l. (done ++ take n rest) ++ l) (sym (take_rest rest n))

-- what is done before the writer fails is some of the bytes
pub AppendsPrefix-stopped : (old new : Option (List ℕ)) (all done rest : List ℕ) → all ≡ done ++ rest → 0 < length rest
    → Appends old new done → AppendsPrefix old new all
AppendsPrefix-stopped old new all done rest split left appended =
    let front : done ≡ take (length done) all = sym (ap (take (length done)) split ∙ take-append_seam done rest) in
    (length done, omega (arith, ap length split, length-append done rest), subst (Appends old new) front appended)

-- one read passed the room that was left
pub past_room : (bytes chunk : List ℕ) (count room : ℕ) → count ≤ length chunk → room < count
    → length bytes + room < length (bytes ++ take count chunk)
past_room bytes chunk count room got more = omega (arith, length-append bytes (take count chunk), length-take-le count chunk got)
