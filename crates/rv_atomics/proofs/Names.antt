-- A table of mnemonics finds the instruction with a mnemonic.
use Rattle.std.proofs.Common.{◌≡◌, ℕ, List, map, ◌∙◌}
use Rattle.std.specs.List.{find}
use Rattle.std.specs.Str.{bytes_eq}
use Rattle.std.proofs.lemmas.Iterator.Adapters.{option_map_id}
use Rattle.rv_tables.specs.Names.{named_by}
use Rattle.rv_tables.proofs.RowNames.{named_by-entries}
use Rattle.rv_atomics.specs.declared.instr.AtomicInstr.{AtomicInstr}
use Rattle.rv_atomics.specs.Mnemonics.{atomic_mnemonic_of, atomic_samples, atomic_named}

pub atomic_named-table : (names : List (List ℕ × AtomicInstr)) → names ≡ map (λ i. (atomic_mnemonic_of i, i)) atomic_samples
    → (mnemonic : List ℕ) → named_by names mnemonic ≡ atomic_named mnemonic
unfolding atomic_named
atomic_named-table names same mnemonic =
    rw same (named_by-entries atomic_mnemonic_of (λ i. i) atomic_samples mnemonic
    ∙ option_map_id (find (λ i. bytes_eq (atomic_mnemonic_of i) mnemonic) atomic_samples))
