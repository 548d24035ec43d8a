-- The labels that the assembler keeps, as the symbols that they are.
use Rattle.std.specs.BTreeMap.{get_by}
use Rattle.std.specs.Ordering.{nat_cmp}
use Rattle.std.specs.Cmp.Lexicographic.{slice_cmp}
use Rattle.rv_asm.specs.declared.labels.Labels.{Labels}
use Rattle.rv_asm.specs.Symbols.{Symbols}

abbrev pub symbols : {A : Type 0} → Labels A → Symbols
symbols labels name = get_by (λ k. slice_cmp nat_cmp name k.now) labels.addresses
