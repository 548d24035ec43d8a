-- The first fault of a file header, part by part.
use Rattle.std.proofs.Common.{◌≡◌, ℕ, ◌≤◌, true, false, nat_eq, nat_lt, List, ◌++◌, length, Option, Some, None, refl, sym, ap, ◌∙◌, arith}
use Rattle.std.specs.List.{starts_with}
use Rattle.std.specs.Option.{option_or}
use Rattle.std.proofs.lemmas.Bool.Decides.{nat_tests}
use Rattle.elf_image.specs.declared.error.ElfError.{ElfError}
use Rattle.elf_image.specs.declared.error.ElfError.TheVariants.{NotElf, Truncated}
use Rattle.elf_image.specs.Headers.{FileHeader, file_header, elf_magic, ehdr_size}
use Rattle.elf_image.specs.Faults.{first_fault, start_checks, identity_checks, layout_checks, file_header_checks}
use Rattle.elf_image.proofs.Checks.{first_fault-append}

by_parts : (bytes : List ℕ)
    → first_fault (file_header_checks bytes) ≡ option_or (first_fault (start_checks bytes))
    (option_or (first_fault (identity_checks (file_header bytes))) (first_fault (layout_checks (length bytes) (file_header bytes))))
unfolding file_header_checks
by_parts bytes =
    first_fault-append (start_checks bytes) (identity_checks (file_header bytes) ++ layout_checks (length bytes) (file_header bytes))
    ∙ ap (option_or (first_fault (start_checks bytes)))
    (first_fault-append (identity_checks (file_header bytes)) (layout_checks (length bytes) (file_header bytes)))

pub no_magic : (bytes : List ℕ) → starts_with nat_eq bytes elf_magic ≡ false → first_fault (file_header_checks bytes) ≡ Some NotElf
no_magic bytes other =
    let start : first_fault (start_checks bytes) ≡ Some NotElf = rw other refl in by_parts bytes ∙ rw start refl

pub too_short : (bytes : List ℕ) → starts_with nat_eq bytes elf_magic ≡ true → nat_lt (length bytes) ehdr_size ≡ true
    → first_fault (file_header_checks bytes) ≡ Some Truncated
too_short bytes same short =
    let start : first_fault (start_checks bytes) ≡ Some Truncated = rw (same, short) refl in by_parts bytes ∙ rw start refl

-- a file with a header is judged by its fields
by_fields : (bytes : List ℕ) → starts_with nat_eq bytes elf_magic ≡ true → nat_lt (length bytes) ehdr_size ≡ false
    → first_fault (file_header_checks bytes) ≡ option_or (first_fault (identity_checks (file_header bytes)))
    (first_fault (layout_checks (length bytes) (file_header bytes)))
by_fields bytes same long =
    let start : first_fault (start_checks bytes) ≡ None = rw (same, long) refl in by_parts bytes ∙ rw start refl

pub by_identity : (bytes : List ℕ) (h : FileHeader) (e : ElfError) → starts_with nat_eq bytes elf_magic ≡ true → ehdr_size ≤ length bytes
    → h ≡ file_header bytes → Some e ≡ first_fault (identity_checks h) → Some e ≡ first_fault (file_header_checks bytes)
by_identity bytes h e same long is found =
    let short : nat_lt (length bytes) ehdr_size ≡ false = grind (arith, nat_tests) in
    let identity : first_fault (identity_checks (file_header bytes)) ≡ Some e =
    ap (λ (h : FileHeader). first_fault (identity_checks h)) (sym is) ∙ sym found in
    sym (by_fields bytes same short
    ∙ ap (λ (o : Option ElfError). option_or o (first_fault (layout_checks (length bytes) (file_header bytes)))) identity)

pub by_layout : (bytes : List ℕ) (h : FileHeader) (o : Option ElfError) → starts_with nat_eq bytes elf_magic ≡ true
    → ehdr_size ≤ length bytes → h ≡ file_header bytes → None ≡ first_fault (identity_checks h)
    → o ≡ first_fault (layout_checks (length bytes) h) → o ≡ first_fault (file_header_checks bytes)
by_layout bytes h o same long is passed found =
    let short : nat_lt (length bytes) ehdr_size ≡ false = grind (arith, nat_tests) in
    let identity : first_fault (identity_checks (file_header bytes)) ≡ None =
    ap (λ (h : FileHeader). first_fault (identity_checks h)) (sym is) ∙ sym passed in
    let layout : o ≡ first_fault (layout_checks (length bytes) (file_header bytes)) =
    found ∙ ap (λ (h : FileHeader). first_fault (layout_checks (length bytes) h)) is in
    layout ∙ sym
    (by_fields bytes same short
    ∙ ap (λ (o : Option ElfError). option_or o (first_fault (layout_checks (length bytes) (file_header bytes)))) identity)
