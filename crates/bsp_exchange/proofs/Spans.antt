-- Patches that lie within a span.
use Rattle.std.proofs.Common.{ℕ, ◌+◌, ◌-◌, ◌^◌, ◌<◌, ◌≤◌, suc, Bool, List, [], ◌∷◌, length, get_or, ap, ◌∙◌, inl, inr, arith}
use Rattle.std.specs.Prelude.{IsTrue}
use Rattle.std.proofs.lemmas.Bool.{cases_eq}
use Rattle.std.proofs.lemmas.Bool.Decides.{nat_tests}
use Rattle.node_memory.specs.Bytes.{fits}
use Rattle.node_memory.specs.Pages.{HasOneOf, Owns}
use Rattle.node_core.specs.Hart.{Hart, IsHart}
use Rattle.bsp_exchange.specs.declared.span.Span.{Span}
use Rattle.bsp_exchange.specs.Parts.{Patch, OwnsEach}
use Rattle.bsp_exchange.proofs.Patched.{IsPatchAt}

-- so many bytes from an address on lie within a span
abbrev pub IsSpanned : Span → ℕ → ℕ → Type 0
IsSpanned s addr len = (s.low ≤ addr) × (addr + len ≤ s.end)

-- those of the first of some patches do
abbrev pub AreSpannedBelow : Span → List Patch → ℕ → Type 0
AreSpannedBelow s patches i =
    (k : ℕ) (d : Patch) → k < i → k < length patches → IsSpanned s (get_or patches k d).addr (length (get_or patches k d).bytes)

pub spanned_more : {patches : List Patch} {place addr : ℕ} {bytes : List ℕ} (old new : Span) → IsPatchAt patches place addr bytes
    → (new.low ≤ old.low) × (old.end ≤ new.end) → IsSpanned new addr (length bytes) → AreSpannedBelow old patches place
    → AreSpannedBelow new patches (place + 1)
spanned_more {patches} {place} old new p more has below k d less within =
    elim (cases_eq k place) [
      | inl same ↦ rw (ap (λ (j : ℕ). get_or patches j d) same ∙ p.is d) has
      | inr other ↦
          let before = below k d (omega (arith, other)) within in
          (omega (arith, before.0, more.0), omega (arith, before.1, more.1))
    ]

-- where each range within a span is private, patches within it are
pub owns_spanned : (private : List Bool) (s : Span) (patches : List Patch)
    → ((addr len : ℕ) → s.low ≤ addr → addr + len ≤ s.end → Owns private addr len) → AreSpannedBelow s patches (length patches)
    → OwnsEach private patches
owns_spanned private s [] owned all = tt
owns_spanned private s (p ∷ patches) owned all =
    let first = all 0 p (omega arith) (omega arith) in (
      owned p.addr (length p.bytes) first.0 first.1,
      owns_spanned private s patches owned (λ k d less within. all (suc k) d (omega arith) (omega arith)),
    )

-- a range within a span of private pages is private
pub owned_within : (private : List Bool) (s : Span) (addr len : ℕ) → Owns private s.low (s.end - s.low) → s.low ≤ addr → addr + len ≤ s.end
    → Owns private addr len
owned_within private s addr len owns above below = record {
  within = (let whole = owns.within in omega arith);
  pages = λ page (has : HasOneOf addr len page).
      owns.pages page (record {
        some = (let some = has.some in omega arith);
        begins_before_end = (let begins = has.begins_before_end in omega arith);
        ends_after_begin = (let ends = has.ends_after_begin in omega arith);
      });
}

pub end_within : (size addr len : ℕ) → IsTrue (fits size addr len) → addr + len ≤ size
end_within size addr len within = grind (arith, nat_tests)

-- a node's memory has at most 2 ^ 31 bytes
pub memory_most : (h : Hart) → IsHart h → length h.memory ≤ 2 ^ 31
memory_most h sound =
    let size = sound.memory in
    grind (arith, nat_tests)

-- what lies in a memory ends where a word can say
pub ends_below : (size addr len : ℕ) → size ≤ 2 ^ 31 → IsTrue (fits size addr len) → addr + len < 2 ^ 32
ends_below size addr len most within =
    let end : addr + len ≤ size = end_within size addr len within in
    omega (arith, most, end)
