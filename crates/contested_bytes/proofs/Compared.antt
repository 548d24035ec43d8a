-- Two landings compared byte by byte.
use Rattle.std.proofs.Common.{◌≡◌, ℕ, ◌+◌, ◌<◌, ◌≤◌, ◌⊎◌, ◌↔◌, min, inl, inr, List, length, refl, sym, ap, subst, ◌∙◌, arith}
use Rattle.std.specs.Prelude.{◌≢◌, Contains, IsTrue}
use Rattle.std.proofs.lemmas.Bool.{cases_lt}
use Rattle.std.proofs.lemmas.Bool.Decides.{nat_tests}
use Rattle.bsp_exchange.specs.Landings.{Landing, landing_byte}
use Rattle.contested_bytes.specs.declared.range.Contender.{Contender}
use Rattle.contested_bytes.specs.declared.range.ContestedRange.{ContestedRange}
use Rattle.contested_bytes.specs.Contested.{reaches, Differ}
use Rattle.contested_bytes.specs.Ranges.{key_of, Has, IsIn, IsContestedRange}

pub reaches-from : (rank addr : ℕ) (l : Landing) → l.rank ≡ rank → l.addr ≤ addr → addr < l.addr + length l.bytes
    → IsTrue (reaches rank addr l)
reaches-from rank addr l here from to = grind (arith, nat_tests, here, from, to)

pub reaches-rank : (rank addr : ℕ) (l : Landing) → IsTrue (reaches rank addr l) → l.rank ≡ rank
reaches-rank rank addr l is = grind (arith, nat_tests, is)

pub reaches-start : (rank addr : ℕ) (l : Landing) → IsTrue (reaches rank addr l) → l.addr ≤ addr
reaches-start rank addr l is = grind (arith, nat_tests, is)

pub reaches-end : (rank addr : ℕ) (l : Landing) → IsTrue (reaches rank addr l) → addr < l.addr + length l.bytes
reaches-end rank addr l is = grind (arith, nat_tests, is)

-- two landings bring different bytes to an address below this one
pub record DifferBelow (bound rank addr : ℕ) (a b : Landing) : Type 0 where
  pub differ : Differ rank addr a b
  pub below : addr < bound

-- what was found when the addresses below this one were compared
abbrev pub IsFoundBelow : ℕ → Landing → Landing → List ContestedRange → List ContestedRange → Type 0
IsFoundBelow bound a b old found = (rank addr : ℕ) → IsIn found rank addr ↔ (IsIn old rank addr ⊎ DifferBelow bound rank addr a b)

pub below-start : (bound : ℕ) (a b : Landing) (old : List ContestedRange) → bound ≤ b.addr → IsFoundBelow bound a b old old
below-start bound a b old start rank addr = (
  λ here. inl here,
  λ either. elim either
      [ inl here ↦ here | inr new ↦ absurd (omega (arith, start, new.below, reaches-start rank addr b new.differ.second)) ],
)

pub below-same : (bound : ℕ) (a b : Landing) (old found : List ContestedRange) → landing_byte bound a ≡ landing_byte bound b
    → IsFoundBelow bound a b old found → IsFoundBelow (bound + 1) a b old found
below-same bound a b old found same before rank addr = (
  λ here. elim ((before rank addr).0 here)
      [ inl was ↦ inl was | inr new ↦ inr (record { differ = new.differ; below = omega (arith, new.below) }) ],
  λ either. elim either [
    | inl was ↦ (before rank addr).1 (inl was)
    | inr new ↦ elim (cases_lt addr bound) [
      | inl under ↦ (before rank addr).1 (inr (record { differ = new.differ; below = under }))
      | inr over ↦
          let at : addr ≡ bound = omega (arith, over, new.below) in
          absurd (new.differ.bytes (ap (λ n. landing_byte n a) at ∙ same ∙ ap (λ n. landing_byte n b) (sym at)))
    ]
  ],
)

-- a range of the one byte at this address
abbrev pub byte_range : Landing → ℕ → Contender → Contender → ContestedRange
byte_range b bound p q = record { rank = b.rank; addr = bound; len = 1; first = p; second = q }

differ-here : (bound rank addr : ℕ) (a b : Landing) (p q : Contender) → a.rank ≡ b.rank → a.addr ≤ bound → b.addr ≤ bound
    → bound < a.addr + length a.bytes → bound < b.addr + length b.bytes → landing_byte bound a ≢ landing_byte bound b
    → Has (byte_range b bound p q) rank addr → Differ rank addr a b
differ-here bound rank addr a b p q ranks from_a from_b to_a to_b apart has =
    let at : bound ≡ addr = omega (arith, has.1, has.2) in
    subst (λ n. Differ rank n a b) at (record {
      first = reaches-from rank bound a (ranks ∙ has.0) from_a to_a;
      second = reaches-from rank bound b has.0 from_b to_b;
      bytes = apart;
    })

pub below-more : (bound : ℕ) (a b : Landing) (p q : Contender) (old found new : List ContestedRange) → a.rank ≡ b.rank → a.addr ≤ bound
    → b.addr ≤ bound → bound < a.addr + length a.bytes → bound < b.addr + length b.bytes → landing_byte bound a ≢ landing_byte bound b
    → IsFoundBelow bound a b old found
    → ((rank addr : ℕ) → IsIn new rank addr ↔ (IsIn found rank addr ⊎ Has (byte_range b bound p q) rank addr))
    → IsFoundBelow (bound + 1) a b old new
below-more bound a b p q old found new ranks from_a from_b to_a to_b apart before added rank addr = (
  λ here. elim ((added rank addr).0 here) [
    | inl there ↦
        elim ((before rank addr).0 there)
        [ inl was ↦ inl was | inr under ↦ inr (record { differ = under.differ; below = omega (arith, under.below) }) ]
    | inr has ↦
        inr (record { differ = differ-here bound rank addr a b p q ranks from_a from_b to_a to_b apart has; below = omega (arith, has.2) })
  ],
  λ either. elim either [
    | inl was ↦ (added rank addr).1 (inl ((before rank addr).1 (inl was)))
    | inr here ↦ elim (cases_lt addr bound) [
      | inl under ↦ (added rank addr).1 (inl ((before rank addr).1 (inr (record { differ = here.differ; below = under }))))
      | inr over ↦ (added rank addr).1 (inr (reaches-rank rank addr b here.differ.second, omega (arith, over), omega (arith, here.below)))
    ]
  ],
)

pub below-whole : (bound : ℕ) (a b : Landing) (old found : List ContestedRange)
    → min (a.addr + length a.bytes) (b.addr + length b.bytes) ≤ bound → IsFoundBelow bound a b old found → (rank addr : ℕ)
    → IsIn found rank addr ↔ (IsIn old rank addr ⊎ Differ rank addr a b)
below-whole bound a b old found whole before rank addr = (
  λ here. elim ((before rank addr).0 here) [ inl was ↦ inl was | inr under ↦ inr under.differ ],
  λ either. elim either [
    | inl was ↦ (before rank addr).1 (inl was)
    | inr differ ↦ (before rank addr).1 (inr (record {
      differ = differ;
      below = omega (arith, whole, reaches-end rank addr a differ.first, reaches-end rank addr b differ.second);
    }))
  ],
)

-- landings in two memories never differ
pub in_two_memories : (a b : Landing) (old : List ContestedRange) → a.rank ≢ b.rank → (rank addr : ℕ)
    → IsIn old rank addr ↔ (IsIn old rank addr ⊎ Differ rank addr a b)
in_two_memories a b old apart rank addr = (
  λ here. inl here,
  λ either. elim either [
    | inl here ↦ here
    | inr differ ↦ absurd (apart (reaches-rank rank addr a differ.first ∙ sym (reaches-rank rank addr b differ.second)))
  ],
)

pub byte-contested : (bound : ℕ) (all : List Landing) (a b : Landing) (one other : Contender) → Contains all a → Contains all b
    → a.rank ≡ b.rank
    → a.addr ≤ bound → b.addr ≤ bound → bound < a.addr + length a.bytes → bound < b.addr + length b.bytes → key_of one ≡ a.key
    → key_of other ≡ b.key → one.byte ≡ landing_byte bound a → other.byte ≡ landing_byte bound b → one.byte ≢ other.byte
    → IsContestedRange all (byte_range b bound one other)
byte-contested bound all a b one other first second ranks from_a from_b to_a to_b key_p key_q byte_p byte_q apart = record {
  some = omega arith;
  first = (a, first, sym key_p, reaches-from b.rank bound a ranks from_a to_a, sym byte_p);
  second = (b, second, sym key_q, reaches-from b.rank bound b refl from_b to_b, sym byte_q);
  differ = apart;
}
