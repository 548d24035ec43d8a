-- What the search has found so far, call by call.
use Rattle.std.proofs.Common.{◌≡◌, ℕ, ◌+◌, ◌<◌, ◌≤◌, inl, inr, true, false, List, length, get_or, sym, ap, subst, ◌∙◌, arith}
use Rattle.std.specs.Prelude.{Contains, nat_lt}
use Rattle.std.specs.List.Sorted.{IsPartitionPoint}
use Rattle.std.proofs.lemmas.Bool.{cases_lt, ltb-true, ltb-false}
use Rattle.std.proofs.lemmas.List.{get_or_default}
use Rattle.exposed_bytes.specs.declared.call.Call.{Call}
use Rattle.exposed_bytes.specs.declared.call.Sort.TheVariants.{Put}
use Rattle.exposed_bytes.specs.declared.exposure.Exposure.{Exposure}
use Rattle.exposed_bytes.specs.Exposed.{Exposes}
use Rattle.exposed_bytes.specs.Found.{IsTold}
use Rattle.exposed_bytes.specs.Search.{AddsFrom, source_key, target_key}

pub AddsFrom-refl : (readers writers : List Call) (found : List Exposure) → AddsFrom readers writers found found
AddsFrom-refl readers writers found = record {
  keeps = λ p q told. told;
  sound = λ calls first second all. all;
  once = λ apart. apart;
}

pub AddsFrom-trans : (readers writers : List Call) (old mid new : List Exposure) → AddsFrom readers writers old mid
    → AddsFrom readers writers mid new → AddsFrom readers writers old new
AddsFrom-trans readers writers old mid new first second = record {
  keeps = λ p q told. second.keeps p q (first.keeps p q told);
  sound = λ calls of_readers of_writers all. second.sound calls of_readers of_writers (first.sound calls of_readers of_writers all);
  once = λ apart. second.once (first.once apart);
}

-- calls of the superstep that are a part of it
pub AddsFrom-within : (readers writers some others : List Call) (old new : List Exposure)
    → ((c : Call) → Contains readers c → Contains some c) → ((c : Call) → Contains writers c → Contains others c)
    → AddsFrom readers writers old new → AddsFrom some others old new
AddsFrom-within readers writers some others old new first second adds = record {
  keeps = adds.keeps;
  sound = λ calls of_readers of_writers.
      adds.sound calls (λ c there. of_readers c (first c there)) (λ c there. of_writers c (second c there));
  once = adds.once;
}

pub contains_at : (calls : List Call) (at : ℕ) (c : Call) → at < length calls → c ≡ get_or calls at c → Contains calls c
contains_at calls at c within is = (at, within, sym is)

-- ---- which calls a reader or a writer is met with

-- of those that begin in the bytes of a call, all up to this one have been told
pub record AreToldWriters (from at : ℕ) (reader : Call) (writers : List Call) (found : List Exposure) : Type 0 where
  pub told : (k rank addr : ℕ) (b : Call) → from ≤ k → k < at → get_or writers k b ≡ b → Exposes rank addr reader b
      → IsTold found reader.place b.place

pub record AreToldReaders (from at : ℕ) (readers : List Call) (writer : Call) (found : List Exposure) : Type 0 where
  pub told : (k rank addr : ℕ) (a : Call) → from ≤ k → k < at → get_or readers k a ≡ a → Exposes rank addr a writer
      → IsTold found a.place writer.place

pub told_writers-more : (from at : ℕ) (reader b : Call) (writers : List Call) (old new : List Exposure) → at < length writers
    → b ≡ get_or writers at b → ((rank addr : ℕ) → Exposes rank addr reader b → IsTold new reader.place b.place)
    → ((p q : ℕ) → IsTold old p q → IsTold new p q) → AreToldWriters from at reader writers old
    → AreToldWriters from (at + 1) reader writers new
told_writers-more from at reader b writers old new within is here keeps before = record {
  told = λ k rank addr c low high there exposes. elim (cases_lt k at) [
    | inl under ↦ keeps reader.place c.place (before.told k rank addr c low under there exposes)
    | inr over ↦
        let at_k : k ≡ at = omega (arith, over, high) in
        let same : c ≡ b = sym there ∙ ap (λ n. get_or writers n c) at_k ∙ get_or_default writers at c b within ∙ sym is in
        subst (λ (d : Call). IsTold new reader.place d.place) (sym same)
        (here rank addr (subst (λ (d : Call). Exposes rank addr reader d) same exposes))
  ];
}

pub told_readers-more : (from at : ℕ) (a writer : Call) (readers : List Call) (old new : List Exposure) → at < length readers
    → a ≡ get_or readers at a → ((rank addr : ℕ) → Exposes rank addr a writer → IsTold new a.place writer.place)
    → ((p q : ℕ) → IsTold old p q → IsTold new p q) → AreToldReaders from at readers writer old
    → AreToldReaders from (at + 1) readers writer new
told_readers-more from at a writer readers old new within is here keeps before = record {
  told = λ k rank addr c low high there exposes. elim (cases_lt k at) [
    | inl under ↦ keeps c.place writer.place (before.told k rank addr c low under there exposes)
    | inr over ↦
        let at_k : k ≡ at = omega (arith, over, high) in
        let same : c ≡ a = sym there ∙ ap (λ n. get_or readers n c) at_k ∙ get_or_default readers at c a within ∙ sym is in
        subst (λ (d : Call). IsTold new d.place writer.place) (sym same)
        (here rank addr (subst (λ (d : Call). Exposes rank addr d writer) same exposes))
  ];
}

-- a writer that begins no earlier than a reader, and exposes bytes with it, begins in the reader's bytes
begins_inside : (rank addr : ℕ) (a b : Call) → Exposes rank addr a b → target_key b < source_key a + a.len
begins_inside rank addr a b exposes =
    omega (arith, exposes.read.there, exposes.written.there, exposes.written.from, exposes.read.to)

begins_within : (rank addr : ℕ) (a b : Call) → Exposes rank addr a b → source_key a < target_key b + b.len
begins_within rank addr a b exposes =
    omega (arith, exposes.read.there, exposes.written.there, exposes.read.from, exposes.written.to)

pub told_writers-all : (from to at : ℕ) (reader : Call) (writers : List Call) (found : List Exposure)
    → IsPartitionPoint (λ c. target_key c < source_key reader) (λ c. source_key reader ≤ target_key c) writers from
    → IsPartitionPoint (λ c. target_key c < source_key reader + reader.len) (λ c. source_key reader + reader.len ≤ target_key c) writers to
    → to ≤ at → AreToldWriters from at reader writers found → (b : Call) (rank addr : ℕ) → Contains writers b
    → Exposes rank addr reader b → source_key reader ≤ target_key b → IsTold found reader.place b.place
told_writers-all from to at reader writers found starts ends whole are b rank addr there exposes behind =
    let k = there.0 in
    let is = there.2 in
    let low : from ≤ k = elim (cases_lt k from) [
      | inl under ↦
          let early = subst (λ (c : Call). target_key c < source_key reader) is (starts.0 k b (omega arith) under) in
          absurd (omega (arith, early, behind))
      | inr over ↦ over
    ] in
    let high : k < to = elim (cases_lt k to) [
      | inl under ↦ under
      | inr over ↦
          let late = subst (λ (c : Call). source_key reader + reader.len ≤ target_key c) is (ends.1 k b over there.1) in
          let inside = begins_inside rank addr reader b exposes in
          absurd (omega (arith, late, inside))
    ] in
    are.told k rank addr b low (omega (arith, high, whole)) is exposes

pub told_readers-all : (from to at : ℕ) (readers : List Call) (writer : Call) (found : List Exposure)
    → IsPartitionPoint (λ c. source_key c < target_key writer) (λ c. target_key writer ≤ source_key c) readers from
    → IsPartitionPoint (λ c. source_key c < target_key writer + writer.len) (λ c. target_key writer + writer.len ≤ source_key c) readers to
    → to ≤ at → AreToldReaders from at readers writer found → (a : Call) (rank addr : ℕ) → Contains readers a
    → Exposes rank addr a writer → target_key writer ≤ source_key a → IsTold found a.place writer.place
told_readers-all from to at readers writer found starts ends whole are a rank addr there exposes behind =
    let k = there.0 in
    let is = there.2 in
    let low : from ≤ k = elim (cases_lt k from) [
      | inl under ↦
          let early = subst (λ (c : Call). source_key c < target_key writer) is (starts.0 k a (omega arith) under) in
          absurd (omega (arith, early, behind))
      | inr over ↦ over
    ] in
    let high : k < to = elim (cases_lt k to) [
      | inl under ↦ under
      | inr over ↦
          let late = subst (λ (c : Call). target_key writer + writer.len ≤ source_key c) is (ends.1 k a over there.1) in
          let inside = begins_within rank addr a writer exposes in
          absurd (omega (arith, late, inside))
    ] in
    are.told k rank addr a low (omega (arith, high, whole)) is exposes

-- a partition by a test is one by what the test says
pub partition-below : (key : Call → ℕ) (calls : List Call) (place at : ℕ)
    → IsPartitionPoint (λ c. nat_lt (key c) place ≡ true) (λ c. nat_lt (key c) place ≡ false) calls at
    → IsPartitionPoint (λ c. key c < place) (λ c. place ≤ key c) calls at
partition-below key calls place at is = (
  λ k d low high. ltb-true (key (get_or calls k d)) place (is.0 k d low high),
  λ k d low high. ltb-false (key (get_or calls k d)) place (is.1 k d low high),
)

-- ---- readers and writers that are met

-- what the readers before this one expose with writers that begin no earlier
pub record AreMetReaders (at : ℕ) (readers writers : List Call) (found : List Exposure) : Type 0 where
  pub told : (k rank addr : ℕ) (a b : Call) → k < at → get_or readers k a ≡ a → Contains writers b → Exposes rank addr a b
      → source_key a ≤ target_key b → IsTold found a.place b.place

pub record AreMetWriters (at : ℕ) (readers writers : List Call) (found : List Exposure) : Type 0 where
  pub told : (k rank addr : ℕ) (a b : Call) → k < at → get_or writers k b ≡ b → Contains readers a → Exposes rank addr a b
      → target_key b ≤ source_key a → IsTold found a.place b.place

pub met_readers-more : (at : ℕ) (r : Call) (readers writers : List Call) (old new : List Exposure) → at < length readers
    → r ≡ get_or readers at r
    → ((b : Call) (rank addr : ℕ) → Contains writers b → Exposes rank addr r b → source_key r ≤ target_key b → IsTold new r.place b.place)
    → ((p q : ℕ) → IsTold old p q → IsTold new p q) → AreMetReaders at readers writers old → AreMetReaders (at + 1) readers writers new
met_readers-more at r readers writers old new within is here keeps before = record {
  told = λ k rank addr a b high there other exposes behind. elim (cases_lt k at) [
    | inl under ↦ keeps a.place b.place (before.told k rank addr a b under there other exposes behind)
    | inr over ↦
        let at_k : k ≡ at = omega (arith, over, high) in
        let same : a ≡ r = sym there ∙ ap (λ n. get_or readers n a) at_k ∙ get_or_default readers at a r within ∙ sym is in
        subst (λ (c : Call). IsTold new c.place b.place) (sym same)
        (here b rank addr other (subst (λ (c : Call). Exposes rank addr c b) same exposes)
        (subst (λ (c : Call). source_key c ≤ target_key b) same behind))
  ];
}

pub met_writers-more : (at : ℕ) (w : Call) (readers writers : List Call) (old new : List Exposure) → at < length writers
    → w ≡ get_or writers at w
    → ((a : Call) (rank addr : ℕ) → Contains readers a → Exposes rank addr a w → target_key w ≤ source_key a → IsTold new a.place w.place)
    → ((p q : ℕ) → IsTold old p q → IsTold new p q) → AreMetWriters at readers writers old → AreMetWriters (at + 1) readers writers new
met_writers-more at w readers writers old new within is here keeps before = record {
  told = λ k rank addr a b high there other exposes behind. elim (cases_lt k at) [
    | inl under ↦ keeps a.place b.place (before.told k rank addr a b under there other exposes behind)
    | inr over ↦
        let at_k : k ≡ at = omega (arith, over, high) in
        let same : b ≡ w = sym there ∙ ap (λ n. get_or writers n b) at_k ∙ get_or_default writers at b w within ∙ sym is in
        subst (λ (c : Call). IsTold new a.place c.place) (sym same)
        (here a rank addr other (subst (λ (c : Call). Exposes rank addr a c) same exposes)
        (subst (λ (c : Call). target_key c ≤ source_key a) same behind))
  ];
}

pub met_readers-kept : (at : ℕ) (readers writers : List Call) (old new : List Exposure)
    → ((p q : ℕ) → IsTold old p q → IsTold new p q) → AreMetReaders at readers writers old → AreMetReaders at readers writers new
met_readers-kept at readers writers old new keeps before = record {
  told = λ k rank addr a b high there other exposes behind.
      keeps a.place b.place (before.told k rank addr a b high there other exposes behind);
}

pub met-all : (at at' : ℕ) (readers writers : List Call) (found : List Exposure) → length readers ≤ at → length writers ≤ at'
    → AreMetReaders at readers writers found → AreMetWriters at' readers writers found → (a b : Call) (rank addr : ℕ) → Contains readers a
    → Contains writers b → Exposes rank addr a b → IsTold found a.place b.place
met-all at at' readers writers found first second readers_met writers_met a b rank addr of_readers of_writers exposes =
    elim (cases_lt (source_key a) (target_key b)) [
      | inl before ↦
          readers_met.told of_readers.0 rank addr a b (omega (arith, first, of_readers.1)) of_readers.2 of_writers exposes
          (omega (arith, before))
      | inr behind ↦
          writers_met.told of_writers.0 rank addr a b (omega (arith, second, of_writers.1)) of_writers.2 of_readers exposes behind
    ]

-- the call at a place of a list
abbrev pub no_call : Call
no_call = record
    { caller = 0; number = 0; sort = Put; place = 0; len = 0; source_rank = 0; source = 0; target_rank = 0; target = 0 }

abbrev pub call_at : List Call → ℕ → Call
call_at calls at = get_or calls at no_call

pub call_at-is : (calls : List Call) (at : ℕ) → at < length calls → call_at calls at ≡ get_or calls at (call_at calls at)
call_at-is calls at within = get_or_default calls at no_call (call_at calls at) within
