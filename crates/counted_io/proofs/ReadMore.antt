-- What one read for a line tells at each exit: of the reader, of the text, and of the count of failures.
use Rattle.std.proofs.Common.{◌≡◌, ℕ, ◌+◌, ◌-◌, ◌<◌, min, max, ◌≤◌, Bool, true, false, List, [], ◌∷◌, ◌++◌, length, take, Option, Result}
use Rattle.std.proofs.Common.{Ok, Err, nat_lt, ap, ◌∙◌, arith, append-nil, length-append}
use Rattle.std.proofs.lemmas.List.{length-take-le, take-append-le}
use Rattle.std.proofs.lemmas.Bool.{ltb-true, ltb-false}
use Rattle.std.specs.Prelude.{OnErr, OnOk}
use Rattle.std.specs.Io.KnownBytes.{Consumes, IsAtEnd, Keeps}
use Rattle.counted_io.specs.Counted.{CountedState, HasRisen}
use Rattle.counted_io.specs.Lines.{ReadsOn}
use Rattle.counted_io.specs.declared.ReadError.{ReadError}
use Rattle.counted_io.specs.declared.ReadError.TheVariants.{NoMemory, ReadFault, TooLong}

module _ {S : Type 0} (rest : S → Option (List ℕ)) (old_from new_from : CountedState S) (old new : List ℕ) (most : ℕ) where
  abbrev pub Told : Result Bool ReadError → Type 0
  Told result = record {
    some : result ≡ Ok true → length old < length new;
    none : result ≡ Ok false → (new ≡ old) × IsAtEnd (rest new_from.inner);
    bytes : OnOk result (ReadsOn (rest old_from.inner) (rest new_from.inner) old new);
    too_long : result ≡ Err TooLong → (length old ≡ most) × ((byte : ℕ) × Consumes (rest old_from.inner) (rest new_from.inner) (byte ∷ []));
    fault : result ≡ Err ReadFault → HasRisen old_from.failures new_from.failures × Keeps (rest old_from.inner) (rest new_from.inner);
    no_memory : result ≡ Err NoMemory → new_from ≡ old_from;
    err : OnErr result (new ≡ old);
    limit : length new ≤ most;
    never_falls : old_from.failures ≤ new_from.failures;
  }

  -- memory was refused before the read
  pub at_no_memory : (result : Result Bool ReadError) → result ≡ Err NoMemory → new ≡ old → new_from ≡ old_from → length old ≤ most
      → Told result
  at_no_memory result is same unread within = rw is (record {
    some = λ e. absurd (cc);
    none = λ e. absurd (cc);
    bytes = tt;
    too_long = λ e. absurd (cc);
    fault = λ e. absurd (cc);
    no_memory = λ _. unread;
    err = same;
    limit = rw same within;
    never_falls = omega (arith, ap (λ f. f.failures) unread);
  })

  -- the reader failed
  pub at_fault : (result : Result Bool ReadError) → result ≡ Err ReadFault → new ≡ old → HasRisen old_from.failures new_from.failures
      → Keeps (rest old_from.inner) (rest new_from.inner)
      → old_from.failures ≤ new_from.failures → length old ≤ most → Told result
  at_fault result is same risen kept rises within = rw is (record {
    some = λ e. absurd (cc);
    none = λ e. absurd (cc);
    bytes = tt;
    too_long = λ e. absurd (cc);
    fault = λ _. (risen, kept);
    no_memory = λ e. absurd (cc);
    err = same;
    limit = rw same within;
    never_falls = rises;
  })

  -- the reader gave some bytes, or came to its end
  pub at_ok : (count : ℕ) (chunk behind mid : List ℕ) → count ≤ length chunk → 0 < length chunk
      → Consumes (rest old_from.inner) (rest new_from.inner) (take count chunk)
      → (count ≡ 0 → 0 < length chunk → IsAtEnd (rest new_from.inner)) → mid ≡ old → new ≡ mid ++ take count (chunk ++ behind)
      → length old ≤ most → count ≤ most - length old
      → old_from.failures ≤ new_from.failures → Told (Ok (nat_lt 0 count))
  at_ok count chunk behind mid within any consumed ends same grown limit fits rises =
      let bytes : new ≡ old ++ take count chunk =
      grown ∙ ap (λ l. l ++ take count (chunk ++ behind)) same ∙ ap (λ l. old ++ l) (take-append-le count chunk behind within) in
      let size : length (take count chunk) ≡ count = length-take-le count chunk within in
      record {
        some = λ e. let more : 0 < count = ltb-true _ _ (cc) in omega (arith, ap length bytes, length-append old (take count chunk));
        none = λ e. let none : count ≡ 0 = omega (arith, ltb-false 0 count (cc)) in
            (bytes ∙ ap (λ n. old ++ take n chunk) none ∙ append-nil old, ends none any);
        bytes = (take count chunk, consumed, bytes);
        too_long = λ e. absurd (cc);
        fault = λ e. absurd (cc);
        no_memory = λ e. absurd (cc);
        err = tt;
        limit = omega (arith, ap length bytes, length-append old (take count chunk));
        never_falls = rises;
      }

-- what was asked for before the read is enough for what is appended
pub never_refused : (most len least clamped count : ℕ) (chunk behind : List ℕ) (held capacity : ℕ) → held + least ≤ capacity
    → capacity < held + length (take count (chunk ++ behind))
    → least ≡ min (most - len) 4096 → clamped ≡ max 1 (min (most - len) 4096) → count ≤ length chunk → length chunk ≡ clamped
    → count ≤ most - len → ⊥
never_refused most len least clamped count chunk behind held capacity reserved refused asked bounds got size fits =
    let taken : length (take count (chunk ++ behind)) ≡ count =
    ap length (take-append-le count chunk behind got) ∙ length-take-le count chunk got in
    omega (arith)

-- each read asks for some bytes
pub some_room : (most len clamped : ℕ) (chunk : List ℕ) → clamped ≡ max 1 (min (most - len) 4096) → length chunk ≡ clamped
    → 0 < length chunk
some_room most len clamped chunk bounds size = omega (arith)
