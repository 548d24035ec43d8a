-- Strings: their length in a line, and what they stand for.
use Rattle.std.proofs.Common.{◌≡◌, ℕ, zero, suc, ◌+◌, ◌-◌, ◌<◌, ◌≤◌, true, false, List, [], ◌∷◌, length, get_or, take, drop, ◌⊎◌, Option}
use Rattle.std.proofs.Common.{Some, None, subst, refl, sym, ap, ◌∙◌, arith, inl, inr}
use Rattle.std.specs.Option.{option_map, option_map_or}
use Rattle.std.specs.Prelude.{if◌then◌else◌, unwrap_or}
use Rattle.std.proofs.lemmas.Bool.{cases_Bool}
use Rattle.std.proofs.lemmas.List.{take_all}
use Rattle.std.proofs.lemmas.Option.{same_Some}
use Rattle.asm_syntax.specs.Bytes.{is_quote, is_backslash, is_plain, escape_value}
use Rattle.asm_syntax.specs.Tokens.{Text, text, token, nothing, text_end, text_from, with_value}
use Rattle.asm_syntax.specs.TokenViews.{unescaped}

-- a string that ends takes its content's bytes and more, up to its end
pub record Spells (line : List ℕ) (t : Text) : Type 0 where
  pub some : 0 < t.len
  pub within : t.len ≤ length line
  pub content : unescaped (take (t.len - 1) line) ≡ t.content

-- a string that begins with `len` bytes for one
abbrev behind : ℕ → ℕ → Text → Text
behind len v u = record { content = v ∷ u.content; len = u.len + len }

no_text : {t : Text} → ◌≡◌ {A = Option Text} None (Some t) → ⊥
no_text h = cc

inverted : (len : ℕ) (value : Option ℕ) (rest : Option Text) (t : Text) → with_value len value rest ≡ Some t
    → (v : ℕ) × (u : Text) × (value ≡ Some v) × (rest ≡ Some u) × (behind len v u ≡ t)
inverted len None rest t h = absurd (no_text h)
inverted len (Some v) None t h = absurd (no_text h)
inverted len (Some v) (Some u) t h = (v, u, refl, refl, same_Some _ _ h)

one_more : (n b : ℕ) (rest : List ℕ) → 0 < n → take (n + 1 - 1) (b ∷ rest) ≡ b ∷ take (n - 1) rest
one_more zero b rest h = absurd (omega arith)
one_more (suc m) b rest h =
    let len : suc m + 1 - 1 ≡ suc m = omega arith in
    let less : suc m - 1 ≡ m = omega arith in
    rw (len, less) refl

two_more : (n b c : ℕ) (rest : List ℕ) → 0 < n → take (n + 2 - 1) (b ∷ c ∷ rest) ≡ b ∷ c ∷ take (n - 1) rest
two_more zero b c rest h = absurd (omega arith)
two_more (suc m) b c rest h =
    let len : suc m + 2 - 1 ≡ suc (suc m) = omega arith in
    let less : suc m - 1 ≡ m = omega arith in
    rw (len, less) refl

-- a byte that begins no escape stands for itself
pub unescaped-itself : (b : ℕ) (more : List ℕ) → is_backslash b ≡ false → unescaped (b ∷ more) ≡ b ∷ unescaped more
unescaped-itself b [] e = refl
unescaped-itself b (c ∷ more) e = rw e refl

pub unescaped-escape : (b c : ℕ) (more : List ℕ) → is_backslash b ≡ true
    → unescaped (b ∷ c ∷ more) ≡ unwrap_or (escape_value c) c ∷ unescaped more
unescaped-escape b c more e = rw e refl

ended : (b : ℕ) (rest : List ℕ) (t : Text) → ◌≡◌ {A = Option Text} (Some text_end) (Some t) → Spells (b ∷ rest) t
ended b rest t h = subst (Spells (b ∷ rest)) (same_Some _ _ h) (record { some = omega arith; within = omega arith; content = refl })

-- a byte that stands for itself
stands_for-itself : (b v : ℕ) → (if is_plain b then Some b else None) ≡ Some v → v ≡ b
stands_for-itself b v e = by_test (cases_Bool (is_plain b)) where
  no_byte : ◌≡◌ {A = Option ℕ} None (Some v) → ⊥
  no_byte h = cc

  by_test : (is_plain b ≡ true) ⊎ (is_plain b ≡ false) → v ≡ b
  by_test (inl plain) = sym (same_Some b v (rw plain at e))
  by_test (inr other) = absurd (no_byte (rw other at e))

escaped : (byte letter : ℕ) (rest : List ℕ) (whole tail : Text) (value : ℕ) → is_backslash byte ≡ true → escape_value letter ≡ Some value
    → Spells rest tail
    → behind 2 value tail ≡ whole → Spells (byte ∷ letter ∷ rest) whole
escaped byte letter rest whole tail value k e h is =
    subst (Spells (byte ∷ letter ∷ rest)) is (record {
      some = omega arith;
      within = omega (arith, h.within);
      content =
          rw (two_more tail.len byte letter rest h.some)
          (unescaped-escape byte letter (take (tail.len - 1) rest) k
          ∙ (ap (λ o. unwrap_or o letter ∷ unescaped (take (tail.len - 1) rest)) e ∙ ap (λ bs. value ∷ bs) h.content));
    })

itself : (byte : ℕ) (rest : List ℕ) (whole tail : Text) (value : ℕ) → is_backslash byte ≡ false → value ≡ byte → Spells rest tail
    → behind 1 value tail ≡ whole
    → Spells (byte ∷ rest) whole
itself byte rest whole tail value k e h is =
    subst (Spells (byte ∷ rest)) is (record {
      some = omega arith;
      within = omega (arith, h.within);
      content =
          rw (one_more tail.len byte rest h.some)
          (unescaped-itself byte (take (tail.len - 1) rest) k
          ∙ (ap (λ w. w ∷ unescaped (take (tail.len - 1) rest)) (sym e) ∙ ap (λ bs. value ∷ bs) h.content));
    })

-- where what is left of a line is as said, the line is
pub text_from-spells : (line : List ℕ) (t : Text) → text_from line ≡ Some t → Spells line t
text_from-spells [] t h = absurd (no_text h)
text_from-spells (b ∷ []) t h = by_quote (cases_Bool (is_quote b)) where
  by_quote : (is_quote b ≡ true) ⊎ (is_quote b ≡ false) → Spells (b ∷ []) t
  by_quote (inl q) = ended b [] t (rw q at h)
  by_quote (inr q) = absurd (no_text (rw q at h))
text_from-spells (b ∷ c ∷ rest) t h =
    by_kind (cases_Bool (is_quote b)) (cases_Bool (is_backslash b)) (text_from-spells rest) (text_from-spells (c ∷ rest)) where
      by_kind : (is_quote b ≡ true) ⊎ (is_quote b ≡ false) → (is_backslash b ≡ true) ⊎ (is_backslash b ≡ false)
          → ((u : Text) → text_from rest ≡ Some u → Spells rest u) → ((u : Text) → text_from (c ∷ rest) ≡ Some u → Spells (c ∷ rest) u)
          → Spells (b ∷ c ∷ rest) t
      by_kind (inl q) _ behind_escape behind_byte = ended b (c ∷ rest) t (rw q at h)
      by_kind (inr q) (inl k) behind_escape behind_byte =
          let (v, u, value, left, is) = inverted 2 (escape_value c) (text_from rest) t (rw (q, k) at h) in
          escaped b c rest t u v k value (behind_escape u left) is
      by_kind (inr q) (inr k) behind_escape behind_byte =
          let (v, u, value, left, is) = inverted 1 (if is_plain b then Some b else None) (text_from (c ∷ rest)) t (rw (q, k) at h) in
          itself b (c ∷ rest) t u v k (stands_for-itself b v value) (behind_byte u left) is

-- the token of a string whose length is known
pub text_token : (rest : List ℕ) (len : ℕ) → Some len ≡ option_map (λ t. t.len) (text_from rest)
    → token (text (unescaped (take (len - 1) rest))) (len + 1)
    ≡ option_map_or (λ t. token (text t.content) (t.len + 1)) (text_from rest) nothing
text_token rest len h = by_text (text_from rest) refl h where
  by_text : (o : Option Text) → text_from rest ≡ o → Some len ≡ option_map (λ t. t.len) o
      → token (text (unescaped (take (len - 1) rest))) (len + 1) ≡ option_map_or (λ t. token (text t.content) (t.len + 1)) o nothing
  by_text None e h = cc
  by_text (Some t) e h = rw (same_Some _ _ h) (ap (λ c. token (text c) (t.len + 1)) (text_from-spells rest t e).content)

-- how many bytes spell a string, counted from the line's beginning: `n` bytes have the line, and `rest` is left
abbrev pub HasLen : ℕ → List ℕ → Option ℕ → Type 0
HasLen n rest whole = (length rest ≤ n) × (option_map (λ t. n - length rest + t.len) (text_from rest) ≡ whole)

no_bytes_on : (n : ℕ) (o : Option Text) → option_map (λ t. n - n + t.len) o ≡ option_map (λ t. t.len) o
no_bytes_on n None = refl
no_bytes_on n (Some t) = ap Some (omega arith)

pub HasLen-init : (line : List ℕ) → HasLen (length line) line (option_map (λ t. t.len) (text_from line))
HasLen-init line = (omega arith, no_bytes_on (length line) (text_from line))

-- the same by the length alone, which is what is left to be found
by_len : (total left : ℕ) (o : Option Text)
    → option_map (λ t. total - left + t.len) o ≡ option_map (λ m. total - left + m) (option_map (λ t. t.len) o)
by_len total left None = refl
by_len total left (Some t) = refl

further_on : (total left less passed : ℕ) (o : Option Text) → left ≤ total → less + passed ≡ left
    → option_map (λ t. total - less + t.len) o ≡ option_map (λ m. total - left + m) (option_map (λ t. t.len + passed) o)
further_on total left less passed None within is = refl
further_on total left less passed (Some t) within is = ap Some (omega arith)

-- some bytes on, which add so many to the length
on : (total : ℕ) (rest left : List ℕ) (whole : Option ℕ) (passed : ℕ) → length left + passed ≡ length rest
    → option_map (λ t. t.len) (text_from rest) ≡ option_map (λ t. t.len + passed) (text_from left) → HasLen total rest whole
    → HasLen total left whole
on total rest left whole passed is step (within, has) = (
  omega (arith, is),
  further_on total (length rest) (length left) passed (text_from left) within is
      ∙ ap (option_map (λ m. total - length rest + m)) (sym step) ∙ sym (by_len total (length rest) (text_from rest)) ∙ has,
)

one_on : (b : ℕ) (o : Option Text) → option_map (λ t. t.len) (with_value 1 (Some b) o) ≡ option_map (λ t. t.len + 1) o
one_on b None = refl
one_on b (Some t) = refl

step-itself : (b : ℕ) (more : List ℕ) → is_quote b ≡ false → is_backslash b ≡ false → is_plain b ≡ true
    → option_map (λ t. t.len) (text_from (b ∷ more)) ≡ option_map (λ t. t.len + 1) (text_from more)
step-itself b [] q k p = rw q refl
step-itself b (c ∷ more) q k p = rw (q, k, p) (one_on b (text_from (c ∷ more)))

-- a byte on
pub HasLen-itself : (total other : ℕ) (rest : List ℕ) (whole : Option ℕ) → 1 ≤ length rest → is_quote (get_or rest 0 other) ≡ false
    → is_backslash (get_or rest 0 other) ≡ false → is_plain (get_or rest 0 other) ≡ true → HasLen total rest whole
    → HasLen total (take (length rest - 1) (drop 1 rest)) whole
HasLen-itself total other [] whole some q k p has = absurd (omega arith)
HasLen-itself total other (b ∷ more) whole some q k p has =
    let all : take (length (b ∷ more) - 1) more ≡ more = take_all (length (b ∷ more) - 1) more (omega arith) in
    rw all (on total (b ∷ more) more whole 1 (omega arith) (step-itself b more q k p) has)

-- an escape on, and none
pub HasLen-escape : (total other : ℕ) (rest left : List ℕ) (whole : Option ℕ) → 1 ≤ length rest → get_or rest 0 other ≡ 92
    → option_map (λ t. t.len) (text_from (92 ∷ take (length rest - 1) (drop 1 rest))) ≡ option_map (λ t. t.len + 2) (text_from left)
    → length left + 1 ≡ length (take (length rest - 1) (drop 1 rest)) → HasLen total rest whole → HasLen total left whole
HasLen-escape total other [] left whole some byte step shorter has = absurd (omega arith)
HasLen-escape total other (b ∷ more) left whole some byte step shorter has =
    let all : take (length (b ∷ more) - 1) more ≡ more = take_all (length (b ∷ more) - 1) more (omega arith) in
    on total (b ∷ more) left whole 2 (omega (arith, rw all at shorter))
    (ap (λ x. option_map (λ t. t.len) (text_from (x ∷ more))) byte ∙ rw all at step) has

pub HasLen-no_escape : (total other : ℕ) (rest : List ℕ) (whole : Option ℕ) → 1 ≤ length rest → get_or rest 0 other ≡ 92
    → option_map (λ t. t.len) (text_from (92 ∷ take (length rest - 1) (drop 1 rest))) ≡ None → HasLen total rest whole → None ≡ whole
HasLen-no_escape total other [] whole some byte step has = absurd (omega arith)
HasLen-no_escape total other (b ∷ more) whole some byte step has =
    let all : take (length (b ∷ more) - 1) more ≡ more = take_all (length (b ∷ more) - 1) more (omega arith) in
    ap (option_map (λ m. total - length (b ∷ more) + m))
    (sym (ap (λ x. option_map (λ t. t.len) (text_from (x ∷ more))) byte ∙ rw all at step))
    ∙ sym (by_len total (length (b ∷ more)) (text_from (b ∷ more))) ∙ has.1

-- where it has none, there is no token
pub no_text_token : (rest : List ℕ) → None ≡ option_map (λ t. t.len) (text_from rest)
    → nothing ≡ option_map_or (λ t. token (text t.content) (t.len + 1)) (text_from rest) nothing
no_text_token rest h = by_text (text_from rest) h where
  by_text : (o : Option Text) → None ≡ option_map (λ t. t.len) o
      → nothing ≡ option_map_or (λ t. token (text t.content) (t.len + 1)) o nothing
  by_text None e = refl
  by_text (Some t) e = cc
