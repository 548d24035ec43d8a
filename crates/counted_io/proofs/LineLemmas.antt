-- Where a line ends: at the first line feed of a text, or at its end where it has none.
use Rattle.std.proofs.Common.{◌≡◌, ◌≢◌, ℕ, ◌+◌, ◌-◌, ◌<◌, ◌≤◌, ◌⊎◌, inl, inr, List, ◌∷◌, ◌++◌, length, drop, get_or, sym, ap, ◌∙◌, arith}
use Rattle.std.proofs.Common.{subst, take-append-drop, length-drop}
use Rattle.std.proofs.Common.{Result, Ok, Err}
use Rattle.std.specs.Result.{IsErr}
use Rattle.std.specs.List.{slice_range}
use Rattle.std.proofs.lemmas.List.{length-take-le, take_rest, drop-drop, drop_more, get_or-take, get_or-drop, get_or_default}
use Rattle.std.proofs.lemmas.Bool.{cases_lt}
use Rattle.counted_io.specs.Lines.{GivesLast, GivesLine, HasFeed, IsFirstFeed, LacksFeed, LacksFeedWithin, LineReaderState}
use Rattle.counted_io.specs.declared.ReadError.{ReadError}

-- a part of a text lacks what the text lacks there
LacksFeed-within : (text : List ℕ) (start end : ℕ) → LacksFeedWithin text start end → end ≤ length text
    → LacksFeed (slice_range text start end)
LacksFeed-within text start end lacks within k d inside =
    let size : length (slice_range text start end) ≡ end - start =
    length-take-le (end - start) (drop start text) (omega (arith, length-drop start text)) in
    let near : k < end - start = omega arith in
    let same : get_or (slice_range text start end) k d ≡ get_or text (start + k) 0 =
    get_or-take (end - start) (drop start text) k d near ∙ get_or-drop start text k d ∙ get_or_default text (start + k) d 0 (omega arith) in
    λ feed. lacks (start + k) (omega arith) (omega arith) (sym same ∙ feed)

-- what stands before a text's first line feed is a line, with the line feed behind it
pub line_before : (text : List ℕ) (start at : ℕ) → IsFirstFeed text start at →
    LacksFeed (slice_range text start at) × (drop start text ≡ slice_range text start at ++ 10 ∷ drop (at + 1) text)
    × (length (slice_range text start at) ≡ at - start)
line_before text start at first =
    let behind : start ≤ at = first.from in
    let within : at < length text = first.within in
    let place : start + (at - start) ≡ at = omega arith in
    let rest : drop (at - start) (drop start text) ≡ 10 ∷ drop (at + 1) text =
    drop-drop (at - start) start text ∙ ap (λ n. drop n text) place ∙ drop_more text at 0 within
    ∙ ap (λ b. b ∷ drop (at + 1) text) first.feed in (
      LacksFeed-within text start at first.first (omega arith),
      sym (take-append-drop (at - start) (drop start text)) ∙ ap (λ l. slice_range text start at ++ l) rest,
      length-take-le (at - start) (drop start text) (omega (arith, length-drop start text)),
    )

-- a text's rest, as a part that ends with it
pub rest_of_text : (text : List ℕ) (start : ℕ) → slice_range text start (length text) ≡ drop start text
rest_of_text text start = take_rest text start

-- a text's rest lacks what the text lacks there
pub LacksFeed-rest : (text : List ℕ) (start : ℕ) → LacksFeedWithin text start (length text) → LacksFeed (drop start text)
LacksFeed-rest text start lacks = rw (rest_of_text text start) at (LacksFeed-within text start (length text) lacks (omega arith))

-- where a line feed of the rest stands in the text
pub feed_of_rest : (text : List ℕ) (start : ℕ) → HasFeed (drop start text)
    → (at : ℕ) × (start ≤ at) × (at < length text) × (get_or text at 0 ≡ 10)
feed_of_rest text start (i, within, feed) =
    (start + i, omega arith, omega (arith, length-drop start text), sym (get_or-drop start text i 0) ∙ feed)

-- a text that lacks line feeds up to some place, and from there on
pub LacksFeed-joined : (text : List ℕ) (start mid end : ℕ) → LacksFeedWithin text start mid → LacksFeedWithin text mid end
    → LacksFeedWithin text start end
LacksFeed-joined text start mid end before behind k begun ends = side (cases_lt k mid) where
  side : (k < mid) ⊎ (mid ≤ k) → get_or text k 0 ≢ 10
  side (inl near) = before k begun near
  side (inr far) = behind k far ends

-- the line before the first line feed is given
pub gives_line : (old new : LineReaderState) (given at : ℕ) → old.given ≡ given → IsFirstFeed new.read given at
    → new.line ≡ slice_range new.read given at → new.given ≡ at + 1 → GivesLine old new
gives_line old new given at same first line after =
    let found = line_before new.read given at first in
    let begun : given ≤ at = first.from in
    record {
      one_line = subst LacksFeed (sym line) found.0;
      first = (drop (at + 1) new.read, ap (λ n. drop n new.read) same ∙ found.1 ∙ ap (λ l. l ++ 10 ∷ drop (at + 1) new.read) (sym line));
      given = omega (arith, ap length line, found.2);
    }

-- what is left is given, where it has some bytes and no line feed
pub gives_last : (old new : LineReaderState) (given : ℕ) → old.given ≡ given → LacksFeedWithin new.read given (length new.read)
    → new.line ≡ slice_range new.read given (length new.read)
    → new.given ≡ length new.read → given < new.given → GivesLast old new
gives_last old new given same lacks line after some =
    let rest : new.line ≡ drop given new.read = line ∙ rest_of_text new.read given in
    record {
      one_line = subst LacksFeed (sym rest) (LacksFeed-rest new.read given lacks);
      last = rest ∙ ap (λ n. drop n new.read) (sym same);
      some = omega (arith, ap length rest, length-drop given new.read);
      given = after;
    }

-- what was found is no error
pub found-no_err : {T : Type 0} (x : T) (e : ReadError) → ◌≡◌ {A = Result T ReadError} (Ok x) (Err e) → ⊥
found-no_err x e h = cc

-- a count that rises twice
pub rises : (a b c : ℕ) → a ≤ b → b ≤ c → a ≤ c
rises a b c first second = omega arith

-- what was refused is no answer
pub refused-no_ok : {T E : Type 0} (answer : Result T E) (x : T) → IsErr answer → answer ≡ Ok x → ⊥
refused-no_ok (Ok y) x refused is = cc
refused-no_ok (Err e) x refused is = cc
