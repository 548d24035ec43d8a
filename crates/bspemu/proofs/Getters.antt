-- What the typed getters of the matches read.
use Rattle.std.proofs.Common.{◌≡◌, ◌<◌, ◌^◌, ℕ, Bool, true, false, List, Option, Some, None, Result, ap, codes, refl, subst, sym, ◌∙◌}
use Rattle.std.specs.Prelude.{IfNone, IfSome}
use Rattle.std.specs.declared.num.ParseIntError.{ParseIntError}
use Rattle.std.specs.declared.str.ParseBoolError.{ParseBoolError}
use Rattle.std.specs.Str.Parse.{ExplainsUnsignedError, HasUnsignedDigitsIfOk, ParsesBool}
use Rattle.std.specs.Str.Parse.{ParsesUnsigned, digits_value, without_leading_plus}
use Rattle.clap.specs.Words.{ReadsOne, Row, one_of, one_text, Text, rows_of}
use Rattle.clap.specs.declared.parser.matches.Found.{Found}
use Rattle.clap.proofs.WalkLemmas.{one_text-rows}
use Rattle.cost_ledger.specs.declared.LedgerText.{LedgerText}
use Rattle.bspemu.specs.Options.{GivesClock, GivesFlag, GivesLedger, GivesNumber, GivesPrices, IsNeverMet, number_of_ledger}

pub none≢some : {t : Text} → ◌≡◌ {A = Option Text} None (Some t) → ⊥
none≢some e = cc

pub same_text : {s t : Text} → Some s ≡ Some t → s ≡ t
same_text e = cc

-- how std reads an unsigned number of k bits
abbrev Parses : ℕ → Text → Result ℕ ParseIntError → Type 0
Parses k bs r = ParsesUnsigned k 10 bs r × ExplainsUnsignedError 10 bs r × HasUnsignedDigitsIfOk bs r

number_of_text : (k n : ℕ) (value : Option Text) → (value ≡ None → Some n ≡ None)
    → ((t : Text) → value ≡ Some t → ReadsOne (Parses k) t (Some n)) → GivesNumber k value n
number_of_text k n None none some =
    let bad : Some n ≡ None = none refl in
    cc
number_of_text k n (Some t) none some =
    let read = (some t refl).0 in
    record { digits = t; is = refl; numeral = read.0.0; number = read.1; fits = rw read.1 read.0.1 }

-- a typed getter gives the number that the text spells
pub number_of_getter : (k n : ℕ) (found : Found) (id : Text) → (one_text found id ≡ None → Some n ≡ None)
    → ((t : Text) → one_text found id ≡ Some t → ReadsOne (Parses k) t (Some n)) → GivesNumber k (one_of id (rows_of found)) n
number_of_getter k n found id none some =
    subst (λ value. GivesNumber k value n) (one_text-rows found id) (number_of_text k n (one_text found id) none some)

no_number_of_text : (k n : ℕ) (value : Option Text) → ((t : Text) → value ≡ Some t → ReadsOne (Parses k) t None) → GivesNumber k value n → ⊥
no_number_of_text k n value some number =
    let read = some number.digits number.is in
    let fits : digits_value 10 (without_leading_plus number.digits) < 2 ^ k = rw (← number.number) number.fits in
    read.1.0 (number.numeral, fits)

-- and where it gives none, the text spells no number of k bits
pub no_number_of_getter : (k n : ℕ) (found : Found) (id : Text)
    → ((t : Text) → one_text found id ≡ Some t → ReadsOne (Parses k) t None) → GivesNumber k (one_of id (rows_of found)) n → ⊥
no_number_of_getter k n found id some number =
    no_number_of_text k n (one_text found id) some (subst (λ value. GivesNumber k value n) (sym (one_text-rows found id)) number)

-- a value spells one number
pub one_number : (k m n : ℕ) (value : Option Text) → GivesNumber k value m → GivesNumber k value n → m ≡ n
one_number k m n value first second =
    let same : first.digits ≡ second.digits = same_text (sym first.is ∙ second.is) in
    first.number ∙ ap (λ (t : Text). digits_value 10 (without_leading_plus t)) same ∙ sym second.number

-- the version of a number, and where it is that of none, no version
pub ledger_of_number : (rows : List Row) (n : ℕ) (r : Option LedgerText) → GivesNumber 32 (one_of (codes "ledger") rows) n
    → IfSome r (λ v. n ≡ number_of_ledger v) → IfSome r (GivesLedger rows)
ledger_of_number rows n None gives is = tt
ledger_of_number rows n (Some v) gives is = subst (λ k. GivesNumber 32 (one_of (codes "ledger") rows) k) is gives

pub no_ledger_of_number : (rows : List Row) (n : ℕ) (r : Option LedgerText) → GivesNumber 32 (one_of (codes "ledger") rows) n
    → IfNone r (IsNeverMet (λ v. n ≡ number_of_ledger v)) → IfNone r (IsNeverMet (GivesLedger rows))
no_ledger_of_number rows n None gives never =
    λ v given. never v (one_number 32 n (number_of_ledger v) (one_of (codes "ledger") rows) gives given)
no_ledger_of_number rows n (Some v) gives never = tt

flag_of_text : (b : Bool) (value : Option Text) → (value ≡ None → Some b ≡ None)
    → ((t : Text) → value ≡ Some t → ReadsOne {E = ParseBoolError} ParsesBool t (Some b)) → GivesFlag value b
flag_of_text b None none some =
    let bad : Some b ≡ None = none refl in
    cc
flag_of_text true (Some t) none some = ap (λ (text : Text). Some text) (some t refl)
flag_of_text false (Some t) none some = ap (λ (text : Text). Some text) (some t refl)

-- so does that of a flag
pub flag_of_getter : (b : Bool) (found : Found) (id : Text) → (one_text found id ≡ None → Some b ≡ None)
    → ((t : Text) → one_text found id ≡ Some t → ReadsOne {E = ParseBoolError} ParsesBool t (Some b))
    → GivesFlag (one_of id (rows_of found)) b
flag_of_getter b found id none some =
    subst (λ value. GivesFlag value b) (one_text-rows found id) (flag_of_text b (one_text found id) none some)

no_flag_of_text : (b : Bool) (value : Option Text)
    → ((t : Text) → value ≡ Some t → ReadsOne {E = ParseBoolError} ParsesBool t None) → GivesFlag value b → ⊥
no_flag_of_text true value some flag = (some (codes "true") flag).1.0 refl
no_flag_of_text false value some flag = (some (codes "false") flag).1.1 refl

pub no_flag_of_getter : (b : Bool) (found : Found) (id : Text)
    → ((t : Text) → one_text found id ≡ Some t → ReadsOne {E = ParseBoolError} ParsesBool t None) → GivesFlag (one_of id (rows_of found)) b
    → ⊥
no_flag_of_getter b found id some flag =
    no_flag_of_text b (one_text found id) some (subst (λ value. GivesFlag value b) (sym (one_text-rows found id)) flag)

-- a value is one flag
pub one_flag : (a b : Bool) (value : Option Text) → GivesFlag value a → GivesFlag value b → a ≡ b
one_flag true true value first second = refl
one_flag false false value first second = refl
one_flag true false value first second =
    let bad : codes "true" ≡ codes "false" = same_text (sym first ∙ second) in
    cc
one_flag false true value first second =
    let bad : codes "false" ≡ codes "true" = same_text (sym first ∙ second) in
    cc

-- where there is no flag, or no prices beside one that is set, there is no clock
pub no_clock_for_flag : (rows : List Row) → ((b : Bool) → GivesFlag (one_of (codes "clock") rows) b → ⊥) → IsNeverMet (GivesClock rows)
no_clock_for_flag rows none None gives = none false gives
no_clock_for_flag rows none (Some p) gives = none true gives.0

pub no_clock_for_prices : (rows : List Row) → GivesFlag (one_of (codes "clock") rows) true → IsNeverMet (GivesPrices rows)
    → IsNeverMet (GivesClock rows)
no_clock_for_prices rows flag never None gives =
    let bad : true ≡ false = one_flag true false (one_of (codes "clock") rows) flag gives in
    cc
no_clock_for_prices rows flag never (Some p) gives = never p gives.1
