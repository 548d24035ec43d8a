-- Two courses of a superstep: one in which every call reads as early and writes as late as it may, and one in which a byte is written early
-- and read late.
use Rattle.std.proofs.Common.{◌≡◌, ℕ, ◌+◌, ◌-◌, ◌<◌, ◌≤◌, ◌↔◌, ◌==◌, inl, inr, Bool, true, false, not, ◌&&◌, cond, List}
use Rattle.std.proofs.Common.{refl, sym, ap, subst, ◌∙◌, arith}
use Rattle.std.specs.Prelude.{Contains, IsTrue, nat_le, if◌then◌else◌}
use Rattle.std.proofs.lemmas.Bool.{both_ways, cases_Bool, not-true, not-false, and_parts, leb-true, eqb-true}
use Rattle.std.proofs.lemmas.Bool.Decides.{nat_tests}
use Rattle.exposed_bytes.specs.declared.call.Call.{Call}
use Rattle.exposed_bytes.specs.declared.call.Sort.{Sort}
use Rattle.exposed_bytes.specs.declared.call.Sort.TheVariants.{Put, HpPut, Get, HpGet, Send, DirectGet}
use Rattle.exposed_bytes.specs.Exposed.{is_unbuffered, reads_at_call, delivers, is_in_place, is_open, Reads, Writes}
use Rattle.exposed_bytes.specs.Courses.{Moment, Course, IsBefore, IsNoLater, IsFree, Obeys, IsAllowed, MayReadFirst, MayWriteFirst}

-- ---- every call reads as early and writes as late as it may

abbrev at_work : ℕ → Moment
at_work n = record { part = 0; when = n }

abbrev got : Moment
got = record { part = 1; when = 0 }

abbrev put : Moment
put = record { part = 2; when = 0 }

abbrev last : Moment
last = record { part = 2; when = 1 }

abbrev read_early : Sort → Moment → Moment
read_early Put made = made
read_early HpPut made = made
read_early Get made = got
read_early HpGet made = made
read_early Send made = made
read_early DirectGet made = made

abbrev reads_first : Course
reads_first = record {
  made = λ c. at_work c.number;
  read = λ c k. read_early c.sort (at_work c.number);
  written = λ c k. put;
}

obeys_first : (s : Sort) (n : ℕ) → Obeys s (at_work n) (read_early s (at_work n)) put
obeys_first Put n = (refl, refl)
obeys_first HpPut n = (inr (refl, omega arith), inl (omega arith), omega arith)
obeys_first Get n = (refl, refl)
obeys_first HpGet n = (inr (refl, omega arith), inl (omega arith), omega arith)
obeys_first Send n = refl
obeys_first DirectGet n = refl

reads_first-is_allowed : (calls : List Call) → IsAllowed calls reads_first
reads_first-is_allowed calls = record {
  works = λ c there. refl;
  order = λ c d first second same before. inr (refl, before);
  obeys = λ c k there. obeys_first c.sort c.number;
}

early-is_before : (s : Sort) (n : ℕ) → IsBefore (read_early s (at_work n)) put
early-is_before Put n = inl (omega arith)
early-is_before HpPut n = inl (omega arith)
early-is_before Get n = inl (omega arith)
early-is_before HpGet n = inl (omega arith)
early-is_before Send n = inl (omega arith)
early-is_before DirectGet n = inl (omega arith)

may_read_first : (calls : List Call) (addr : ℕ) (reader writer : Call) → MayReadFirst calls addr reader writer
may_read_first calls addr reader writer = (reads_first, reads_first-is_allowed calls, early-is_before reader.sort reader.number)

-- ---- a byte is written early and read late

-- whether a call writes its byte of this number to this place, from elsewhere
abbrev is_early : ℕ → ℕ → Call → ℕ → Bool
is_early rank addr c k = not (is_in_place c) && (c.target_rank == rank && c.target + k == addr)

-- the ranks call one after another, the writer's first
abbrev number_behind : Call → Call → ℕ
number_behind writer c = cond (c.caller == writer.caller) c.number (c.number + (writer.number + 1))

abbrev free_at : Bool → Moment → Moment
free_at early made = cond early made last

abbrev read_late : Sort → Bool → Moment → Moment
read_late Put early made = made
read_late HpPut early made = free_at early made
read_late Get early made = got
read_late HpGet early made = free_at early made
read_late Send early made = made
read_late DirectGet early made = made

abbrev write_early : Sort → Bool → Moment → Moment
write_early Put early made = put
write_early HpPut early made = free_at early made
write_early Get early made = put
write_early HpGet early made = free_at early made
write_early Send early made = put
write_early DirectGet early made = put

abbrev writes_first : ℕ → ℕ → Call → Course
writes_first rank addr writer = record {
  made = λ c. at_work (number_behind writer c);
  read = λ c k. read_late c.sort (is_early rank addr c k) (at_work (number_behind writer c));
  written = λ c k. write_early c.sort (is_early rank addr c k) (at_work (number_behind writer c));
}

is_free : (early : Bool) (n : ℕ) → IsFree (at_work n) (free_at early (at_work n)) (free_at early (at_work n))
is_free true n = (inr (refl, omega arith), inr (refl, omega arith), omega arith)
is_free false n = (inl (omega arith), inr (refl, omega arith), omega arith)

obeys_late : (s : Sort) (early : Bool) (n : ℕ) → Obeys s (at_work n) (read_late s early (at_work n)) (write_early s early (at_work n))
obeys_late Put early n = (refl, refl)
obeys_late HpPut early n = is_free early n
obeys_late Get early n = (refl, refl)
obeys_late HpGet early n = is_free early n
obeys_late Send early n = refl
obeys_late DirectGet early n = refl

behind-order : (writer c d : Call) → c.caller ≡ d.caller → c.number ≤ d.number → number_behind writer c ≤ number_behind writer d
behind-order writer c d same before = grind (arith, nat_tests, same, before)

writes_first-is_allowed : (calls : List Call) (rank addr : ℕ) (writer : Call) → IsAllowed calls (writes_first rank addr writer)
writes_first-is_allowed calls rank addr writer = record {
  works = λ c there. refl;
  order = λ c d first second same before. inr (refl, behind-order writer c d same before);
  obeys = λ c k there. obeys_late c.sort (is_early rank addr c k) (number_behind writer c);
}

-- the writer writes this byte early, and the reader reads it late
early-writer : (rank addr : ℕ) (c : Call) → Writes rank addr c → is_unbuffered c.sort ≡ true → is_early rank addr c (addr - c.target) ≡ true
early-writer rank addr c w free =
    let parts = and_parts (delivers c.sort) (not (is_unbuffered c.sort && is_in_place c)) w.changes in
    let there = w.there in
    let from = w.from in
    let here = parts.1 in
    grind (arith, nat_tests, free, here, there, from)

late-reader : (rank addr : ℕ) (c : Call) → Reads rank addr c → is_early rank addr c (addr - c.source) ≡ false
late-reader rank addr c r =
    let there = r.there in
    let from = r.from in
    grind (arith, nat_tests, there, from)

-- an unbuffered call that writes early comes before what is read late
free-first : (s : Sort) (early later : Bool) (n m : ℕ) → early ≡ false → not (reads_at_call s && later) ≡ true → (later ≡ false → n < m)
    → IsBefore (at_work n) (read_late s early (at_work m))
free-first Put early later n m late apart behind = inr (refl, behind (not-true later apart))
free-first HpPut early later n m late apart behind =
    subst (λ e. IsBefore (at_work n) (free_at e (at_work m))) (sym late) (inl (omega arith))
free-first Get early later n m late apart behind = inl (omega arith)
free-first HpGet early later n m late apart behind =
    subst (λ e. IsBefore (at_work n) (free_at e (at_work m))) (sym late) (inl (omega arith))
free-first Send early later n m late apart behind = inr (refl, behind (not-true later apart))
free-first DirectGet early later n m late apart behind = inr (refl, behind (not-true later apart))

-- what is buffered comes before an unbuffered call that reads late
put-first : (s : Sort) (early : Bool) (m : ℕ) → early ≡ false → is_unbuffered s ≡ true → IsBefore put (read_late s early (at_work m))
put-first Put early m late free = absurd (both_ways false refl free)
put-first HpPut early m late free = subst (λ e. IsBefore put (free_at e (at_work m))) (sym late) (inr (refl, omega arith))
put-first Get early m late free = absurd (both_ways false refl free)
put-first HpGet early m late free = subst (λ e. IsBefore put (free_at e (at_work m))) (sym late) (inr (refl, omega arith))
put-first Send early m late free = absurd (both_ways false refl free)
put-first DirectGet early m late free = absurd (both_ways false refl free)

-- the same, by the writer's sort
written-first : (s t : Sort) (early late later : Bool) (n m : ℕ) → (is_unbuffered s ≡ true → early ≡ true) → late ≡ false
    → (if is_unbuffered s then not (reads_at_call t && later) else is_unbuffered t) ≡ true → (later ≡ false → n < m)
    → IsBefore (write_early s early (at_work n)) (read_late t late (at_work m))
written-first Put t early late later n m soon far free behind = put-first t late m far free
written-first HpPut t early late later n m soon far free behind =
    subst (λ e. IsBefore (free_at e (at_work n)) (read_late t late (at_work m))) (sym (soon refl))
    (free-first t late later n m far free behind)
written-first Get t early late later n m soon far free behind = put-first t late m far free
written-first HpGet t early late later n m soon far free behind =
    subst (λ e. IsBefore (free_at e (at_work n)) (read_late t late (at_work m))) (sym (soon refl))
    (free-first t late later n m far free behind)
written-first Send t early late later n m soon far free behind = put-first t late m far free
written-first DirectGet t early late later n m soon far free behind = put-first t late m far free

called-behind : (reader writer : Call) → (reader.caller == writer.caller && nat_le reader.number writer.number) ≡ false
    → number_behind writer writer < number_behind writer reader
called-behind reader writer apart = grind (arith, nat_tests, apart)

may_write_first : (calls : List Call) (rank addr : ℕ) (reader writer : Call) → Reads rank addr reader → Writes rank addr writer
    → IsTrue (is_open reader writer) → MayWriteFirst calls addr reader writer
may_write_first calls rank addr reader writer read written free = (
  writes_first rank addr writer,
  writes_first-is_allowed calls rank addr writer,
  written-first writer.sort reader.sort (is_early rank addr writer (addr - writer.target))
      (is_early rank addr reader (addr - reader.source))
      (reader.caller == writer.caller && nat_le reader.number writer.number) (number_behind writer writer) (number_behind writer reader)
      (early-writer rank addr writer written) (late-reader rank addr reader read) free (called-behind reader writer),
)

-- ---- where nothing is open, no allowed course has the write first

free-behind : (made read written : Moment) → IsFree made read written → IsNoLater made written
free-behind made read written is = elim is.0 [
  | inl first ↦ elim is.1 [ inl second ↦ inl (omega (arith, first, second)) | inr second ↦ inl (omega (arith, first, second.0)) ]
  | inr first ↦ elim is.1
      [ inl second ↦ inl (omega (arith, first.0, second)) | inr second ↦ inr (first.0 ∙ second.0, omega (arith, first.1, second.1)) ]
]

never-both : (s t : Moment) → IsNoLater s t → IsBefore t s → ⊥
never-both s t first second = elim first [
  | inl one ↦ elim second [ inl other ↦ omega (arith, one, other) | inr other ↦ omega (arith, one, other.0) ]
  | inr one ↦ elim second [ inl other ↦ omega (arith, one.0, other) | inr other ↦ omega (arith, one.1, other.1) ]
]

-- what is read at the call, or at the end of the superstep, is read before anything buffered is written
reads-soon : (s : Sort) (made read written : Moment) → Obeys s made read written → made.part ≡ 0 → is_unbuffered s ≡ false → read.part < 2
reads-soon Put made read written is works free = omega (arith, ap (λ (m : Moment). m.part) is.0, works)
reads-soon HpPut made read written is works free = absurd (both_ways true free refl)
reads-soon Get made read written is works free = omega (arith, is.0)
reads-soon HpGet made read written is works free = absurd (both_ways true free refl)
reads-soon Send made read written is works free = omega (arith, ap (λ (m : Moment). m.part) is, works)
reads-soon DirectGet made read written is works free = omega (arith, ap (λ (m : Moment). m.part) is, works)

read-at_call : (s : Sort) (made read written : Moment) → Obeys s made read written → reads_at_call s ≡ true → read ≡ made
read-at_call Put made read written is soon = is.0
read-at_call HpPut made read written is soon = absurd (both_ways false refl soon)
read-at_call Get made read written is soon = absurd (both_ways false refl soon)
read-at_call HpGet made read written is soon = absurd (both_ways false refl soon)
read-at_call Send made read written is soon = is
read-at_call DirectGet made read written is soon = is

before-end : (s t : Moment) → s.part < 2 → t.part ≡ 2 → IsBefore t s → ⊥
before-end s t soon end before =
    elim before [ inl part ↦ omega (arith, soon, end, part) | inr same ↦ omega (arith, soon, end, same.0) ]

behind-made : (s made made' : Moment) → IsNoLater made' made → IsBefore s made' → IsBefore s made
behind-made s made made' order before = elim order [
  | inl one ↦ elim before [ inl other ↦ inl (omega (arith, one, other)) | inr other ↦ inl (omega (arith, one, other.0)) ]
  | inr one ↦ elim before
      [ inl other ↦ inl (omega (arith, one.0, other)) | inr other ↦ inr (other.0 ∙ one.0, omega (arith, one.1, other.1)) ]
]

-- what was read no later than an unbuffered call was made is read before that writes
behind-free : (made read written made' read' : Moment) → IsFree made read written → IsNoLater made' made → read' ≡ made'
    → IsBefore written read' → ⊥
behind-free made read written made' read' is order at before =
    never-both made written (free-behind made read written is)
    (behind-made written made made' order (subst (IsBefore written) at before))

-- by the writer's sort
never-first : (s t : Sort) (later : Bool) (made read written made' read' written' : Moment) → delivers s ≡ true → Obeys s made read written
    → Obeys t made' read' written' → made'.part ≡ 0 → (later ≡ true → IsNoLater made' made)
    → (if is_unbuffered s then not (reads_at_call t && later) else is_unbuffered t) ≡ false → IsBefore written read' → ⊥
never-first Put t later made read written made' read' written' there is is' works order closed before =
    before-end read' written (reads-soon t made' read' written' is' works closed) is.1 before
never-first HpPut t later made read written made' read' written' there is is' works order closed before =
    let both = and_parts (reads_at_call t) later (not-false (reads_at_call t && later) closed) in
    let at = read-at_call t made' read' written' is' both.0 in
    behind-free made read written made' read' is (order both.1) at before
never-first Get t later made read written made' read' written' there is is' works order closed before =
    before-end read' written (reads-soon t made' read' written' is' works closed) is.1 before
never-first HpGet t later made read written made' read' written' there is is' works order closed before =
    let both = and_parts (reads_at_call t) later (not-false (reads_at_call t && later) closed) in
    let at = read-at_call t made' read' written' is' both.0 in
    behind-free made read written made' read' is (order both.1) at before
never-first Send t later made read written made' read' written' there is is' works order closed before = absurd (both_ways false refl there)
never-first DirectGet t later made read written made' read' written' there is is' works order closed before =
    absurd (both_ways false refl there)

-- of two calls of a rank the first is made no later
made-in_order : (calls : List Call) (course : Course) (reader writer : Call) → IsAllowed calls course → Contains calls reader
    → Contains calls writer → (reader.caller == writer.caller && nat_le reader.number writer.number) ≡ true
    → IsNoLater (course.made reader) (course.made writer)
made-in_order calls course reader writer allowed first second same =
    let parts = and_parts (reader.caller == writer.caller) (nat_le reader.number writer.number) same in
    allowed.order reader writer first second (eqb-true reader.caller writer.caller parts.0) (leb-true reader.number writer.number parts.1)

never-written_first : (calls : List Call) (rank addr : ℕ) (reader writer : Call) → Contains calls reader → Contains calls writer
    → Writes rank addr writer → is_open reader writer ≡ false → MayWriteFirst calls addr reader writer → ⊥
never-written_first calls rank addr reader writer first second written closed (course, allowed, before) =
    never-first writer.sort reader.sort (reader.caller == writer.caller && nat_le reader.number writer.number) (course.made writer)
    (course.read writer (addr - writer.target)) (course.written writer (addr - writer.target)) (course.made reader)
    (course.read reader (addr - reader.source)) (course.written reader (addr - reader.source))
    (and_parts (delivers writer.sort) (not (is_unbuffered writer.sort && is_in_place writer)) written.changes).0
    (allowed.obeys writer (addr - writer.target) second) (allowed.obeys reader (addr - reader.source) first) (allowed.works reader first)
    (made-in_order calls course reader writer allowed first second) closed before

-- so it is open which comes first just where both orders are allowed
pub open-is_both : (calls : List Call) (reader writer : Call) (rank addr : ℕ) → Contains calls reader → Contains calls writer
    → Reads rank addr reader → Writes rank addr writer
    → IsTrue (is_open reader writer) ↔ (MayReadFirst calls addr reader writer × MayWriteFirst calls addr reader writer)
open-is_both calls reader writer rank addr first second read written = (
  λ free. (may_read_first calls addr reader writer, may_write_first calls rank addr reader writer read written free),
  λ both. elim (cases_Bool (is_open reader writer)) [
    | inl free ↦ free
    | inr closed ↦ absurd (never-written_first calls rank addr reader writer first second written closed both.1)
  ],
)
