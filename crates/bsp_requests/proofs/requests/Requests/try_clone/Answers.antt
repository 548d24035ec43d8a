-- Request by request the copies ask what the requests ask, so all of them and the output are those of the node.
use Rattle.std.proofs.Common.{◌≡◌, ℕ, ◌+◌, ◌<◌, ◌≤◌, List, [], ◌∷◌, ◌++◌, length, get_or, map, take, sym, ap, ◌∙◌, subst}
use Rattle.std.proofs.lemmas.List.{map_push, take_all, take_more}
use Rattle.std.proofs.lemmas.Result.{IfOk-from_err}
use Rattle.bsp_requests.specs.Request.{asked}
use Rattle.bsp_requests.specs.Requests.{IsCounted}
use Rattle.bsp_requests.proofs.requests.Requests.try_clone.Goals as goal

pub returns-in_err-requests : goal.returns-in_err-requests
returns-in_err-requests g c = IfOk-from_err _ _ c.from_residual.ensures.0

pub returns-in_err-try_clone : goal.returns-in_err-try_clone
returns-in_err-try_clone g c = IfOk-from_err _ _ c.from_residual-in_err-try_clone.ensures.0

pub returns-in_err-push : goal.returns-in_err-push
returns-in_err-push g c = IfOk-from_err _ _ c.from_residual-in_err-push.ensures.0

pub returns-in_err-from_slice : goal.returns-in_err-from_slice
returns-in_err-from_slice g c = IfOk-from_err _ _ c.from_residual-in_err-from_slice.ensures.0

-- one copy more
more : {X Y : Type 0} (asks : X → Y) (now before items : List X) (place : ℕ) (item copy : X) → map asks before ≡ map asks (take place items)
    → now ≡ before ++ copy ∷ [] → place < length items → item ≡ get_or items place item → asks copy ≡ asks item
    → map asks now ≡ map asks (take (place + 1) items)
more asks now before items place item copy so_far is in' at same =
    ap (map asks) is ∙ map_push asks before copy ∙ ap (λ ys. ys ++ asks copy ∷ []) so_far ∙ ap (λ y. map asks (take place items) ++ y ∷ [])
    (same ∙ ap asks at)
    ∙ sym (map_push asks (take place items) (get_or items place item)) ∙ ap (map asks) (sym (take_more items place item in'))

pub loop-request-preserved : goal.loop-request-preserved
loop-request-preserved g c =
    more asked _ _ _ c.loop-request.request-index c.request-item.result c.in_ok-try_clone.field-0 c.loop-request.invariant
    c.in_ok-push.ensures.items c.loop-request-test.true c.request-item.is c.in_ok-try_clone.ensures

-- all were copied
whole : {X Y : Type 0} (f : X → Y) (copies read items : List X) (i : ℕ) → map f copies ≡ map f (take i read) → length read ≤ i
    → read ≡ items → map f copies ≡ map f items
whole f copies read items i so_far past is = so_far ∙ ap (map f) (take_all i read past ∙ is)

pub invariant_of-result : goal.invariant_of-result
invariant_of-result g c =
    let requests =
    whole asked _ _ _ c.loop-request.request-index c.loop-request.invariant c.loop-request-test.false
    c.as_slice-request-items.ensures.value in
    let output : c.in_ok-from_slice.field-0.items ≡ c.self.inside.output.items = c.in_ok-from_slice.ensures.items ∙ c.deref.ensures.value in
    subst (λ rs. IsCounted (record { requests = rs; output = c.in_ok-from_slice.field-0.items; large = c.self.inside.large }) c.self.inside.bytes) (sym requests)
    (subst (λ o. IsCounted (record { requests = map asked c.self.inside.requests.items; output = o; large = c.self.inside.large }) c.self.inside.bytes)
    (sym output) c.self.invariant)

pub returns : goal.returns
returns g c =
    let requests =
    whole asked _ _ _ c.loop-request.request-index c.loop-request.invariant c.loop-request-test.false
    c.as_slice-request-items.ensures.value in
    let output : c.in_ok-from_slice.field-0.items ≡ c.self.inside.output.items = c.in_ok-from_slice.ensures.items ∙ c.deref.ensures.value in
    ap (λ rs. record { requests = rs; output = c.in_ok-from_slice.field-0.items; large = c.self.inside.large }) requests
    ∙ ap (λ o. record { requests = map asked c.self.inside.requests.items; output = o; large = c.self.inside.large }) output
    ∙ c.self.view_is
