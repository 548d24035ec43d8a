-- A put, a get and a send each change the parts and the loads as the definitions say, and a put or get that is added keeps to its area.
use Rattle.std.proofs.Common.{◌≡◌, ℕ, ◌<◌, ◌≤◌, ◌^◌, List, length, Fits, w16, ap, sym, subst, ◌∙◌, arith}
use Rattle.std.specs.Prelude.{is_none}
use Rattle.std.proofs.lemmas.Result.{IfOk-from_err}
use Rattle.bsp_requests.specs.Outgoing.{Outgoing}
use Rattle.bsp_requests.specs.Put.{Put}
use Rattle.bsp_requests.specs.Request.{Asked, asked, asks_put, asks_get, asks_send, size_of}
use Rattle.node_core.specs.Hart.{max_nodes}
use Rattle.node_core.specs.Node.{NodeState}
use Rattle.bsp_exchange.specs.declared.traffic.Load.{Load}
use Rattle.bsp_exchange.specs.Exchange.{states}
use Rattle.bsp_exchange.specs.Faults.{is_outside, leaves_area}
use Rattle.bsp_exchange.specs.Arrivals.{Received, with_asked, with_put}
use Rattle.bsp_exchange.specs.Loads.{with_transfer}
use Rattle.bsp_exchange.specs.Parts.{changed_at, target_of}
use Rattle.bsp_exchange.specs.Traffic.{transfer}
use Rattle.bsp_exchange.proofs.gather.add_request.Goals as goal

-- a place that is there, in a row of as many
there : (k n m : ℕ) → k < n → m ≡ n → k < m
there k n m less same = subst (λ (x : ℕ). k < x) (sym same) less

-- the target of what is asked for is there, and its size within the limit
target_there : (p a : Asked) (n m : ℕ) → p ≡ a → target_of a < n → m ≡ n → target_of p < m
target_there p a n m is less same = there (target_of p) n m (subst (λ (x : Asked). target_of x < n) (sym is) less) same

size_within : (p a : Asked) (bytes most : ℕ) → p ≡ a → bytes ≡ size_of p → size_of a ≤ most → bytes ≤ most
size_within p a bytes most is of within = subst (λ (k : ℕ). k ≤ most) (sym (of ∙ ap size_of is)) within

-- a rank as a word
fits_16 : (k n : ℕ) → k < n → n ≤ max_nodes → Fits w16 k
fits_16 k n less few = omega (arith, less, few)

-- loads and parts to which what is asked for is added
loads_is : (p a : Asked) (caller : ℕ) (old new : List Load) → p ≡ a → new ≡ with_transfer old (transfer caller p)
    → new ≡ with_transfer old (transfer caller a)
loads_is p a caller old new is added = subst (λ (x : Asked). new ≡ with_transfer old (transfer caller x)) is added

parts_is : (nodes : List NodeState) (p a : Asked) (caller : ℕ) (old new : List Received) → p ≡ a → new ≡ with_asked nodes caller old p
    → new ≡ with_asked nodes caller old a
parts_is nodes p a caller old new is added = subst (λ (x : Asked). new ≡ with_asked nodes caller old x) is added

pub returns-in_ok-add_put-in-Put-clause-inside : goal.returns-in_ok-add_put-in-Put-clause-inside
returns-in_ok-add_put-in-Put-clause-inside g c =
    let nodes = states c.args.nodes.now in
    let put = c.put.inside in
    sym (ap (λ (p : Put). leaves_area nodes (asks_put p)) c.put.view_is ∙ ap (λ r. leaves_area nodes (asked r)) (sym c.in-Put.is))
    ∙ ap (is_outside nodes put.target put.slot put.offset) (sym c.len-len.ensures)
    ∙ sym c.start_inside.ensures.inside
    ∙ ap is_none c.in-Some.is

pub returns-in_ok-add_put-in-Put-clause-ok : goal.returns-in_ok-add_put-in-Put-clause-ok
returns-in_ok-add_put-in-Put-clause-ok g c =
    let nodes = states c.args.nodes.now in
    c.in_ok-add_put-in-Put.ensures
    ∙ ap (λ (addr : ℕ). changed_at (with_put (record { addr = addr; bytes = c.put.inside.bytes })) c.put.inside.target c.args.parts.now)
    c.in-Some.ensures.value
    ∙ ap (λ (p : Put). with_asked nodes c.args.caller c.args.parts.now (asks_put p)) c.put.view_is
    ∙ ap (λ r. with_asked nodes c.args.caller c.args.parts.now (asked r)) (sym c.in-Put.is)

pub add_put-requires : goal.add_put-requires
add_put-requires g c =
    let p : Put =
    record { target = c.put.inside.target; slot = c.put.inside.slot; offset = c.put.inside.offset; bytes = c.put.inside.bytes } in
    let is : asks_put p ≡ asked c.args.request.now = ap asks_put c.put.view_is ∙ ap asked (sym c.in-Put.is) in
    target_there (asks_put p) (asked c.args.request.now) _ _ is c.requires.target c.requires.parts

pub add_transfer-requires-clause-from : goal.add_transfer-requires-clause-from
add_transfer-requires-clause-from g c = there _ _ _ c.requires.caller c.requires.ranks

pub add_transfer-requires-clause-to : goal.add_transfer-requires-clause-to
add_transfer-requires-clause-to g c =
    let p : Put =
    record { target = c.put.inside.target; slot = c.put.inside.slot; offset = c.put.inside.offset; bytes = c.put.inside.bytes } in
    let is : asks_put p ≡ asked c.args.request.now = ap asks_put c.put.view_is ∙ ap asked (sym c.in-Put.is) in
    target_there (asks_put p) (asked c.args.request.now) _ _ is c.requires.target c.requires.ranks

pub add_transfer-requires-clause-limit : goal.add_transfer-requires-clause-limit
add_transfer-requires-clause-limit g c =
    let p : Put =
    record { target = c.put.inside.target; slot = c.put.inside.slot; offset = c.put.inside.offset; bytes = c.put.inside.bytes } in
    let is : asks_put p ≡ asked c.args.request.now = ap asks_put c.put.view_is ∙ ap asked (sym c.in-Put.is) in
    size_within (asks_put p) (asked c.args.request.now) c.len-len.result (2 ^ 32) is c.len-len.ensures c.requires.limit

pub add_transfer-requires-clause-room : goal.add_transfer-requires-clause-room
add_transfer-requires-clause-room g c = c.requires.room

pub returns-in_ok-add_put-in-Put-clause-loads : goal.returns-in_ok-add_put-in-Put-clause-loads
returns-in_ok-add_put-in-Put-clause-loads g c =
    let p : Put =
    record { target = c.put.inside.target; slot = c.put.inside.slot; offset = c.put.inside.offset; bytes = c.put.inside.bytes } in
    let is : asks_put p ≡ asked c.args.request.now = ap asks_put c.put.view_is ∙ ap asked (sym c.in-Put.is) in
    let added =
    λ (bytes : ℕ). with_transfer c.args.loads.now (record { from = c.args.caller; to = p.target; bytes = bytes; messages = 0 }) in
    loads_is (asks_put p) (asked c.args.request.now) c.args.caller c.args.loads.now c.add_transfer.new.loads is
    (c.add_transfer.ensures ∙ ap added c.len-len.ensures)

pub add_get-requires-clause-parts : goal.add_get-requires-clause-parts
add_get-requires-clause-parts g c = c.requires.parts

pub add_get-requires-clause-caller : goal.add_get-requires-clause-caller
add_get-requires-clause-caller g c = c.requires.caller

pub add_get-requires-clause-target : goal.add_get-requires-clause-target
add_get-requires-clause-target g c = subst (λ (a : Asked). target_of a < length c.args.nodes.now) (ap asked c.in-Get.is) c.requires.target

pub add_get-requires-clause-start : goal.add_get-requires-clause-start
add_get-requires-clause-start g c = c.in-Some-start_inside.ensures.value

pub add_get-requires-clause-within : goal.add_get-requires-clause-within
add_get-requires-clause-within g c = c.in-Some-start_inside.ensures.within

pub add_transfer-requires-in-Get-clause-from : goal.add_transfer-requires-in-Get-clause-from
add_transfer-requires-in-Get-clause-from g c =
    let is : asks_get c.in-Get.get ≡ asked c.args.request.now = ap asked (sym c.in-Get.is) in
    target_there (asks_get c.in-Get.get) (asked c.args.request.now) _ _ is c.requires.target c.requires.ranks

pub add_transfer-requires-in-Get-clause-to : goal.add_transfer-requires-in-Get-clause-to
add_transfer-requires-in-Get-clause-to g c = there _ _ _ c.requires.caller c.requires.ranks

pub add_transfer-requires-in-Get-clause-limit : goal.add_transfer-requires-in-Get-clause-limit
add_transfer-requires-in-Get-clause-limit g c =
    let is : asks_get c.in-Get.get ≡ asked c.args.request.now = ap asked (sym c.in-Get.is) in
    size_within (asks_get c.in-Get.get) (asked c.args.request.now) c.from.result (2 ^ 32) is c.from.ensures c.requires.limit

pub add_transfer-requires-in-Get-clause-room : goal.add_transfer-requires-in-Get-clause-room
add_transfer-requires-in-Get-clause-room g c = c.requires.room

pub returns-in_ok-add_get-in-Get-clause-inside : goal.returns-in_ok-add_get-in-Get-clause-inside
returns-in_ok-add_get-in-Get-clause-inside g c =
    let nodes = states c.args.nodes.now in
    let is : asks_get c.in-Get.get ≡ asked c.args.request.now = ap asked (sym c.in-Get.is) in
    sym (ap (leaves_area nodes) is) ∙ sym c.start_inside-in-Get.ensures.inside ∙ ap is_none c.in-Some-start_inside.is

pub returns-in_ok-add_get-in-Get-clause-ok : goal.returns-in_ok-add_get-in-Get-clause-ok
returns-in_ok-add_get-in-Get-clause-ok g c =
    let is : asks_get c.in-Get.get ≡ asked c.args.request.now = ap asked (sym c.in-Get.is) in
    parts_is (states c.args.nodes.now) (asks_get c.in-Get.get) (asked c.args.request.now) c.args.caller c.args.parts.now c.add_get.new.parts
    is c.in_ok-add_get-in-Get.ensures

pub returns-in_ok-add_get-in-Get-clause-loads : goal.returns-in_ok-add_get-in-Get-clause-loads
returns-in_ok-add_get-in-Get-clause-loads g c =
    let is : asks_get c.in-Get.get ≡ asked c.args.request.now = ap asked (sym c.in-Get.is) in
    let added =
    λ (bytes : ℕ). with_transfer c.args.loads.now
    (record { from = c.in-Get.get.target; to = c.args.caller; bytes = bytes; messages = 0 }) in
    loads_is (asks_get c.in-Get.get) (asked c.args.request.now) c.args.caller c.args.loads.now c.add_transfer-in-Get.new.loads is
    (c.add_transfer-in-Get.ensures ∙ ap added c.from.ensures)

pub overflow_cast-caller-in-Send : goal.overflow_cast-caller-in-Send
overflow_cast-caller-in-Send g c = fits_16 _ _ c.requires.caller c.requires.few

pub add_message-requires : goal.add_message-requires
add_message-requires g c =
    let is : asks_send c.in-Send.message ≡ asked c.args.request.now = ap asked (sym c.in-Send.is) in
    record { target = target_there (asks_send c.in-Send.message) (asked c.args.request.now) _ _ is c.requires.target c.requires.parts }

pub add_transfer-requires-in-Send-clause-from : goal.add_transfer-requires-in-Send-clause-from
add_transfer-requires-in-Send-clause-from g c = there _ _ _ c.requires.caller c.requires.ranks

pub add_transfer-requires-in-Send-clause-to : goal.add_transfer-requires-in-Send-clause-to
add_transfer-requires-in-Send-clause-to g c =
    let m : Outgoing = c.in-Send.message in
    let is : asks_send m ≡ asked c.args.request.now = ap asked (sym c.in-Send.is) in
    subst (λ (x : Outgoing). x.target < length c.args.loads.now) (sym c.message.view_is)
    (target_there (asks_send m) (asked c.args.request.now) _ (length c.args.loads.now) is c.requires.target c.requires.ranks)

pub add_transfer-requires-in-Send-clause-limit : goal.add_transfer-requires-in-Send-clause-limit
add_transfer-requires-in-Send-clause-limit g c =
    let m : Outgoing = c.in-Send.message in
    let is : asks_send m ≡ asked c.args.request.now = ap asked (sym c.in-Send.is) in
    size_within (asks_send m) (asked c.args.request.now) _ (2 ^ 32) is c.size-len.ensures c.requires.limit

pub add_transfer-requires-in-Send-clause-room : goal.add_transfer-requires-in-Send-clause-room
add_transfer-requires-in-Send-clause-room g c = c.requires.room

pub returns-in_ok-add_message-in-Send-clause-inside : goal.returns-in_ok-add_message-in-Send-clause-inside
returns-in_ok-add_message-in-Send-clause-inside g c =
    let is : asks_send c.in-Send.message ≡ asked c.args.request.now = ap asked (sym c.in-Send.is) in
    ap (leaves_area (states c.args.nodes.now)) (sym is)

pub returns-in_ok-add_message-in-Send-clause-ok : goal.returns-in_ok-add_message-in-Send-clause-ok
returns-in_ok-add_message-in-Send-clause-ok g c =
    let is : asks_send c.in-Send.message ≡ asked c.args.request.now = ap asked (sym c.in-Send.is) in
    parts_is (states c.args.nodes.now) (asks_send c.in-Send.message) (asked c.args.request.now) c.args.caller c.args.parts.now
    c.add_message.new.parts is c.in_ok-add_message-in-Send.ensures

pub returns-in_ok-add_message-in-Send-clause-loads : goal.returns-in_ok-add_message-in-Send-clause-loads
returns-in_ok-add_message-in-Send-clause-loads g c =
    let m : Outgoing = c.in-Send.message in
    let is : asks_send m ≡ asked c.args.request.now = ap asked (sym c.in-Send.is) in
    let added =
    λ (bytes : ℕ). with_transfer c.args.loads.now (record { from = c.args.caller; to = m.target; bytes = bytes; messages = 1 }) in
    let to_is =
    ap
    (λ (x : Outgoing). with_transfer c.args.loads.now
    (record { from = c.args.caller; to = x.target; bytes = c.size-len.result; messages = 1 }))
    c.message.view_is in
    loads_is (asks_send m) (asked c.args.request.now) c.args.caller c.args.loads.now c.add_transfer-in-Send.new.loads is
    (c.add_transfer-in-Send.ensures ∙ to_is ∙ ap added c.size-len.ensures)

pub returns-in_err-add_put-in-Put-clause-inside : goal.returns-in_err-add_put-in-Put-clause-inside
returns-in_err-add_put-in-Put-clause-inside g c = IfOk-from_err c.from_residual.result _ c.from_residual.ensures.0

pub returns-in_err-add_put-in-Put-clause-ok : goal.returns-in_err-add_put-in-Put-clause-ok
returns-in_err-add_put-in-Put-clause-ok g c = IfOk-from_err c.from_residual.result _ c.from_residual.ensures.0

pub returns-in_err-add_put-in-Put-clause-loads : goal.returns-in_err-add_put-in-Put-clause-loads
returns-in_err-add_put-in-Put-clause-loads g c = IfOk-from_err c.from_residual.result _ c.from_residual.ensures.0

pub returns-in_err-add_get-in-Get-clause-inside : goal.returns-in_err-add_get-in-Get-clause-inside
returns-in_err-add_get-in-Get-clause-inside g c =
    IfOk-from_err c.from_residual-in_err-add_get-in-Get.result _ c.from_residual-in_err-add_get-in-Get.ensures.0

pub returns-in_err-add_get-in-Get-clause-ok : goal.returns-in_err-add_get-in-Get-clause-ok
returns-in_err-add_get-in-Get-clause-ok g c =
    IfOk-from_err c.from_residual-in_err-add_get-in-Get.result _ c.from_residual-in_err-add_get-in-Get.ensures.0

pub returns-in_err-add_get-in-Get-clause-loads : goal.returns-in_err-add_get-in-Get-clause-loads
returns-in_err-add_get-in-Get-clause-loads g c =
    IfOk-from_err c.from_residual-in_err-add_get-in-Get.result _ c.from_residual-in_err-add_get-in-Get.ensures.0

pub returns-in_err-add_message-in-Send-clause-inside : goal.returns-in_err-add_message-in-Send-clause-inside
returns-in_err-add_message-in-Send-clause-inside g c =
    IfOk-from_err c.from_residual-in_err-add_message-in-Send.result _ c.from_residual-in_err-add_message-in-Send.ensures.0

pub returns-in_err-add_message-in-Send-clause-ok : goal.returns-in_err-add_message-in-Send-clause-ok
returns-in_err-add_message-in-Send-clause-ok g c =
    IfOk-from_err c.from_residual-in_err-add_message-in-Send.result _ c.from_residual-in_err-add_message-in-Send.ensures.0

pub returns-in_err-add_message-in-Send-clause-loads : goal.returns-in_err-add_message-in-Send-clause-loads
returns-in_err-add_message-in-Send-clause-loads g c =
    IfOk-from_err c.from_residual-in_err-add_message-in-Send.result _ c.from_residual-in_err-add_message-in-Send.ensures.0
