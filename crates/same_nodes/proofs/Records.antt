-- Records whose parts are the same.
use Rattle.std.proofs.Common.{◌≡◌, ℕ, Bool, List, ap, ap₂, ◌∙◌}
use Rattle.bsp_requests.specs.Request.{Asked}
use Rattle.bsp_requests.specs.Requests.{Requests}

pub same-requests : (a b : Requests) → a.requests ≡ b.requests → a.output ≡ b.output → a.large ≡ b.large → a ≡ b
same-requests a b requests output large =
    ap₂ (λ (xs : List Asked) (ys : List ℕ). let r : Requests = record { requests = xs; output = ys; large = a.large } in r) requests output
    ∙ ap (λ (is : Bool). let r : Requests = record { requests = b.requests; output = b.output; large = is } in r) large
