-- `Requests::next_fails` at a call: what it is handed, and what a caller has of it. Assumes `Logic`.
use Rattle.std.proofs.Common.{◌≡◌, ℕ, Bool, List, [], ◌∷◌, refl, ap}
use seplogic.Ra.Ura.{Ura}
use mir.Val.{Val, vbool, vptr}
use base.Logic.{SProp, ent, sep, ex, guard, id⊢}
use base.Fml.{Lft, Share, ftrue, fsep, flft}
use prog.Memory.{Memory}
use prog.Routine.{Routine}
use types.Logic.{Logic, sem}
use contract.Monad.{Fun}
use types.Kit.{‵, raw, ◌⊛◌, some, later, ◌$◌, ◌∵◌, !, qed, move, keep, use1, split, join, pick, fjoin, feq_i, feq_l, check, show, await}
use types.Kit.{updating, now as at_once, done}
use denote.RattleType.{RattleType}
use denote.Memory.{hidden_shr}
use denote.Builtin.{bool}
use denote.Steps.{nothing, only}
use denote.Triple.Statement.{Contract}
use denote.Triple.Spec.{triple_of}
use Rattle.failing_allocator.specs.contracts.Requests as requests
use Rattle.failing_allocator.specs.contracts.Requests.next_fails as f

abbrev pub Requests : RattleType
Requests = requests.the_row

module _ {M : Type 1} {𝓤 : Ura M} (𝓛 : Logic 𝓤) (at_mem : Memory → SProp 𝓤) (run : Routine → Fun 𝓤) where
  open 𝓛 use {H, A}

  abbrev pub NextFails : Contract 𝓤
  NextFails = triple_of 𝓛 f.signature (f.spec 𝓛 at_mem run)

  module _ (κ : Lft) (q : Share) (p : ℕ × ℕ) (x : Requests.Denot) where
    abbrev pub at_next_fails : NextFails.Ghost
    at_next_fails = (((κ, tt), (q, tt), tt, (record { ref_ptr = p; now = x }, tt), (vptr p.0 p.1 ∷ [], tt)), tt)

    pub next_fails_goes : ent 𝓤 (sep 𝓤 (sem 𝓛 (hidden_shr Requests κ x p.0 p.1)) (A.lft κ q)) (NextFails.pre at_next_fails)
    next_fails_goes =
        qed 𝓛 (‵ (hidden_shr Requests κ x p.0 p.1) ∷ ‵ (flft κ q) ∷ []) ∵ feq_i ! (List Val) (vptr p.0 p.1 ∷ [])
        (vptr p.0 p.1 ∷ []) refl $ fjoin ! $
        nothing ! $ move ! (1 ∷ []) $ fjoin ! $ nothing ! $ move ! (2 ∷ []) $ join ! $ join ! $ nothing ! $ move ! (1 ∷ []) $ done !

    pub next_fails_gives : (v : Val)
        → ent 𝓤 (NextFails.post at_next_fails v) (H.⇛ (ex 𝓤 (λ (y : Bool). guard 𝓤 (v ≡ vbool y) (A.lft κ q))))
    next_fails_gives v =
        qed 𝓛 (raw (NextFails.post at_next_fails v) ∷ []) ∵ updating ! $
        use1 𝓛 (later
        (some (λ (y : Bool). ((‵ (flft κ q) ⊛ ‵ ftrue) ⊛ ‵ (bool.own_val y (v ∷ []))) ⊛ some
        (λ (ws : Unit {0} × Unit {0}). ‵ (fsep ftrue ftrue) ⊛ ‵ ftrue)))) (id⊢ 𝓤 _) $ await ! tt $ pick ! (λ y.
        split ! $ split ! $ move ! (1 ∷ []) $
        feq_l ! (λ e. split ! $ at_once ! $ show ! (λ (y : Bool). guard 𝓤 (v ≡ vbool y) (A.lft κ q)) y $ check ! (ap only e) $
        keep ! (0 ∷ []) $ done !))
