-- The request is counted, and then failed or passed on to the inner allocator. Assumes `Logic`.
use Rattle.std.proofs.Common.{◌≡◌, ℕ, ◌+◌, Bool, true, false, [], ◌∷◌, Ok, Err, refl, sym, subst, w64}
use lib.Dec.{T}
use mir.Syntax.{Args, Fn, a_type, dnil, dcons}
use mir.Val.{Val, vbool, vint, vptr, has_ty, WT}
use mir.MapTy.{inst_fn}
use base.Logic.{SProp, ent, id⊢}
use base.Fml.{ftrue, flft}
use prog.Memory.{size, align, capped, up}
use prog.Wp.{Env}
use contract.BorrowLft.{◌⊑◌, ⊑_trans}
use contract.Monad.{fact}
use contract.Running.{tables}
use types.Kit.{‵, raw, ◌⊛◌, some, later, given, at_ret, ⋆, ◌$◌, ◌∵◌, !, qed, by, move, keep, use0, use1, use2, split, join, pick, learn}
use types.Kit.{fsplit, fjoin, rewrite, suffices, await, done}
use types.Part.{agg}
use types.Run.{stop, fld, addr, lit, no_more, and_then, of_opd, first, branches, exec, returns, enter}
use types.ByLocal.{alloc_all, pass_all, free_all, look_at, get, through, sets, sets_last, lands_as, lands_last, env}
use denote.Exit.{yes}
use denote.RattleType.{owns}
use denote.RawPtr.{block_ptr}
use denote.Ref.{shr_vals}
use denote.Opens.{unhide}
use denote.Param.{bounded, param, layout}
use denote.Plain.{uint_vals, uint_Tells}
use denote.Builtin.{usize, RefOf}
use denote.Signature.{Slot, plain, types_at}
use denote.Steps.{heard, nothing}
use denote.Triple.Call.{calls_at, calls_at_last}
use denote.Triple.Table.{framed}
use denote.Triple.Walked.{Stays, stay_dropped, walk_of, ends_at, Goes-dropped}
use Rattle.std.proofs.VecSteps.Shapes.{after}
use Rattle.std.proofs.raw_atomic.Walks.{proved}
use Rattle.std.proofs.alloc.Calls.{Al, α, seen, token, Answer, answer_val, Answer-typed, Answer-Ok, Answer-err, Takes, at_takes, Answered}
use Rattle.std.proofs.alloc.Calls.{Takes-goes, Takes-gives, answers}
use Rattle.std.specs.Allocator.{block_if_ok}
use Rattle.failing_allocator.proofs.Calls.{NextFails, at_next_fails, next_fails_goes, next_fails_gives}
use Rattle.failing_allocator.proofs.Requests.next_fails.Met.{met as counts}
use Rattle.failing_allocator.specs.contracts.FailingAllocator as wrapper
use Rattle.failing_allocator.specs.contracts.FailingAllocatorAllocator.allocate as f
use Rattle.failing_allocator.proofs.FailingAllocatorAllocator.allocate.Statement.{statement}
use Rattle.failing_allocator.proofs.FailingAllocatorAllocator.allocate.Code as code

pub allocate_spec : {M : Type 1} → statement M
allocate_spec 𝓤 𝓛 𝓜 𝓡 wired B L g d dd met _ =
    let Z : Al = record { row = B; laws = L; g = g; d = d; drops = dd } in
    let H = 𝓛.H in let at_mem = 𝓜.mem in let run = 𝓡.returns in
    let 𝓣 = tables 𝓤 H 𝓜 𝓡 𝓡.env in
    let fr = framed 𝓤 H 𝓜 𝓣 in
    let E = f.ended B g d dd in
    let c = f.clauses B g d dd 𝓛 at_mem run in
    let args : Args = bounded (a_type ∷ []) (B, tt) (dcons d (dcons dd dnil)) in
    let fn : Fn = inst_fn args code.function in
    let self : Slot 2 = RefOf (0 ∷ []) tt (plain (λ _. wrapper.the_row (param 0 B))) (λ _. tt) in
    let word : Slot 2 = plain (λ _. usize) in
    let stays : Stays E.signature.params E.kept = (stay_dropped self yes, (stay_dropped word yes, (stay_dropped word yes, tt))) in
    proved 𝓛 E stays c 𝓜 𝓡 (
      Goes-dropped 𝓛 2 self yes (λ κs x w. refl),
      (Goes-dropped 𝓛 2 word yes (λ κs x w. refl), (Goes-dropped 𝓛 2 word yes (λ κs x w. refl), tt)),
    )
    (f.Key.name args) fn (code.unfolded 𝓤 H 𝓜 𝓡 wired (B, tt) d dd)
    (λ κs. (shr_vals, (uint_vals w64, (uint_vals w64, tt)))) (λ κs. ((λ r vs s. s.0), (uint_Tells w64, (uint_Tells w64, tt))))
    (λ κs qs bounds a τ are.
    let κ = κs.0 in let ρ = κs.1.0 in let q = qs.0 in let s = qs.1.0 in
    let r = a.0 in let n = a.1.0 in let al = a.1.1.0 in let h = r.now.inner in
    let fn64 = are.1.0.1 in let fa64 = are.1.1.0.1 in
    let p : ℕ × ℕ = (r.ref_ptr.0, r.ref_ptr.1 + up (align (α Z)) 0) in
    let pc : ℕ × ℕ = (r.ref_ptr.0, r.ref_ptr.1 + up 8 (up (align (α Z)) 0 + size (α Z))) in
    let W = walk_of 𝓛 E stays c in
    let y : W.Ghost = ((κs, qs, bounds, a, (shr_vals r, (vint w64 n ∷ [], (vint w64 al ∷ [], tt)))), τ) in
    let Post : Val → SProp 𝓤 = W.post y in
    let ask : (Takes Z 𝓛 at_mem run).Ghost = at_takes Z 𝓛 at_mem run κ q p h n al τ in
    let count : (NextFails 𝓛 at_mem run).Ghost = at_next_fails 𝓛 at_mem run κ q pc r.now.requests in
    let Said : Type 0 = (capped (size τ) ≡ n) × (capped (align τ) ≡ al) in
    let ends : (v : Val) (o : Answer.Denot)
    → ent 𝓤 (⋆ 𝓛 (‵ (Answer.own_val o (v ∷ [])) ∷ ‵ (block_if_ok (token Z h) τ o) ∷ ‵ (flft κ q) ∷ (‵ (flft ρ s) ⊛ ‵ ftrue) ∷ []))
    (Post v) = λ v o.
    qed 𝓛 (‵ (Answer.own_val o (v ∷ [])) ∷ ‵ (block_if_ok (token Z h) τ o) ∷ ‵ (flft κ q) ∷ (‵ (flft ρ s) ⊛ ‵ ftrue) ∷ []) ∵
    suffices ! _ (ends_at 𝓛 E stays c y v o (tt, (tt, (tt, tt))) (tt, (tt, (tt, tt)))) $
    nothing ! $ nothing ! $ fjoin ! $ nothing ! $ fjoin ! $ nothing ! $ fjoin ! $ join ! $ move ! (2 ∷ 3 ∷ []) $ join ! $ join ! $ done ! in
    qed 𝓛 (((‵ (flft κ q) ⊛ ‵ (flft ρ s) ⊛ ‵ ftrue) ⊛ ‵ (owns (types_at E.signature.params κs) a y.0.4)) ∷
    (raw (fact 𝓤 (ρ ⊑ B.lives)) ⊛ raw (fact 𝓤 Said)) ∷ []) ∵
    move ! (1 ∷ []) $ split ! $ heard ! (ρ ⊑ B.lives) (λ le. heard ! Said (λ said.
    split ! $ split ! $ move ! (2 ∷ []) $ fsplit ! $ fsplit ! $ move ! (1 ∷ []) $ unhide ! $ fsplit ! $ fsplit ! $
    use1 𝓛 (‵ (seen Z κ p h)) (id⊢ 𝓤 _) $ move ! (1 ∷ []) $ fsplit ! $ keep ! (0 ∷ 6 ∷ 2 ∷ 7 ∷ []) $
    -- [the counts; the token of κ; the inner allocator; the token of ρ]
    enter ! 𝓣.C 𝓣.Λ fn (vptr r.ref_ptr.0 r.ref_ptr.1 ∷ vint w64 n ∷ vint w64 al ∷ []) Post $
    alloc_all ! (λ l. pass_all ! refl ((tt, tt), ((tt, record { fits = fn64 }), ((tt, record { fits = fa64 }), tt))) $
    let En : Env 𝓤 H = env fn.locals l in
    sets ! (addr ! (through ! refl (fld ! refl (stop !)))) refl (tt, tt) $
    use2 𝓛 (raw ((NextFails 𝓛 at_mem run).pre count)) (next_fails_goes 𝓛 at_mem run κ q pc r.now.requests) $
    calls_at ! fr (NextFails 𝓛 at_mem run) (counts 𝓤 𝓛 𝓜 𝓡 (code.calls-failing_allocator::Requests::next_fails 𝓡.env wired)) count
    (and_then ! (get ! refl) (no_more !)) (λ u.
    use1 𝓛 (later (some (λ (b : Bool). given (u ≡ vbool b) (‵ (flft κ q))))) (next_fails_gives 𝓛 at_mem run κ q pc r.now.requests u) $
    await ! tt $ pick ! (λ b. learn ! (λ eb. lands_as ! eb refl (tt, tt) $
    first ! $ branches ! (get ! refl)
    (λ yes.
    sets ! (agg ! (no_more !)) refl (tt, tt) $ sets_last ! (agg ! (and_then ! (lit ! tt) (and_then ! (get ! refl) (no_more !)))) refl
    (Answer-typed false 0 0) $
    exec ! 𝓣.C 𝓣.Λ En (after 3 fn.body) (at_ret En Post) $ sets ! (of_opd ! (get ! refl)) refl (Answer-typed false 0 0) $
    returns ! (look_at ! 0 refl) $ free_all ! refl $
    nothing ! $ use0 𝓛 (‵ (Answer.own_val (Err (record {})) (answer_val false 0 0 ∷ []))) (Answer-err 𝓛) $ keep ! (0 ∷ 1 ∷ 2 ∷ 4 ∷ []) $
    by ! (ends (answer_val false 0 0) (Err (record {}))))
    (λ no.
    sets ! (addr ! (through ! refl (fld ! refl (stop !)))) refl (tt, tt) $ move ! (1 ∷ 0 ∷ []) $
    use2 𝓛 (raw ((Takes Z 𝓛 at_mem run).pre ask))
    (Takes-goes Z 𝓛 at_mem run κ q p h (⊑_trans κ ρ B.lives bounds.0 le) n al τ said.0 said.1 fn64 fa64) $
    calls_at_last ! fr (Takes Z 𝓛 at_mem run) (met.allocate dd) ask
    (and_then ! (get ! refl) (and_then ! (get ! refl) (and_then ! (get ! refl) (no_more !)))) (λ v.
    use1 𝓛 (later (raw (Answered Z 𝓛 at_mem run h τ v) ⊛ ‵ (flft κ q))) (Takes-gives Z 𝓛 at_mem run κ q p h n al τ v) $
    await ! tt $ split ! $
    answers Z ! at_mem run h τ v
    (λ b' o' e. let typed : T (has_ty (layout Answer) v) × WT v =
    subst (λ (w : Val). T (has_ty (layout Answer) w) × WT w) (sym e) (Answer-typed true b' o') in
    fjoin ! $ lands_last ! refl typed $ exec ! 𝓣.C 𝓣.Λ En (after 3 fn.body) (at_ret En Post) $ sets ! (of_opd ! (get ! refl)) refl typed $
    returns ! (look_at ! 0 refl) $ free_all ! refl $
    use0 𝓛 (‵ (Answer.own_val (Ok (block_ptr b' o')) (answer_val true b' o' ∷ []))) (Answer-Ok 𝓛 b' o') $
    rewrite ! 0 (λ (w : Val). ‵ (Answer.own_val (Ok (block_ptr b' o')) (w ∷ []))) (sym e) refl $ by ! (ends v (Ok (block_ptr b' o'))))
    (λ e. let typed : T (has_ty (layout Answer) v) × WT v =
    subst (λ (w : Val). T (has_ty (layout Answer) w) × WT w) (sym e) (Answer-typed false 0 0) in
    nothing ! $ lands_last ! refl typed $ exec ! 𝓣.C 𝓣.Λ En (after 3 fn.body) (at_ret En Post) $ sets ! (of_opd ! (get ! refl)) refl typed $
    returns ! (look_at ! 0 refl) $ free_all ! refl $
    use0 𝓛 (‵ (Answer.own_val (Err (record {})) (answer_val false 0 0 ∷ []))) (Answer-err 𝓛) $
    rewrite ! 0 (λ (w : Val). ‵ (Answer.own_val (Err (record {})) (w ∷ []))) (sym e) refl $ by ! (ends v (Err (record {})))))))))))))
