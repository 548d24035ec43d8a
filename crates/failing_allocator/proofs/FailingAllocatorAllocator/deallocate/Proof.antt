-- The block goes back to the inner allocator. Assumes `Logic`.
use Rattle.std.proofs.Common.{◌≡◌, ℕ, ◌+◌, List, [], ◌∷◌, refl, w64}
use mir.Syntax.{Args, Fn, a_type, dnil, dcons}
use mir.Val.{Val, vunit, vint, vptr}
use mir.MapTy.{inst_fn}
use base.Logic.{id⊢, fst∗, never}
use base.Fml.{Fml, fsep, ftrue, flft}
use prog.Memory.{size, align, capped, up}
use prog.Wp.{WpFn}
use contract.BorrowLft.{◌⊑◌, ⊑_trans}
use contract.Monad.{fact}
use contract.Running.{tables}
use types.Logic.{sem}
use types.Kit.{‵, raw, ◌⊛◌, prop, later, given, regoal, ◌$◌, ◌∵◌, !, qed, move, keep, use1, split, split3, join, learn, fsplit, fjoin}
use types.Kit.{feq_i, suffices, await, done}
use types.Run.{stop, fld, addr, no_more, and_then, of_opd, unit_lit, returns, enter}
use types.ByLocal.{alloc_all, pass_all, free_all, look_at, get, through, sets, lands_as}
use denote.Exit.{yes}
use denote.RattleType.{owns}
use denote.RawPtr.{Ptr, room_for, in_a_block, block_ptr, null_ptr, ptr_val, rawptr_vals, rawptr_Tells}
use denote.Ref.{shr_vals}
use denote.Opens.{unhide}
use denote.Param.{bounded, param}
use denote.Plain.{uint_vals, uint_Tells}
use denote.Builtin.{usize, RawPtr, RefOf}
use denote.Signature.{Slot, plain, types_at}
use denote.Steps.{heard, nothing}
use denote.Triple.Call.{calls_at}
use denote.Triple.Table.{framed}
use denote.Triple.Walked.{Stays, stay_dropped, walk_of, ends_at, Goes-dropped}
use Rattle.std.proofs.raw_atomic.Walks.{proved}
use Rattle.std.proofs.alloc.Calls.{Al, α, seen, token, Gives, at_gives, Gives-goes, Gives-Gives}
use Rattle.failing_allocator.specs.contracts.FailingAllocator as wrapper
use Rattle.failing_allocator.specs.contracts.FailingAllocatorAllocator.deallocate as f
use Rattle.failing_allocator.proofs.FailingAllocatorAllocator.deallocate.Statement.{statement}
use Rattle.failing_allocator.proofs.FailingAllocatorAllocator.deallocate.Code as code

pub deallocate_spec : {M : Type 1} → statement M
deallocate_spec 𝓤 𝓛 𝓜 𝓡 wired B L g d dd met _ =
    let Z : Al = record { row = B; laws = L; g = g; d = d; drops = dd } in
    let H = 𝓛.H in let at_mem = 𝓜.mem in let run = 𝓡.returns in
    let 𝓣 = tables 𝓤 H 𝓜 𝓡 𝓡.env in
    let E = f.ended B g d dd in
    let c = f.clauses B g d dd 𝓛 at_mem run in
    let args : Args = bounded (a_type ∷ []) (B, tt) (dcons d (dcons dd dnil)) in
    let fn : Fn = inst_fn args code.function in
    let self : Slot 2 = RefOf (0 ∷ []) tt (plain (λ _. wrapper.the_row (param 0 B))) (λ _. tt) in
    let word : Slot 2 = plain (λ _. usize) in
    let ptr : Slot 2 = plain (λ _. RawPtr) in
    let stays : Stays E.signature.params E.kept =
    (stay_dropped self yes, (stay_dropped ptr yes, (stay_dropped word yes, (stay_dropped word yes, tt)))) in
    proved 𝓛 E stays c 𝓜 𝓡 (
      Goes-dropped 𝓛 2 self yes (λ κs x w. refl),
      (
        Goes-dropped 𝓛 2 ptr yes (λ κs x w. refl),
        (Goes-dropped 𝓛 2 word yes (λ κs x w. refl), (Goes-dropped 𝓛 2 word yes (λ κs x w. refl), tt)),
      ),
    )
    (f.Key.name args) fn (code.unfolded 𝓤 H 𝓜 𝓡 wired (B, tt) d dd)
    (λ κs. (shr_vals, (rawptr_vals, (uint_vals w64, (uint_vals w64, tt)))))
    (λ κs. ((λ r vs s. s.0), (rawptr_Tells, (uint_Tells w64, (uint_Tells w64, tt))))) (λ κs qs bounds a τ are.
    let κ = κs.0 in let ρ = κs.1.0 in let q = qs.0 in let s = qs.1.0 in
    let r = a.0 in let n = a.1.1.0 in let al = a.1.1.1.0 in let h = r.now.inner in
    let fn64 = are.1.1.0.1 in let fa64 = are.1.1.1.0.1 in
    let p : ℕ × ℕ = (r.ref_ptr.0, r.ref_ptr.1 + up (align (α Z)) 0) in
    let W = walk_of 𝓛 E stays c in
    let y : Ptr → W.Ghost =
    λ x. ((κs, qs, bounds, (r, (x, (n, (al, tt)))), (shr_vals r, (rawptr_vals x, (vint w64 n ∷ [], (vint w64 al ∷ [], tt))))), τ) in
    let vs : Ptr → List Val = λ x. vptr r.ref_ptr.0 r.ref_ptr.1 ∷ ptr_val x ∷ vint w64 n ∷ vint w64 al ∷ [] in
    let Said : Type 0 = (capped (size τ) ≡ n) × (capped (align τ) ≡ al) in
    let Block : Ptr → Fml = λ x. fsep (room_for τ x) (token Z h τ x) in
    qed 𝓛 (((‵ (flft κ q) ⊛ ‵ (flft ρ s) ⊛ ‵ ftrue) ⊛ ‵ (owns (types_at E.signature.params κs) a (y a.1.0).0.4)) ∷
    (raw (fact 𝓤 (ρ ⊑ B.lives)) ⊛ raw (fact 𝓤 Said) ⊛ ‵ (Block a.1.0)) ∷ []) ∵
    move ! (1 ∷ []) $ split3 ! $ heard ! (ρ ⊑ B.lives) (λ le. heard ! Said (λ said. move ! (1 ∷ []) $
    split ! $ split ! $ move ! (2 ∷ []) $ fsplit ! $ fsplit ! $ move ! (1 ∷ []) $ unhide ! $ fsplit ! $ fsplit ! $
    use1 𝓛 (‵ (seen Z κ p h)) (id⊢ 𝓤 _) $ keep ! (7 ∷ 0 ∷ 5 ∷ 6 ∷ []) $
    -- [the block; the inner allocator; the token of κ; the token of ρ]
    in_a_block ! a.1.0 Block (fst∗ 𝓤 (never 𝓤) (sem 𝓛 (token Z h τ null_ptr))) (λ b o e.
    regoal ! (λ (x : Ptr). prop (WpFn 𝓤 H 𝓣.C 𝓣.Λ fn (vs x) (W.post (y x)))) e refl $
    let x : Ptr = block_ptr b o in
    let give : (Gives Z 𝓛 at_mem run).Ghost = at_gives Z 𝓛 at_mem run κ q p h b o n al τ in
    enter ! 𝓣.C 𝓣.Λ fn (vs x) (W.post (y x)) $
    alloc_all ! (λ l. pass_all ! refl ((tt, tt), ((tt, tt), ((tt, record { fits = fn64 }), ((tt, record { fits = fa64 }), tt)))) $
    sets ! (addr ! (through ! refl (fld ! refl (stop !)))) refl (tt, tt) $
    fsplit ! $ move ! (2 ∷ 3 ∷ []) $ join ! $ move ! (2 ∷ 0 ∷ []) $ join ! $ move ! (1 ∷ 0 ∷ []) $ join ! $
    use1 𝓛 (raw ((Gives Z 𝓛 at_mem run).pre give))
    (Gives-goes Z 𝓛 at_mem run κ q p h (⊑_trans κ ρ B.lives bounds.0 le) b o n al τ said.0 said.1 fn64 fa64) $
    calls_at ! (framed 𝓤 H 𝓜 𝓣) (Gives Z 𝓛 at_mem run) (met.deallocate dd) give
    (and_then ! (get ! refl) (and_then ! (get ! refl) (and_then ! (get ! refl) (and_then ! (get ! refl) (no_more !))))) (λ v.
    use1 𝓛 (later (given (v ≡ vunit) (‵ (flft κ q)))) (Gives-Gives Z 𝓛 at_mem run κ q p h b o n al τ v) $ await ! tt $ learn ! (λ is.
    lands_as ! is refl (tt, tt) $ sets ! (of_opd ! (unit_lit !)) refl (tt, tt) $ returns ! (look_at ! 0 refl) $ free_all ! refl $
    suffices ! _ (ends_at 𝓛 E stays c (y x) vunit tt (tt, (tt, (tt, (tt, tt)))) (tt, (tt, (tt, (tt, tt))))) $
    nothing ! $ feq_i ! (List Val) (vunit ∷ []) (vunit ∷ []) refl $ nothing ! $ nothing ! $ fjoin ! $ nothing ! $ fjoin ! $ nothing ! $
    fjoin ! $ nothing ! $ fjoin ! $ join ! $
    move ! (2 ∷ 3 ∷ []) $ join ! $ join ! $ done !)))))))
