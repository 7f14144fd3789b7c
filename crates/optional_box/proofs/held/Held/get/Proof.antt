-- `get` reads the pointer through the `&`, tests it, and shares what lies behind it.
use Rattle.std.proofs.Common.{◌≡◌, ℕ, ◌+◌, List, [], ◌∷◌, ◌++◌, refl, sym, subst, lit<}
use mir.Syntax.{Body, seq, assign, place, rv_opd, copy, aggregate, int, w8, a_type, named}
use mir.Val.{Val, vptr, vcons, vnil}
use mir.MapTy.{inst_fn}
use base.Logic.{SProp, ent, sep, emp, id⊢}
use base.Fml.{Lft, Share, ftrue, fhide, flft}
use prog.Wp.{WpFn, Wp, after_seq, at_return}
use types.Logic.{sem}
use types.Kit.{‵, raw, ◌⊛◌, at_ret, any_q, ◌$◌, ◌∵◌, !, qed, by, move, keep, drop, split, join, fsplit, fjoin, suffices, use0, use1, feq_i}
use types.Run.{look, load, stop, fld, addr, lit, of_opd, bin, no_more, and_then, first, blocks, branches, exec, returns, enter}
use types.ByLocal.{alloc_all, pass_all, free_all, look_at, get, through, sets, sets_last, env}
use types.Part.{agg}
use types.Match.{live}
use contract.Monad.{fact, fact_i}
use contract.Running.{tables}
use denote.Exit.{yes}
use denote.RattleType.{RattleType, owns}
use denote.Memory.{hidden_shr}
use denote.Signature.{types_at, type_at, plain}
use denote.Builtin.{RefOf, RawPtr}
use denote.Ref.{ShrRef}
use denote.RawPtr.{Ptr, block_ptr, null_ptr, Testable, tests_null}
use denote.Opens.{unhide, hide}
use denote.Steps.{nothing}
use denote.Param.{param, layout, layouts}
use denote.Struct.Lending.{lent_out}
use denote.Triple.Walked.{Stays, stay_dropped, walk_of, Goes-dropped}
use Rattle.core.proofs.alloc.Shapes.{after}
use Rattle.core.proofs.atomic.Steps.{Ptr-Good}
use Rattle.core.proofs.cell.Inside.{Good}
use Rattle.core.proofs.option.Made.{Some-of, none_of}
use Rattle.std.specs.declared.option.Option.TheVariants.{None, Some}
use Rattle.std.specs.contracts.alloc.Global as heap
use Rattle.std.proofs.raw_atomic.Walks.{proved_at, leaves}
use Rattle.optional_box.specs.contracts.held.Held as held
use Rattle.optional_box.proofs.Values.{HeldRow, either_lent, pointer_shown, pointer_hid, shown_words, shows_pointer}
use Rattle.optional_box.specs.contracts.held.Held.get.{ended, clauses}
use Rattle.optional_box.specs.contracts.held.Held.get.Key.{name as #self}
use Rattle.optional_box.proofs.held.Held.get.Statement.{statement}
use Rattle.optional_box.proofs.held.Held.get.Code as code

-- the rest of the branch that found a pointer
abbrev wraps : Body
wraps = seq (assign (place 6 []) (rv_opd (copy (place 7 [])))) (assign (place 5 []) (aggregate (int w8 1 ∷ copy (place 6 []) ∷ [])))

pub get_spec : {M : Type 1} → statement M
get_spec 𝓤 𝓛 𝓜 𝓡 wired T L =
    let 𝓣 = tables 𝓤 𝓛.H 𝓜 𝓡 𝓡.env in let R : RattleType = param 0 T in let En = ended T in let c = clauses T 𝓛 𝓜.mem 𝓡.returns in
    let inst = layouts (a_type ∷ []) (T, tt) in let fn = inst_fn inst code.function in
    let hs : Stays En.signature.params En.kept = (stay_dropped (RefOf (0 ∷ []) tt (plain (λ _. HeldRow R)) (λ _. tt)) yes, tt) in
    proved_at 𝓛 En hs c 𝓜 𝓡 (Goes-dropped 𝓛 2 (RefOf (0 ∷ []) tt (plain (λ _. HeldRow R)) (λ _. tt)) yes (λ κs x f. refl), tt) (#self inst) fn (code.unfolded 𝓤 𝓛.H 𝓜 𝓡 wired (T, tt)) (λ z are.
    let κs = z.0.0 in let qs = z.0.1 in let Post : Val → SProp 𝓤 = (walk_of 𝓛 En hs c).post z in let Run : List Val → SProp 𝓤 = λ ws. WpFn 𝓤 𝓛.H 𝓣.C 𝓣.Λ fn ws Post in let Out : RattleType = type_at En.signature.result κs in
    let κ : Lft = κs.0 in let q : Share = qs.0 in let b : ℕ = z.0.3.0.ref_ptr.0 in let o : ℕ = z.0.3.0.ref_ptr.1 in let d = z.0.3.0.now in let Ref : RattleType = ShrRef (named 0) κ R in let S = shown_words R 𝓛 κ b o d in
    let shown : (p : Ptr) → d.at ≡ p → ent 𝓤 (sem 𝓛 S) (sep 𝓤 (sem 𝓛 (hidden_shr RawPtr κ p b (o + 0))) (sem 𝓛 S)) = λ p is. subst (λ r. ent 𝓤 (sem 𝓛 S) (sep 𝓤 (sem 𝓛 (hidden_shr RawPtr κ r b (o + 0))) (sem 𝓛 S))) is (shows_pointer R 𝓛 κ b o d) in
    qed 𝓛 (((‵ (flft κ q) ⊛ ‵ (flft κs.1.0 qs.1.0) ⊛ ‵ ftrue) ⊛ ‵ (owns (types_at En.signature.params κs) z.0.3 z.0.4)) ∷ raw ((c κs z.0.3).requires z.1) ∷ []) ∵
    split ! $ move ! (1 ∷ []) $ fsplit ! $ fsplit ! $ drop ! $ keep ! (0 ∷ 2 ∷ []) $ move ! (1 ∷ []) $ split ! $ move ! (2 ∷ []) $
    use1 𝓛 (‵ S ⊛ ‵ (fhide (held.the_lent R d d.at κ))) (lent_out 𝓛 (held.struct R) (held.the_codes R.Denot R.coded heap.the_row.coded) (held.the_heap R) (held.the_lent R) κ d b o) $ split ! $ move ! (1 ∷ []) $ unhide ! $
    either_lent R ! κ d.at d.value
    (λ is none. let v₀ : Val = live 0 vnil in let good : Good (layout Out) v₀ = (tt, (record { fits = lit< tt }, tt)) in
    suffices ! (Run (vptr b o ∷ [])) (subst (λ (us : List Val). ent 𝓤 (Run (vptr b o ∷ [])) (Run us)) (sym (λ i. are.0.0 i ++ [])) (id⊢ 𝓤 (Run (vptr b o ∷ [])))) $
    enter ! 𝓣.C 𝓣.Λ fn (vptr b o ∷ []) Post $ alloc_all ! (λ l. pass_all ! refl ((tt, tt), tt) $ let Ev = env fn.locals l in
    pointer_shown R ! tt null_ptr b (o + 0) (shown null_ptr is) (λ q'.
    sets ! (of_opd ! (load ! (through ! refl (fld ! refl (stop !))) (look ! 1 refl))) refl (Ptr-Good null_ptr) $ pointer_hid R ! tt null_ptr b (o + 0) $
    sets ! (of_opd ! (get ! refl)) refl (Ptr-Good null_ptr) $ sets ! (bin ! (get ! refl) (lit ! tt) tt) refl (tt, tt) $ first ! $ branches ! (get ! refl)
    (λ _. sets_last ! (agg ! (and_then ! (lit ! tt) (no_more !))) refl good $ exec ! 𝓣.C 𝓣.Λ Ev (after 4 fn.body) (at_ret Ev Post) $ sets ! (of_opd ! (get ! refl)) refl good $
    use0 𝓛 (‵ (Out.own_val None (v₀ ∷ []))) (none_of 𝓛 Ref) $ move ! (1 ∷ 3 ∷ []) $ join ! $ use0 𝓛 (raw (fact 𝓤 (None ≡ d.value))) (fact_i 𝓤 (None ≡ d.value) (emp 𝓤) (sym none)) $ nothing ! $ nothing ! $ fjoin ! $
    returns ! (look_at ! 0 refl) $ free_all ! refl $ keep ! (2 ∷ 0 ∷ 3 ∷ 1 ∷ []) $ by ! (leaves 𝓛 En hs c z v₀ None (tt, tt) (tt, tt))) (λ wrong. absurd wrong))))
    (λ b' o' x is one. let r : Ref.Denot = record { ref_ptr = (b', o'); now = x } in let v₁ : Val = live 1 (vcons (vptr b' o') vnil) in let good : Good (layout Out) v₁ = (tt, (record { fits = lit< tt }, (tt, tt))) in
    fsplit ! $ drop ! $ hide ! $ feq_i ! (List Val) (vptr b' o' ∷ []) (vptr b' o' ∷ []) refl $ fjoin ! $ move ! (1 ∷ 2 ∷ []) $
    suffices ! (Run (vptr b o ∷ [])) (subst (λ (us : List Val). ent 𝓤 (Run (vptr b o ∷ [])) (Run us)) (sym (λ i. are.0.0 i ++ [])) (id⊢ 𝓤 (Run (vptr b o ∷ [])))) $
    enter ! 𝓣.C 𝓣.Λ fn (vptr b o ∷ []) Post $ alloc_all ! (λ l. pass_all ! refl ((tt, tt), tt) $ let Ev = env fn.locals l in
    pointer_shown R ! tt (block_ptr b' o') b (o + 0) (shown (block_ptr b' o') is) (λ q'.
    sets ! (of_opd ! (load ! (through ! refl (fld ! refl (stop !))) (look ! 1 refl))) refl (tt, tt) $ pointer_hid R ! tt (block_ptr b' o') b (o + 0) $
    sets ! (of_opd ! (get ! refl)) refl (tt, tt) $ sets ! (bin ! (get ! refl) (lit ! tt) (tests_null (block_ptr b' o') (subst Testable is d.tested))) refl (tt, tt) $ first ! $ branches ! (get ! refl) (λ wrong. absurd wrong) (λ _.
    let Then = any_q (after_seq 𝓤 𝓛.H (Wp 𝓤 𝓛.H 𝓣.C 𝓣.Λ Ev (after 4 fn.body) (at_return 𝓤 𝓛.H Ev Post)) (at_return 𝓤 𝓛.H Ev Post)) in
    first ! $ blocks ! $ sets_last ! (addr ! (through ! refl (stop !))) refl (tt, tt) $ exec ! 𝓣.C 𝓣.Λ Ev wraps Then $ sets ! (of_opd ! (get ! refl)) refl (tt, tt) $ sets_last ! (agg ! (and_then ! (lit ! tt) (and_then ! (get ! refl) (no_more !)))) refl good $
    exec ! 𝓣.C 𝓣.Λ Ev (after 4 fn.body) (at_ret Ev Post) $ sets ! (of_opd ! (get ! refl)) refl good $ move ! (2 ∷ []) $
    use1 𝓛 (‵ (Out.own_val (Some r) (v₁ ∷ []))) (Some-of 𝓛 Ref r (vptr b' o')) $ move ! (1 ∷ 3 ∷ []) $ join ! $ use0 𝓛 (raw (fact 𝓤 (Some x ≡ d.value))) (fact_i 𝓤 (Some x ≡ d.value) (emp 𝓤) (sym one)) $ nothing ! $ nothing ! $ fjoin ! $
    returns ! (look_at ! 0 refl) $ free_all ! refl $ keep ! (2 ∷ 0 ∷ 3 ∷ 1 ∷ []) $ by ! (leaves 𝓛 En hs c z v₁ (Some r) (tt, tt) (tt, tt)))))))
