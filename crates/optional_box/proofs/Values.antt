-- The machine values of a `Loose` and of a `Held`. Assumes `Logic`.
--     loose_out, loose_in       a `Loose` by value is [the box's block; the handle]
--     held_out, held_in         a `Held` by value is [what it owns; the handle]
--     either_owned, either_lent        at no value the pointer is null, else it points to a block
--     tested                    a pointer to a block may be compared with null
--     pointer_shown, pointer_hid       the pointer of a `Held` is read through a `&`, and shut again
use Rattle.std.proofs.Common.{◌≡◌, ℕ, ◌+◌, List, [], ◌∷◌, ◌++◌, refl, sym, subst}
use mathlib.Core.Bool.{Bool, true, false, ◌&&◌}
use lib.Dec.{T}
use seplogic.Ra.Ura.{Ura}
use mir.Syntax.{impl, tnil, dnil}
use mir.Raw.{raw as bare}
use mir.Val.{Val, vptr, vstruct, vcons, vnil, of_list, has_ty, WT}
use base.Logic.{never, fst∗}
use types.Logic.{Logic, sem}
use types.Kit.{Item, Goal, Seq, Step, step, ‵, ◌$◌, move, drop, fsplit, fjoin, fpick, fpack, rewrite, feq_i, feq_l}
use denote.RattleType.{RattleType, RowLaws, Valss}
use denote.Builtin.{RawPtr}
use denote.Memory.{lone}
use denote.RawPtr.{Ptr, block_ptr, null_ptr, ptr_val, in_a_block}
use denote.Steps.{nothing}
use denote.Param.{layout}
use denote.Param.Laws.{Laws}
use denote.Struct.Struct.{Struct, Struct-row_laws, within}
use denote.Struct.Owning.{shape, to}
use Rattle.core.specs.declared.alloc.Allocator.{Ghosts}
use Rattle.core.proofs.alloc.Calls.{Al, handle_tells}
use Rattle.core.proofs.cell.Inside.{Good, one}
use Rattle.std_alloc.specs.Box.Ownership.{box_owns}
use Rattle.std_alloc.proofs.ResultValues.{and_tt}
use mir.Syntax.{ty_ptr}
use base.Fraction.{full_share}
use base.Logic.{ent, sep, guard, guard_i, via, snd∗, id⊢}
use base.Fml.{Lft, Share, Fml, ftrue, ffalse, fat, flft}
use types.Kit.{Soaks, ◌⊛◌, ◌∵◌, !, qed, keep, done, use1, split}
use contract.Monad.{fact_use}
use denote.Copied.{plain_Copied}
use denote.Memory.{cell_at, part_at, hidden_shr, shared_of}
use denote.Opens.{Shut, shr_dup, unhide, hide}
use denote.RawPtr.{Testable, InBlock, block_of, count_of, coded_ptr, ptr_row_laws, ptr_own, rawptr_pure, lies_at}
use denote.Steps.{looks, shuts}
use denote.Struct.Laws.{RawPtr-laws}
use denote.Struct.Lending.{lent_at}
use Rattle.core.proofs.atomic.Steps.{Ptr-Good}
use Rattle.std.specs.declared.option.Option.{Option}
use Rattle.std.specs.declared.option.Option.TheVariants.{None, Some}
use Rattle.std.specs.declared.alloc.Global.{Global}
use Rattle.std.specs.contracts.alloc.Global as heap
use Rattle.std.proofs.alloc.Global.TheLaws as heap_laws
use Rattle.std.specs.contracts.impls.GlobalAllocator.TheImpl.{ghosts}
use Rattle.std.proofs.GlobalToken.{dealloc_token-Testable}
use Rattle.optional_box.specs.Held.{owned, lent}
use Rattle.optional_box.specs.contracts.held.Held as held
use Rattle.optional_box.specs.contracts.loose.Loose as loose

abbrev pub both : Val → Val → Val
both v w = vstruct (vcons v (vcons w vnil))

pub both_tt : (x y : Bool) → T x → T y → T (x && (y && true))
both_tt true true s t = tt
both_tt true false s t = absurd t
both_tt false y s t = absurd s

module _ (R Z : RattleType) (L : Laws Z) (g : Ghosts Z.Denot) where
  abbrev pub Loose : RattleType
  Loose = loose.the_row R Z g

  abbrev al : Al
  al = record { row = Z; laws = L; g = g; d = impl [] tnil dnil; drops = impl [] tnil dnil }

  pub loose_good : (b o : ℕ) (h : Val) → Good (layout Z) h → T (has_ty (layout Z) h && true) × WT (both (vptr b o) h)
  loose_good b o h fits = (and_tt (has_ty (layout Z) h) fits.0, (tt, (fits.1, tt)))

  module _ {M : Type 1} {𝓤 : Ura M} {𝓛 : Logic 𝓤} {K : Type 0} {Γ : List (Item 𝓤)} {G : Goal 𝓤 𝓛.H} where
    pub loose_out : K → (d : Loose.Denot) (vs : List Val)
        → ((b o : ℕ) (h : Val) → d.at ≡ block_ptr b o → vs ≡ both (vptr b o) h ∷ [] → Good (layout Z) h → Seq K 𝓛 (‵ (box_owns (g.dealloc_token d.alloc) R (block_ptr b o) d.value) ∷ ‵ (Z.own_val d.alloc (h ∷ [])) ∷ Γ) G)
        → Seq K 𝓛 (‵ (Loose.own_val d vs) ∷ Γ) G
    loose_out t d vs k =
        fsplit t $ fpick t (λ vss. fsplit t $ feq_l t (λ ev. fsplit t $ feq_l t (λ ep. fsplit t $ handle_tells al t d.alloc vss.1.0 (λ h ea fits. move t (1 ∷ []) $ drop t $ move t (1 ∷ []) $
        in_a_block t d.at (λ p. box_owns (g.dealloc_token d.alloc) R p d.value) (fst∗ 𝓤 (never 𝓤) (sem 𝓛 (g.dealloc_token d.alloc (bare (lone R.mir)) null_ptr))) (λ b o e. k b o h e
        (subst (λ (p : Ptr). vs ≡ vstruct (of_list (ptr_val p ∷ h ∷ [])) ∷ []) e
        (subst (λ (ws : List Val). vs ≡ vstruct (of_list (ptr_val d.at ∷ (ws ++ []))) ∷ []) ea (subst (λ (ps : List Val). vs ≡ vstruct (of_list (ps ++ (vss.1.0 ++ []))) ∷ []) ep ev))) fits)))))

    pub loose_in : K → (b o : ℕ) (h : Val) (a : Z.Denot) (x : R.Denot)
        → Step K 𝓛 (‵ (Loose.own_val (record { at = block_ptr b o; alloc = a; value = x }) (both (vptr b o) h ∷ [])) ∷ Γ) G (‵ (box_owns (g.dealloc_token a) R (block_ptr b o) x) ∷ ‵ (Z.own_val a (h ∷ [])) ∷ Γ) G
    loose_in t b o h a x = step (λ s. let v : Val = both (vptr b o) h in
        nothing t $ move t (2 ∷ 0 ∷ []) $ fjoin t $ feq_i t (List Val) (vptr b o ∷ []) (vptr b o ∷ []) refl $ fjoin t $ feq_i t (List Val) (v ∷ []) (v ∷ []) refl $ fjoin t $
        fpack t (Valss (RawPtr ∷ Z ∷ [])) (within (shape (loose.the_type R Z g)) (block_ptr b o, (a, tt)) (v ∷ [])) (vptr b o ∷ [], (h ∷ [], tt)) $ fjoin t $ s)

abbrev pub HeapRow : RattleType
HeapRow = heap.the_row

abbrev pub word : Ptr → Val → Val
word p h = both (ptr_val p) h

module _ (R : RattleType) where
  abbrev pub HeldRow : RattleType
  HeldRow = held.the_row R

  abbrev pub boxed : Global → Ptr → R.Denot → Fml
  boxed a p x = box_owns (ghosts.dealloc_token a) R p x

  pub held_good : (p : Ptr) (h : Val) → Good (layout HeapRow) h → Good (layout HeldRow) (word p h)
  held_good p h fits = (both_tt (has_ty ty_ptr (ptr_val p)) (has_ty (layout HeapRow) h) (Ptr-Good p).0 fits.0, ((Ptr-Good p).1, (fits.1, tt)))

  module _ {M : Type 1} {𝓤 : Ura M} (𝓛 : Logic 𝓤) where
    pub tested : (a : Global) (p : Ptr) (x : R.Denot) → ent 𝓤 (sem 𝓛 (boxed a p x)) (guard 𝓤 (Testable p) (sem 𝓛 (boxed a p x)))
    tested a p x = let B = sem 𝓛 (boxed a p x) in
        fact_use 𝓤 (Testable p) (via 𝓤 _ (snd∗ 𝓤 (sem 𝓛 (lies_at R full_share p x)) (sem 𝓛 (ghosts.dealloc_token a (bare (lone R.mir)) p))) (dealloc_token-Testable 𝓛 a (bare (lone R.mir)) p)) (guard_i 𝓤 (Testable p) B)

  module _ {M : Type 1} {𝓤 : Ura M} {𝓛 : Logic 𝓤} {K : Type 0} {Γ : List (Item 𝓤)} {G : Goal 𝓤 𝓛.H} where
    pub held_out : K → (d : HeldRow.Denot) (vs : List Val)
        → ((h : Val) → vs ≡ word d.at h ∷ [] → Good (layout HeapRow) h → Seq K 𝓛 (‵ (owned R d.alloc d.at d.value) ∷ ‵ (HeapRow.own_val d.alloc (h ∷ [])) ∷ Γ) G)
        → Seq K 𝓛 (‵ (HeldRow.own_val d vs) ∷ Γ) G
    held_out t d vs k =
        fsplit t $ fpick t (λ vss. fsplit t $ feq_l t (λ ev. fsplit t $ feq_l t (λ ep. fsplit t $ handle_tells (al R HeapRow heap_laws.the_row_laws ghosts) t d.alloc vss.1.0 (λ h ea fits. move t (1 ∷ []) $ drop t $ move t (1 ∷ []) $ k h
        (subst (λ (ws : List Val). vs ≡ vstruct (of_list (ptr_val d.at ∷ (ws ++ []))) ∷ []) ea (subst (λ (ps : List Val). vs ≡ vstruct (of_list (ps ++ (vss.1.0 ++ []))) ∷ []) ep ev)) fits))))

    pub held_in : K → (p : Ptr) (h : Val) (a : Global) (v : Option R.Denot) (s : Testable p)
        → Step K 𝓛 (‵ (HeldRow.own_val (record { at = p; alloc = a; value = v; tested = s }) (word p h ∷ [])) ∷ Γ) G (‵ (owned R a p v) ∷ ‵ (HeapRow.own_val a (h ∷ [])) ∷ Γ) G
    held_in t p h a v s = step (λ k. let w : Val = word p h in
        nothing t $ move t (2 ∷ 0 ∷ []) $ fjoin t $ feq_i t (List Val) (ptr_val p ∷ []) (ptr_val p ∷ []) refl $ fjoin t $ feq_i t (List Val) (w ∷ []) (w ∷ []) refl $ fjoin t $
        fpack t (Valss (RawPtr ∷ HeapRow ∷ [])) (within (shape (held.the_type R)) (to (held.the_type R) (record { at = p; alloc = a; value = v; tested = s })) (w ∷ [])) (ptr_val p ∷ [], (h ∷ [], tt)) $ fjoin t $ k)

    never_here : K → Seq K 𝓛 (‵ ffalse ∷ Γ) G
    never_here t = in_a_block t null_ptr (λ _. ffalse) (id⊢ 𝓤 _) (λ b o e. absurd (subst InBlock (sym e) tt))

    pub either_owned : K → (a : Global) (p : Ptr) (v : Option R.Denot) → (p ≡ null_ptr → v ≡ None → Seq K 𝓛 Γ G)
        → ((b o : ℕ) (x : R.Denot) → p ≡ block_ptr b o → v ≡ Some x → Seq K 𝓛 (‵ (boxed a (block_ptr b o) x) ∷ Γ) G) → Seq K 𝓛 (‵ (owned R a p v) ∷ Γ) G
    either_owned t a null_ptr None none one = drop t $ none refl refl
    either_owned t a (block_ptr b o) None none one = never_here t
    either_owned t a p (Some x) none one = in_a_block t p (λ q. boxed a q x) (fst∗ 𝓤 (never 𝓤) (sem 𝓛 (ghosts.dealloc_token a (bare (lone R.mir)) null_ptr))) (λ b o e. one b o x e refl)

    pub either_lent : K → (κ : Lft) (p : Ptr) (v : Option R.Denot) → (p ≡ null_ptr → v ≡ None → Seq K 𝓛 Γ G)
        → ((b o : ℕ) (x : R.Denot) → p ≡ block_ptr b o → v ≡ Some x → Seq K 𝓛 (‵ (lent_at R (block_ptr b o) x κ) ∷ Γ) G) → Seq K 𝓛 (‵ (lent R p v κ) ∷ Γ) G
    either_lent t κ null_ptr None none one = drop t $ none refl refl
    either_lent t κ (block_ptr b o) None none one = never_here t
    either_lent t κ p (Some x) none one = in_a_block t p (λ q. lent_at R q x κ) (fst∗ 𝓤 (never 𝓤) (sem 𝓛 (shared_of R x (block_of null_ptr) (count_of null_ptr) κ))) (λ b o e. one b o x e refl)

    pub pointer_shown : K → Soaks G → {κ : Lft} {q : Share} {S : Fml} (p : Ptr) (b at : ℕ) → ent 𝓤 (sem 𝓛 S) (sep 𝓤 (sem 𝓛 (hidden_shr RawPtr κ p b at)) (sem 𝓛 S))
        → ((q' : Share) → Seq K 𝓛 (‵ ftrue ∷ ‵ (fat q' ty_ptr b at (ptr_val p)) ∷ Shut 𝓛 κ q (part_at RawPtr q' p b at) ∷ ‵ S ∷ Γ) G) → Seq K 𝓛 (‵ S ∷ ‵ (flft κ q) ∷ Γ) G
    pointer_shown t z {κ} {q} {S} p b at shown k =
        use1 𝓛 (‵ (hidden_shr RawPtr κ p b at) ⊛ ‵ S) shown $ split t $ move t (0 ∷ 2 ∷ []) $
        looks t z RawPtr (plain_Copied 𝓛 Ptr coded_ptr (ty_ptr ∷ []) ptr_own rawptr_pure ptr_val RawPtr-laws.tells).opens p b at (λ q' vs. move t (1 ∷ []) $ feq_l t (λ e.
        rewrite t 0 (λ (us : List Val). ‵ (cell_at q' RawPtr.mir us b at)) e refl $ move t (2 ∷ []) $ drop t $ nothing t $ k q'))

    pub pointer_hid : K → Soaks G → {κ : Lft} {q q' : Share} (p : Ptr) (b at : ℕ)
        → Step K 𝓛 (‵ (flft κ q) ∷ Γ) G (‵ ftrue ∷ ‵ (fat q' ty_ptr b at (ptr_val p)) ∷ Shut 𝓛 κ q (part_at RawPtr q' p b at) ∷ Γ) G
    pointer_hid t z {q' = q'} p b at = step (λ s.
        drop t $ feq_i t (List Val) (ptr_val p ∷ []) (ptr_val p ∷ []) refl $ move t (1 ∷ 0 ∷ []) $ shuts t z RawPtr q' p (ptr_val p ∷ []) b at $ s)

module _ (R : RattleType) {M : Type 1} {𝓤 : Ura M} (𝓛 : Logic 𝓤) (κ : Lft) (b o : ℕ) (d : (HeldRow R).Denot) where
  abbrev pub Words : RattleType
  Words = Struct (shape (held.the_type R))

  abbrev pub words : Words.Denot
  words = to (held.the_type R) d

  abbrev pub shown_words : Fml
  shown_words = hidden_shr Words κ words b o

  words_laws : RowLaws Words
  words_laws = Struct-row_laws (shape (held.the_type R)) (ptr_row_laws, (heap_laws.the_field_shared.shr_laws, tt))

  pub shows_pointer : ent 𝓤 (sem 𝓛 shown_words) (sep 𝓤 (sem 𝓛 (hidden_shr RawPtr κ d.at b (o + 0))) (sem 𝓛 shown_words))
  shows_pointer = qed 𝓛 (‵ shown_words ∷ []) ∵ shr_dup ! Words words_laws words b o κ $ unhide ! $ fsplit ! $ fsplit ! $ hide ! $ keep ! (0 ∷ 3 ∷ []) $ done !
