-- What taking off and putting on does to the stacks that are stood for.
use Rattle.std.proofs.Common.{◌≡◌, List, [], ◌∷◌, ◌++◌, map, refl, ap, sym, ◌∙◌, subst, append_assoc, Bool, true, false, Option, None, Some}
use Rattle.wasm_typing.specs.inner.Stands.{Fits, Stands, closed, open_end, entry, State, Means, Popped, NotOnTop, Off, Bare, Exactly, Ends}
use Rattle.std.proofs.lemmas.List.{append-nil}
use Rattle.wasm_values.specs.declared.types.ValType.{ValType}
use Rattle.wasm_values.specs.declared.types.ValType.TheVariants.{I32}

-- a stack of entries stands for some stack
pub inhabited : (o : Bool) (es : List (Option ValType)) → (types : List ValType) × Stands o es types
inhabited false [] = ([], closed)
inhabited true [] = ([], open_end)
inhabited o (None ∷ es) = let r = inhabited o es in (I32 ∷ r.0, entry tt r.1)
inhabited o (Some t ∷ es) = let r = inhabited o es in (t ∷ r.0, entry refl r.1)

pub some_type : (e : Option ValType) → (t : ValType) × Fits e t
some_type None = (I32, tt)
some_type (Some t) = (t, refl)

pub under : {o : Bool} {e : Option ValType} {es : List (Option ValType)} {t : ValType} {below : List ValType} → Stands o (e ∷ es) (t ∷ below) → Fits e t × Stands o es below
under (entry f m) = (f, m)

pub split_top : {o : Bool} {e : Option ValType} {es : List (Option ValType)} {to : List ValType} → Stands o (e ∷ es) to → (t : ValType) × (below : List ValType) × (to ≡ t ∷ below) × Fits e t × Stands o es below
split_top (entry {value = t} {types = below} f m) = (t, below, refl, f, m)

not_bare : {o : Bool} {t : ValType} {below : List ValType} → Stands o [] (t ∷ below) → o ≡ false → ⊥
not_bare open_end e = cc

pub off_none : (o : Bool) (es b : List (Option ValType)) → o ≡ false → es ≡ [] → Bare (o, es, b)
off_none o es b p q = record { refused = λ t below m. not_bare (subst (λ (z : List (Option ValType)). Stands o z (t ∷ below)) q m) p }

any_bare : {o : Bool} (types : List ValType) → o ≡ true → Stands o [] types
any_bare types p = subst (λ (z : Bool). Stands z [] types) (sym p) open_end

pub off_bare : (o : Bool) (es b : List (Option ValType)) → o ≡ true → es ≡ [] → Off None (o, es, b) (o, es, b)
off_bare o es b p q = record {
  forth = λ t below f m. subst (λ (z : List (Option ValType)). Stands o z (t ∷ below)) (sym q) (any_bare (t ∷ below) p);
  back = λ t below m. (tt, subst (λ (z : List (Option ValType)). Stands o z below) (sym q) (any_bare below p));
  kept = refl;
  bottom = refl;
}

pub off_entry : (o : Bool) (e : Option ValType) (es b : List (Option ValType)) → Off e (o, e ∷ es, b) (o, es, b)
off_entry o e es b = record { forth = λ t below f m. entry f m; back = λ t below m. under m; kept = refl; bottom = refl }

-- several types
pub popped_none : (s : State) → Popped [] s s
popped_none s = record { forth = λ below m. m; back = λ below m. m; kept = refl; bottom = refl }

pub popped_more : {ins : List ValType} {s m n : State} (e : Option ValType) (t : ValType) → Popped ins s m → Off e m n → Fits e t → Popped (ins ++ t ∷ []) s n
popped_more {ins} e t p o f = record {
  forth = λ below x. rw append_assoc (p.forth (t ∷ below) (o.forth t below f x));
  back = λ below x. (o.back t below (p.back (t ∷ below) (rw append_assoc at x))).1;
  kept = o.kept ∙ p.kept;
  bottom = o.bottom ∙ p.bottom;
}

pub stop_none : {ins : List ValType} {s m : State} (t : ValType) (rest : List ValType) → Popped ins s m → Bare m → NotOnTop (ins ++ t ∷ rest) s
stop_none {ins} t rest p bare = record { refused = λ below x. bare.refused t (rest ++ below) (p.back (t ∷ rest ++ below) (rw append_assoc at x)) }

pub stop_other : {ins : List ValType} {s m n : State} (e : Option ValType) (t : ValType) (rest : List ValType) → Popped ins s m → Off e m n → (Fits e t → ⊥) → NotOnTop (ins ++ t ∷ rest) s
stop_other {ins} e t rest p o differs = record { refused = λ below x. differs (o.back t (rest ++ below) (p.back (t ∷ rest ++ below) (rw append_assoc at x))).0 }

pub popped_join : {a b : List ValType} {s m n : State} → Popped a s m → Popped b m n → Popped (a ++ b) s n
popped_join {a} {b} p q = record {
  forth = λ below x. rw append_assoc (p.forth (b ++ below) (q.forth below x));
  back = λ below x. q.back below (p.back (b ++ below) (rw append_assoc at x));
  kept = q.kept ∙ p.kept;
  bottom = q.bottom ∙ p.bottom;
}

pub stop_first : {a : List ValType} {s : State} (b : List ValType) → NotOnTop a s → NotOnTop (a ++ b) s
stop_first b bad = record { refused = λ below x. bad.refused (b ++ below) (rw append_assoc at x) }

pub stop_later : {a b : List ValType} {s m : State} → Popped a s m → NotOnTop b m → NotOnTop (a ++ b) s
stop_later {a} {b} p bad = record { refused = λ below x. bad.refused below (p.back (b ++ below) (rw append_assoc at x)) }

-- known types on top
pub push_forth : (outs : List ValType) {o : Bool} {es : List (Option ValType)} (to : List ValType) → Stands o (map Some outs ++ es) to → (below : List ValType) × (to ≡ outs ++ below) × Stands o es below
push_forth [] to m = (to, refl, m)
push_forth (t ∷ outs) to m =
    let top = split_top m in
    let r = push_forth outs top.1 top.4 in
    let same : t ≡ top.0 = top.3 in
    (r.0, top.2 ∙ ap (λ z. z ∷ top.1) (sym same) ∙ ap (λ z. t ∷ z) r.1, r.2)

pub push_back : (outs : List ValType) {o : Bool} {es : List (Option ValType)} {below : List ValType} → Stands o es below → Stands o (map Some outs ++ es) (outs ++ below)
push_back [] m = m
push_back (t ∷ outs) m = entry refl (push_back outs m)

-- nothing is on a stack that stands for the empty one
pub bare_yes : (o : Bool) (es : List (Option ValType)) → es ≡ [] → Stands o es []
bare_yes false es e = subst (λ (z : List (Option ValType)). Stands false z []) (sym e) closed
bare_yes true es e = subst (λ (z : List (Option ValType)). Stands true z []) (sym e) open_end

pub bare_no : (o : Bool) (es : List (Option ValType)) → Stands o es [] → es ≡ []
bare_no o [] m = refl
bare_no o (e ∷ es) m = elim m [ ]

pub closed_only : {types : List ValType} → Stands false [] types → types ≡ []
closed_only closed = refl

-- at the end of a body
state_parts : (s : State) (o : Bool) (b : List (Option ValType)) → s.0 ≡ o → s.1 ≡ [] → s.2 ≡ b → s ≡ (o, [], b)
state_parts s o b p q r =
    ap (λ (z : Bool). let t : State = (z, s.1, s.2) in t) p ∙ ap (λ (z : List (Option ValType)). let t : State = (o, z, s.2) in t) q ∙ ap (λ (z : List (Option ValType)). let t : State = (o, [], z) in t) r

pub ends_checks : {types : List ValType} {old new : State} → Popped types old new → (b : Bool) → Exactly (new.1 ≡ []) b → Ends types old new b
ends_checks {types} {old} {new} p true e = (rw append-nil at (p.forth [] (bare_yes new.0 new.1 e)), state_parts new old.0 old.2 p.bottom e p.kept)
ends_checks {types} {old} {new} p false e = λ m. e (bare_no new.0 new.1 (p.back [] (rw append-nil m)))

-- where no entry is left above an open bottom, any types may be taken as they come
pub popped_anything : {ins : List ValType} {s m : State} (more : List ValType) → Popped ins s m → m.0 ≡ true → m.1 ≡ [] → Popped (ins ++ more) s m
popped_anything {ins} {s} {m} more p o e =
    let any : (types : List ValType) → Means m types = λ types. subst (λ (z : List (Option ValType)). Stands m.0 z types) (sym e) (any_bare types o) in
    record {
      forth = λ below x. rw append_assoc (p.forth (more ++ below) (any (more ++ below)));
      back = λ below x. any below;
      kept = p.kept;
      bottom = p.bottom;
    }
