-- An instruction is checked exactly where the new stack stands for what the instruction makes of what the old one stands for.
use Rattle.std.proofs.Common.{◌≡◌, List, [], ◌∷◌, ◌++◌, refl, ap, sym, ◌∙◌, subst, append_assoc, Bool, true, false, Option, Some}
use Rattle.std.proofs.lemmas.List.{append-nil}
use Rattle.wasm_values.specs.Syntax.{Op, drop_value, select}
use Rattle.wasm_values.specs.declared.types.ValType.{ValType}
use Rattle.wasm_values.specs.declared.types.ValType.TheVariants.{I32}
use Rattle.wasm_typing.specs.Context.{Context}
use Rattle.wasm_typing.specs.Typing.{TypedOp, drop_typed, select_typed}
use Rattle.wasm_typing.specs.inner.Stands.{open_end, entry, State, Means, Steps, framed, Popped, NotOnTop, Off, Bare, Joins, Applies, Image, NoImage, Checks, pushed}
use Rattle.wasm_typing.proofs.Stacks.{inhabited, some_type, split_top, push_forth, push_back}

-- an instruction with types below, taken apart
pub record Parts (cx : Context) (labels : List (Option ValType)) (op : Op) (from to : List ValType) : Type 0 where
  pub ins : List ValType
  pub outs : List ValType
  pub below : List ValType
  pub typed : TypedOp cx labels op ins outs
  pub begins : from ≡ ins ++ below
  pub ends : to ≡ outs ++ below

pub parts : {cx : Context} {labels : List (Option ValType)} {op : Op} {from to : List ValType} → Steps cx labels op from to → Parts cx labels op from to
parts (framed {ins = ins} {outs = outs} below t) = record { ins = ins; outs = outs; below = below; typed = t; begins = refl; ends = refl }

at_types : (s : State) {a b : List ValType} → a ≡ b → Means s a → Means s b
at_types s e m = subst (λ (z : List ValType). Means s z) e m

pub at_state : {s n : State} {a : List ValType} → s ≡ n → Means s a → Means n a
at_state {a = a} e m = subst (λ (z : State). Means z a) e m

-- instructions of one type
abbrev pub Only : Context → List (Option ValType) → Op → List ValType → List ValType → Type 0
Only cx labels op ins outs = (a b : List ValType) → TypedOp cx labels op a b → (a ≡ ins) × (b ≡ outs)

pub only_image : {cx : Context} {labels : List (Option ValType)} {op : Op} {ins outs : List ValType} {s n : State} → TypedOp cx labels op ins outs → Only cx labels op ins outs
    → (mid : State) → Popped ins s mid → n ≡ pushed outs mid → Image cx labels op s n
only_image {cx} {labels} {op} {ins} {outs} {s} {n} typed only mid p e = record {
  forth = λ to x.
      let r = push_forth outs to (at_state e x) in
      (ins ++ r.0, p.forth r.0 r.2, subst (λ (z : List ValType). Steps cx labels op (ins ++ r.0) z) (sym r.1) (framed r.0 typed));
  back = λ from to x st.
      let c = parts st in
      let u = only c.ins c.outs c.typed in
      let m = p.back c.below (at_types s (c.begins ∙ ap (λ z. z ++ c.below) u.0) x) in
      at_state (sym e) (at_types (pushed outs mid) (sym (c.ends ∙ ap (λ z. z ++ c.below) u.1)) (push_back outs m));
  kept = ap (λ z. z.2) e ∙ p.kept;
}

pub only_none : {cx : Context} {labels : List (Option ValType)} {op : Op} {ins outs : List ValType} {s : State} → Only cx labels op ins outs → NotOnTop ins s → NoImage cx labels op s
only_none {s = s} only bad = record {
  refused = λ from to x st.
      let c = parts st in
      bad.refused c.below (at_types s (c.begins ∙ ap (λ z. z ++ c.below) (only c.ins c.outs c.typed).0) x);
}

pub only_checks : {cx : Context} {labels : List (Option ValType)} {op : Op} {ins outs : List ValType} (s n : State) → TypedOp cx labels op ins outs → Only cx labels op ins outs
    → (b : Bool) → Applies ins outs s n b → Checks cx labels op s n b
only_checks s n typed only true a = only_image typed only a.0 a.1 a.2
only_checks s n typed only false a = only_none only a

-- instructions behind which nothing is reached
abbrev pub Leaves : Context → List (Option ValType) → Op → List ValType → Type 0
Leaves cx labels op ins = (a b : List ValType) → TypedOp cx labels op a b → (from : List ValType) × (a ≡ ins ++ from)

pub leaves_image : {cx : Context} {labels : List (Option ValType)} {op : Op} {ins : List ValType} {s n : State} → ((from to : List ValType) → TypedOp cx labels op (ins ++ from) to) → Leaves cx labels op ins
    → (mid : State) → Popped ins s mid → n ≡ (true, [], mid.2) → Image cx labels op s n
leaves_image {cx} {labels} {op} {ins} {s} {n} typed leaves mid p e = record {
  forth = λ to x.
      let i = inhabited mid.0 mid.1 in
      (ins ++ i.0, p.forth i.0 i.1, rw (append-nil (ins ++ i.0), append-nil to) at (framed [] (typed i.0 to)));
  back = λ from to x st. at_state (sym e) open_end;
  kept = ap (λ z. z.2) e ∙ p.kept;
}

pub leaves_none : {cx : Context} {labels : List (Option ValType)} {op : Op} {ins : List ValType} {s : State} → Leaves cx labels op ins → NotOnTop ins s → NoImage cx labels op s
leaves_none {ins = ins} {s = s} leaves bad = record {
  refused = λ from to x st.
      let c = parts st in
      let l = leaves c.ins c.outs c.typed in
      bad.refused (l.0 ++ c.below) (at_types s (c.begins ∙ ap (λ z. z ++ c.below) l.1 ∙ append_assoc ins l.0 c.below) x);
}

-- an instruction that has no type at all
pub never : {cx : Context} {labels : List (Option ValType)} {op : Op} (s : State) → ((a b : List ValType) → TypedOp cx labels op a b → ⊥) → NoImage cx labels op s
never s bad = record { refused = λ from to x st. let c = parts st in bad c.ins c.outs c.typed }

-- drop and select
steps_drop : {cx : Context} {labels : List (Option ValType)} {from to : List ValType} → Steps cx labels drop_value from to → (t : ValType) × (from ≡ t ∷ to)
steps_drop (framed below (drop_typed {value = t})) = (t, refl)

pub drop_image : {cx : Context} {labels : List (Option ValType)} {s n : State} (e : Option ValType) → Off e s n → Image cx labels drop_value s n
drop_image {cx} {labels} {s} {n} e o = record {
  forth = λ to x. let t = some_type e in (t.0 ∷ to, o.forth t.0 to t.1 x, framed to drop_typed);
  back = λ from to x st. let r = steps_drop st in (o.back r.0 to (at_types s r.1 x)).1;
  kept = o.kept;
}

pub drop_none : {cx : Context} {labels : List (Option ValType)} {s : State} → Bare s → NoImage cx labels drop_value s
drop_none {s = s} bare = record { refused = λ from to x st. let r = steps_drop st in bare.refused r.0 to (at_types s r.1 x) }

steps_select : {cx : Context} {labels : List (Option ValType)} {from to : List ValType} → Steps cx labels select from to → (t : ValType) × (below : List ValType) × (from ≡ I32 ∷ t ∷ t ∷ below) × (to ≡ t ∷ below)
steps_select (framed below (select_typed {value = t})) = (t, below, refl, refl)

pub select_image : {cx : Context} {labels : List (Option ValType)} {s p q r n : State} (a b e : Option ValType) → Popped (I32 ∷ []) s p → Off a p q → Off b q r → Joins a b (Some e) → n ≡ (r.0, e ∷ r.1, r.2) → Image cx labels select s n
select_image {cx} {labels} {s} {p} {q} {r} {n} a b e i f g j w = record {
  forth = λ to x.
      let top = split_top (at_state w x) in
      let both = (j top.0).0 top.3 in
      let old = i.forth (top.0 ∷ top.0 ∷ top.1) (f.forth top.0 (top.0 ∷ top.1) both.0 (g.forth top.0 top.1 both.1 top.4)) in
      (I32 ∷ top.0 ∷ top.0 ∷ top.1, old, subst (λ (z : List ValType). Steps cx labels select (I32 ∷ top.0 ∷ top.0 ∷ top.1) z) (sym top.2) (framed top.1 select_typed));
  back = λ from to x st.
      let t = steps_select st in
      let first = f.back t.0 (t.0 ∷ t.1) (i.back (t.0 ∷ t.0 ∷ t.1) (at_types s t.2 x)) in
      let second = g.back t.0 t.1 first.1 in
      at_state (sym w) (at_types (r.0, e ∷ r.1, r.2) (sym t.3) (entry ((j t.0).1 first.0 second.0) second.1));
  kept = ap (λ z. z.2) w ∙ g.kept ∙ f.kept ∙ i.kept;
}

pub select_none : {cx : Context} {labels : List (Option ValType)} (s : State) → ((t : ValType) (below : List ValType) → Means s (I32 ∷ t ∷ t ∷ below) → ⊥) → NoImage cx labels select s
select_none s bad = record { refused = λ from to x st. let t = steps_select st in bad t.0 t.1 (at_types s t.2 x) }
