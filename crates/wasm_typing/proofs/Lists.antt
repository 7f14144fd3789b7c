-- From one instruction to lists of them, and to the bodies of blocks.
use Rattle.std.proofs.Common.{◌≡◌, List, [], ◌++◌, refl, sym, ◌∙◌, subst, false, Option}
use Rattle.wasm_values.specs.Syntax.{Op, Ops, no_ops, next}
use Rattle.wasm_typing.specs.Typing.{Typed, none_typed, next_typed}
use Rattle.wasm_typing.specs.Context.{Context}
use Rattle.wasm_typing.specs.inner.Stands.{closed, State, Means, Steps, framed, Image, NoImage, Goes, Reached}
use Rattle.wasm_values.specs.declared.types.ValType.{ValType}
use Rattle.wasm_typing.proofs.Stacks.{closed_only}

-- What can be reached by all of the instructions from the old stack is what can be reached by the rest of them from the new one.
pub record Onward (cx : Context) (labels : List (Option ValType)) (ops rest : Ops) (old new : State) : Type 0 where
  pub forth : (to : List ValType) → Goes cx labels rest new to → Goes cx labels ops old to
  pub back : (to : List ValType) → Goes cx labels ops old to → Goes cx labels rest new to
  pub kept : new.2 ≡ old.2

typed_cons : {cx : Context} {labels : List (Option ValType)} {op : Op} {ops : Ops} {from mid to : List ValType} → Steps cx labels op from mid → Typed cx labels ops mid to → Typed cx labels (next op ops) from to
typed_cons (framed below t) ts = next_typed below t ts

typed_parts : {cx : Context} {labels : List (Option ValType)} {op : Op} {ops : Ops} {from to : List ValType} → Typed cx labels (next op ops) from to → (mid : List ValType) × Steps cx labels op from mid × Typed cx labels ops mid to
typed_parts (next_typed {outs = outs} below t ts) = (outs ++ below, framed below t, ts)

typed_none : {cx : Context} {labels : List (Option ValType)} {from to : List ValType} → Typed cx labels no_ops from to → from ≡ to
typed_none none_typed = refl

pub onward_start : {cx : Context} {labels : List (Option ValType)} (ops : Ops) (s : State) → Onward cx labels ops ops s s
onward_start ops s = record { forth = λ to g. g; back = λ to g. g; kept = refl }

pub onward_step : {cx : Context} {labels : List (Option ValType)} {ops rest : Ops} {op : Op} {s m n : State} → Onward cx labels ops (next op rest) s m → Image cx labels op m n → Onward cx labels ops rest s n
onward_step o i = record {
  forth = λ to g. let r = i.forth g.0 g.1 in o.forth to (r.0, r.1, typed_cons r.2 g.2);
  back = λ to g.
      let r = o.back to g in
      let p = typed_parts r.2 in
      (p.0, i.back r.0 p.0 r.1 p.1, p.2);
  kept = i.kept ∙ o.kept;
}

pub onward_stop : {cx : Context} {labels : List (Option ValType)} {ops rest : Ops} {op : Op} {s m : State} → Onward cx labels ops (next op rest) s m → NoImage cx labels op m → (to : List ValType) → Goes cx labels ops s to → ⊥
onward_stop o bad to g =
    let r = o.back to g in
    let p = typed_parts r.2 in
    bad.refused r.0 p.0 r.1 p.1

pub onward_end : {cx : Context} {labels : List (Option ValType)} {ops : Ops} {s n : State} → Onward cx labels ops no_ops s n → Reached cx labels ops s n
onward_end {cx} {n = n} o = record {
  forth = λ to x. o.forth to (to, x, none_typed);
  back = λ to g. let r = o.back to g in subst (λ (z : List ValType). Means n z) (typed_none r.2) r.1;
  kept = o.kept;
}

-- a body, which begins with nothing on the stack
pub body_goes : {cx : Context} {labels : List (Option ValType)} {ops : Ops} {to : List ValType} {s : State} (b : List (Option ValType)) → s ≡ (false, [], b) → Typed cx labels ops [] to → Goes cx labels ops s to
body_goes b e t = ([], subst (λ (z : State). Means z []) (sym e) closed, t)

pub body_typed : {cx : Context} {labels : List (Option ValType)} {ops : Ops} {to : List ValType} {s : State} (b : List (Option ValType)) → s ≡ (false, [], b) → Goes cx labels ops s to → Typed cx labels ops [] to
body_typed {cx} {labels} {ops} {to} b e g =
    let bare = closed_only (subst (λ (z : State). Means z g.0) e g.1) in
    subst (λ (z : List ValType). Typed cx labels ops z to) bare g.2
