-- The same for the instructions of the code, by what they stand for.
use Rattle.std.proofs.Common.{◌≡◌, ℕ, suc, zero, ◌+◌, ◌≤◌, ◌<◌, List, [], ◌∷◌, length, get_or, drop, ap, sym, ◌∙◌, subst, arith, add-one, drop-cons, Bool, false, Option, None, Result, Ok, Err, IfOk}
use Rattle.std.proofs.lemmas.Result.{IfOk-weaker}
use Rattle.std.proofs.Math.ListN.{drop_of_length-le}
use Rattle.wasm_values.specs.Syntax.{Op, Ops, next, block, loop, if_else, nesting, ops_nesting}
use Rattle.wasm_values.specs.View.{instr_view, items_view}
use Rattle.wasm_typing.specs.Typing.{TypedOp, Typed, types_of, block_typed, loop_typed, if_typed}
use Rattle.wasm_typing.specs.Context.{Context}
use Rattle.wasm_typing.specs.inner.Stands.{State, Means, Popped, Applies, Image, NoImage, Checks, Goes, Reached, pushed}
use Rattle.wasm_values.specs.declared.types.ValType.{ValType}
use Rattle.wasm_values.specs.declared.types.ValType.TheVariants.{I32}
use Rattle.wasm_values.specs.declared.instr.Instr.{Instr}
use Rattle.wasm_typing.proofs.Stacks.{popped_none}
use Rattle.wasm_typing.proofs.Images.{Only, only_checks, only_image, never}
use Rattle.wasm_typing.proofs.Instructions.{only_block, only_loop, only_if, block_body, loop_body, if_bodies}
use Rattle.wasm_typing.proofs.Lists.{Onward, onward_step, onward_stop, onward_end, body_goes, body_typed}

-- one instruction
pub checks_seen : (cx : Context) (labels : List (Option ValType)) (seen op : Op) (s n : State) (b : Bool) → seen ≡ op → Checks cx labels op s n b → Checks cx labels seen s n b
checks_seen cx labels seen op s n b e h = subst (λ (z : Op). Checks cx labels z s n b) (sym e) h

pub image_seen : {cx : Context} {labels : List (Option ValType)} {seen op : Op} {s n : State} → seen ≡ op → Image cx labels op s n → Image cx labels seen s n
image_seen {cx} {labels} {s = s} {n = n} e h = subst (λ (z : Op). Image cx labels z s n) (sym e) h

pub none_seen : {cx : Context} {labels : List (Option ValType)} {seen op : Op} {s : State} → seen ≡ op → NoImage cx labels op s → NoImage cx labels seen s
none_seen {cx} {labels} {s = s} e h = subst (λ (z : Op). NoImage cx labels z s) (sym e) h

pub applied : {E : Type 0} (r : Result Bool E) (cx : Context) (labels : List (Option ValType)) (seen op : Op) (ins outs : List ValType) (s n : State) → seen ≡ op → TypedOp cx labels op ins outs → Only cx labels op ins outs
    → IfOk r (λ b. Applies ins outs s n b) → IfOk r (λ b. Checks cx labels seen s n b)
applied r cx labels seen op ins outs s n e typed only h = IfOk-weaker r (λ b. Applies ins outs s n b) (λ b. Checks cx labels seen s n b) (λ b a. checks_seen cx labels seen op s n b e (only_checks s n typed only b a)) h

-- what holds of each value holds of that of a call
pub whatever : {X E : Type 0} {P : X → Type 0} (r : Result X E) → ((x : X) → P x) → IfOk r P
whatever (Ok x) all = all x
whatever (Err e) all = tt

pub block_image : {cx : Context} {labels : List (Option ValType)} {kind : Option ValType} {body : Ops} {s m n : State} → Typed cx (kind ∷ labels) body [] (types_of kind) → m ≡ s → n ≡ pushed (types_of kind) m → Image cx labels (block kind body) s n
block_image {kind = kind} {s = s} t e f = only_image (block_typed t) only_block s (popped_none s) (f ∙ ap (λ z. pushed (types_of kind) z) e)

pub loop_image : {cx : Context} {labels : List (Option ValType)} {kind : Option ValType} {body : Ops} {s m n : State} → Typed cx (None ∷ labels) body [] (types_of kind) → m ≡ s → n ≡ pushed (types_of kind) m → Image cx labels (loop kind body) s n
loop_image {kind = kind} {s = s} t e f = only_image (loop_typed t) only_loop s (popped_none s) (f ∙ ap (λ z. pushed (types_of kind) z) e)

pub block_none : {cx : Context} {labels : List (Option ValType)} {kind : Option ValType} {body : Ops} (s : State) → (Typed cx (kind ∷ labels) body [] (types_of kind) → ⊥) → NoImage cx labels (block kind body) s
block_none s bad = never s (λ a b t. bad (block_body t))

pub loop_none : {cx : Context} {labels : List (Option ValType)} {kind : Option ValType} {body : Ops} (s : State) → (Typed cx (None ∷ labels) body [] (types_of kind) → ⊥) → NoImage cx labels (loop kind body) s
loop_none s bad = never s (λ a b t. bad (loop_body t))

typed_at : {cx : Context} {labels old : List (Option ValType)} {kind : Option ValType} {body : Ops} → labels ≡ old → Typed cx (kind ∷ labels) body [] (types_of kind) → Typed cx (kind ∷ old) body [] (types_of kind)
typed_at {cx} {kind = kind} {body = body} e t = subst (λ (z : List (Option ValType)). Typed cx (kind ∷ z) body [] (types_of kind)) e t

pub if_image : {cx : Context} {labels inner : List (Option ValType)} {kind : Option ValType} {first second : Ops} {s m m1 m2 n : State} → Popped (I32 ∷ []) s m
    → Typed cx (kind ∷ labels) first [] (types_of kind) → inner ≡ labels → m1 ≡ m → Typed cx (kind ∷ inner) second [] (types_of kind) → m2 ≡ m1 → n ≡ pushed (types_of kind) m2 → Image cx labels (if_else kind first second) s n
if_image {kind = kind} {m = m} p t l e u f g = only_image (if_typed t (typed_at l u)) only_if m p (g ∙ ap (λ z. pushed (types_of kind) z) (f ∙ e))

pub if_none_1 : {cx : Context} {labels : List (Option ValType)} {kind : Option ValType} {first second : Ops} (s : State) → (Typed cx (kind ∷ labels) first [] (types_of kind) → ⊥) → NoImage cx labels (if_else kind first second) s
if_none_1 s bad = never s (λ a b t. bad (if_bodies t).0)

pub if_none_2 : {cx : Context} {labels inner : List (Option ValType)} {kind : Option ValType} {first second : Ops} (s : State) → inner ≡ labels → (Typed cx (kind ∷ inner) second [] (types_of kind) → ⊥) → NoImage cx labels (if_else kind first second) s
if_none_2 s l bad = never s (λ a b t. bad (typed_at (sym l) (if_bodies t).1))

-- lists of instructions
pub rest_cons : (items : List Instr) (at : ℕ) (i : Instr) → i ≡ get_or items at i → at < length items → items_view (drop at items) ≡ next (instr_view i) (items_view (drop (at + 1) items))
rest_cons items at i is below = rw (add-one, drop-cons items at i) (ap (λ z. next (instr_view z) (items_view (drop (suc at) items))) (sym is))

pub list_more : {cx : Context} {labels inner : List (Option ValType)} {ops : Ops} {s m n : State} (items : List Instr) (at : ℕ) (i : Instr) → i ≡ get_or items at i → at < length items → inner ≡ labels
    → Onward cx labels ops (items_view (drop at items)) s m → Image cx inner (instr_view i) m n → Onward cx labels ops (items_view (drop (at + 1) items)) s n
list_more {cx} {labels} {ops = ops} {s = s} {m = m} {n = n} items at i is below same onward image =
    onward_step (subst (λ (z : Ops). Onward cx labels ops z s m) (rest_cons items at i is below) onward) (subst (λ (z : List (Option ValType)). Image cx z (instr_view i) m n) same image)

pub list_stop : {cx : Context} {labels inner : List (Option ValType)} {ops : Ops} {s m : State} (items : List Instr) (at : ℕ) (i : Instr) → i ≡ get_or items at i → at < length items → inner ≡ labels
    → Onward cx labels ops (items_view (drop at items)) s m → NoImage cx inner (instr_view i) m → (to : List ValType) → Goes cx labels ops s to → ⊥
list_stop {cx} {labels} {ops = ops} {s = s} {m = m} items at i is below same onward bad =
    onward_stop (subst (λ (z : Ops). Onward cx labels ops z s m) (rest_cons items at i is below) onward) (subst (λ (z : List (Option ValType)). NoImage cx z (instr_view i) m) same bad)

pub list_end : {cx : Context} {labels : List (Option ValType)} {ops : Ops} {s n : State} (items : List Instr) (at : ℕ) → length items ≤ at → Onward cx labels ops (items_view (drop at items)) s n → Reached cx labels ops s n
list_end {cx} {labels} {ops} {s} {n} items at past onward = onward_end (subst (λ (z : List Instr). Onward cx labels ops (items_view z) s n) (drop_of_length-le items past) onward)

-- the measure
pub nesting_at : (items : List Instr) (at : ℕ) (i : Instr) → i ≡ get_or items at i → at < length items → nesting (instr_view i) ≤ ops_nesting (items_view items)
nesting_at [] at i is below = absurd (omega arith)
nesting_at (x ∷ xs) zero i is below = let same : nesting (instr_view i) ≡ nesting (instr_view x) = ap (λ z. nesting (instr_view z)) is in omega (arith, same)
nesting_at (x ∷ xs) (suc at) i is below = let lower = nesting_at xs at i is (omega arith) in omega (arith, lower)

-- the body of a block
module _ {label : Option ValType} {cx : Context} {labels inner below : List (Option ValType)} {ops : Ops} {s m : State} {types : List ValType} where
  pub body_yes : inner ≡ label ∷ labels → s ≡ (false, [], below) → Reached cx inner ops s m → Means m types → Typed cx (label ∷ labels) ops [] types
  body_yes l e r x = subst (λ (z : List (Option ValType)). Typed cx z ops [] types) l (body_typed below e (r.forth types x))

  pub body_no : inner ≡ label ∷ labels → s ≡ (false, [], below) → Reached cx inner ops s m → (Means m types → ⊥) → Typed cx (label ∷ labels) ops [] types → ⊥
  body_no l e r bad t = bad (r.back types (body_goes below e (subst (λ (z : List (Option ValType)). Typed cx z ops [] types) (sym l) t)))

pub body_stops : {label : Option ValType} {cx : Context} {labels inner below : List (Option ValType)} {ops : Ops} {s : State} {types : List ValType}
    → inner ≡ label ∷ labels → s ≡ (false, [], below) → ((to : List ValType) → Goes cx inner ops s to → ⊥) → Typed cx (label ∷ labels) ops [] types → ⊥
body_stops {cx} {below = below} {ops = ops} {types = types} l e bad t = bad types (body_goes below e (subst (λ (z : List (Option ValType)). Typed cx z ops [] types) (sym l) t))

pub left_as_before : (now new : State) (o : Bool) → new ≡ (o, now.1, now.2) → o ≡ now.0 → new ≡ now
left_as_before now new o e f = e ∙ ap (λ (z : Bool). let s : State = (z, now.1, now.2) in s) f
