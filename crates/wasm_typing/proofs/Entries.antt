-- The vector of entries as a stack with its top first.
use Rattle.std.proofs.Common.{◌≡◌, ◌≢◌, ℕ, suc, ◌+◌, ◌≤◌, ◌<◌, List, [], ◌∷◌, ◌++◌, length, take, drop, get_or, reverse, refl, ap, sym, ◌∙◌, subst, arith, add-one, drop-cons, length-append, take-append-drop, append_assoc, Bool, true, false, Option, None, Some, option_to_list, zero, length-drop, inl, inr}
use Rattle.std.proofs.lemmas.List.{reverse-append, take_all, take-append-le, drop-append-le, length-reverse}
use Rattle.std.proofs.Math.Seq.{drop-length, take-append_seam, drop-append_seam}
use Rattle.std.specs.Bool.{Decides}
use Rattle.std.specs.Option.{option_eq}
use Rattle.std.proofs.lemmas.Bool.Decides.{eqb_tells}
use Rattle.std.proofs.Math.Dec.{eqb}
use Rattle.wasm_typing.specs.inner.Stands.{Exactly, Fits, State, Popped, NotOnTop, Off, Bare, TopOff}
use Rattle.wasm_values.specs.declared.types.ValType.{ValType}
use Rattle.wasm_values.specs.declared.types.ValType.TheVariants.{I32, I64, F32, F64}
use Rattle.wasm_values.specs.contracts.types.ValTypePartialEq.TheImpl.{eq-value}
use Rattle.wasm_typing.proofs.Stacks.{off_entry, popped_more, popped_anything, stop_none, stop_other}

abbrev pub Entries : Type 0
Entries = List (Option ValType)

abbrev pub state_of : Bool → Entries → ℕ → State
state_of o items base = (o, reverse (drop base items), reverse (take base items))

reverse_reverse : (xs : Entries) → reverse (reverse xs) ≡ xs
reverse_reverse [] = refl
reverse_reverse (x ∷ xs) = ap reverse (reverse-append (x ∷ []) xs) ∙ reverse-append (reverse xs) (x ∷ []) ∙ ap (λ z. x ∷ z) (reverse_reverse xs)

pub bare : (items : Entries) (base : ℕ) → length items ≡ base → reverse (drop base items) ≡ []
bare items base e = ap (λ z. reverse (drop z items)) (sym e) ∙ ap reverse (drop-length items)

pub not_bare : (items : Entries) (base : ℕ) → reverse (drop base items) ≡ [] → base ≤ length items → length items ≡ base
not_bare items base e b =
    let none : length (drop base items) ≡ 0 = sym (length-reverse (drop base items)) ∙ ap length e in
    omega (arith, length-drop base items)

pub bare_exactly : (items : Entries) (base n : ℕ) (o : Bool) → n ≡ length items → base ≤ length items → Exactly ((state_of o items base).1 ≡ []) (eqb n base)
bare_exactly items base n o e b = elim (eqb_tells n base) [
  | inl h ↦ subst (λ (z : Bool). Exactly ((state_of o items base).1 ≡ []) z) (sym h.0) (bare items base (sym e ∙ h.1))
  | inr h ↦ subst (λ (z : Bool). Exactly ((state_of o items base).1 ≡ []) z) (sym h.0) (λ none. h.1 (e ∙ not_bare items base none b))
]

pub anything_exactly : (items : Entries) (base n : ℕ) (o : Bool) → o ≡ true → n ≡ length items → base ≤ length items → Exactly (((state_of o items base).0 ≡ true) × ((state_of o items base).1 ≡ [])) (eqb n base)
anything_exactly items base n o p e b = elim (eqb_tells n base) [
  | inl h ↦ subst (λ (z : Bool). Exactly ((o ≡ true) × ((state_of o items base).1 ≡ [])) z) (sym h.0) (p, bare items base (sym e ∙ h.1))
  | inr h ↦ subst (λ (z : Bool). Exactly ((o ≡ true) × ((state_of o items base).1 ≡ [])) z) (sym h.0) (λ both. h.1 (e ∙ not_bare items base both.1 b))
]

pub entered : (items : Entries) (base n : ℕ) (o : Bool) → n ≡ length items → ◌≡◌ {A = State} (state_of false items n) (false, [], (state_of o items base).1 ++ (state_of o items base).2)
entered items base n o e =
    let none : reverse (drop n items) ≡ [] = bare items n (sym e) in
    let all : take n items ≡ items = ap (λ z. take z items) e ∙ take_all (length items) items (omega arith) in
    let halves : reverse items ≡ reverse (drop base items) ++ reverse (take base items) = ap reverse (sym (take-append-drop base items)) ∙ reverse-append (take base items) (drop base items) in
    let both : reverse (take n items) ≡ reverse (drop base items) ++ reverse (take base items) = ap reverse all ∙ halves in
    ap (λ (z : Entries). let s : State = (false, z, reverse (take n items)) in s) none ∙ ap (λ (z : Entries). let s : State = (false, [], z) in s) both

pub off_top : (items new : Entries) (base : ℕ) (o : Bool) (r : Option (Option ValType)) → base ≤ length items → length items ≢ base → items ≡ new ++ option_to_list r
    → (r ≡ None → length items ≡ 0) → TopOff (state_of o items base) (state_of o new base) r
off_top items new base o None b d e n = absurd (omega (arith, n refl))
off_top items new base o (Some x) b d e n =
    let count : length items ≡ length new + 1 = ap length e ∙ length-append new (x ∷ []) in
    let fits : base ≤ length new = omega arith in
    let here : reverse (drop base items) ≡ x ∷ reverse (drop base new) = ap (λ z. reverse (drop base z)) e ∙ ap reverse (drop-append-le base new (x ∷ []) fits) ∙ reverse-append (drop base new) (x ∷ []) in
    let under : reverse (take base items) ≡ reverse (take base new) = ap (λ z. reverse (take base z)) e ∙ ap reverse (take-append-le base new (x ∷ []) fits) in
    let same : ◌≡◌ {A = State} (o, x ∷ reverse (drop base new), reverse (take base new)) (state_of o items base) =
    ap (λ (z : Entries). let s : State = (o, z, reverse (take base new)) in s) (sym here) ∙ ap (λ (z : Entries). let s : State = (o, reverse (drop base items), z) in s) (sym under) in
    subst (λ (z : State). Off x z (state_of o new base)) same (off_entry o x (reverse (drop base new)) (reverse (take base new)))

pub left_block : (items here below : Entries) (base to : ℕ) (o p : Bool) (now : State) → state_of o items base ≡ now → now.1 ≡ [] → now.2 ≡ here ++ below → to ≡ length below → base ≤ length items
    → ◌≡◌ {A = State} (state_of p items to) (p, here, below)
left_block items here below base to o p now v none e l b =
    let count : length items ≡ base = not_bare items base (ap (λ z. z.1) v ∙ none) b in
    let all : take base items ≡ items = take_all base items (omega arith) in
    let flipped : reverse items ≡ here ++ below = ap reverse (sym all) ∙ ap (λ z. z.2) v ∙ e in
    let halves : items ≡ reverse below ++ reverse here = sym (reverse_reverse items) ∙ ap reverse flipped ∙ reverse-append here below in
    let at : to ≡ length (reverse below) = l ∙ sym (length-reverse below) in
    let front : take to items ≡ reverse below = ap (λ z. take z items) at ∙ ap (λ z. take (length (reverse below)) z) halves ∙ take-append_seam (reverse below) (reverse here) in
    let back : drop to items ≡ reverse here = ap (λ z. drop z items) at ∙ ap (λ z. drop (length (reverse below)) z) halves ∙ drop-append_seam (reverse below) (reverse here) in
    let upper : reverse (drop to items) ≡ here = ap reverse back ∙ reverse_reverse here in
    let lower : reverse (take to items) ≡ below = ap reverse front ∙ reverse_reverse below in
    ap (λ (z : Entries). let s : State = (p, z, reverse (take to items)) in s) upper ∙ ap (λ (z : Entries). let s : State = (p, here, z) in s) lower

-- the list by its parts
pub get_or_any : {X : Type 0} (xs : List X) (i : ℕ) (x y : X) → i < length xs → get_or xs i x ≡ get_or xs i y
get_or_any [] i x y below = absurd (omega arith)
get_or_any (z ∷ xs) zero x y below = refl
get_or_any (z ∷ xs) (suc i) x y below = get_or_any xs i x y (omega arith)

pub flipped_at : (types : List ValType) (left : ℕ) (t : ValType) → left < length types → t ≡ get_or types left t → reverse (drop left types) ≡ reverse (drop (left + 1) types) ++ t ∷ []
flipped_at types left t below e =
    let here : drop left types ≡ t ∷ drop (left + 1) types = rw (add-one, drop-cons types left t) (ap (λ z. z ∷ drop (suc left) types) (sym e)) in
    ap reverse here ∙ reverse-append (t ∷ []) (drop (left + 1) types)

whole_at : (types : List ValType) (left : ℕ) (t : ValType) → left < length types → t ≡ get_or types left t → reverse (drop (left + 1) types) ++ t ∷ reverse (take left types) ≡ reverse types
whole_at types left t below e =
    let whole : reverse types ≡ reverse (drop left types) ++ reverse (take left types) = ap reverse (sym (take-append-drop left types)) ∙ reverse-append (take left types) (drop left types) in
    let parts = whole ∙ ap (λ z. z ++ reverse (take left types)) (flipped_at types left t below e) ∙ append_assoc (reverse (drop (left + 1) types)) (t ∷ []) (reverse (take left types)) in
    sym parts

pub more_at : {s m n : State} (types : List ValType) (left at : ℕ) (e : Option ValType) (t : ValType) → at ≡ left + 1 → left < length types → t ≡ get_or types left t → Popped (reverse (drop at types)) s m → Off e m n → Fits e t → Popped (reverse (drop left types)) s n
more_at {s} {m} {n} types left at e t back below is p o f =
    let q : Popped (reverse (drop (left + 1) types)) s m = subst (λ (z : ℕ). Popped (reverse (drop z types)) s m) back p in
    subst (λ (z : List ValType). Popped z s n) (sym (flipped_at types left t below is)) (popped_more e t q o f)

pub stop_none_at : {s m : State} (types : List ValType) (left at : ℕ) → at ≡ left + 1 → left < length types → Popped (reverse (drop at types)) s m → Bare m → NotOnTop (reverse types) s
stop_none_at {s} {m} types left at back below p b =
    let q : Popped (reverse (drop (left + 1) types)) s m = subst (λ (z : ℕ). Popped (reverse (drop z types)) s m) back p in
    let t = get_or types left I32 in
    subst (λ (z : List ValType). NotOnTop z s) (whole_at types left t below (get_or_any types left I32 t below)) (stop_none t (reverse (take left types)) q b)

pub stop_other_at : {s m n : State} (types : List ValType) (left at : ℕ) (e : Option ValType) (t : ValType) → at ≡ left + 1 → left < length types → t ≡ get_or types left t → Popped (reverse (drop at types)) s m → Off e m n → (Fits e t → ⊥) → NotOnTop (reverse types) s
stop_other_at {s} {m} types left at e t back below is p o f =
    let q : Popped (reverse (drop (left + 1) types)) s m = subst (λ (z : ℕ). Popped (reverse (drop z types)) s m) back p in
    subst (λ (z : List ValType). NotOnTop z s) (whole_at types left t below is) (stop_other e t (reverse (take left types)) q o f)

pub anything_at : {s m : State} (types : List ValType) (left : ℕ) → Popped (reverse (drop left types)) s m → m.0 ≡ true → m.1 ≡ [] → Popped (reverse types) s m
anything_at {s} {m} types left p o e =
    let whole : reverse types ≡ reverse (drop left types) ++ reverse (take left types) = ap reverse (sym (take-append-drop left types)) ∙ reverse-append (take left types) (drop left types) in
    subst (λ (z : List ValType). Popped z s m) (sym whole) (popped_anything (reverse (take left types)) p o e)

-- types and results are compared by the derived test
pub values_Decides : (a b : ValType) → Decides (eq-value.it a b) (a ≡ b)
values_Decides I32 I32 = (λ e. refl, λ e. refl)
values_Decides I32 I64 = (λ e. absurd cc, λ e. absurd cc)
values_Decides I32 F32 = (λ e. absurd cc, λ e. absurd cc)
values_Decides I32 F64 = (λ e. absurd cc, λ e. absurd cc)
values_Decides I64 I32 = (λ e. absurd cc, λ e. absurd cc)
values_Decides I64 I64 = (λ e. refl, λ e. refl)
values_Decides I64 F32 = (λ e. absurd cc, λ e. absurd cc)
values_Decides I64 F64 = (λ e. absurd cc, λ e. absurd cc)
values_Decides F32 I32 = (λ e. absurd cc, λ e. absurd cc)
values_Decides F32 I64 = (λ e. absurd cc, λ e. absurd cc)
values_Decides F32 F32 = (λ e. refl, λ e. refl)
values_Decides F32 F64 = (λ e. absurd cc, λ e. absurd cc)
values_Decides F64 I32 = (λ e. absurd cc, λ e. absurd cc)
values_Decides F64 I64 = (λ e. absurd cc, λ e. absurd cc)
values_Decides F64 F32 = (λ e. absurd cc, λ e. absurd cc)
values_Decides F64 F64 = (λ e. refl, λ e. refl)

same_inside : {x y : ValType} → ◌≡◌ {A = Option ValType} (Some x) (Some y) → x ≡ y
same_inside e = cc

pub kinds_Decides : (a b : Option ValType) → Decides (option_eq eq-value.it a b) (a ≡ b)
kinds_Decides None None = (λ e. refl, λ e. refl)
kinds_Decides None (Some y) = (λ e. absurd cc, λ e. absurd cc)
kinds_Decides (Some x) None = (λ e. absurd cc, λ e. absurd cc)
kinds_Decides (Some x) (Some y) = (λ e. ap Some ((values_Decides x y).0 e), λ e. (values_Decides x y).1 (same_inside e))
