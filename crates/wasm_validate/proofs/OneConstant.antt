-- Which instructions are a constant.
use Rattle.std.proofs.Common.{◌≡◌, ℕ, ℤ, List, [], ◌∷◌, length, get_or, refl, ap, sym, ◌∙◌, subst, arith, Bool, true, false, Some, slice_get}
use Rattle.std.specs.Bool.{Decides}
use Rattle.wasm_values.specs.Syntax.{Op, Ops, i32_const, i64_const, global_get, next, no_ops}
use Rattle.wasm_values.specs.View.{instr_view, items_view}
use Rattle.wasm_values.specs.declared.instr.Instr.{Instr}
use Rattle.wasm_values.specs.declared.types.ValType.{ValType}
use Rattle.wasm_values.specs.declared.types.ValType.TheVariants.{I32, I64}
use Rattle.wasm_values.specs.declared.types.GlobalType.{GlobalType}
use Rattle.wasm_typing.specs.Typing.{IsConstant, constant_i32, constant_i64, constant_global}
use Rattle.wasm_typing.specs.inner.Stands.{Exactly}
use Rattle.wasm_typing.proofs.Instructions.{one_found}

pub exactly_from : {P : Type 0} (b : Bool) → Decides b P → Exactly P b
exactly_from true d = d.0 refl
exactly_from false d = λ p. let h = d.1 p in absurd cc

not_both : (b : Bool) → b ≡ false → b ≡ true → ⊥
not_both true f t = absurd cc
not_both false f t = absurd cc

-- what the constants are
of_i32 : {imported : List GlobalType} {number : ℤ} {value : ValType} → IsConstant imported (next (i32_const number) no_ops) value → value ≡ I32
of_i32 constant_i32 = refl

of_i64 : {imported : List GlobalType} {number : ℤ} {value : ValType} → IsConstant imported (next (i64_const number) no_ops) value → value ≡ I64
of_i64 constant_i64 = refl

pub of_global : {imported : List GlobalType} {index : ℕ} {value : ValType} → IsConstant imported (next (global_get index) no_ops) value
    → (kind : GlobalType) × (slice_get imported index ≡ Some kind) × (kind.mutable ≡ true → ⊥) × (kind.value ≡ value)
of_global (constant_global kind found fixed) = (kind, found, fixed, refl)

of_any : {imported : List GlobalType} {ops : Ops} {value : ValType} → IsConstant imported ops value → (op : Op) × (ops ≡ next op no_ops)
of_any (constant_i32 {number = number}) = (i32_const number, refl)
of_any (constant_i64 {number = number}) = (i64_const number, refl)
of_any (constant_global {global = global} kind found fixed) = (global_get global, refl)

-- tests of them
pub one_i32 : (imported : List GlobalType) (number : ℤ) (op : Op) (value : ValType) (b : Bool) → op ≡ i32_const number → Exactly (value ≡ I32) b → Exactly (IsConstant imported (next op no_ops) value) b
one_i32 imported number op value true is e = subst (λ (z : ValType). IsConstant imported (next op no_ops) z) (sym e) (subst (λ (z : Op). IsConstant imported (next z no_ops) I32) (sym is) constant_i32)
one_i32 imported number op value false is e = λ k. e (of_i32 (subst (λ (z : Op). IsConstant imported (next z no_ops) value) is k))

pub one_i64 : (imported : List GlobalType) (number : ℤ) (op : Op) (value : ValType) (b : Bool) → op ≡ i64_const number → Exactly (value ≡ I64) b → Exactly (IsConstant imported (next op no_ops) value) b
one_i64 imported number op value true is e = subst (λ (z : ValType). IsConstant imported (next op no_ops) z) (sym e) (subst (λ (z : Op). IsConstant imported (next z no_ops) I64) (sym is) constant_i64)
one_i64 imported number op value false is e = λ k. e (of_i64 (subst (λ (z : Op). IsConstant imported (next z no_ops) value) is k))

pub one_global : (imported : List GlobalType) (index : ℕ) (op : Op) (value : ValType) (b : Bool) → op ≡ global_get index → Exactly (IsConstant imported (next (global_get index) no_ops) value) b → Exactly (IsConstant imported (next op no_ops) value) b
one_global imported index op value b is e = subst (λ (z : Op). Exactly (IsConstant imported (next z no_ops) value) b) (sym is) e

pub imported_exactly : (imported : List GlobalType) (index : ℕ) (kind : GlobalType) (value : ValType) (b : Bool) → slice_get imported index ≡ Some kind → kind.mutable ≡ false → Exactly (kind.value ≡ value) b
    → Exactly (IsConstant imported (next (global_get index) no_ops) value) b
imported_exactly imported index kind value true found fixed e = subst (λ (z : ValType). IsConstant imported (next (global_get index) no_ops) z) e (constant_global kind found (not_both kind.mutable fixed))
imported_exactly imported index kind value false found fixed e = λ k.
    let i = of_global k in
    e (sym (ap (λ (z : GlobalType). z.value) (one_found (slice_get imported index) i.1 found)) ∙ i.3)

pub imported_mutable : (imported : List GlobalType) (index : ℕ) (kind : GlobalType) (value : ValType) → slice_get imported index ≡ Some kind → kind.mutable ≡ true → IsConstant imported (next (global_get index) no_ops) value → ⊥
imported_mutable imported index kind value found mutable k =
    let i = of_global k in
    i.2 (subst (λ (z : GlobalType). z.mutable ≡ true) (sym (one_found (slice_get imported index) i.1 found)) mutable)

-- one item
pub one_item : (items : List Instr) (x : Instr) → length items ≡ 1 → x ≡ get_or items 0 x → items_view items ≡ next (instr_view x) no_ops
one_item [] x one is = absurd (omega (arith, one))
one_item (y ∷ []) x one is = ap (λ (z : Instr). next (instr_view z) no_ops) (sym is)
one_item (y ∷ z ∷ more) x one is = absurd (omega (arith, one))

pub is_single : (imported : List GlobalType) (items : List Instr) (value : ValType) → IsConstant imported (items_view items) value → length items ≡ 1
is_single imported [] value k = let h = (of_any k).1 in absurd cc
is_single imported (y ∷ []) value k = refl
is_single imported (y ∷ z ∷ more) value k = let h = (of_any k).1 in absurd cc
