-- Values one by one: what stands at a place, parts of lists, and lists put together.
use Rattle.std.proofs.Common.{◌≡◌, ℕ, zero, suc, ◌<◌, ◌≤◌, List, [], ◌∷◌, ◌++◌, refl, sym, ap, subst, subst₂, length, take, drop, get_or, reverse, replicate, Option, Some, None, slice_get, slice_set, arith, length-append}
use Rattle.std.proofs.lemmas.List.{reverse-append}
use Rattle.std.proofs.lemmas.Option.{none-some, same_Some}
use Rattle.wasm_values.specs.declared.types.ValType.{ValType}
use Rattle.wasm_values.specs.declared.types.ValType.TheVariants.{I32, I64, F32, F64}
use Rattle.wasm_typing.specs.Typing.{types_of}
use Rattle.wasm_steps.specs.Threads.{arity}
use Rattle.wasm_soundness.specs.Typed.{IsValue, AreValues, no_values, next_value}

pub values_length : {types : List ValType} {numbers : List ℕ} → AreValues types numbers → length numbers ≡ length types
values_length no_values = refl
values_length (next_value v vs) = ap suc (values_length vs)

pub values_joined : {a b : List ValType} {x y : List ℕ} → AreValues a x → AreValues b y → AreValues (a ++ b) (x ++ y)
values_joined no_values w = w
values_joined (next_value v vs) w = next_value v (values_joined vs w)

pub values_taken : (types below : List ValType) (numbers : List ℕ) → AreValues (types ++ below) numbers → AreValues types (take (length types) numbers)
values_taken [] below numbers v = no_values
values_taken (type ∷ types) below [] v = elim v [ ]
values_taken (type ∷ types) below (number ∷ numbers) (next_value v vs) = next_value v (values_taken types below numbers vs)

pub values_dropped : (types below : List ValType) (numbers : List ℕ) → AreValues (types ++ below) numbers → AreValues below (drop (length types) numbers)
values_dropped [] below numbers v = v
values_dropped (type ∷ types) below [] v = elim v [ ]
values_dropped (type ∷ types) below (number ∷ numbers) (next_value v vs) = values_dropped types below numbers vs

pub values_there : (types below : List ValType) (numbers : List ℕ) → AreValues (types ++ below) numbers → length types ≤ length numbers
values_there types below numbers v = omega (arith, values_length v, length-append types below)

pub values_reversed : {types : List ValType} {numbers : List ℕ} → AreValues types numbers → AreValues (reverse types) (reverse numbers)
values_reversed no_values = no_values
values_reversed (next_value {type = type} {number = number} {types = types} {numbers = numbers} v vs) =
    subst₂ (λ (a : List ValType) (b : List ℕ). AreValues a b) (sym (reverse-append (type ∷ []) types)) (sym (reverse-append (number ∷ []) numbers))
    (values_joined (values_reversed vs) (next_value v no_values))

is_zero : (type : ValType) → IsValue type 0
is_zero I32 = omega arith
is_zero I64 = omega arith
is_zero F32 = omega arith
is_zero F64 = omega arith

pub zero_values : (types : List ValType) → AreValues types (replicate (length types) 0)
zero_values [] = no_values
zero_values (type ∷ types) = next_value (is_zero type) (zero_values types)

-- ---- at a place

pub value_at : {types : List ValType} {numbers : List ℕ} (place : ℕ) (type : ValType) → AreValues types numbers → slice_get types place ≡ Some type → (place < length numbers) × IsValue type (get_or numbers place 0)
value_at place type no_values e = absurd (none-some type e)
value_at zero type (next_value {type = own} {number = number} v vs) e = (omega arith, subst (λ (z : ValType). IsValue z number) (same_Some own type e) v)
value_at (suc place) type (next_value v vs) e =
    let r = value_at place type vs e in
    let l = r.0 in
    (omega arith, r.1)

pub values_set : {types : List ValType} {numbers : List ℕ} (place value : ℕ) (type : ValType) → AreValues types numbers → slice_get types place ≡ Some type → IsValue type value → AreValues types (slice_set numbers place value)
values_set place value type no_values e w = no_values
values_set zero value type (next_value {type = own} v vs) e w = next_value (subst (λ (z : ValType). IsValue z value) (sym (same_Some own type e)) w) vs
values_set (suc place) value type (next_value v vs) e w = next_value v (values_set place value type vs e w)

-- the value on top, and those below it
pub top_off : {type : ValType} {types : List ValType} (numbers : List ℕ) → AreValues (type ∷ types) numbers → (1 ≤ length numbers) × IsValue type (get_or numbers 0 0) × AreValues types (drop 1 numbers)
top_off [] v = elim v [ ]
top_off (number ∷ numbers) (next_value v vs) = (omega arith, v, vs)

-- ---- so many on top

pub one_value : (type : ValType) (numbers : List ℕ) → AreValues (type ∷ []) (take 1 numbers) → IsValue type (get_or numbers 0 0)
one_value type [] v = elim v [ ]
one_value type (number ∷ numbers) (next_value v vs) = v

pub two_values : (top second : ValType) (numbers : List ℕ) → AreValues (top ∷ second ∷ []) (take 2 numbers) → IsValue top (get_or numbers 0 0) × IsValue second (get_or numbers 1 0)
two_values top second [] v = elim v [ ]
two_values top second (number ∷ numbers) (next_value v vs) = (v, one_value second numbers vs)

pub three_values : (top second third : ValType) (numbers : List ℕ) → AreValues (top ∷ second ∷ third ∷ []) (take 3 numbers)
    → IsValue top (get_or numbers 0 0) × IsValue second (get_or numbers 1 0) × IsValue third (get_or numbers 2 0)
three_values top second third [] v = elim v [ ]
three_values top second third (number ∷ numbers) (next_value v vs) = let r = two_values second third numbers vs in (v, r.0, r.1)

-- ---- the types of a result

pub arity_is : (result : Option ValType) → arity result ≡ length (types_of result)
arity_is None = refl
arity_is (Some value) = refl

pub arity_small : (result : Option ValType) → arity result ≤ 1
arity_small None = omega arith
arity_small (Some value) = omega arith
