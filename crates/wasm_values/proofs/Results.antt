-- The result of a function's type: a list of one value type at most.
use Rattle.std.proofs.Common.{◌≡◌, ℕ, List, [], ◌∷◌, refl, ap, subst, Option, Some, None, ◌<◌, ◌≤◌, length, get_or, arith}
use Rattle.byte_fields.specs.Front.{Begins, BeginsOnly, BeginsNone}
use Rattle.wasm_values.specs.Spelling.{SpellsList, Then, SpellsMark}
use Rattle.wasm_values.specs.Values.{SpellsValType, IsResult, result_none, result_one, SpellsResult, SpellsFuncType}
use Rattle.wasm_values.specs.declared.types.ValType.{ValType}
use Rattle.wasm_values.specs.declared.types.FuncType.{FuncType}

pub is_once : {list : List ValType} {a b : Option ValType} → IsResult list a → IsResult list b → b ≡ a
is_once result_none result_none = refl
is_once result_one result_one = refl

pub is_empty : (list : List ValType) → length list < 1 → IsResult list None
is_empty [] n = result_none
is_empty (value ∷ list) n = absurd (omega arith)

pub is_single : (list : List ValType) (other : ValType) → 1 ≤ length list → length list < 2 → IsResult list (Some (get_or list 0 other))
is_single [] other n m = absurd (omega arith)
is_single (value ∷ []) other n m = result_one
is_single (value ∷ next ∷ list) other n m = absurd (omega arith)

pub result_found : (bytes rest : List ℕ) (list : List ValType) (value : Option ValType) → Begins (SpellsList SpellsValType) bytes list rest → IsResult list value → Begins SpellsResult bytes value rest
result_found bytes rest list value (text, s, e) is = (text, (list, s, is), e)

pub result_only : (bytes rest : List ℕ) (list : List ValType) (value : Option ValType) → BeginsOnly (SpellsList SpellsValType) bytes list rest → IsResult list value → BeginsOnly SpellsResult bytes value rest
result_only bytes rest list value only is = λ other more (text, (results, s, are), e).
    let one = only results more (text, s, e) in
    let P : List ValType → Type 0 = λ z. IsResult z other in
    (is_once is (subst P one.0 are), one.1)

pub result_not : (bytes rest : List ℕ) (list : List ValType) → BeginsOnly (SpellsList SpellsValType) bytes list rest → ((value : Option ValType) → IsResult list value → ⊥) → BeginsNone SpellsResult bytes
result_not bytes rest list only not = λ other more (text, (results, s, are), e).
    let one = only results more (text, s, e) in
    let P : List ValType → Type 0 = λ z. IsResult z other in
    not other (subst P one.0 are)

pub result_bad : (bytes : List ℕ) → BeginsNone (SpellsList SpellsValType) bytes → BeginsNone SpellsResult bytes
result_bad bytes none = λ other more (text, (results, s, are), e). none results more (text, s, e)

-- A function's type as its parts.
abbrev pub Parts : Type 0
Parts = Unit {0} × (List ValType × Option ValType)

abbrev pub SpellsParts : List ℕ → Parts → Type 0
SpellsParts = Then (SpellsMark 0x60) (Then (SpellsList SpellsValType) SpellsResult)

abbrev pub type_of : Parts → FuncType
type_of parts = record { params = parts.1.0; result = parts.1.1 }

pub parts_only : (bytes rest : List ℕ) (type : FuncType) → BeginsOnly SpellsParts bytes (tt, (type.params, type.result)) rest → BeginsOnly SpellsFuncType bytes type rest
parts_only bytes rest type only = λ other more b.
    let one = only (tt, (other.params, other.result)) more b in
    (ap type_of one.0, one.1)

pub parts_none : (bytes : List ℕ) → BeginsNone SpellsParts bytes → BeginsNone SpellsFuncType bytes
parts_none bytes none = λ other more b. none (tt, (other.params, other.result)) more b
