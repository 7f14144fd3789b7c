-- Calls in typed threads.
use Rattle.std.proofs.Common.{◌≡◌, ℕ, ℤ, ◌+◌, ◌-◌, ◌<◌, ◌≤◌, List, [], ◌∷◌, ◌++◌, refl, sym, subst, length, take, drop, get_or, reverse, replicate, Option, Some, slice_get, ⊎_elim, arith, length-append, length-take, length-drop}
use Rattle.std.proofs.lemmas.List.{reverse-reverse, length-reverse, length-replicate}
use Rattle.std.proofs.lemmas.List.Sums.{sum_by-cons}
use Rattle.std.proofs.lemmas.Option.{slice_get_cases, slice_get_within}
use Rattle.wasm_values.specs.Syntax.{Op, Ops, call, call_indirect}
use Rattle.wasm_values.specs.declared.types.ValType.{ValType}
use Rattle.wasm_values.specs.declared.types.ValType.TheVariants.{I32}
use Rattle.wasm_values.specs.declared.types.FuncType.{FuncType}
use Rattle.wasm_typing.specs.Context.{Context}
use Rattle.wasm_typing.specs.Typing.{types_of, HasType, TypedOp, call_typed, call_indirect_typed}
use Rattle.wasm_typing.proofs.Instructions.{one_found}
use Rattle.wasm_steps.specs.Program.{Function, type_of, Program, Store, most_frames, most_values}
use Rattle.wasm_steps.specs.Threads.{frame, Thread, arity, frame_count, kept, size}
use Rattle.wasm_steps.specs.Steps.{answered, called}
use Rattle.wasm_soundness.specs.Typed.{IsValue, AreValues, no_values, GoesOn, AreTyped, typed_frame, IsTyped, inside, IsBody, IsTypedProgram, IsTypedStore}
use Rattle.wasm_soundness.specs.Ready.{pending, given, CanCall}
use Rattle.wasm_soundness.proofs.Values.{values_length, values_joined, values_taken, values_dropped, values_there, values_reversed, zero_values, top_off, arity_is}
use Rattle.wasm_soundness.proofs.Pending.{IsReady, no_label, ready, operands_as, rest_as}

-- The arguments of a call of this type are on top, and what is behind the call goes on from its result.
pub record IsAtCall (base : Context) (type : FuncType) (thread : Thread) : Type 0 where
  pub types : List ValType
  pub result : Option ValType
  pub labels : List (Option ValType)
  pub below : List ValType
  pub to : List ValType
  pub locals : AreValues types thread.locals
  pub operands : AreValues (reverse type.params ++ below) thread.operands
  pub rest : GoesOn (inside base types result) labels thread.code (types_of type.result ++ below) to
  pub levels : AreTyped base types result labels to thread.levels
  pub room : size thread ≤ most_values
  pub frames : frame_count thread.levels ≤ most_frames

-- ---- arguments

arguments_there : (params below : List ValType) (numbers : List ℕ) → AreValues (reverse params ++ below) numbers → length params ≤ length numbers
arguments_there params below numbers v = omega (arith, values_there (reverse params) below numbers v, length-reverse params)

first_locals : (params below : List ValType) (numbers : List ℕ) → AreValues (reverse params ++ below) numbers → AreValues params (reverse (take (length params) numbers))
first_locals params below numbers v =
    let w = values_reversed (values_taken (reverse params) below numbers v) in
    let u = subst (λ (z : List ValType). AreValues z (reverse (take (length (reverse params)) numbers))) (reverse-reverse params) w in
    subst (λ (z : ℕ). AreValues params (reverse (take z numbers))) (length-reverse params) u

behind_arguments : (params below : List ValType) (numbers : List ℕ) → AreValues (reverse params ++ below) numbers → AreValues below (drop (length params) numbers)
behind_arguments params below numbers v = subst (λ (z : ℕ). AreValues below (drop z numbers)) (length-reverse params) (values_dropped (reverse params) below numbers v)

-- ---- a call of the module

-- the locals of a function and what its frame keeps, together
size_called : (type : FuncType) (more : ℕ) (body : Ops) (t : Thread) → length type.params ≤ length t.operands → size (called type more body t t.code) ≡ size t + more
size_called type more body t few =
    let count = length type.params in
    let a = length-append (reverse (take count t.operands)) (replicate more 0) in
    let b = length-reverse (take count t.operands) in
    let c = length-take count t.operands in
    let d = length-replicate {A = ℕ} more 0 in
    let e = length-drop count t.operands in
    omega (arith, a, b, c, d, e, sum_by-cons kept (frame (arity type.result) t.locals (drop count t.operands) t.code) t.levels)

own_called : {base : Context} (type : FuncType) (more : ℕ) (body : Ops) (t : Thread) → IsAtCall base type t → IsBody base type more body
    → frame_count t.levels < most_frames → size t + more ≤ most_values → IsTyped base (called type more body t t.code)
own_called type more body t a b few fits = record {
  types = type.params ++ b.locals;
  result = type.result;
  labels = type.result ∷ [];
  from = [];
  to = types_of type.result;
  locals = values_joined (first_locals type.params a.below t.operands a.operands)
      (subst (λ (z : ℕ). AreValues b.locals (replicate z 0)) b.count (zero_values b.locals));
  operands = no_values;
  code = record { typed = b.typed; shallow = b.shallow; outside = λ e. absurd (no_label type.result [] e) };
  levels = typed_frame a.locals (behind_arguments type.params a.below t.operands a.operands) a.rest a.levels;
  room = omega (arith, size_called type more body t (arguments_there type.params a.below t.operands a.operands), fits);
  frames = omega (arith, few);
}

-- ---- a call of the host

host_called : {base : Context} (type : FuncType) (answer : ℤ) (t : Thread) → IsAtCall base type t → AreValues (types_of type.result) (answered type.result answer)
    → size t - length type.params + arity type.result ≤ most_values
    → IsTyped base (record t { operands = answered type.result answer ++ drop (length type.params) t.operands })
host_called type answer t a v fits = record {
  types = a.types;
  result = a.result;
  labels = a.labels;
  from = types_of type.result ++ a.below;
  to = a.to;
  locals = a.locals;
  operands = values_joined v (behind_arguments type.params a.below t.operands a.operands);
  code = a.rest;
  levels = a.levels;
  room = (let rest = drop (length type.params) t.operands in
      let c = arguments_there type.params a.below t.operands a.operands in
      omega (arith, length-append (answered type.result answer) rest, length-drop (length type.params) t.operands, values_length v, arity_is type.result, fits, c));
  frames = a.frames;
}

-- ---- both

can_call : {base : Context} (program : Program) (func : ℕ) (found : Function) (t : Thread) → IsTypedProgram base program → slice_get program.functions func ≡ Some found → IsAtCall base (type_of found) t → CanCall base found t
can_call {base} program func found t typed known a = record {
  there = arguments_there (type_of found).params a.below t.operands a.operands;
  values = first_locals (type_of found).params a.below t.operands a.operands;
  own = λ type more body e few fits.
      own_called type more body t (subst (λ (z : Function). IsAtCall base (type_of z) t) e a)
      (typed.bodies func type more body (subst (λ (z : Function). slice_get program.functions func ≡ Some z) e known)) few fits;
  host = λ type number answer e v fits. host_called type answer t (subst (λ (z : Function). IsAtCall base (type_of z) t) e a) v fits;
}

has_call : {cx : Context} {labels : List (Option ValType)} {func : ℕ} {ins outs : List ValType} → TypedOp cx labels (call func) ins outs
    → (type : FuncType) × HasType cx func type × (ins ≡ reverse type.params) × (outs ≡ types_of type.result)
has_call (call_typed type known) = (type, known, refl, refl)

-- the place of a call, with these operands
at_call : {base : Context} {op : Op} {t : Thread} (r : IsReady base op t) (type : FuncType) (operands : List ℕ) → r.outs ≡ types_of type.result
    → AreValues (reverse type.params ++ r.below) operands → length operands ≤ length t.operands → IsAtCall base type (record t { operands = operands })
at_call r type operands e v fewer = record {
  types = r.types;
  result = r.result;
  labels = r.outer ∷ r.labels;
  below = r.below;
  to = r.to;
  locals = r.locals;
  operands = v;
  rest = rest_as r e;
  levels = r.levels;
  room = omega (arith, r.room, fewer);
  frames = r.frames;
}

program_has : (program : Program) (func : ℕ) → func < length program.functions → (found : Function) × (slice_get program.functions func ≡ Some found)
program_has program func l = ⊎_elim (λ s. (s.0, s.2)) (λ s. absurd (let past = s.0 in omega arith)) (slice_get_cases program.functions func).1

pub call_on : {base : Context} (t : Thread) (program : Program) (func : ℕ) → IsTypedProgram base program → IsTyped base (pending (call func) t)
    → (found : Function) × (slice_get program.functions func ≡ Some found) × CanCall base found t
call_on {base} t program func typed p =
    let r = ready (call func) t p in
    let s = has_call r.typed in
    let within = slice_get_within base.funcs func s.1.0 s.1.1 in
    let f = program_has program func (omega (arith, typed.count)) in
    let same = one_found (slice_get base.types s.1.0) s.1.2 (typed.functions func s.1.0 f.0 f.1 s.1.1) in
    (f.0, f.1, can_call program func f.0 t typed f.1 (subst (λ (z : FuncType). IsAtCall base z t) same (at_call r s.0 t.operands s.3 (operands_as r s.2) (omega arith))))

has_call_indirect : {cx : Context} {labels : List (Option ValType)} {index : ℕ} {ins outs : List ValType} → TypedOp cx labels (call_indirect index) ins outs
    → (type : FuncType) × (slice_get cx.types index ≡ Some type) × (ins ≡ I32 ∷ reverse type.params) × (outs ≡ types_of type.result)
has_call_indirect (call_indirect_typed type table known) = (type, known, refl, refl)

pub call_indirect_on : {base : Context} (t : Thread) (program : Program) (store : Store) (index : ℕ) → IsTypedProgram base program → IsTypedStore base store → IsTyped base (pending (call_indirect index) t)
    → (1 ≤ length t.operands) × IsValue I32 (get_or t.operands 0 0) × (index < length program.types)
    × ((entry func : ℕ) (found : Function) → slice_get store.table entry ≡ Some (Some func) → slice_get program.functions func ≡ Some found → slice_get program.types index ≡ Some (type_of found) → CanCall base found (given 1 [] t))
call_indirect_on {base} t program store index typed held p =
    let r = ready (call_indirect index) t p in
    let s = has_call_indirect r.typed in
    let declared : slice_get program.types index ≡ Some s.0 = subst (λ (z : List FuncType). slice_get z index ≡ Some s.0) (sym typed.types) s.1 in
    let v = top_off t.operands (operands_as r s.2) in
    let a = at_call r s.0 (drop 1 t.operands) s.3 v.2 (omega (arith, length-drop 1 t.operands)) in (
      v.0,
      v.1,
      slice_get_within program.types index s.0 declared,
      λ entry func found in_table known same.
          can_call program func found (given 1 [] t) typed known (subst (λ (z : FuncType). IsAtCall base z (given 1 [] t)) (one_found (slice_get program.types index) declared same) a),
    )

-- an entry of the table is a function of the program
pub table_names : {base : Context} (program : Program) (store : Store) (entry func : ℕ) → IsTypedProgram base program → IsTypedStore base store → slice_get store.table entry ≡ Some (Some func)
    → (found : Function) × (slice_get program.functions func ≡ Some found)
table_names program store entry func typed held e = program_has program func (omega (arith, typed.count, held.table entry func e))
