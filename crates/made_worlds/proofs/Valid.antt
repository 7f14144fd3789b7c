-- The players' module is valid, has no floats, and is within the limits.
use Rattle.std.proofs.Common.{◌≡◌, ℕ, zero, suc, ◌<◌, ◌≤◌, List, [], ◌∷◌, Some, None, All, refl, subst, arith, lit<, lit≤}
use Rattle.std.specs.Prelude.{slice_get}
use Rattle.std.specs.List.{AllByRecursion}
use Rattle.std.proofs.lemmas.List.Elements.{All-from_recursion}
use Rattle.std.proofs.lemmas.Option.{same_Some}
use Rattle.wasm_module.specs.Entries.{Function}
use Rattle.wasm_module.specs.Limits.{IsWithin, WithinLocals, locals_of}
use Rattle.wasm_values.specs.Syntax.{Ops, ops_nesting}
use Rattle.wasm_values.specs.View.{ops_of}
use Rattle.wasm_module.specs.declared.codes.LocalRun.{LocalRun}
use Rattle.wasm_values.specs.declared.exports.Export.{Export}
use Rattle.wasm_values.specs.declared.imports.Import.{Import}
use Rattle.wasm_values.specs.declared.types.ValType.{ValType}
use Rattle.wasm_values.specs.declared.types.ValType.TheVariants.{I32, I64}
use Rattle.wasm_typing.specs.Context.{Context, function_context, module_context}
use Rattle.wasm_typing.specs.Functions.{IsFunction}
use Rattle.wasm_validate.specs.Floats.{HasNoFloat, ImportHasNoFloat, IsInteger, OpsHaveNoFloat, TypeHasNoFloat}
use Rattle.wasm_validate.specs.Modules.{Exists, IsValid, NamesDiffer}
use Rattle.world_gen.specs.PlayerModule.{again, both_fields, both_ids, delivers, direction, drops, either, field, harvests, has_room, host_calls, host_types, in_room, is_seen, look, loop_codes, loop_exports, of_kind, on_code, own, own_creep, player_module, seek, sign, source_sought, spawn_sought, steps, takes, to_next, turn, turns, visit, when}
use Rattle.made_worlds.proofs.Typed.{IsPlayerContext, turns_typed}

-- ---- floats

integers : (types : List ValType) → AllByRecursion IsInteger types → All IsInteger types
integers types all = All-from_recursion IsInteger types all

no_float : OpsHaveNoFloat (ops_of turns)
unfolding turns visit own_creep turn has_room delivers harvests drops steps direction sign on_code both_ids seek look spawn_sought source_sought again either when is_seen to_next in_room both_fields own of_kind field
no_float = search tt

pub no_floats : HasNoFloat player_module
unfolding player_module host_types host_calls loop_codes
no_floats = record {
  types = All-from_recursion TypeHasNoFloat host_types (
    (integers [] tt, tt),
    (
      (integers (I32 ∷ I32 ∷ []) (tt, (tt, tt)), tt),
      (
        (integers (I64 ∷ I64 ∷ []) (tt, (tt, tt)), tt),
        (
          (integers (I64 ∷ I64 ∷ I32 ∷ []) (tt, (tt, (tt, tt))), tt),
          ((integers (I64 ∷ I32 ∷ []) (tt, (tt, tt)), tt), ((integers [] tt, tt), tt)),
        ),
      ),
    ),
  );
  imports = All-from_recursion (λ (entry : Import). ImportHasNoFloat entry.desc) host_calls
      (tt, (tt, (tt, (tt, (tt, (tt, (tt, tt)))))));
  globals = λ k d less. absurd (omega arith);
  elements = λ k d less. absurd (omega arith);
  locals = All-from_recursion (λ (code : Function Ops). All (λ run. IsInteger run.value) code.0) loop_codes
      (All-from_recursion (λ (run : LocalRun). IsInteger run.value) (record { count = 3; value = I32 } ∷ []) (tt, tt), tt);
  bodies = All-from_recursion (λ (code : Function Ops). OpsHaveNoFloat code.1) loop_codes (no_float, tt);
  segments = λ k d less. absurd (omega arith);
}

-- ---- limits

shallow : ops_nesting (ops_of turns) ≤ 200
unfolding turns visit own_creep turn has_room delivers harvests drops steps direction sign on_code both_ids seek look spawn_sought source_sought again either when is_seen to_next in_room both_fields own of_kind field
shallow = lit≤ tt

few_locals : WithinLocals player_module
unfolding player_module host_types loop_codes
few_locals zero index function func code =
    let of_type : 5 ≡ index = same_Some 5 index func in
    let whole : Function Ops = (record { count = 3; value = I32 } ∷ [], ops_of turns) in
    let same : whole ≡ function = same_Some whole function code in
    subst (λ (n : ℕ). locals_of host_types n function ≤ 65536) of_type
    (subst (λ (f : Function Ops). locals_of host_types 5 f ≤ 65536) same (lit≤ tt))
few_locals (suc i) index function func code = absurd cc

pub within : IsWithin player_module
unfolding player_module loop_codes
within = (
  lit≤ tt,
  (
    λ k d less. absurd (omega arith),
    λ k d less. absurd (omega arith),
    All-from_recursion (λ (code : Function Ops). ops_nesting code.1 ≤ 200) loop_codes (shallow, tt),
    λ k d less. absurd (omega arith),
  ),
  few_locals,
  λ k d less. absurd (omega arith),
  λ k d less. absurd (omega arith),
)

-- ---- the function

abbrev the_context : Context
the_context = function_context (module_context player_module) (takes [] None) (record { count = 3; value = I32 } ∷ [])

three_locals : (local : ℕ) → local < 3 → slice_get the_context.locals local ≡ Some I32
three_locals zero less = refl
three_locals (suc zero) less = refl
three_locals (suc (suc zero)) less = refl
three_locals (suc (suc (suc local))) less = absurd (omega arith)

in_context : IsPlayerContext the_context
unfolding player_module host_types host_calls
in_context = record {
  locals = three_locals;
  count = (0, refl, refl);
  me = (0, refl, refl);
  get = (1, refl, refl);
  harvest = (2, refl, refl);
  transfer = (3, refl, refl);
  drop = (4, refl, refl);
  move = (4, refl, refl);
}

typed_function : (i index : ℕ) (function : Function Ops) → slice_get player_module.funcs i ≡ Some index
    → slice_get player_module.codes i ≡ Some function → IsFunction (module_context player_module) index function
unfolding player_module host_types loop_codes
typed_function zero index function func code =
    let of_type : 5 ≡ index = same_Some 5 index func in
    let whole : Function Ops = (record { count = 3; value = I32 } ∷ [], ops_of turns) in
    let same : whole ≡ function = same_Some whole function code in
    subst (λ (n : ℕ). IsFunction (module_context player_module) n function) of_type
    (subst (λ (f : Function Ops). IsFunction (module_context player_module) 5 f) same
    (takes [] None, refl, turns_typed the_context in_context (None ∷ [])))
typed_function (suc i) index function func code = absurd cc

one_name : NamesDiffer loop_exports
one_name zero zero one other first second same = refl
one_name zero (suc j) one other first second same = absurd cc
one_name (suc i) j one other first second same = absurd cc

pub valid : IsValid player_module
unfolding player_module host_types host_calls loop_codes
valid = record {
  funcs = All-from_recursion (λ (index : ℕ). index < 6) (0 ∷ 0 ∷ 1 ∷ 2 ∷ 3 ∷ 4 ∷ 4 ∷ 5 ∷ [])
      (lit< tt, (lit< tt, (lit< tt, (lit< tt, (lit< tt, (lit< tt, (lit< tt, (lit< tt, tt))))))));
  counts = refl;
  codes = typed_function;
  tables = λ k d less. absurd (omega arith);
  memories = λ k d less. absurd (omega arith);
  globals = λ k d less. absurd (omega arith);
  elements = λ k d less. absurd (omega arith);
  segments = λ k d less. absurd (omega arith);
  start = tt;
  exports = All-from_recursion (λ (entry : Export). Exists (module_context player_module) entry.desc) loop_exports (lit< tt, tt);
  names = one_name;
  one_table = lit≤ tt;
  one_memory = lit≤ tt;
}
