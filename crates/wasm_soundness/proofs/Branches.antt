-- Branches and returns of typed threads.
use Rattle.std.proofs.Common.{◌≡◌, ℕ, zero, suc, ◌+◌, ◌≤◌, List, [], ◌∷◌, ◌++◌, refl, sym, ap, subst, append_assoc, length, take, drop, get_or, Option, Some, unwrap_or, ⊎_elim, arith, length-append, length-take, length-drop}
use Rattle.std.proofs.lemmas.List.Sums.{sum_by-cons}
use Rattle.std.proofs.lemmas.Option.{none-some, same_Some, slice_get_cases}
use Rattle.wasm_values.specs.Syntax.{Ops, no_ops, br, br_if, br_table, return}
use Rattle.wasm_values.specs.declared.types.ValType.{ValType}
use Rattle.wasm_values.specs.declared.types.ValType.TheVariants.{I32}
use Rattle.wasm_typing.specs.Context.{Context}
use Rattle.wasm_typing.specs.Typing.{types_of, Takes, TypedOp, br_typed, br_if_typed, br_table_typed, return_typed}
use Rattle.wasm_steps.specs.Program.{most_frames, most_values}
use Rattle.wasm_steps.specs.Threads.{Level, label, frame, Thread, arity, frame_count, kept, size, Branches, branches_here, branches_out, branches_further, Returns, returns_here, returns_further}
use Rattle.wasm_steps.specs.Steps.{target_of}
use Rattle.wasm_soundness.specs.Typed.{IsValue, AreValues, AreTyped, typed_label, typed_frame, typed_end, IsTyped}
use Rattle.wasm_soundness.specs.Ready.{pending, given, results_at, level_of, CanBranch, MayBranch, open_labels}
use Rattle.wasm_soundness.proofs.Values.{values_length, values_joined, values_taken, top_off, arity_is, arity_small}
use Rattle.wasm_soundness.proofs.Pending.{ready, operands_as, typed_behind}

-- ---- the code does not matter to them

pub branches_any_code : (to : ℕ) (t after : Thread) (ops : Ops) → Branches to t after → Branches to (record t { code = ops }) after
branches_any_code to t after ops branches_here = branches_here
branches_any_code to t after ops branches_out = branches_out
branches_any_code to t after ops (branches_further {target = target} {code = code} {operands = operands} {locals = locals} {levels = levels} b) =
    branches_further (branches_any_code target (record { code = code; operands = operands; locals = locals; levels = levels }) after ops b)

pub returns_any_code : (t after : Thread) (ops : Ops) → Returns t after → Returns (record t { code = ops }) after
returns_any_code t after ops returns_here = returns_here
returns_any_code t after ops (returns_further {code = code} {operands = operands} {locals = locals} {levels = levels} b) =
    returns_further (returns_any_code (record { code = code; operands = operands; locals = locals; levels = levels }) after ops b)

-- ---- a return is a branch to the outermost label

returned : (to : ℕ) (t after : Thread) → Branches to t after → to ≡ open_labels t.levels → Returns t after
returned to t after (branches_here {levels = levels}) e = absurd (no_label levels e)
  where
    no_label : (levels : List Level) → 0 ≡ suc (open_labels levels) → ⊥
    no_label levels e = omega arith
returned to t after branches_out e = returns_here
returned to t after (branches_further {target = target} {code = code} {operands = operands} {locals = locals} {levels = levels} b) e =
    returns_further (returned target (record { code = code; operands = operands; locals = locals; levels = levels }) after b (omega arith))

pub returns_by_branch : (t after : Thread) → Branches (open_labels t.levels) t after → Returns t after
returns_by_branch t after b = returned (open_labels t.levels) t after b refl

pub branches_by_return : (t after : Thread) → Returns t after → Branches (open_labels t.levels) t after
branches_by_return t after returns_here = branches_out
branches_by_return t after (returns_further {code = code} {operands = operands} {locals = locals} {levels = levels} b) =
    branches_further (branches_by_return (record { code = code; operands = operands; locals = locals; levels = levels }) after b)

-- ---- room

-- what a branch takes along stands in the room of what stood above
fewer_operands : (count : ℕ) (operands below : List ℕ) → length (take count operands ++ below) ≤ length operands + length below
fewer_operands count operands below = omega (arith, length-append (take count operands) below, length-take count operands)

module _ (results : ℕ) (code again rest : Ops) (operands locals caller below : List ℕ) (levels : List Level) where
  size_here : size (record { code = again; operands = take results operands ++ below; locals = locals; levels = levels })
      ≤ size (record { code = code; operands = operands; locals = locals; levels = label results again below rest ∷ levels })
  size_here = omega (arith, fewer_operands results operands below, sum_by-cons kept (label results again below rest) levels)

  size_out : size (record { code = rest; operands = take results operands ++ below; locals = caller; levels = levels })
      ≤ size (record { code = code; operands = operands; locals = locals; levels = frame results caller below rest ∷ levels })
  size_out = omega (arith, fewer_operands results operands below, sum_by-cons kept (frame results caller below rest) levels)

  size_further : size (record { code = code; operands = operands; locals = locals; levels = levels })
      ≤ size (record { code = code; operands = operands; locals = locals; levels = label results again below rest ∷ levels })
  size_further = omega (arith, sum_by-cons kept (label results again below rest) levels)

-- ---- what a branch keeps

-- the results of a label, as many as its level says
results_taken : (own takes : Option ValType) (from : List ValType) (operands : List ℕ) → Some own ≡ Some takes → AreValues (types_of takes ++ from) operands
    → AreValues (types_of own) (take (arity own) operands)
results_taken own takes from operands e v =
    subst (λ (z : ℕ). AreValues (types_of own) (take z operands)) (sym (arity_is own))
    (values_taken (types_of own) from operands (subst (λ (z : Option ValType). AreValues (types_of z ++ from) operands) (sym (same_Some own takes e)) v))

kept_branching : {base : Context} {types gives : List ValType} {result : Option ValType} {labels : List (Option ValType)} (takes : Option ValType) (from : List ValType) (to : ℕ) (t after : Thread)
    → Branches to t after → AreTyped base types result labels gives t.levels → Takes labels takes to
    → AreValues types t.locals → AreValues (types_of takes ++ from) t.operands
    → size t ≤ most_values → frame_count t.levels ≤ most_frames → IsTyped base after
kept_branching {types = types} {result = result} takes from to t after (branches_here {code = code} {again = again} {rest = rest} {operands = operands} {locals = locals} {below = below} {levels = levels})
    (typed_label {to = goal} {under = under} {takes = own} {outer = outer} {labels = labels} u g h l) e held v room frames = record {
      types = types;
      result = result;
      labels = outer ∷ labels;
      from = types_of own ++ under;
      to = goal;
      locals = held;
      operands = values_joined (results_taken own takes from operands e v) u;
      code = g;
      levels = l;
      room = (let s = size_here (arity own) code again rest operands locals [] below levels in omega arith);
      frames = frames;
    }
kept_branching takes from to t after (branches_out {code = code} {rest = rest} {operands = operands} {locals = locals} {caller = caller} {below = below} {levels = levels})
    (typed_frame {callers = callers} {to = goal} {under = under} {result = own} {outer = outer} {labels = labels} c u g l) e held v room frames = record {
      types = callers;
      result = outer;
      labels = labels;
      from = types_of own ++ under;
      to = goal;
      locals = c;
      operands = values_joined (results_taken own takes from operands e v) u;
      code = g;
      levels = l;
      room = (let s = size_out (arity own) code no_ops rest operands locals caller below levels in omega arith);
      frames = omega arith;
    }
kept_branching takes from to t after (branches_further {target = target} {results = results} {code = code} {again = again} {rest = rest} {operands = operands} {locals = locals} {below = below} {levels = levels} b)
    (typed_label u g h l) e held v room frames =
    kept_branching takes from target (record { code = code; operands = operands; locals = locals; levels = levels }) after b l e held v
    (let s = size_further results code again rest operands locals [] below levels in omega arith) frames

-- the level of a label
level_stands : {base : Context} {types gives : List ValType} {result : Option ValType} {labels : List (Option ValType)} {levels : List Level} (takes : Option ValType) (to : ℕ)
    → AreTyped base types result labels gives levels → Takes labels takes to
    → (level : Level) × (level_of to levels ≡ Some level) × (results_at level ≡ arity takes)
level_stands takes zero (typed_label {takes = own} {again = again} {rest = rest} {below = below} u g h l) e = (label (arity own) again below rest, refl, ap arity (same_Some own takes e))
level_stands takes (suc to) (typed_label u g h l) e = level_stands takes to l e
level_stands takes zero (typed_frame {result = own} {rest = rest} {held = held} {below = below} c u g l) e = (frame (arity own) held below rest, refl, ap arity (same_Some own takes e))
level_stands takes (suc to) (typed_frame c u g l) e = absurd (none-some takes e)
level_stands takes to typed_end e = absurd (none-some takes e)

-- a branch, with the results of its label on top of what it leaves behind
may_branch : {base : Context} {types gives : List ValType} {result : Option ValType} {labels : List (Option ValType)} (takes : Option ValType) (from : List ValType) (to : ℕ) (t : Thread)
    → AreTyped base types result labels gives t.levels → Takes labels takes to
    → AreValues types t.locals → AreValues (types_of takes ++ from) t.operands
    → size t ≤ most_values → frame_count t.levels ≤ most_frames → MayBranch base to t
may_branch takes from to t levels e held v room frames =
    let s = level_stands takes to levels e in (
      record {
        level = s.0;
        stands = s.1;
        few = omega (arith, s.2, arity_small takes);
        there = omega (arith, s.2, arity_is takes, values_length v, length-append (types_of takes) from);
      },
      λ after b. kept_branching takes from to t after b levels e held v room frames,
    )

-- the operands of a branch, with those that it leaves behind
grouped : (ins from below : List ValType) (numbers : List ℕ) → AreValues ((ins ++ from) ++ below) numbers → AreValues (ins ++ (from ++ below)) numbers
grouped ins from below numbers v = subst (λ (z : List ValType). AreValues z numbers) (append_assoc ins from below) v

-- ---- br

has_br : {cx : Context} {labels : List (Option ValType)} {to : ℕ} {ins outs : List ValType} → TypedOp cx labels (br to) ins outs
    → (takes : Option ValType) × (from : List ValType) × Takes labels takes to × (ins ≡ types_of takes ++ from)
has_br (br_typed {result = takes} from e) = (takes, from, e, refl)

pub br_on : {base : Context} (t : Thread) (to : ℕ) → IsTyped base (pending (br to) t) → MayBranch base to t
br_on t to p =
    let r = ready (br to) t p in
    let s = has_br r.typed in
    may_branch s.0 (s.1 ++ r.below) to t r.levels s.2 r.locals
    (grouped (types_of s.0) s.1 r.below t.operands (operands_as r s.3)) r.room r.frames

-- ---- br_if

has_br_if : {cx : Context} {labels : List (Option ValType)} {to : ℕ} {ins outs : List ValType} → TypedOp cx labels (br_if to) ins outs
    → (takes : Option ValType) × Takes labels takes to × (ins ≡ I32 ∷ types_of takes) × (outs ≡ types_of takes)
has_br_if (br_if_typed {result = takes} e) = (takes, e, refl, refl)

pub br_if_on : {base : Context} (t : Thread) (to : ℕ) → IsTyped base (pending (br_if to) t)
    → (1 ≤ length t.operands) × IsValue I32 (get_or t.operands 0 0) × IsTyped base (given 1 [] t) × CanBranch to (given 1 [] t) × ((after : Thread) → Branches to (given 1 [] t) after → IsTyped base after)
br_if_on {base} t to p =
    let r = ready (br_if to) t p in
    let s = has_br_if r.typed in
    let v = top_off t.operands (operands_as r s.2) in
    let fewer : size (given 1 [] t) ≤ most_values = omega (arith, r.room, length-drop 1 t.operands) in
    let m = may_branch s.0 r.below to (given 1 [] t) r.levels s.1 r.locals v.2 fewer r.frames in
    (v.0, v.1, typed_behind r t.locals (drop 1 t.operands) s.3 r.locals v.2 fewer, m.0, m.1)

-- ---- br_table

has_br_table : {cx : Context} {labels : List (Option ValType)} {several : List ℕ} {last : ℕ} {ins outs : List ValType} → TypedOp cx labels (br_table several last) ins outs
    → (takes : Option ValType) × (from : List ValType) × ((index : ℕ) → Takes labels takes (target_of several last index)) × (ins ≡ I32 ∷ types_of takes ++ from)
has_br_table {cx} {labels} {several} {last} (br_table_typed {result = takes} from all e) = (
  takes,
  from,
  λ index. ⊎_elim
      (λ found. subst (λ (z : Option ℕ). Takes labels takes (unwrap_or z last)) (sym found.2) (subst (λ (z : ℕ). Takes labels takes z) found.3 (all index found.0 found.1)))
      (λ past. subst (λ (z : Option ℕ). Takes labels takes (unwrap_or z last)) (sym past.1) e)
      (slice_get_cases several index).1,
  refl,
)

pub br_table_on : {base : Context} (t : Thread) (several : List ℕ) (last : ℕ) → IsTyped base (pending (br_table several last) t)
    → (1 ≤ length t.operands) × IsValue I32 (get_or t.operands 0 0)
    × ((index : ℕ) → MayBranch base (target_of several last index) (given 1 [] t))
br_table_on t several last p =
    let r = ready (br_table several last) t p in
    let s = has_br_table r.typed in
    let v = top_off t.operands (operands_as r s.3) in
    let fewer : size (given 1 [] t) ≤ most_values = omega (arith, r.room, length-drop 1 t.operands) in (
      v.0,
      v.1,
      λ index. may_branch s.0 (s.1 ++ r.below) (target_of several last index) (given 1 [] t) r.levels (s.2 index) r.locals
          (grouped (types_of s.0) s.1 r.below (drop 1 t.operands) v.2) fewer r.frames,
    )

-- ---- return

has_return : {cx : Context} {labels : List (Option ValType)} {ins outs : List ValType} → TypedOp cx labels return ins outs → (from : List ValType) × (ins ≡ types_of cx.result ++ from)
has_return (return_typed from) = (from, refl)

-- the outermost label of a function takes its result
outermost_takes : {base : Context} {types gives : List ValType} {result outer : Option ValType} {labels : List (Option ValType)} {levels : List Level}
    → AreTyped base types result (outer ∷ labels) gives levels → Takes (outer ∷ labels) result (open_labels levels)
outermost_takes (typed_label u g h l) = outermost_takes l
outermost_takes (typed_frame c u g l) = refl

pub return_on : {base : Context} (t : Thread) → IsTyped base (pending return t)
    → CanBranch (open_labels t.levels) t × ((after : Thread) → Returns t after → IsTyped base after)
return_on t p =
    let r = ready return t p in
    let s = has_return r.typed in
    let m = may_branch r.result (s.0 ++ r.below) (open_labels t.levels) t r.levels (outermost_takes r.levels) r.locals
    (grouped (types_of r.result) s.0 r.below t.operands (operands_as r s.1)) r.room r.frames in
    (m.0, λ after b. m.1 after (branches_by_return t after b))
