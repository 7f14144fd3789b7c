-- Where typed threads begin, and where they come to the end of a block or a frame.
use Rattle.std.proofs.Common.{◌≡◌, ℕ, ◌+◌, ◌*◌, ◌≤◌, List, [], ◌∷◌, ◌++◌, refl, sym, ap, ◌∙◌, subst, length, replicate, Option, None, ◌⊎◌, inl, inr, ⊎_elim, arith, length-append}
use Rattle.std.proofs.lemmas.List.{length-replicate}
use Rattle.std.proofs.lemmas.List.Sums.{sum_by-cons}
use Rattle.wasm_values.specs.Syntax.{Ops, no_ops}
use Rattle.wasm_values.specs.declared.types.ValType.{ValType}
use Rattle.wasm_typing.specs.Context.{Context}
use Rattle.wasm_typing.specs.Typing.{types_of, Typed, none_typed}
use Rattle.wasm_steps.specs.Program.{Program, most_frames, most_values}
use Rattle.wasm_steps.specs.Threads.{Level, label, frame, Thread, arity, frame_count, kept, size, Leaves, leaves_label, leaves_frame}
use Rattle.wasm_steps.specs.Runs.{IsInvoked}
use Rattle.wasm_soundness.specs.Typed.{AreValues, no_values, GoesOn, AreTyped, typed_label, typed_frame, typed_end, IsTyped, inside, most_labels, IsTypedProgram}
use Rattle.wasm_soundness.proofs.Values.{values_length, values_joined, zero_values, arity_is, arity_small}
use Rattle.wasm_soundness.proofs.Pending.{no_label}

nothing_left : {cx : Context} {labels : List (Option ValType)} {from to : List ValType} → Typed cx labels no_ops from to → from ≡ to
nothing_left none_typed = refl

-- ---- leaving

left : {base : Context} {types from to : List ValType} {result : Option ValType} {labels : List (Option ValType)} (t after : Thread)
    → Leaves t after → AreValues types t.locals → AreValues from t.operands
    → GoesOn (inside base types result) labels t.code from to → AreTyped base types result labels to t.levels
    → size t ≤ most_values → frame_count t.levels ≤ most_frames → IsTyped base after
left {types = types} {from = from} {to = to} {result = result} t after (leaves_label {results = results} {again = again} {rest = rest} {operands = operands} {below = below} {levels = levels}) held v done
    (typed_label {to = goal} {under = under} {outer = outer} {labels = labels} u g h l) room frames = record {
      types = types;
      result = result;
      labels = outer ∷ labels;
      from = to ++ under;
      to = goal;
      locals = held;
      operands = values_joined (subst (λ (z : List ValType). AreValues z operands) (nothing_left done.typed) v) u;
      code = h;
      levels = l;
      room = omega (arith, room, length-append operands below, sum_by-cons kept (label results again below rest) levels);
      frames = frames;
    }
left t after (leaves_frame {results = results} {rest = rest} {operands = operands} {locals = locals} {caller = caller} {below = below} {levels = levels}) held v done
    (typed_frame {callers = callers} {to = goal} {under = under} {result = own} {outer = outer} {labels = labels} c u g l) room frames = record {
      types = callers;
      result = outer;
      labels = labels;
      from = types_of own ++ under;
      to = goal;
      locals = c;
      operands = values_joined (subst (λ (z : List ValType). AreValues z operands) (nothing_left done.typed) v) u;
      code = g;
      levels = l;
      room = omega (arith, room, length-append operands below, sum_by-cons kept (frame results caller below rest) levels);
      frames = omega (arith, frames);
    }

pub kept_leaving : {base : Context} (t after : Thread) → IsTyped base t → Leaves t after → IsTyped base after
kept_leaving t after p e = left t after e p.locals p.operands p.code p.levels p.room p.frames

-- ---- the end of a frame

frame_gives : {base : Context} {types gives : List ValType} {result : Option ValType} {labels : List (Option ValType)} {results : ℕ} {held below : List ℕ} {rest : Ops} {levels : List Level}
    → AreTyped base types result labels gives (frame results held below rest ∷ levels) → (gives ≡ types_of result) × (results ≡ arity result)
frame_gives (typed_frame c u g l) = (refl, refl)

pub at_frame_end : {base : Context} (t : Thread) (results : ℕ) (held below : List ℕ) (rest : Ops) (levels : List Level) → IsTyped base t → t.code ≡ no_ops → t.levels ≡ frame results held below rest ∷ levels
    → (length t.operands ≡ results) × (results ≤ 1)
at_frame_end {base} t results held below rest levels p e f =
    let g = frame_gives (subst (λ (z : List Level). AreTyped base p.types p.result p.labels p.to z) f p.levels) in
    let n = nothing_left (subst (λ (z : Ops). Typed (inside base p.types p.result) p.labels z p.from p.to) e p.code.typed) in
    (values_length p.operands ∙ ap length (n ∙ g.0) ∙ sym (arity_is p.result) ∙ sym g.1, omega (arith, g.1, arity_small p.result))

-- ---- how many levels

few : {base : Context} {types gives : List ValType} {result : Option ValType} {labels : List (Option ValType)} {levels : List Level}
    → AreTyped base types result labels gives levels
    → (levels ≡ []) ⊎ (length levels + most_labels ≤ length labels + most_labels * frame_count levels)
few (typed_label {outer = outer} {labels = labels} {again = again} {rest = rest} {below = below} {levels = levels} u g h l) = inr (⊎_elim (λ e. absurd (stands l e)) (λ b. omega (arith, b)) (few l))
  where
    stands : {base : Context} {types gives : List ValType} {result outer : Option ValType} {labels : List (Option ValType)} {levels : List Level} → AreTyped base types result (outer ∷ labels) gives levels → levels ≡ [] → ⊥
    stands (typed_label u g h l) e = cc
    stands (typed_frame c u g l) e = cc
few (typed_frame {levels = levels} c u g l) =
    let s = g.shallow in
    inr (⊎_elim (λ e. (let n : length levels ≡ 0 = ap length e in omega arith)) (λ b. omega arith) (few l))
few typed_end = inl refl

pub few_levels : {base : Context} (t : Thread) → IsTyped base t → length t.levels ≤ most_labels * frame_count t.levels
few_levels t p =
    let s = p.code.shallow in
    ⊎_elim (λ e. (let n : length t.levels ≡ 0 = ap length e in omega arith)) (λ b. omega arith) (few p.levels)

-- ---- the beginning

module _ {base : Context} where
  outermost : (types : List ValType) (result : Option ValType) → result ≡ None → AreTyped base types result (result ∷ []) (types_of result) (frame 0 [] [] no_ops ∷ [])
  outermost types result e =
      let outside : GoesOn (inside base [] None) [] no_ops (types_of result ++ []) (types_of result ++ []) = record { typed = none_typed; shallow = omega arith; outside = λ _. refl } in
      subst (λ (z : ℕ). AreTyped base types result (result ∷ []) (types_of result) (frame z [] [] no_ops ∷ [])) (ap arity e)
      (typed_frame {callers = []} {outer = None} no_values no_values outside typed_end)

pub begins_typed : {base : Context} (program : Program) (func : ℕ) (thread : Thread) → IsTypedProgram base program → (invoked : IsInvoked program func thread)
    → invoked.type.params ≡ [] → invoked.type.result ≡ None → IsTyped base thread
begins_typed {base} program func thread typed invoked no_params no_result =
    let type = invoked.type in
    let b = typed.bodies func type invoked.more invoked.body invoked.known in
    let count : length (type.params ++ b.locals) ≡ invoked.more = omega (arith, length-append type.params b.locals, ap length no_params, b.count) in
    let first : IsTyped base (record { code = invoked.body; operands = []; locals = replicate invoked.more 0; levels = frame 0 [] [] no_ops ∷ [] }) = record {
      types = type.params ++ b.locals;
      result = type.result;
      labels = type.result ∷ [];
      from = [];
      to = types_of type.result;
      locals = subst (λ (z : ℕ). AreValues (type.params ++ b.locals) (replicate z 0)) count (zero_values (type.params ++ b.locals));
      operands = no_values;
      code = record { typed = b.typed; shallow = b.shallow; outside = λ e. absurd (no_label type.result [] e) };
      levels = outermost (type.params ++ b.locals) type.result no_result;
      room = omega (arith, length-replicate {A = ℕ} invoked.more 0, b.room);
      frames = omega arith;
    } in
    subst (λ (z : Thread). IsTyped base z) (sym invoked.begins) first
