-- A typed thread taken apart at the instruction that is next.
use Rattle.std.proofs.Common.{◌≡◌, ℕ, ◌+◌, ◌≤◌, List, [], ◌∷◌, ◌++◌, refl, subst, subst₂, length, drop, Option, arith}
use Rattle.wasm_values.specs.Syntax.{Op, Ops, no_ops, next, nesting}
use Rattle.wasm_values.specs.declared.types.ValType.{ValType}
use Rattle.wasm_typing.specs.Context.{Context}
use Rattle.wasm_typing.specs.Typing.{TypedOp}
use Rattle.wasm_typing.proofs.Parts.{begins_typed}
use Rattle.wasm_steps.specs.Program.{most_frames, most_values}
use Rattle.wasm_steps.specs.Threads.{Thread, frame_count, size}
use Rattle.wasm_soundness.specs.Typed.{AreValues, GoesOn, AreTyped, IsTyped, inside, most_labels}
use Rattle.wasm_soundness.specs.Ready.{pending, Offers}
use Rattle.wasm_soundness.proofs.Values.{values_joined, values_taken, values_dropped, values_there}

-- The instruction is next, with a type of its own, and what is behind it goes on from what it leaves.
pub record IsReady (base : Context) (op : Op) (thread : Thread) : Type 0 where
  pub types : List ValType
  pub result : Option ValType
  pub outer : Option ValType
  pub labels : List (Option ValType)
  pub ins : List ValType
  pub outs : List ValType
  pub below : List ValType
  pub to : List ValType
  pub typed : TypedOp (inside base types result) (outer ∷ labels) op ins outs
  pub locals : AreValues types thread.locals
  pub operands : AreValues (ins ++ below) thread.operands
  pub nested : nesting op + length (outer ∷ labels) ≤ most_labels
  pub again : GoesOn (inside base types result) (outer ∷ labels) (next op thread.code) (ins ++ below) to
  pub rest : GoesOn (inside base types result) (outer ∷ labels) thread.code (outs ++ below) to
  pub levels : AreTyped base types result (outer ∷ labels) to thread.levels
  pub room : size thread ≤ most_values
  pub frames : frame_count thread.levels ≤ most_frames

pub no_label : (outer : Option ValType) (labels : List (Option ValType)) → outer ∷ labels ≡ [] → ⊥
no_label outer labels e = cc

no_next : (op : Op) (ops : Ops) → next op ops ≡ no_ops → ⊥
no_next op ops e = cc

taken_apart : {base : Context} (op : Op) (t : Thread) (types : List ValType) (result : Option ValType) (labels : List (Option ValType)) (from to : List ValType)
    → AreValues types t.locals → AreValues from t.operands
    → GoesOn (inside base types result) labels (next op t.code) from to
    → AreTyped base types result labels to t.levels
    → size t ≤ most_values → frame_count t.levels ≤ most_frames → IsReady base op t
taken_apart op t types result [] from to locals operands goes levels room frames = absurd (no_next op t.code (goes.outside refl))
taken_apart {base} op t types result (outer ∷ labels) from to locals operands goes levels room frames =
    let b = begins_typed (inside base types result) (outer ∷ labels) op t.code from to goes.typed in
    record {
      types = types;
      result = result;
      outer = outer;
      labels = labels;
      ins = b.0;
      outs = b.1;
      below = b.2;
      to = to;
      typed = b.4;
      locals = locals;
      operands = subst (λ (z : List ValType). AreValues z t.operands) b.3 operands;
      nested = omega arith;
      again = subst (λ (z : List ValType). GoesOn (inside base types result) (outer ∷ labels) (next op t.code) z to) b.3 goes;
      rest = record { typed = b.5; shallow = omega arith; outside = λ e. absurd (no_label outer labels e) };
      levels = levels;
      room = room;
      frames = frames;
    }

pub ready : {base : Context} (op : Op) (t : Thread) → IsTyped base (pending op t) → IsReady base op t
ready op t p = taken_apart op t p.types p.result p.labels p.from p.to p.locals p.operands p.code p.levels p.room p.frames

-- ---- once the types of the instruction are known

module _ {base : Context} {op : Op} {t : Thread} (r : IsReady base op t) where
  pub operands_as : {ins : List ValType} → r.ins ≡ ins → AreValues (ins ++ r.below) t.operands
  operands_as e = subst (λ (z : List ValType). AreValues (z ++ r.below) t.operands) e r.operands

  pub again_as : {ins : List ValType} → r.ins ≡ ins → GoesOn (inside base r.types r.result) (r.outer ∷ r.labels) (next op t.code) (ins ++ r.below) r.to
  again_as e = subst (λ (z : List ValType). GoesOn (inside base r.types r.result) (r.outer ∷ r.labels) (next op t.code) (z ++ r.below) r.to) e r.again

  pub rest_as : {outs : List ValType} → r.outs ≡ outs → GoesOn (inside base r.types r.result) (r.outer ∷ r.labels) t.code (outs ++ r.below) r.to
  rest_as e = subst (λ (z : List ValType). GoesOn (inside base r.types r.result) (r.outer ∷ r.labels) t.code (z ++ r.below) r.to) e r.rest

  -- the thread behind the instruction, with these locals and operands
  pub typed_behind : {outs : List ValType} (locals operands : List ℕ) → r.outs ≡ outs → AreValues r.types locals → AreValues (outs ++ r.below) operands
      → size (record t { locals = locals; operands = operands }) ≤ most_values → IsTyped base (record t { locals = locals; operands = operands })
  typed_behind {outs} locals operands e held v room = record {
    types = r.types;
    result = r.result;
    labels = r.outer ∷ r.labels;
    from = outs ++ r.below;
    to = r.to;
    locals = held;
    operands = v;
    code = rest_as e;
    levels = r.levels;
    room = room;
    frames = r.frames;
  }

  -- what the instruction is offered
  offered : Offers base r.ins r.outs t
  offered = record {
    there = values_there r.ins r.below t.operands r.operands;
    values = values_taken r.ins r.below t.operands r.operands;
    gives = λ results v room. typed_behind t.locals (results ++ drop (length r.ins) t.operands) refl r.locals (values_joined v (values_dropped r.ins r.below t.operands r.operands)) room;
  }

  pub offered_as : {ins outs : List ValType} → (r.ins ≡ ins) × (r.outs ≡ outs) → Offers base ins outs t
  offered_as e = subst₂ (λ (a b : List ValType). Offers base a b t) e.0 e.1 offered
