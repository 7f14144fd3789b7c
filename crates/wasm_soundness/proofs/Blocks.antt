-- Blocks that a typed thread enters.
use Rattle.std.proofs.Common.{ℕ, ◌+◌, ◌≤◌, List, [], ◌∷◌, ◌++◌, length, drop, get_or, Option, None, arith, length-drop}
use Rattle.std.proofs.lemmas.List.Sums.{sum_by-cons}
use Rattle.wasm_values.specs.Syntax.{Ops, next, block, loop, if_else, ops_nesting}
use Rattle.wasm_values.specs.declared.types.ValType.{ValType}
use Rattle.wasm_values.specs.declared.types.ValType.TheVariants.{I32}
use Rattle.wasm_typing.specs.Context.{Context}
use Rattle.wasm_typing.specs.Typing.{types_of, Typed}
use Rattle.wasm_typing.proofs.Instructions.{only_block, only_loop, only_if, block_body, loop_body, if_bodies}
use Rattle.wasm_steps.specs.Program.{most_frames, most_values}
use Rattle.wasm_steps.specs.Threads.{label, Thread, arity, frame_count, kept, size}
use Rattle.wasm_steps.specs.Steps.{entered}
use Rattle.wasm_soundness.specs.Typed.{IsValue, AreValues, no_values, GoesOn, AreTyped, typed_label, IsTyped, inside, most_labels}
use Rattle.wasm_soundness.specs.Ready.{pending}
use Rattle.wasm_soundness.proofs.Values.{top_off}
use Rattle.wasm_soundness.proofs.Pending.{no_label, ready, operands_as, again_as, rest_as}

-- the thread in a body whose label takes this, where what is behind the block goes on from what the body gives
within : {base : Context} {types : List ValType} {result outer : Option ValType} {labels : List (Option ValType)} {to : List ValType} (takes given : Option ValType) (again body : Ops) (below : List ℕ) (under : List ValType) (t : Thread)
    → AreValues types t.locals → AreValues under below
    → Typed (inside base types result) (takes ∷ outer ∷ labels) body [] (types_of given)
    → ops_nesting body + length (takes ∷ outer ∷ labels) ≤ most_labels
    → GoesOn (inside base types result) (outer ∷ labels) again (types_of takes ++ under) to
    → GoesOn (inside base types result) (outer ∷ labels) t.code (types_of given ++ under) to
    → AreTyped base types result (outer ∷ labels) to t.levels
    → length below ≤ length t.operands → size t ≤ most_values → frame_count t.levels ≤ most_frames
    → IsTyped base (entered (arity takes) again body below t t.code)
within {types = types} {result = result} {outer = outer} {labels = labels} takes given again body below under t held v typed shallow first rest levels fewer room frames = record {
  types = types;
  result = result;
  labels = takes ∷ outer ∷ labels;
  from = [];
  to = types_of given;
  locals = held;
  operands = no_values;
  code = record { typed = typed; shallow = shallow; outside = λ e. absurd (no_label takes (outer ∷ labels) e) };
  levels = typed_label v first rest levels;
  room = omega (arith, fewer, room, sum_by-cons kept (label (arity takes) again below t.code) t.levels);
  frames = frames;
}

module _ {base : Context} (t : Thread) (result : Option ValType) where
  pub enters_block : (body : Ops) → IsTyped base (pending (block result body) t) → IsTyped base (entered (arity result) t.code body t.operands t t.code)
  enters_block body p =
      let r = ready (block result body) t p in
      let s = only_block r.ins r.outs r.typed in
      let rest = rest_as r s.1 in
      within result result t.code body t.operands r.below t r.locals
      (operands_as r s.0)
      (block_body r.typed) (omega (arith, r.nested)) rest rest r.levels (omega arith) r.room r.frames

  pub enters_loop : (body : Ops) → IsTyped base (pending (loop result body) t) → IsTyped base (entered 0 (next (loop result body) t.code) body t.operands t t.code)
  enters_loop body p =
      let r = ready (loop result body) t p in
      let s = only_loop r.ins r.outs r.typed in
      within None result (next (loop result body) t.code) body t.operands r.below t r.locals
      (operands_as r s.0)
      (loop_body r.typed) (omega (arith, r.nested))
      (again_as r s.0)
      (rest_as r s.1)
      r.levels (omega arith) r.room r.frames

  pub enters_if : (first second : Ops) → IsTyped base (pending (if_else result first second) t) → (1 ≤ length t.operands) × IsValue I32 (get_or t.operands 0 0)
      × IsTyped base (entered (arity result) t.code first (drop 1 t.operands) t t.code) × IsTyped base (entered (arity result) t.code second (drop 1 t.operands) t t.code)
  enters_if first second p =
      let r = ready (if_else result first second) t p in
      let s = only_if r.ins r.outs r.typed in
      let v = top_off t.operands (operands_as r s.0) in
      let bodies = if_bodies r.typed in
      let rest = rest_as r s.1 in
      let fewer : length (drop 1 t.operands) ≤ length t.operands = omega (arith, length-drop 1 t.operands) in (
        v.0,
        v.1,
        within result result t.code first (drop 1 t.operands) r.below t r.locals v.2 bodies.0 (omega (arith, r.nested)) rest rest r.levels fewer r.room r.frames,
        within result result t.code second (drop 1 t.operands) r.below t r.locals v.2 bodies.1 (omega (arith, r.nested)) rest rest r.levels fewer r.room r.frames,
      )
