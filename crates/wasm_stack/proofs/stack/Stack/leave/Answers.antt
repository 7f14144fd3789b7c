use Rattle.std.proofs.Common.{◌≡◌, ℕ, ◌-◌, Bool, true, false, List, ◌++◌, ◌∷◌, [], length, reverse, sym, ap, ◌∙◌, subst, arith}
use Rattle.wasm_values.specs.Syntax.{Ops, no_ops}
use Rattle.wasm_steps.specs.Threads.{Leaves}
use Rattle.call_frames.specs.Stack as frames
use Rattle.wasm_stack.specs.Held.{running, IsAtEnd}
use Rattle.wasm_stack.specs.Standing.{Standing, held}
use Rattle.wasm_stack.specs.View.{held_of, AreControls, count, ops_at, rest_of}
use Rattle.wasm_stack.specs.declared.place.Place.{Place}
use Rattle.wasm_stack.specs.declared.control.Control.{Control}
use Rattle.wasm_stack.specs.declared.control.Control.TheVariants as control
use Rattle.wasm_stack.proofs.Levels.{turned, byte_count, sound_popped, sound_label_left, label_left, end_of_frame, FrameLeft, frame_left_by}
use Rattle.wasm_stack.proofs.stack.Stack.leave.Goals as goal
use Rattle.wasm_stack.proofs.stack.Stack.leave.Goals.{then-is_loop, else-is_loop}

-- The innermost is a block.
block_ends : (all rest : List Control) (last : Control) (values : frames.Stack) (depth : ℕ) (again : Place) (loops result : Bool) (height : ℕ)
    → all ≡ rest ++ last ∷ [] → last ≡ control.Label again loops result height → AreControls (reverse all) (length values.operands) values.waiting depth
    → AreControls (reverse rest) (length values.operands) values.waiting (depth - 1) × Leaves (running no_ops (held_of (reverse all) values)) (running (rest_of loops again) (held_of (reverse rest) values))
block_ends all rest last values depth again loops result height e f h =
    let g : all ≡ rest ++ control.Label again loops result height ∷ [] = e ∙ ap (λ z. rest ++ z ∷ []) f in
    let sound = sound_popped all rest (control.Label again loops result height) (length values.operands) values.waiting depth g h in
    let left = sound_label_left (reverse rest) values depth again loops result height sound in
    let goes = label_left (reverse rest) values again loops result height left.1 left.2 in
    (left.0, subst (λ (z : List Control). Leaves (running no_ops (held_of z values)) (running (rest_of loops again) (held_of (reverse rest) values))) (sym (turned rest all (control.Label again loops result height) g)) goes)

-- The innermost is a frame.
frame_all : (all rest : List Control) (last : Control) (values : frames.Stack) (now : ℕ) (place : Place) (result : Bool) (depth : ℕ)
    → all ≡ rest ++ last ∷ [] → last ≡ control.Frame place result depth → AreControls (reverse all) (length values.operands) values.waiting now → IsAtEnd (held_of (reverse all) values)
    → length values.operands ≡ count result
frame_all all rest last values now place result depth e f h at =
    let g : all ≡ rest ++ control.Frame place result depth ∷ [] = e ∙ ap (λ z. rest ++ z ∷ []) f in
    let sound = sound_popped all rest (control.Frame place result depth) (length values.operands) values.waiting now g h in
    let ends = subst (λ (z : List Control). IsAtEnd (held_of z values)) (turned rest all (control.Frame place result depth) g) at in
    end_of_frame (reverse rest) values.operands values.locals values.waiting now place result depth sound ends

frame_ends : (all rest : List Control) (last : Control) (values new : frames.Stack) (now : ℕ) (place : Place) (result : Bool) (depth n : ℕ)
    → all ≡ rest ++ last ∷ [] → last ≡ control.Frame place result depth → AreControls (reverse all) (length values.operands) values.waiting now → IsAtEnd (held_of (reverse all) values)
    → new ≡ frames.left n values → n ≡ count result
    → AreControls (reverse rest) (length new.operands) new.waiting depth × Leaves (running no_ops (held_of (reverse all) values)) (running (ops_at place) (held_of (reverse rest) new))
frame_ends all rest last values new now place result depth n e f h at made same =
    let g : all ≡ rest ++ control.Frame place result depth ∷ [] = e ∙ ap (λ z. rest ++ z ∷ []) f in
    let sound = sound_popped all rest (control.Frame place result depth) (length values.operands) values.waiting now g h in
    let left : FrameLeft (reverse rest) values place result depth = frame_left_by (reverse rest) values.operands values.locals values.waiting now place result depth sound (frame_all all rest last values now place result depth e f h at) in
    let back : frames.left (count result) values ≡ new = sym (made ∙ ap (λ k. frames.left k values) same) in (
      subst (λ (z : frames.Stack). AreControls (reverse rest) (length z.operands) z.waiting depth) back left.sound,
      subst (λ (z : List Control). Leaves (running no_ops (held_of z values)) (running (ops_at place) (held_of (reverse rest) new))) (sym (turned rest all (control.Frame place result depth) g))
          (subst (λ (z : frames.Stack). Leaves (running no_ops (held_of (control.Frame place result depth ∷ reverse rest) values)) (running (ops_at place) (held_of (reverse rest) z))) back left.goes),
    )

pub invariant_of-self-in-Label : goal.invariant_of-self-in-Label
invariant_of-self-in-Label c =
    let i = c.self.inside in
    let b = block_ends i.controls.items c.pop.new.self.items c.in_ok-again.field-0 i.values i.depth c.in-Label.again c.in-Label.is_loop c.in-Label.has_result c.in-Label.height c.in_ok-again.ensures.items c.in-Label.is c.self.invariant.controls in
    record { controls = b.0; room = omega (arith, c.in_ok-again.ensures.capacity, c.self.invariant.room) }

pub leave-requires-clause-operands : goal.leave-requires-clause-operands
leave-requires-clause-operands c =
    let i = c.self.inside in
    let at = subst (λ (z : Standing). IsAtEnd (held z)) (sym c.self.view_is) c.requires in
    let n = frame_all i.controls.items c.pop.new.self.items c.in_ok-again.field-0 i.values i.depth c.in-Frame.rest c.in-Frame.has_result c.in-Frame.depth c.in_ok-again.ensures.items c.in-Frame.is c.self.invariant.controls at in
    omega (arith, n, c.from.ensures, byte_count c.in-Frame.has_result)

pub invariant_of-self-in-Frame : goal.invariant_of-self-in-Frame
invariant_of-self-in-Frame c =
    let i = c.self.inside in
    let at = subst (λ (z : Standing). IsAtEnd (held z)) (sym c.self.view_is) c.requires in
    let b = frame_ends i.controls.items c.pop.new.self.items c.in_ok-again.field-0 i.values c.leave.new.self i.depth c.in-Frame.rest c.in-Frame.has_result c.in-Frame.depth c.from.result c.in_ok-again.ensures.items c.in-Frame.is c.self.invariant.controls at c.leave.ensures (c.from.ensures ∙ byte_count c.in-Frame.has_result) in
    record { controls = b.0; room = omega (arith, c.in_ok-again.ensures.capacity, c.self.invariant.room) }

joined_at : (place again : Place) (loops : Bool) → loops ≡ true → ops_at place ≡ rest_of true again → ops_at place ≡ rest_of loops again
joined_at place again loops e f = f ∙ ap (λ b. rest_of b again) (sym e)

not_at : (place again : Place) (loops : Bool) → loops ≡ false → place ≡ again → ops_at place ≡ rest_of loops again
not_at place again loops e f = ap ops_at f ∙ ap (λ b. rest_of b again) (sym e)

pub returns-after-is_loop : goal.returns-after-is_loop
returns-after-is_loop c =
    let i = c.self.inside in
    let b = block_ends i.controls.items c.pop.new.self.items c.in_ok-again.field-0 i.values i.depth c.in-Label.again c.in-Label.is_loop c.in-Label.has_result c.in-Label.height c.in_ok-again.ensures.items c.in-Label.is c.self.invariant.controls in
    let at : ops_at c.if-is_loop.result ≡ rest_of c.in-Label.is_loop c.in-Label.again = elim c.if-is_loop.branch [
      | then-is_loop w ↦ joined_at c.if-is_loop.result c.in-Label.again c.in-Label.is_loop w.if-is_loop.true (ap ops_at w.result-is ∙ w.behind.ensures)
      | else-is_loop w ↦ not_at c.if-is_loop.result c.in-Label.again c.in-Label.is_loop w.if-is_loop.false w.result-is
    ] in
    let P : Standing → Ops → Type 0 = λ z y. Leaves (running no_ops (held z)) (running y (held_of (reverse c.pop.new.self.items) i.values)) in
    subst (λ (z : Standing). P z (ops_at c.if-is_loop.result)) c.self.view_is (subst (λ (y : Ops). P (record { controls = i.controls.items; values = i.values }) y) (sym at) b.1)

pub returns-in-Frame : goal.returns-in-Frame
returns-in-Frame c =
    let i = c.self.inside in
    let at = subst (λ (z : Standing). IsAtEnd (held z)) (sym c.self.view_is) c.requires in
    let b = frame_ends i.controls.items c.pop.new.self.items c.in_ok-again.field-0 i.values c.leave.new.self i.depth c.in-Frame.rest c.in-Frame.has_result c.in-Frame.depth c.from.result c.in_ok-again.ensures.items c.in-Frame.is c.self.invariant.controls at c.leave.ensures (c.from.ensures ∙ byte_count c.in-Frame.has_result) in
    subst (λ (z : Standing). Leaves (running no_ops (held z)) (running (ops_at c.in-Frame.rest) (held_of (reverse c.pop.new.self.items) c.leave.new.self))) c.self.view_is b.1
