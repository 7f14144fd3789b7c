use Rattle.std.proofs.Common.{◌≡◌, ℕ, ◌+◌, ◌-◌, ◌<◌, suc, Bool, List, length, reverse, drop, get_or, Some, sym, ap, ◌∙◌, subst, arith}
use Rattle.std.proofs.lemmas.List.{length-reverse}
use Rattle.wasm_values.specs.Syntax.{no_ops}
use Rattle.wasm_steps.specs.Threads.{Branches}
use Rattle.wasm_soundness.specs.Ready.{CanBranch}
use Rattle.call_frames.specs.Stack as frames
use Rattle.wasm_stack.specs.Held.{running}
use Rattle.wasm_stack.specs.Standing.{Standing, held}
use Rattle.wasm_stack.specs.View.{held_of, below, floor_of, AreControls, count, ops_at}
use Rattle.wasm_stack.specs.declared.place.Place.{Place}
use Rattle.wasm_stack.specs.declared.control.Control.{Control}
use Rattle.wasm_stack.specs.declared.control.Control.TheVariants as control
use Rattle.wasm_stack.proofs.Levels.{byte_count, levels_counted}
use Rattle.wasm_stack.proofs.Branching.{LabelBranched, label_branched, FrameBranched, frame_branched, level_within, target_at, kept_below}
use Rattle.wasm_stack.proofs.stack.Stack.branch.Goals as goal

-- how far the label is from the end
within : (items : List Control) (values : frames.Stack) (depth to : ℕ) → AreControls (reverse items) (length values.operands) values.waiting depth
    → CanBranch to (running no_ops (held_of (reverse items) values)) → to < length items
within items values depth to h can =
    let n = levels_counted (reverse items) (length values.operands) values.waiting depth (below (floor_of (reverse items)) values.operands) h in
    let k = level_within to (held_of (reverse items) values).levels can.level can.stands in
    omega (arith, n, k, length-reverse items)

to_label : (items : List Control) (values : frames.Stack) (depth to index : ℕ) (target : Control) (again : Place) (loops result : Bool) (height : ℕ)
    → AreControls (reverse items) (length values.operands) values.waiting depth → CanBranch to (running no_ops (held_of (reverse items) values))
    → index + suc to ≡ length items → target ≡ get_or items index target → target ≡ control.Label again loops result height
    → LabelBranched to (reverse items) values depth again loops result height
to_label items values depth to index target again loops result height h can e is same =
    label_branched to (reverse items) values depth again loops result height can.level h can.stands can.there (target_at items to index target e is ∙ ap Some same)

to_frame : (items : List Control) (values : frames.Stack) (depth to index : ℕ) (target : Control) (rest : Place) (result : Bool) (outer : ℕ)
    → AreControls (reverse items) (length values.operands) values.waiting depth → CanBranch to (running no_ops (held_of (reverse items) values))
    → index + suc to ≡ length items → target ≡ get_or items index target → target ≡ control.Frame rest result outer
    → FrameBranched to (reverse items) values rest result outer
to_frame items values depth to index target rest result outer h can e is same =
    frame_branched to (reverse items) values depth rest result outer can.level h can.stands can.there (target_at items to index target e is ∙ ap Some same)

pub overflow_sub-index-2 : goal.overflow_sub-index-2
overflow_sub-index-2 c =
    let i = c.self.inside in
    let can = subst (λ (z : Standing). CanBranch c.args.to (running no_ops (held z))) (sym c.self.view_is) c.requires in
    omega (arith, within i.controls.items i.values i.depth c.args.to c.self.invariant.controls can, i.controls.ok, c.len.ensures)

pub overflow_add-self : goal.overflow_add-self
overflow_add-self c =
    let i = c.self.inside in
    let can = subst (λ (z : Standing). CanBranch c.args.to (running no_ops (held z))) (sym c.self.view_is) c.requires in
    omega (arith, within i.controls.items i.values i.depth c.args.to c.self.invariant.controls can, i.controls.ok, c.len.ensures)

pub overflow_sub-self : goal.overflow_sub-self
overflow_sub-self c =
    let i = c.self.inside in
    let can = subst (λ (z : Standing). CanBranch c.args.to (running no_ops (held z))) (sym c.self.view_is) c.requires in
    let k = within i.controls.items i.values i.depth c.args.to c.self.invariant.controls can in
    let at : (c.len.result - 1 - c.args.to) + suc c.args.to ≡ length i.controls.items = omega (arith, k, i.controls.ok, c.len.ensures) in
    let b = to_label i.controls.items i.values i.depth c.args.to (c.len.result - 1 - c.args.to) c.index-target.result.now c.in-Label.again c.in-Label.is_loop c.in-Label.has_result c.in-Label.height c.self.invariant.controls can at c.index-target.ensures c.in-Label.is in
    omega (arith, b.counted)

pub cut-requires-clause-operands : goal.cut-requires-clause-operands
cut-requires-clause-operands c =
    let i = c.self.inside in
    let can = subst (λ (z : Standing). CanBranch c.args.to (running no_ops (held z))) (sym c.self.view_is) c.requires in
    let k = within i.controls.items i.values i.depth c.args.to c.self.invariant.controls can in
    let at : (c.len.result - 1 - c.args.to) + suc c.args.to ≡ length i.controls.items = omega (arith, k, i.controls.ok, c.len.ensures) in
    let b = to_label i.controls.items i.values i.depth c.args.to (c.len.result - 1 - c.args.to) c.index-target.result.now c.in-Label.again c.in-Label.is_loop c.in-Label.has_result c.in-Label.height c.self.invariant.controls can at c.index-target.ensures c.in-Label.is in
    omega (arith, b.room, c.from.ensures, byte_count c.in-Label.has_result)

pub invariant_of-self : goal.invariant_of-self
invariant_of-self c =
    let i = c.self.inside in
    let can = subst (λ (z : Standing). CanBranch c.args.to (running no_ops (held z))) (sym c.self.view_is) c.requires in
    let k = within i.controls.items i.values i.depth c.args.to c.self.invariant.controls can in
    let index = c.len.result - 1 - c.args.to in
    let at : index + suc c.args.to ≡ length i.controls.items = omega (arith, k, i.controls.ok, c.len.ensures) in
    let b = to_label i.controls.items i.values i.depth c.args.to index c.index-target.result.now c.in-Label.again c.in-Label.is_loop c.in-Label.has_result c.in-Label.height c.self.invariant.controls can at c.index-target.ensures c.in-Label.is in
    let kept : drop (suc c.args.to) (reverse i.controls.items) ≡ reverse c.truncate.new.self.items = sym (ap reverse c.truncate.ensures.items ∙ kept_below i.controls.items c.args.to index at) in
    let made : frames.cut c.in-Label.height (count c.in-Label.has_result) i.values ≡ c.cut.new.self = sym (c.cut.ensures ∙ ap (λ n. frames.cut c.in-Label.height n i.values) (c.from.ensures ∙ byte_count c.in-Label.has_result)) in
    let remains : i.depth - suc c.args.to ≡ i.depth - (c.args.to + 1) = omega arith in
    record {
      controls = subst (λ (n : ℕ). AreControls (reverse c.truncate.new.self.items) (length c.cut.new.self.operands) c.cut.new.self.waiting n) remains
          (subst (λ (z : frames.Stack). AreControls (reverse c.truncate.new.self.items) (length z.operands) z.waiting (i.depth - suc c.args.to)) made
          (subst (λ (z : List Control). AreControls z (length (frames.cut c.in-Label.height (count c.in-Label.has_result) i.values).operands) i.values.waiting (i.depth - suc c.args.to)) kept b.sound));
      room = omega (arith, c.truncate.ensures.capacity, c.self.invariant.room);
    }

pub leave-requires-clause-waits : goal.leave-requires-clause-waits
leave-requires-clause-waits c =
    let i = c.self.inside in
    let can = subst (λ (z : Standing). CanBranch c.args.to (running no_ops (held z))) (sym c.self.view_is) c.requires in
    let k = within i.controls.items i.values i.depth c.args.to c.self.invariant.controls can in
    let at : (c.len.result - 1 - c.args.to) + suc c.args.to ≡ length i.controls.items = omega (arith, k, i.controls.ok, c.len.ensures) in
    (to_frame i.controls.items i.values i.depth c.args.to (c.len.result - 1 - c.args.to) c.index-target.result.now c.in-Frame.rest c.in-Frame.has_result c.in-Frame.depth c.self.invariant.controls can at c.index-target.ensures c.in-Frame.is).waits

pub leave-requires-clause-operands : goal.leave-requires-clause-operands
leave-requires-clause-operands c =
    let i = c.self.inside in
    let can = subst (λ (z : Standing). CanBranch c.args.to (running no_ops (held z))) (sym c.self.view_is) c.requires in
    let k = within i.controls.items i.values i.depth c.args.to c.self.invariant.controls can in
    let at : (c.len.result - 1 - c.args.to) + suc c.args.to ≡ length i.controls.items = omega (arith, k, i.controls.ok, c.len.ensures) in
    let b = to_frame i.controls.items i.values i.depth c.args.to (c.len.result - 1 - c.args.to) c.index-target.result.now c.in-Frame.rest c.in-Frame.has_result c.in-Frame.depth c.self.invariant.controls can at c.index-target.ensures c.in-Frame.is in
    omega (arith, b.room, c.from-in-Frame.ensures, byte_count c.in-Frame.has_result)

pub invariant_of-self-in-Frame : goal.invariant_of-self-in-Frame
invariant_of-self-in-Frame c =
    let i = c.self.inside in
    let can = subst (λ (z : Standing). CanBranch c.args.to (running no_ops (held z))) (sym c.self.view_is) c.requires in
    let k = within i.controls.items i.values i.depth c.args.to c.self.invariant.controls can in
    let index = c.len.result - 1 - c.args.to in
    let at : index + suc c.args.to ≡ length i.controls.items = omega (arith, k, i.controls.ok, c.len.ensures) in
    let b = to_frame i.controls.items i.values i.depth c.args.to index c.index-target.result.now c.in-Frame.rest c.in-Frame.has_result c.in-Frame.depth c.self.invariant.controls can at c.index-target.ensures c.in-Frame.is in
    let kept : drop (suc c.args.to) (reverse i.controls.items) ≡ reverse c.truncate.new.self.items = sym (ap reverse c.truncate.ensures.items ∙ kept_below i.controls.items c.args.to index at) in
    let made : frames.left (count c.in-Frame.has_result) i.values ≡ c.leave.new.self = sym (c.leave.ensures ∙ ap (λ n. frames.left n i.values) (c.from-in-Frame.ensures ∙ byte_count c.in-Frame.has_result)) in
    record {
      controls = subst (λ (z : frames.Stack). AreControls (reverse c.truncate.new.self.items) (length z.operands) z.waiting c.in-Frame.depth) made
          (subst (λ (z : List Control). AreControls z (length (frames.left (count c.in-Frame.has_result) i.values).operands) (frames.left (count c.in-Frame.has_result) i.values).waiting c.in-Frame.depth) kept b.sound);
      room = omega (arith, c.truncate.ensures.capacity, c.self.invariant.room);
    }

pub returns-in-Label : goal.returns-in-Label
returns-in-Label c =
    let i = c.self.inside in
    let can = subst (λ (z : Standing). CanBranch c.args.to (running no_ops (held z))) (sym c.self.view_is) c.requires in
    let k = within i.controls.items i.values i.depth c.args.to c.self.invariant.controls can in
    let index = c.len.result - 1 - c.args.to in
    let at : index + suc c.args.to ≡ length i.controls.items = omega (arith, k, i.controls.ok, c.len.ensures) in
    let b = to_label i.controls.items i.values i.depth c.args.to index c.index-target.result.now c.in-Label.again c.in-Label.is_loop c.in-Label.has_result c.in-Label.height c.self.invariant.controls can at c.index-target.ensures c.in-Label.is in
    let kept : drop (suc c.args.to) (reverse i.controls.items) ≡ reverse c.truncate.new.self.items = sym (ap reverse c.truncate.ensures.items ∙ kept_below i.controls.items c.args.to index at) in
    let made : frames.cut c.in-Label.height (count c.in-Label.has_result) i.values ≡ c.cut.new.self = sym (c.cut.ensures ∙ ap (λ n. frames.cut c.in-Label.height n i.values) (c.from.ensures ∙ byte_count c.in-Label.has_result)) in
    λ code.
    subst (λ (y : Standing). Branches c.args.to (running code (held y)) (running (ops_at c.in-Label.again) (held_of (reverse c.truncate.new.self.items) c.cut.new.self))) c.self.view_is
    (subst (λ (z : frames.Stack). Branches c.args.to (running code (held_of (reverse i.controls.items) i.values)) (running (ops_at c.in-Label.again) (held_of (reverse c.truncate.new.self.items) z))) made
    (subst (λ (z : List Control). Branches c.args.to (running code (held_of (reverse i.controls.items) i.values)) (running (ops_at c.in-Label.again) (held_of z (frames.cut c.in-Label.height (count c.in-Label.has_result) i.values)))) kept (b.goes code)))

pub returns-in-Frame : goal.returns-in-Frame
returns-in-Frame c =
    let i = c.self.inside in
    let can = subst (λ (z : Standing). CanBranch c.args.to (running no_ops (held z))) (sym c.self.view_is) c.requires in
    let k = within i.controls.items i.values i.depth c.args.to c.self.invariant.controls can in
    let index = c.len.result - 1 - c.args.to in
    let at : index + suc c.args.to ≡ length i.controls.items = omega (arith, k, i.controls.ok, c.len.ensures) in
    let b = to_frame i.controls.items i.values i.depth c.args.to index c.index-target.result.now c.in-Frame.rest c.in-Frame.has_result c.in-Frame.depth c.self.invariant.controls can at c.index-target.ensures c.in-Frame.is in
    let kept : drop (suc c.args.to) (reverse i.controls.items) ≡ reverse c.truncate.new.self.items = sym (ap reverse c.truncate.ensures.items ∙ kept_below i.controls.items c.args.to index at) in
    let made : frames.left (count c.in-Frame.has_result) i.values ≡ c.leave.new.self = sym (c.leave.ensures ∙ ap (λ n. frames.left n i.values) (c.from-in-Frame.ensures ∙ byte_count c.in-Frame.has_result)) in
    λ code.
    subst (λ (y : Standing). Branches c.args.to (running code (held y)) (running (ops_at c.in-Frame.rest) (held_of (reverse c.truncate.new.self.items) c.leave.new.self))) c.self.view_is
    (subst (λ (z : frames.Stack). Branches c.args.to (running code (held_of (reverse i.controls.items) i.values)) (running (ops_at c.in-Frame.rest) (held_of (reverse c.truncate.new.self.items) z))) made
    (subst (λ (z : List Control). Branches c.args.to (running code (held_of (reverse i.controls.items) i.values)) (running (ops_at c.in-Frame.rest) (held_of z (frames.left (count c.in-Frame.has_result) i.values)))) kept (b.goes code)))
