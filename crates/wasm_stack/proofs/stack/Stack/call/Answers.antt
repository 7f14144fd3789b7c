use Rattle.std.proofs.Common.{◌≡◌, ◌<◌, ◌≤◌, IsTrue, List, ◌∷◌, length, reverse, refl, sym, ap, ◌∙◌, subst, arith}
use Rattle.std.proofs.lemmas.List.{length-reverse}
use Rattle.wasm_values.specs.Syntax.{no_ops}
use Rattle.wasm_steps.specs.Program.{most_frames}
use Rattle.wasm_steps.specs.Threads.{frame_count, size}
use Rattle.call_frames.specs.Stack as frames
use Rattle.wasm_stack.specs.Held.{running, called, most_controls}
use Rattle.wasm_stack.specs.Standing.{Standing, held}
use Rattle.wasm_stack.specs.View.{held_of, below, floor_of, count, ops_at}
use Rattle.wasm_stack.specs.declared.control.Control.{Control}
use Rattle.wasm_stack.specs.declared.control.Control.TheVariants as control
use Rattle.wasm_stack.proofs.Levels.{floor_within, frames_counted, levels_counted, size_held, entered_so, turned, sound_called, held_called}
use Rattle.wasm_stack.proofs.stack.Stack.call.Goals as goal

pub enter-requires-clause-depth : goal.enter-requires-clause-depth
enter-requires-clause-depth c =
    let i = c.self.inside in
    let controls = reverse i.controls.items in
    let few = subst (λ (z : Standing). frame_count (held z).levels < most_frames) (sym c.self.view_is) c.requires.frames in
    let e = frames_counted controls (length i.values.operands) i.values.waiting i.depth (below (floor_of controls) i.values.operands) c.self.invariant.controls in
    omega (arith, few, e)

pub returns-then-not-enter-clause-room : goal.returns-then-not-enter-clause-room
returns-then-not-enter-clause-room c =
    let i = c.self.inside in
    let e = size_held (reverse i.controls.items) i.values i.depth no_ops c.self.invariant.controls in
    let s : size (running no_ops (held c.args.self.now)) ≡ frames.size i.values = sym (ap (λ (z : Standing). size (running no_ops (held z))) c.self.view_is) ∙ e in
    (λ t. absurd (cc), λ t. subst IsTrue c.if-not-enter.true (c.enter.ensures.room.1 (omega (arith, t, s))))

pub push_reserved-requires : goal.push_reserved-requires
push_reserved-requires c =
    let i = c.self.inside in
    let controls = reverse i.controls.items in
    let o = size_held controls i.values i.depth no_ops c.self.invariant.controls in
    let s : size (running no_ops (held c.args.self.now)) ≡ frames.size i.values = sym (ap (λ (z : Standing). size (running no_ops (held z))) c.self.view_is) ∙ o in
    let fits = c.requires.levels (omega (arith, s, c.enter.ensures.room.0 c.if-not-enter.false)) in
    let few = subst (λ (z : Standing). length (held z).levels < most_controls) (sym c.self.view_is) fits in
    let e = levels_counted controls (length i.values.operands) i.values.waiting i.depth (below (floor_of controls) i.values.operands) c.self.invariant.controls in
    omega (arith, few, length-reverse i.controls.items, c.self.invariant.room, i.controls.ok)

pub invariant_of-self-2 : goal.invariant_of-self-2
invariant_of-self-2 c =
    let i = c.self.inside in
    let within = subst (λ (z : Standing). c.args.params ≤ length (held z).operands) (sym c.self.view_is) c.requires.params in
    let made = entered_so c.enter.result c.enter.new.self (frames.entered c.args.params c.args.more i.values) i.values c.if-not-enter.false c.enter.ensures.entered in
    record {
      controls = sound_called i.controls.items c.push_reserved.new.self.items i.values c.enter.new.self c.args.params c.args.more i.depth c.args.rest c.args.has_result made c.push_reserved.ensures.items within c.self.invariant.controls;
      room = omega (arith, c.push_reserved.ensures.capacity, c.self.invariant.room);
    }

pub returns-clause-room : goal.returns-clause-room
returns-clause-room c =
    let i = c.self.inside in
    let e = size_held (reverse i.controls.items) i.values i.depth no_ops c.self.invariant.controls in
    let s : size (running no_ops (held c.args.self.now)) ≡ frames.size i.values = sym (ap (λ (z : Standing). size (running no_ops (held z))) c.self.view_is) ∙ e in
    let yes : IsTrue c.enter.result = c.if-not-enter.false in
    (λ t. omega (arith, s, c.enter.ensures.room.0 yes), λ t. refl)

pub returns-clause-called : goal.returns-clause-called
returns-clause-called c =
    let i = c.self.inside in
    let controls = reverse i.controls.items in
    let within = subst (λ (z : Standing). c.args.params ≤ length (held z).operands) (sym c.self.view_is) c.requires.params in
    let low = floor_within controls (length i.values.operands) i.values.waiting i.depth c.self.invariant.controls in
    let made = entered_so c.enter.result c.enter.new.self (frames.entered c.args.params c.args.more i.values) i.values c.if-not-enter.false c.enter.ensures.entered in
    ap (λ (z : List Control). held_of z c.enter.new.self) (turned i.controls.items c.push_reserved.new.self.items (control.Frame c.args.rest c.args.has_result i.depth) c.push_reserved.ensures.items)
    ∙ ap (λ (z : frames.Stack). held_of (control.Frame c.args.rest c.args.has_result i.depth ∷ controls) z) made
    ∙ held_called controls i.values c.args.rest c.args.has_result c.args.params c.args.more i.depth low within
    ∙ ap (λ (z : Standing). called c.args.params c.args.more (count c.args.has_result) (ops_at c.args.rest) (held z)) c.self.view_is
