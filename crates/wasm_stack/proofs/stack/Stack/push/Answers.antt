use Rattle.std.proofs.Common.{◌≡◌, reverse, sym, ap, ◌∙◌, arith}
use Rattle.wasm_values.specs.Syntax.{no_ops}
use Rattle.wasm_steps.specs.Threads.{size}
use Rattle.call_frames.specs.Stack as frames
use Rattle.wasm_stack.specs.Held.{running}
use Rattle.wasm_stack.specs.Standing.{Standing, held}
use Rattle.wasm_stack.proofs.Levels.{size_held, sound_pushed}
use Rattle.wasm_stack.proofs.stack.Stack.push.Goals as goal

pub invariant_of-self : goal.invariant_of-self
invariant_of-self c =
    let i = c.self.inside in
    record {
      controls = sound_pushed (reverse i.controls.items) i.values c.push.new.self c.args.value i.depth c.push.result c.push.ensures.pushed c.self.invariant.controls;
      room = c.self.invariant.room;
    }

pub returns-clause-room : goal.returns-clause-room
returns-clause-room c =
    let i = c.self.inside in
    let e = size_held (reverse i.controls.items) i.values i.depth no_ops c.self.invariant.controls in
    let s : size (running no_ops (held c.args.self.now)) ≡ frames.size i.values = sym (ap (λ (z : Standing). size (running no_ops (held z))) c.self.view_is) ∙ e in
    (λ t. omega (arith, c.push.ensures.room.0 t), λ t. c.push.ensures.room.1 (omega arith))
