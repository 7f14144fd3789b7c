use Rattle.std.proofs.Common.{◌≤◌, length, reverse, sym, ap, ◌∙◌, subst}
use Rattle.call_frames.specs.Stack as frames
use Rattle.wasm_stack.specs.Held.{replaced}
use Rattle.wasm_stack.specs.Standing.{Standing, held}
use Rattle.wasm_stack.specs.View.{held_of}
use Rattle.wasm_stack.proofs.Levels.{floor_within, sound_replaced, held_replaced}
use Rattle.wasm_stack.proofs.stack.Stack.replace.Goals as goal

pub invariant_of-self : goal.invariant_of-self
invariant_of-self c =
    let i = c.self.inside in
    let within = subst (λ (z : Standing). c.args.count ≤ length (held z).operands) (sym c.self.view_is) c.requires.within in
    record {
      controls = sound_replaced (reverse i.controls.items) i.values c.replace.new.self c.args.count c.args.value i.depth c.replace.ensures within c.self.invariant.controls;
      room = c.self.invariant.room;
    }

pub returns : goal.returns
returns c =
    let i = c.self.inside in
    let controls = reverse i.controls.items in
    let within = subst (λ (z : Standing). c.args.count ≤ length (held z).operands) (sym c.self.view_is) c.requires.within in
    let low = floor_within controls (length i.values.operands) i.values.waiting i.depth c.self.invariant.controls in
    ap (λ (z : frames.Stack). held_of controls z) c.replace.ensures ∙ held_replaced controls i.values c.args.count c.args.value low within ∙ ap (λ (z : Standing). replaced c.args.count c.args.value (held z)) c.self.view_is
