use Rattle.std.proofs.Common.{reverse, sym, ap, ◌∙◌}
use Rattle.wasm_values.specs.Syntax.{no_ops}
use Rattle.wasm_steps.specs.Threads.{size}
use Rattle.wasm_stack.specs.Held.{running}
use Rattle.wasm_stack.specs.Standing.{Standing, held}
use Rattle.wasm_stack.proofs.Levels.{size_held}
use Rattle.wasm_stack.proofs.stack.Stack.size.Goals as goal

pub returns : goal.returns
returns c =
    let i = c.self.inside in
    let e = size_held (reverse i.controls.items) i.values i.depth no_ops c.self.invariant.controls in
    c.size.ensures ∙ sym e ∙ ap (λ (z : Standing). size (running no_ops (held z))) c.self.view_is
