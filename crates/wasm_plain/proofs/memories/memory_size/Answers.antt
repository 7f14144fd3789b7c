use Rattle.std.proofs.Common.{◌<◌, ◌≤◌, ◌^◌, ◌∙◌, arith}
use Rattle.wasm_values.specs.Syntax.{no_ops}
use Rattle.wasm_steps.specs.Program.{most_values}
use Rattle.wasm_steps.specs.Threads.{size}
use Rattle.wasm_stack.specs.Held.{running}
use Rattle.wasm_stack.specs.Standing.{held}
use Rattle.wasm_plain.proofs.Accesses.{told_true, told_false, size_done, size_stopped}
use Rattle.wasm_plain.proofs.memories.memory_size.Goals as goal

pub returns-then-not-push : goal.returns-then-not-push
returns-then-not-push c store same =
    let full : most_values ≤ size (running no_ops (held c.args.stack.now)) = grind (arith, told_false c.if-not-push.ensures.room) in
    size_stopped full c.if-not-push.ensures.pushed

pub returns : goal.returns
returns c store same =
    let p = c.if-not-push.ensures in
    let small : c.from.result < 2 ^ 32 = omega arith in
    size_done c.from.result same (c.from.ensures ∙ c.size.ensures.value) small (told_true p.room) p.pushed
