use Rattle.std.proofs.Common.{ap, ◌∙◌, w32, of_z, arith}
use Rattle.std.proofs.lemmas.Int.{to_z-of_z}
use Rattle.wasm_stack.specs.Standing.{held}
use Rattle.wasm_plain.proofs.Results.{i32_const_done}
use Rattle.wasm_plain.proofs.numbers.i32_const.Goals as goal

pub returns : goal.returns
returns c = λ store.
    let said = c.from.ensures ∙ c.cast_unsigned.ensures ∙ ap (of_z w32) (to_z-of_z w32 c.args.number c.ranges.number) in
    i32_const_done (held c.args.stack.now) store c.push.result (held c.push.new.stack) c.args.number c.from.result said (omega arith) c.push.ensures
