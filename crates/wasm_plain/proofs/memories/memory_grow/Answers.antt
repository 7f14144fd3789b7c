use Rattle.std.proofs.Common.{◌<◌, ◌^◌, ◌∙◌, arith}
use Rattle.wasm_plain.proofs.Accesses.{has_count, IsGrown, grow_done}
use Rattle.wasm_plain.proofs.memories.memory_grow.Goals as goal

pub operand-by-requires : goal.operand-by-requires
operand-by-requires c = let f = has_count c.requires.2 in omega (arith, f.there)

pub overflow_cast-by : goal.overflow_cast-by
overflow_cast-by c = let f = has_count c.requires.2 in omega (arith, f.small, c.operand-by.ensures)

pub replace-requires-clause-within : goal.replace-requires-clause-within
replace-requires-clause-within c = let f = has_count c.requires.2 in f.there

pub returns : goal.returns
returns c store same =
    let g : IsGrown c.args.pages.now c.grow.new.self c.operand-by.result c.grow.result = record { range = c.grow.ensures.range; size = c.grow.ensures.size; grown = c.grow.ensures.grown; unchanged = c.grow.ensures.unchanged } in
    let small : c.from.result < 2 ^ 32 = omega arith in
    grow_done c.operand-by.result c.from.result c.grow.result c.requires.2 same c.operand-by.ensures g (c.from.ensures ∙ c.unwrap_or-answer.ensures) small c.replace.ensures
