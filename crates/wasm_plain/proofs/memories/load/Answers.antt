use Rattle.std.proofs.Common.{◌≡◌, ◌+◌, ap₂, get_or, arith}
use Rattle.wasm_stack.specs.Standing.{held}
use Rattle.wasm_plain.proofs.Accesses.{has_address, load_done, load_stopped}
use Rattle.wasm_plain.proofs.memories.load.Goals as goal

pub operand-requires : goal.operand-requires
operand-requires c = let f = has_address c.args.op c.args.align c.args.offset c.requires.2 in omega (arith, f.there)

pub overflow_add-address : goal.overflow_add-address
overflow_add-address c = let f = has_address c.args.op c.args.align c.args.offset c.requires.2 in omega (arith, f.small, c.operand.ensures, c.from.ensures)

pub value_at-requires : goal.value_at-requires
value_at-requires c = let f = has_address c.args.op c.args.align c.args.offset c.requires.2 in (f.access, f.known)

pub replace-requires-clause-within : goal.replace-requires-clause-within
replace-requires-clause-within c = let f = has_address c.args.op c.args.align c.args.offset c.requires.2 in f.there

pub returns-in_default : goal.returns-in_default
returns-in_default c store same =
    let f = has_address c.args.op c.args.align c.args.offset c.requires.2 in
    let at : c.operand.result + c.from.result ≡ get_or (held c.args.stack.now).operands 0 0 + c.args.offset = ap₂ (λ a b. a + b) c.operand.ensures c.from.ensures in
    load_stopped c.args.op c.args.align c.args.offset (c.operand.result + c.from.result) f.access c.requires.2 same f.known at (c.in_default.ensures f.access f.known)

pub returns : goal.returns
returns c store same =
    let f = has_address c.args.op c.args.align c.args.offset c.requires.2 in
    let at : c.operand.result + c.from.result ≡ get_or (held c.args.stack.now).operands 0 0 + c.args.offset = ap₂ (λ a b. a + b) c.operand.ensures c.from.ensures in
    let p = c.in-Some.ensures f.access f.known in
    load_done c.args.op c.args.align c.args.offset (c.operand.result + c.from.result) c.in-Some.value f.access c.requires.2 same f.known at p.0 p.1 p.2 c.replace.ensures
