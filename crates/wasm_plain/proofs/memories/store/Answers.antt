use Rattle.std.proofs.Common.{◌≡◌, ◌+◌, ◌<◌, refl, length, ap₂, get_or, arith}
use Rattle.wasm_stack.specs.Standing.{held}
use Rattle.wasm_plain.proofs.Accesses.{told_true, told_false, has_address_below, store_done, store_stopped}
use Rattle.wasm_plain.proofs.memories.store.Goals as goal

pub operand-value-requires : goal.operand-value-requires
operand-value-requires c = let f = has_address_below c.args.op c.args.align c.args.offset c.requires.2 in omega (arith, f.there)

pub operand-requires : goal.operand-requires
operand-requires c = let f = has_address_below c.args.op c.args.align c.args.offset c.requires.2 in omega (arith, f.there)

pub overflow_add-address : goal.overflow_add-address
overflow_add-address c = let f = has_address_below c.args.op c.args.align c.args.offset c.requires.2 in omega (arith, f.small, c.operand.ensures, c.from.ensures)

pub stored_width-requires : goal.stored_width-requires
stored_width-requires c = let f = has_address_below c.args.op c.args.align c.args.offset c.requires.2 in (f.access, f.known)

pub discard-requires : goal.discard-requires
discard-requires c = let f = has_address_below c.args.op c.args.align c.args.offset c.requires.2 in f.there

pub returns-then-not-store : goal.returns-then-not-store
returns-then-not-store c store same =
    let f = has_address_below c.args.op c.args.align c.args.offset c.requires.2 in
    let at : c.operand.result + c.from.result ≡ get_or (held c.args.stack.now).operands 1 0 + c.args.offset = ap₂ (λ a b. a + b) c.operand.ensures c.from.ensures in
    let past : length c.args.pages.now.bytes < c.operand.result + c.from.result + c.stored_width.result = grind (arith, told_false c.if-not-store.ensures.range) in
    store_stopped c.args.op c.args.align c.args.offset (c.operand.result + c.from.result) c.stored_width.result f.access c.requires.2 same f.known at (c.stored_width.ensures.access f.access f.known) past (c.if-not-store.ensures.unchanged refl)

pub returns : goal.returns
returns c store same =
    let f = has_address_below c.args.op c.args.align c.args.offset c.requires.2 in
    let at : c.operand.result + c.from.result ≡ get_or (held c.args.stack.now).operands 1 0 + c.args.offset = ap₂ (λ a b. a + b) c.operand.ensures c.from.ensures in
    let p = c.if-not-store.ensures in
    store_done c.args.op c.args.align c.args.offset (c.operand.result + c.from.result) c.operand-value.result c.stored_width.result f.access c.requires.2 same f.known at c.operand-value.ensures (c.stored_width.ensures.access f.access f.known) (told_true p.range) (p.written refl) c.discard.ensures
