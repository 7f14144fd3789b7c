use Rattle.std.proofs.Common.{◌≡◌, ◌∙◌, sym, ap, length, arith, Some}
use Rattle.std.proofs.lemmas.Bool.Decides.{nat_tests}
use Rattle.std.proofs.lemmas.List.{nil_from_length}
use Rattle.wasm_link.specs.Made.{kind_of}
use Rattle.wasm_link.proofs.Each.{get_map, read_at}
use Rattle.wasm_link.proofs.exports.is_plain.Goals as goal

pub returns-in-None : goal.returns-in-None
returns-in-None c =
    let none : length c.as_slice.result.now ≡ 0 = grind (arith, nat_tests) in
    let entry = read_at c.args.functions.now c.args.func c.in-Some.entry.now c.in-Some.ensures.lookup.3.0 c.in-Some.ensures.lookup.1 in
    let declared = read_at c.args.types.now c.kind.result c.in-Some-get.declared.now c.in-Some-get.ensures.lookup.3.0 c.in-Some-get.ensures.lookup.1 in
    (c.in-Some-get.declared.now, (c.kind.result, get_map kind_of c.args.functions.now c.args.func c.in-Some.entry.now entry ∙ ap Some (sym c.kind.ensures), declared), sym c.as_slice.ensures ∙ nil_from_length c.as_slice.result.now none, c.in-None.is)
