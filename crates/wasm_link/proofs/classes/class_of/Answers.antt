use Rattle.std.proofs.Common.{◌∙◌, sym, Some}
use Rattle.std.proofs.lemmas.Map.Text.{btree_map_updates_str}
use Rattle.wasm_link.proofs.Known.{learns_more}
use Rattle.wasm_link.proofs.classes.class_of.Goals as goal

pub returns : goal.returns
returns c =
    let old = c.args.known.now in
    let new = c.insert.new.self in
    let text = c.args.text.now in
    learns_more old new text c.args.number (sym c.get.ensures.value ∙ sym c.in_default.ensures) (λ other. btree_map_updates_str text old new (Some c.args.number) c.in_ok-insert.ensures.updates other)
