use Rattle.std.proofs.lemmas.Result.{on_ok_weaker}
use Rattle.wasm_values.specs.Spelling.{Then}
use Rattle.wasm_values.specs.Values.{SpellsName, SpellsImportDesc}
use Rattle.wasm_encode.proofs.Shortest.{gains_then}
use Rattle.wasm_encode.proofs.entries.ImportEntryWritten.put.Goals as goal

pub returns : goal.returns
returns c =
    let entry = c.args.value.now in
    on_ok_weaker c.put_import_desc.result (λ desc. gains_then SpellsName (Then SpellsName SpellsImportDesc) entry.module (entry.name, entry.desc) c.args.out.now.items c.put_name.new.out.items c.put_import_desc.new.out.items c.in_ok-put_name.ensures (gains_then SpellsName SpellsImportDesc entry.name entry.desc c.put_name.new.out.items c.put_name-2.new.out.items c.put_import_desc.new.out.items c.in_ok-put_name-2.ensures desc)) c.put_import_desc.ensures
