use Rattle.std.proofs.lemmas.Result.{on_ok_weaker}
use Rattle.wasm_values.specs.Values.{SpellsName, SpellsExportDesc}
use Rattle.wasm_encode.proofs.Shortest.{gains_then}
use Rattle.wasm_encode.proofs.entries.ExportEntryWritten.put.Goals as goal

pub returns : goal.returns
returns c =
    let entry = c.args.value.now in
    on_ok_weaker c.put_export_desc.result (λ desc. gains_then SpellsName SpellsExportDesc entry.name entry.desc c.args.out.now.items c.put_name.new.out.items c.put_export_desc.new.out.items c.in_ok-put_name.ensures desc) c.put_export_desc.ensures
