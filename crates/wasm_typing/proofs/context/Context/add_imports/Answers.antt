use Rattle.std.proofs.Common.{◌∙◌, ◌<◌, length, arith}
use Rattle.wasm_values.specs.declared.imports.Import.{Import}
use Rattle.wasm_typing.specs.Context.{imported_func, imported_table, imported_memory, imported_global}
use Rattle.wasm_typing.specs.Views.{context_view}
use Rattle.wasm_typing.proofs.Imported.{filtered_more}
use Rattle.wasm_typing.proofs.context.Context.add_imports.Goals as goal

pub loop-at-preserved : goal.loop-at-preserved
loop-at-preserved c =
    let before = c.loop-at.invariant.added in
    let more = c.in_ok-add_import.ensures in
    let imports = c.args.imports.now in
    let at = c.loop-at.at in
    let entry = c.index-imports-at.result in
    let start = context_view c.args.self.now in
    let old = context_view c.loop-at.self in
    let new = context_view c.add_import.new.self in
    let below : at < length imports = omega (arith, c.loop-at-test.true) in
    record {
      within = omega (arith, c.loop-at-test.true);
      added = record {
        types = more.types ∙ before.types;
        funcs = filtered_more (λ (x : Import). imported_func x.desc) imports at entry start.funcs old.funcs new.funcs c.index-imports-at.is below before.funcs more.funcs;
        tables = filtered_more (λ (x : Import). imported_table x.desc) imports at entry start.tables old.tables new.tables c.index-imports-at.is below before.tables more.tables;
        memories = filtered_more (λ (x : Import). imported_memory x.desc) imports at entry start.memories old.memories new.memories c.index-imports-at.is below before.memories more.memories;
        globals = filtered_more (λ (x : Import). imported_global x.desc) imports at entry start.globals old.globals new.globals c.index-imports-at.is below before.globals more.globals;
      };
    }
