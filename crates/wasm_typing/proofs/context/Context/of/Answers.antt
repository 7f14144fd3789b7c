use Rattle.std.proofs.Common.{◌∙◌}
use Rattle.wasm_values.specs.declared.imports.Import.{Import}
use Rattle.wasm_typing.specs.Context.{imported_func, imported_table, imported_memory}
use Rattle.wasm_typing.specs.Views.{context_view}
use Rattle.wasm_typing.proofs.Gathered.{gathered, gathered_globals, made}
use Rattle.wasm_typing.proofs.context.Context.of.Goals as goal

pub returns : goal.returns
returns c =
    let i = c.in_ok-add_imports.ensures in
    let g = c.in_ok-add_globals.ensures in
    let m = c.args.whole.now in
    let imported = context_view c.add_imports.new.self in
    let new = context_view c.add_globals.new.self in
    made (g.types ∙ i.types ∙ c.as_slice.ensures)
    (gathered (λ (x : Import). imported_func x.desc) c.new.result.items imported.funcs c.extend_from_slice.new.self.items new.funcs m.funcs c.as_slice-3.result.now m.imports c.as_slice-2.result.now c.new.ensures.items i.funcs c.as_slice-2.ensures c.in_ok-extend_from_slice.ensures.items c.as_slice-3.ensures g.funcs)
    (gathered (λ (x : Import). imported_table x.desc) c.new-2.result.items imported.tables c.extend_from_slice-2.new.self.items new.tables m.tables c.as_slice-4.result.now m.imports c.as_slice-2.result.now c.new-2.ensures.items i.tables c.as_slice-2.ensures c.in_ok-extend_from_slice-2.ensures.items c.as_slice-4.ensures g.tables)
    (gathered (λ (x : Import). imported_memory x.desc) c.new-3.result.items imported.memories c.extend_from_slice-3.new.self.items new.memories m.memories c.as_slice-5.result.now m.imports c.as_slice-2.result.now c.new-3.ensures.items i.memories c.as_slice-2.ensures c.in_ok-extend_from_slice-3.ensures.items c.as_slice-5.ensures g.memories)
    (gathered_globals c.new-4.result.items imported.globals new.globals m.globals c.as_slice-6.result.now m.imports c.as_slice-2.result.now c.new-4.ensures.items i.globals c.as_slice-2.ensures c.as_slice-6.ensures g.globals)
