use Rattle.std.proofs.Common.{refl, ◌∙◌, None}
use Rattle.wasm_module.specs.declared.module.Module.{Module}
use Rattle.world_gen.proofs.Wholes.{module_whole}
use Rattle.world_gen.proofs.whole.player_module.Goals as goal

pub returns : goal.returns
returns c =
    let made : Module = record {
      types = c.in_ok-types.types;
      imports = c.in_ok-imports.imports;
      funcs = c.in_ok-funcs.funcs;
      tables = c.new.result;
      memories = c.new-2.result;
      globals = c.new-3.result;
      exports = c.in_ok-exports.exports;
      start = None;
      elements = c.new-4.result;
      codes = c.in_ok-codes.codes;
      segments = c.new-5.result;
    } in
    module_whole made c.in_ok-types.ensures c.in_ok-imports.ensures (c.in_ok-funcs.ensures ∙ c.in_ok-list.ensures.items)
    c.new.ensures c.new-2.ensures c.new-3.ensures c.in_ok-exports.ensures refl c.new-4.ensures c.in_ok-codes.ensures c.new-5.ensures
