-- The context that a value of `Context` stands for, outside of functions.
use Rattle.std.specs.Prelude.{[], None}
use Rattle.wasm_typing.specs.Context.{Context}
use Rattle.wasm_typing.specs.declared.context.Context as code

abbrev pub context_view : code.Context → Context
context_view cx = record {
  types = cx.types.now;
  funcs = cx.funcs.items;
  tables = cx.tables.items;
  memories = cx.memories.items;
  globals = cx.globals.items;
  locals = [];
  result = None;
}
