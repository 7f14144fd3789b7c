-- The context that a value of `Scope` stands for, inside of a function.
use Rattle.wasm_typing.specs.Context.{Context}
use Rattle.wasm_typing.specs.Views.{context_view}
use Rattle.wasm_typing.specs.declared.scope.Scope.{Scope}

abbrev pub scope_view : Scope → Context
scope_view scope = record (context_view scope.context.now) { locals = scope.locals; result = scope.kind }
