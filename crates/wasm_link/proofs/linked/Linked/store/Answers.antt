use Rattle.std.proofs.Common.{◌≡◌, ◌∙◌, ap, sym, subst, length, List, All}
use Rattle.wasm_module.specs.Sections.{module_view}
use Rattle.wasm_module.specs.declared.module.Module.{Module}
use Rattle.wasm_values.specs.declared.types.Bounds.{Bounds}
use Rattle.wasm_steps.specs.Program.{Store}
use Rattle.wasm_typing.specs.Context.{module_context}
use Rattle.wasm_soundness.specs.Typed.{IsTypedStore}
use Rattle.wasm_link.specs.Kept.{Kept, link_view}
use Rattle.wasm_link.specs.Linking.{first_memory, first_store, table_size}
use Rattle.wasm_link.specs.inner.Images.{Ends}
use Rattle.wasm_link.proofs.Stores.{small_table, store_is, store_of}
use Rattle.wasm_link.proofs.Uses.{kept_funcs}
use Rattle.wasm_link.proofs.linked.Linked.store.Goals as goal

pub memory_of-requires-clause-ends : goal.memory_of-requires-clause-ends
memory_of-requires-clause-ends c =
    let b = c.self.invariant.beginning in
    let memories = c.as_slice.ensures ∙ ap (λ (z : Module). z.memories) c.module-whole.ensures.same in
    subst (λ z. All (Ends z) c.self.inside.beginning.memory.stretches.items) (b.size ∙ sym (ap (λ (z : List Bounds). length (first_memory z).bytes) memories)) b.memory.ends

pub table_of-requires-clause-small : goal.table_of-requires-clause-small
table_of-requires-clause-small c =
    let i = c.self.inside in
    let valid = c.module-whole.ensures.valid in
    let tables = c.as_slice-3.ensures ∙ ap (λ (z : Module). z.tables) c.module-whole.ensures.same in
    let small = small_table i.valid valid c.self.invariant.kept.within (kept_funcs (module_view i.valid) i.functions.items i.classes.items i.most i.main valid c.self.invariant.kept) in
    rw tables small

pub table_of-requires-clause-ends : goal.table_of-requires-clause-ends
table_of-requires-clause-ends c =
    let b = c.self.invariant.beginning in
    let tables = c.as_slice-3.ensures ∙ ap (λ (z : Module). z.tables) c.module-whole.ensures.same in
    subst (λ z. All (Ends z) c.self.inside.beginning.table.stretches.items) (b.count ∙ sym (ap table_size tables)) b.table.ends

is_store : (c : goal.In_ok-table_of) → store_of c.in_ok-memory_of.field-0 c.in_ok-of.field-0 c.in_ok-table_of.field-0 ≡ first_store (module_view c.self.inside.valid)
is_store c =
    let w = c.self.inside.valid in
    let b = c.self.invariant.beginning in
    let same = c.module-whole.ensures.same in
    let memories = c.as_slice.ensures ∙ ap (λ (z : Module). z.memories) same in
    let tables = c.as_slice-3.ensures ∙ ap (λ (z : Module). z.tables) same in
    let first = first_store (module_view w) in
    store_is w c.in_ok-memory_of.field-0 c.in_ok-of.field-0 c.in_ok-table_of.field-0
    (c.in_ok-memory_of.ensures first.memory (b.size ∙ sym (ap (λ (z : List Bounds). length (first_memory z).bytes) memories)) (b.limit ∙ sym (ap (λ (z : List Bounds). (first_memory z).limit) memories)) b.memory)
    (c.in_ok-of.ensures ∙ c.as_slice-2.ensures.value ∙ b.globals)
    (c.in_ok-table_of.ensures first.table (b.count ∙ sym (ap table_size tables)) b.table)

pub returns-clause-store : goal.returns-clause-store
returns-clause-store c =
    subst (λ (z : Kept). store_of c.in_ok-memory_of.field-0 c.in_ok-of.field-0 c.in_ok-table_of.field-0 ≡ first_store (link_view z).whole) c.self.view_is (is_store c)

pub returns-clause-typed : goal.returns-clause-typed
returns-clause-typed c =
    subst (λ (z : Kept). IsTypedStore (module_context (link_view z).whole) (store_of c.in_ok-memory_of.field-0 c.in_ok-of.field-0 c.in_ok-table_of.field-0)) c.self.view_is
    (subst (λ (z : Store). IsTypedStore (module_context (module_view c.self.inside.valid)) z) (sym (is_store c)) c.self.invariant.beginning.typed)
