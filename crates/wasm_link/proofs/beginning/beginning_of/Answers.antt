use Rattle.std.proofs.Common.{◌≡◌, ◌∙◌, ℕ, ◌^◌, [], None, List, Option, length, map, ap, sym, subst, arith, All}
use Rattle.std.specs.Prelude.{replicate}
use Rattle.std.proofs.lemmas.List.{length-replicate}
use Rattle.std.proofs.lemmas.List.Elements.{All-weaker}
use Rattle.wasm_module.specs.Entries.{global_view, segment_view, element_view}
use Rattle.wasm_values.specs.View.{instrs_view}
use Rattle.wasm_module.specs.declared.elements.Element.{Element}
use Rattle.wasm_module.specs.declared.globals.GlobalDef.{GlobalDef}
use Rattle.wasm_module.specs.declared.segments.Segment.{Segment}
use Rattle.wasm_typing.specs.Typing.{IsConstant}
use Rattle.wasm_soundness.specs.Typed.{IsValue}
use Rattle.wasm_link.specs.Linking.{Fits, constant, first_memory, first_table, table_size, with_segments}
use Rattle.wasm_link.specs.Made.{element_span, data_span}
use Rattle.wasm_link.specs.inner.Images.{Stands}
use Rattle.wasm_link.proofs.Begun.{first_blank, segments_size, segments_limit, elements_size}
use Rattle.wasm_link.proofs.Places.{elements_fit, data_fits}
use Rattle.wasm_link.proofs.Programs.{all_funcs}
use Rattle.wasm_link.proofs.Stores.{are_constants, small_memories, small_table, small_bytes, typed_store}
use Rattle.wasm_link.proofs.beginning.beginning_of.Goals as goal

pub values_of-requires : goal.values_of-requires
values_of-requires c =
    let w = c.args.whole.now in
    subst (λ (z : List GlobalDef). All (λ global. IsConstant [] (instrs_view global.init) global.kind.value) z) (sym c.as_slice.ensures)
    (are_constants w c.requires.valid c.requires.within (all_funcs c.requires.imports.0 w.types w.imports c.requires.imports.1))

pub memory_image-requires : goal.memory_image-requires
memory_image-requires c =
    let w = c.args.whole.now in
    let small = small_bytes w.memories (small_memories w c.requires.valid c.requires.within (all_funcs c.requires.imports.0 w.types w.imports c.requires.imports.1)) in
    subst (λ (z : List Segment). All (λ segment. Fits (data_span (2 ^ 32) segment)) z) (sym c.as_slice-2.ensures)
    (All-weaker (λ segment. Fits (data_span (length (first_memory w.memories).bytes) segment)) (λ segment. Fits (data_span (2 ^ 32) segment)) (λ s h. omega (arith, h, small)) w.segments (data_fits w c.requires.fit))

pub table_image-requires : goal.table_image-requires
table_image-requires c =
    let w = c.args.whole.now in
    let small = small_table w c.requires.valid c.requires.within (all_funcs c.requires.imports.0 w.types w.imports c.requires.imports.1) in
    subst (λ (z : List Element). All (λ segment. Fits (element_span (2 ^ 32) segment)) z) (sym c.as_slice-3.ensures)
    (All-weaker (λ segment. Fits (element_span (table_size w.tables) segment)) (λ segment. Fits (element_span (2 ^ 32) segment)) (λ s h. omega (arith, h, small)) w.elements (elements_fit w c.requires.fit))

pub returns : goal.returns
returns c =
    let w = c.args.whole.now in
    let image = c.in_ok-memory_image.field-0 in
    let entries = c.in_ok-table_image.field-0 in
    let memory = first_memory w.memories in
    let table : List (Option ℕ) = replicate (table_size w.tables) None in
    let size : length table ≡ table_size w.tables = length-replicate (table_size w.tables) None in
    let bytes_fit : All (λ segment. Fits (data_span (length memory.bytes) segment)) w.segments = data_fits w c.requires.fit in
    let elements : All (λ segment. Fits (element_span (length table) segment)) w.elements = subst (λ (z : ℕ). All (λ segment. Fits (element_span z segment)) w.elements) (sym size) (elements_fit w c.requires.fit) in
    let funcs = all_funcs c.requires.imports.0 w.types w.imports c.requires.imports.1 in
    record {
      globals = c.in_ok-values_of.ensures.values ∙ ap (λ (z : List GlobalDef). map (λ global. constant global.1) (map global_view z)) c.as_slice.ensures;
      memory = subst (λ (z : List Segment). Stands 0 image.stretches.items image.values.items (with_segments memory (map segment_view z)).bytes) c.as_slice-2.ensures
          (c.in_ok-memory_image.ensures memory (subst (λ (z : List Segment). All (λ segment. Fits (data_span (length memory.bytes) segment)) z) (sym c.as_slice-2.ensures) bytes_fit) (first_blank w.memories));
      size = segments_size memory w.segments bytes_fit;
      limit = segments_limit memory w.segments;
      table = subst (λ (z : List Element). Stands None entries.stretches.items entries.values.items (first_table table (map element_view z))) c.as_slice-3.ensures
          (c.in_ok-table_image.ensures table (subst (λ (z : List Element). All (λ segment. Fits (element_span (length table) segment)) z) (sym c.as_slice-3.ensures) elements) (ap (λ z. replicate z None) (sym size)));
      count = elements_size table w.elements elements ∙ size;
      typed = typed_store w c.requires.valid funcs (subst (λ (z : List GlobalDef). All (λ global. IsValue global.kind.value (constant (instrs_view global.init))) z) c.as_slice.ensures c.in_ok-values_of.ensures.typed);
    }
