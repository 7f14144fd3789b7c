use Rattle.std.proofs.Common.{map, drop}
use Rattle.wasm_module.specs.Sections.{AreOrdered}
use Rattle.wasm_module.specs.inner.Parts.{section_view}
use Rattle.wasm_module.proofs.outline.are_ordered.Given as goal

abbrev pub invariant-each : goal.invariant-each
invariant-each l = record {
  forth : AreOrdered 0 (map section_view l.sections) → AreOrdered l.last (map section_view (drop l.section-index l.sections));
  back : AreOrdered l.last (map section_view (drop l.section-index l.sections)) → AreOrdered 0 (map section_view l.sections);
}
