use Rattle.std.proofs.Common.{◌≡◌, map, drop}
use Rattle.wasm_module.specs.Sections.{content_of}
use Rattle.wasm_module.specs.inner.Parts.{section_view}
use Rattle.wasm_module.proofs.outline.content_of.Given as goal

abbrev pub invariant-loop-section : goal.invariant-loop-section
invariant-loop-section l = content_of l.number (map section_view l.sections) ≡ content_of l.number (map section_view (drop l.section-index l.sections))
