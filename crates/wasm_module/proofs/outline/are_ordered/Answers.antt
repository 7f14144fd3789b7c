use Rattle.std.proofs.Common.{◌≡◌, [], refl, inl, inr, true, false, arith}
use Rattle.wasm_module.specs.declared.outline.Section.{Section as Found}
use Rattle.wasm_module.proofs.Ordered.{not_custom, not_part, custom_on, custom_back, part_on, part_back, end_ordered}
use Rattle.wasm_module.proofs.outline.are_ordered.Goals as goal
use Rattle.wasm_module.proofs.outline.are_ordered.Goals.{then-section-eq0+else-not-is_custom, else-section-eq0+else-section-last+else-section-gt11, then-section-last-via-then-section-last, then-section-last-via-else-section-last+then-section-gt11}

abbrev no_section : Found
no_section = record { number = 0; content = record { ref_ptr = (0, 0); now = [] } }

no : false ≡ true → ⊥
no e = cc

pub returns-then-not-is_custom : goal.returns-then-not-is_custom
returns-then-not-is_custom c = (λ never. absurd (no never), λ a. absurd (not_custom c.each.last c.each.section-index c.args.sections.now (no_section) c.each-test.true c.if-section-eq0.true (λ custom. no (c.if-not-is_custom.ensures.1 custom)) (c.each.invariant.forth a)))

pub returns-then-section-last : goal.returns-then-section-last
returns-then-section-last c = elim c.then-section-last.branch [
  | then-section-last-via-then-section-last w ↦ (λ never. absurd (no never), λ a. absurd (not_part c.each.last c.each.section-index c.args.sections.now (no_section) c.each-test.true c.if-section-eq0.false (inl w.if-section-last.true) (c.each.invariant.forth a)))
  | then-section-last-via-else-section-last+then-section-gt11 w ↦ (λ never. absurd (no never), λ a. absurd (not_part c.each.last c.each.section-index c.args.sections.now (no_section) c.each-test.true c.if-section-eq0.false (inr w.if-section-gt11.true) (c.each.invariant.forth a)))
]

pub each-preserved : goal.each-preserved
each-preserved c = elim c.if-section-eq0.branch [
  | then-section-eq0+else-not-is_custom w ↦ record {
    forth = λ a. custom_on c.each.last c.if-section-eq0.last c.each.section-index c.args.sections.now (no_section) w.last-is c.each-test.true w.if-section-eq0.true (c.each.invariant.forth a);
    back = λ a. c.each.invariant.back (custom_back c.each.last c.if-section-eq0.last c.each.section-index c.args.sections.now (no_section) w.last-is c.each-test.true w.if-section-eq0.true (w.is_custom.ensures.0 w.if-not-is_custom.false) a);
  }
  | else-section-eq0+else-section-last+else-section-gt11 w ↦ record {
    forth = λ a. part_on c.each.last c.if-section-eq0.last c.each.section-index c.args.sections.now (no_section) w.last-is c.each-test.true w.if-section-eq0.false (c.each.invariant.forth a);
    back = λ a. c.each.invariant.back (part_back c.each.last c.if-section-eq0.last c.each.section-index c.args.sections.now (no_section) w.last-is c.each-test.true w.if-section-last.false w.if-section-gt11.false a);
  }
]

pub returns : goal.returns
returns c = (λ _. c.each.invariant.back (end_ordered c.each.last c.each.section-index c.args.sections.now (omega (arith, c.each-test.false))), λ _. refl)
