use Rattle.std.proofs.Common.{◌≡◌, ◌<◌, ◌++◌, ℕ, List, [], length, map, ap, sym, ◌∙◌, subst, append_assoc, arith}
use Rattle.std.proofs.lemmas.List.{append-nil, map-append}
use Rattle.std.proofs.lemmas.Result.{err_from_is_err_and}
use Rattle.wasm_values.specs.Spelling.{SpellsEach, each_none}
use Rattle.wasm_module.specs.Sections.{Section, SpellsSection}
use Rattle.wasm_module.specs.inner.Parts.{section_view}
use Rattle.wasm_values.proofs.Lists.{Later, each_more, later_step, later_none}
use Rattle.wasm_values.proofs.Sizes.{none_left}
use Rattle.wasm_module.proofs.Ordered.{each_start, later_some, later_all}
use Rattle.wasm_module.proofs.outline.split.Goals as goal

pub each-init : goal.each-init
each-init c =
    let start : c.over-cursor.result.0 ≡ c.args.bytes.now = ap (λ (z : List ℕ × ℕ). z.0) c.over-cursor.ensures in
    record {
      text = [];
      spelled = rw c.new-list.ensures.items each_none;
      whole = sym start;
      later = λ values s.
          let P : List ℕ → Type 0 = λ z. Later Section SpellsSection values [] z [] in
          rw c.new-list.ensures.items (subst P (sym start) (each_start values c.args.bytes.now s));
    }

pub returns-in_err-next-clause-malformed : goal.returns-in_err-next-clause-malformed
returns-in_err-next-clause-malformed c = let p = err_from_is_err_and c.from_residual.result c.from_residual.ensures.1 in rw (p.1, p.2) (λ is other s.
    let some : 0 < length c.each.cursor.0 = omega (arith, c.left.ensures, c.each-test.true) in
    let later = c.each.invariant.later other s in
    later_none SpellsSection other (map section_view c.each.list.items) c.each.cursor.0 [] later (later_some other (map section_view c.each.list.items) c.each.cursor.0 later some) (c.in_err-next.ensures.malformed is))

pub each-preserved : goal.each-preserved
each-preserved c =
    let i = c.each.invariant in
    let r = c.in_ok-next.ensures.found in
    let some : 0 < length c.each.cursor.0 = omega (arith, c.left.ensures, c.each-test.true) in
    record {
      text = i.text ++ r.0;
      spelled = rw (c.in_ok-push.ensures.items, map-append) (each_more i.spelled r.1);
      whole = i.whole ∙ ap (λ z. i.text ++ z) r.2 ∙ sym (append_assoc i.text r.0 c.next_section.new.cursor.0);
      later = λ values s.
          let later = i.later values s in
          rw (c.in_ok-push.ensures.items, map-append) (later_step SpellsSection values (map section_view c.each.list.items) c.each.cursor.0 [] c.next_section.new.cursor.0 (section_view c.in_ok-next.next) later (later_some values (map section_view c.each.list.items) c.each.cursor.0 later some) c.in_ok-next.ensures.only);
    }

pub returns-clause-found : goal.returns-clause-found
returns-clause-found c =
    let i = c.each.invariant in
    let n : length c.each.cursor.0 ≡ 0 = omega (arith, c.left.ensures, c.each-test.false) in
    let whole : i.text ≡ c.args.bytes.now = sym (append-nil i.text) ∙ ap (λ z. i.text ++ z) (sym (none_left c.each.cursor.0 n)) ∙ sym i.whole in
    let P : List ℕ → Type 0 = λ z. SpellsEach SpellsSection z (map section_view c.each.list.items) in
    subst P whole i.spelled

pub returns-clause-only : goal.returns-clause-only
returns-clause-only c = λ other s.
    let n : length c.each.cursor.0 ≡ 0 = omega (arith, c.left.ensures, c.each-test.false) in
    later_all other (map section_view c.each.list.items) c.each.cursor.0 (c.each.invariant.later other s) n
