use Rattle.std.proofs.Common.{◌≡◌, ◌<◌, ◌++◌, [], ◌∷◌, length, map, refl, ap, sym, ◌∙◌, append_assoc, length-append, arith}
use Rattle.std.proofs.lemmas.List.{map-append, length-map}
use Rattle.std.proofs.lemmas.Result.{err_from_is_err_and}
use Rattle.wasm_values.specs.Spelling.{each_none}
use Rattle.wasm_values.proofs.Lists.{each_more, later_start, later_step, later_none, later_end, list_begins, list_later, list_none}
use Rattle.wasm_values.proofs.read.entries.Goals as goal

pub returns-in_err-count-clause-malformed : goal.returns-in_err-count-clause-malformed
returns-in_err-count-clause-malformed g c = let p = err_from_is_err_and c.from_residual.result c.from_residual.ensures.1 in rw p.1 (λ _. list_none g.F.Form.spells c.args.cursor.now.0 c.in_err-count.ensures.bad)

pub each-init : goal.each-init
each-init g c = record {
  count = rw c.new-list.ensures.items refl;
  text = [];
  spelled = rw c.new-list.ensures.items each_none;
  whole = refl;
  later = λ values rest b n. rw c.new-list.ensures.items (later_start g.F.Form.spells values c.leb_u32.new.self.0 rest b);
}

pub returns-in_err-entry-clause-malformed : goal.returns-in_err-entry-clause-malformed
returns-in_err-entry-clause-malformed g c = let p = err_from_is_err_and c.from_residual-in_err-entry.result c.from_residual-in_err-entry.ensures.1 in rw (p.1, p.2) (λ is values rest b.
    let i = c.each.invariant in
    let both = list_later g.F.Form.spells c.args.cursor.now.0 c.leb_u32.new.self.0 rest values c.in_ok-count.count c.in_ok-count.ensures.only b in
    let done : length (map g.F.Form.seen c.each.list.items) < length values = omega (arith, length-map c.each.list.items g.F.Form.seen, both.0, i.count) in
    later_none g.F.Form.spells values (map g.F.Form.seen c.each.list.items) c.each.cursor.0 rest (i.later values rest both.1 both.0) done (c.in_err-entry.ensures.malformed is))

pub each-preserved : goal.each-preserved
each-preserved g c =
    let i = c.each.invariant in
    let r = c.in_ok-entry.ensures.found in
    record {
      count = rw c.in_ok-push.ensures.items (omega (arith, length-append c.each.list.items (c.in_ok-entry.entry ∷ []), i.count));
      text = i.text ++ r.0;
      spelled = rw (c.in_ok-push.ensures.items, map-append) (each_more i.spelled r.1);
      whole = i.whole ∙ ap (λ z. i.text ++ z) r.2 ∙ sym (append_assoc i.text r.0 c.read.new.cursor.0);
      later = λ values rest b n.
          let done : length (map g.F.Form.seen c.each.list.items) < length values = omega (arith, length-map c.each.list.items g.F.Form.seen, n, i.count) in
          rw (c.in_ok-push.ensures.items, map-append) (later_step g.F.Form.spells values (map g.F.Form.seen c.each.list.items) c.each.cursor.0 rest c.read.new.cursor.0 (g.F.Form.seen c.in_ok-entry.entry) (i.later values rest b n) done c.in_ok-entry.ensures.only);
    }

pub returns-clause-found : goal.returns-clause-found
returns-clause-found g c =
    let i = c.each.invariant in
    let n : c.in_ok-count.count ≡ length (map g.F.Form.seen c.each.list.items) = omega (arith, length-map c.each.list.items g.F.Form.seen, i.count) in
    list_begins g.F.Form.spells c.args.cursor.now.0 c.leb_u32.new.self.0 c.each.cursor.0 i.text (map g.F.Form.seen c.each.list.items) c.in_ok-count.count c.in_ok-count.ensures.found i.spelled i.whole n

pub returns-clause-only : goal.returns-clause-only
returns-clause-only g c = λ values rest b.
    let i = c.each.invariant in
    let both = list_later g.F.Form.spells c.args.cursor.now.0 c.leb_u32.new.self.0 rest values c.in_ok-count.count c.in_ok-count.ensures.only b in
    let n : length values ≡ length (map g.F.Form.seen c.each.list.items) = omega (arith, length-map c.each.list.items g.F.Form.seen, i.count, both.0) in
    later_end g.F.Form.spells values (map g.F.Form.seen c.each.list.items) c.each.cursor.0 rest (i.later values rest both.1 both.0) n
