use Rattle.std.proofs.Common.{◌||◌, ◌∙◌, ap, sym, Bool}
use Rattle.std.specs.List.{list_any}
use Rattle.kept_entries.specs.inner.Choosing.{overrules_it}
use Rattle.kept_entries.proofs.Walks.{walked, walked_back}
use Rattle.kept_entries.proofs.entries.is_overruled.Goals as goal

pub returns-then-is_overruled_before : goal.returns-then-is_overruled_before
returns-then-is_overruled_before c =
    let entry = c.args.entry.now in
    let found = sym (c.is_overruled_before.ensures ∙ walked_back entry c.args.before.now c.requires.before) ∙ c.if-is_overruled_before.true in
    c.if-is_overruled_before.true ∙ sym (ap (λ (b : Bool). b || list_any (overrules_it entry) c.args.behind.now) found)

pub returns-else-is_overruled_before : goal.returns-else-is_overruled_before
returns-else-is_overruled_before c =
    let entry = c.args.entry.now in
    let found = sym (c.is_overruled_before.ensures ∙ walked_back entry c.args.before.now c.requires.before) ∙ c.if-is_overruled_before.false in
    c.is_overruled_behind.ensures
    ∙ walked entry c.args.behind.now c.requires.behind
    ∙ sym (ap (λ (b : Bool). b || list_any (overrules_it entry) c.args.behind.now) found)
