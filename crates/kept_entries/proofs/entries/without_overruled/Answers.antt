use Rattle.std.proofs.Common.{◌≡◌, ◌||◌, ◌∙◌, ◌≤◌, ap, sym, subst, List, take, drop, length, filter, reverse, arith}
use Rattle.std.specs.List.{list_any}
use Rattle.std.proofs.lemmas.Grind.{common_steps}
use Rattle.std.proofs.lemmas.List.{take_rest, take_all}
use Rattle.kept_entries.specs.declared.entries.Entry.{Entry}
use Rattle.kept_entries.specs.inner.Choosing.{Makes, Runs, has_actor_of, overrules_it, stays}
use Rattle.world_rules.specs.Intents.{undropped}
use Rattle.kept_entries.proofs.Steps.{makes_undropped}
use Rattle.kept_entries.proofs.Walks.{runs_before_at, runs_behind_at, parted}
use Rattle.kept_entries.proofs.entries.without_overruled.Goals as goal
use Rattle.kept_entries.proofs.entries.without_overruled.Goals.{then-not-is_overruled+in_ok-push, else-not-is_overruled}

pub is_overruled-requires-clause-before : goal.is_overruled-requires-clause-before
is_overruled-requires-clause-before c =
    let list = c.args.entries.now in
    let place = c.loop-place.place in
    let entry = c.index-entries-place.result in
    subst (λ (one : Entry). Runs (has_actor_of one) (reverse (take place list))) (sym c.index-entries-place.is) (runs_before_at list place entry c.loop-place-test.true c.requires)

pub is_overruled-requires-clause-behind : goal.is_overruled-requires-clause-behind
is_overruled-requires-clause-behind c =
    let list = c.args.entries.now in
    let place = c.loop-place.place in
    let entry = c.index-entries-place.result in
    subst (λ (rest : List Entry). Runs (has_actor_of entry) rest) (sym (take_rest list place))
    (subst (λ (one : Entry). Runs (has_actor_of one) (drop place list)) (sym c.index-entries-place.is) (runs_behind_at list place entry c.loop-place-test.true c.requires))

pub loop-place-preserved : goal.loop-place-preserved
loop-place-preserved c =
    let list = c.args.entries.now in
    let place = c.loop-place.place in
    let entry = c.index-entries-place.result in
    let found : c.is_overruled.result ≡ list_any (overrules_it entry) list =
    c.is_overruled.ensures
    ∙ ap (λ (rest : List Entry). list_any (overrules_it entry) (take place list) || list_any (overrules_it entry) rest) (take_rest list place)
    ∙ parted (overrules_it entry) list place in
    elim c.if-not-is_overruled.branch [
      | then-not-is_overruled+in_ok-push w ↦ grind (arith, common_steps, found)
      | else-not-is_overruled w ↦ grind (arith, common_steps, found)
    ]

pub returns : goal.returns
returns c =
    let list = c.args.entries.now in
    let place = c.loop-place.place in
    let end : length list ≤ place = omega arith in
    let whole = c.loop-place.invariant ∙ ap (filter (stays list)) (take_all place list end) in
    subst (λ (kept : List Entry). Makes undropped list kept) (sym whole) (makes_undropped list)
