use Rattle.std.proofs.Common.{◌≡◌, ℕ, true, false, ◌++◌, Option, subst}
use Rattle.std.proofs.lemmas.Result.{err_from_is_err_and}
use Rattle.game_tables.specs.Actions.{max_range, needed_part}
use Rattle.game_tables.specs.declared.kind.Part.{Part}
use Rattle.world_rules.specs.Checks.{all_hold, amount_checks, creep_checks, first_failing, further_checks, part_checks, target_checks}
use Rattle.action_checks.specs.Scenes.{scene_view}
use Rattle.action_checks.proofs.Passing.{fails_between, hold_both, passes_later}
use Rattle.action_checks.proofs.checks.check_all.Goals as goal

pub returns-in_err-check_target : goal.returns-in_err-check_target
returns-in_err-check_target c =
    let action = c.args.action in
    let scene = scene_view c.args.scene.now in
    let code = c.in_err-check_target.field-0.0 in
    let part = part_checks (needed_part action) scene in
    let target = target_checks (max_range action) action scene in
    let p = err_from_is_err_and c.from_residual-in_err-check_target.result c.from_residual-in_err-check_target.ensures.1 in
    let fails = subst (λ (range : Option ℕ). (first_failing (target_checks range action scene) ≡ code) × (all_hold (target_checks range action scene) ≡ false)) c.max_range.ensures c.in_err-check_target.ensures in
    let live = subst (λ (needed : Option Part). all_hold (part_checks needed scene) ≡ true) c.needed_part.ensures c.in_ok-check_part.ensures in
    let first = hold_both (creep_checks scene ++ amount_checks action scene) part (hold_both (creep_checks scene) (amount_checks action scene) c.in_ok-check_creep.ensures c.in_ok-check_amount.ensures) live in
    rw (p.1, p.2) (fails_between (creep_checks scene ++ amount_checks action scene ++ part) target (further_checks action scene) code first fails)

pub returns : goal.returns
returns c =
    let action = c.args.action in
    let scene = scene_view c.args.scene.now in
    let live = subst (λ (needed : Option Part). all_hold (part_checks needed scene) ≡ true) c.needed_part.ensures c.in_ok-check_part.ensures in
    let near = subst (λ (range : Option ℕ). all_hold (target_checks range action scene) ≡ true) c.max_range.ensures c.in_ok-check_target.ensures in
    let part = part_checks (needed_part action) scene in
    let first = hold_both (creep_checks scene ++ amount_checks action scene) part (hold_both (creep_checks scene) (amount_checks action scene) c.in_ok-check_creep.ensures c.in_ok-check_amount.ensures) live in
    let front = creep_checks scene ++ amount_checks action scene ++ part in
    passes_later (front ++ target_checks (max_range action) action scene) (further_checks action scene) c.check_further.result (hold_both front (target_checks (max_range action) action scene) first near) c.check_further.ensures

pub returns-in_err-check_amount : goal.returns-in_err-check_amount
returns-in_err-check_amount c =
    let action = c.args.action in
    let scene = scene_view c.args.scene.now in
    let later = part_checks (needed_part action) scene ++ target_checks (max_range action) action scene ++ further_checks action scene in
    let p = err_from_is_err_and c.from_residual-in_err-check_amount.result c.from_residual-in_err-check_amount.ensures.1 in
    rw (p.1, p.2) (fails_between (creep_checks scene) (amount_checks action scene) later c.in_err-check_amount.field-0.0 c.in_ok-check_creep.ensures c.in_err-check_amount.ensures)
