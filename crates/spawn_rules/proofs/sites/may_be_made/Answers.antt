use Rattle.std.proofs.Common.{◌≡◌, ◌&&◌, Bool, true, false, ap, subst, sym, ◌∙◌}
use Rattle.std.specs.List.{list_any}
use Rattle.room_table.specs.Tables.{IsRising}
use Rattle.world_rules.specs.RoomParts.{table_part}
use Rattle.world_rules.specs.Checks.{all_hold}
use Rattle.world_rules.specs.Sights.{gives_sight, is_visible}
use Rattle.world_rules.specs.Sites.{Plan, plan_of, site_checks}
use Rattle.spawn_rules.proofs.Sited.{seen_by}
use Rattle.spawn_rules.proofs.sites.may_be_made.Goals as goal

pub returns-then-around : goal.returns-then-around
returns-then-around c =
    let grounds = c.args.ground.now in
    let table = c.args.room.now in
    let entry = c.args.intent.now in
    let rising = subst IsRising c.objects.ensures.all c.objects.ensures.rising in
    let sees : is_visible entry.player (table_part grounds table) ≡ true =
    seen_by grounds table entry.player rising ∙ sym (c.look_around-around.ensures.seen ∙ ap (list_any (gives_sight entry.player)) c.objects.ensures.all) ∙ c.if-around.true in
    c.site_may_be_made.ensures
    ∙ ap (λ (plan : Plan). all_hold (site_checks plan)) c.plan.ensures.view
    ∙ sym (ap (λ (b : Bool). b && all_hold (site_checks (plan_of entry (table_part grounds table)))) sees)

pub returns-else-around : goal.returns-else-around
returns-else-around c =
    let grounds = c.args.ground.now in
    let table = c.args.room.now in
    let entry = c.args.intent.now in
    let rising = subst IsRising c.objects.ensures.all c.objects.ensures.rising in
    let sees : is_visible entry.player (table_part grounds table) ≡ false =
    seen_by grounds table entry.player rising ∙ sym (c.look_around-around.ensures.seen ∙ ap (list_any (gives_sight entry.player)) c.objects.ensures.all) ∙ c.if-around.false in
    c.if-around.false ∙ sym (ap (λ (b : Bool). b && all_hold (site_checks (plan_of entry (table_part grounds table)))) sees)
