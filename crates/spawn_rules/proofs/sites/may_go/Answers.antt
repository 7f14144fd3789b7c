use Rattle.std.proofs.Common.{◌≡◌, ◌&&◌, Bool, true, false, Option, refl, ap, subst, sym, ◌∙◌}
use Rattle.std.specs.List.{list_any}
use Rattle.room_table.specs.Tables.{IsRising}
use Rattle.world_rules.specs.World.{Placed}
use Rattle.world_rules.specs.RoomParts.{table_part}
use Rattle.world_rules.specs.Checks.{all_hold, standing_at}
use Rattle.world_rules.specs.Sights.{gives_sight, is_visible}
use Rattle.world_rules.specs.Sites.{removal_checks}
use Rattle.spawn_rules.proofs.Sited.{seen_by}
use Rattle.spawn_rules.proofs.sites.may_go.Goals as goal

both : (a b c : Bool) → b ≡ true → c ≡ a → c ≡ (a && b)
both a b c second same = same ∙ sym (ap (λ (x : Bool). a && x) second ∙ whole a)
  where
    whole : (x : Bool) → (x && true) ≡ x
    whole true i = true
    whole false i = false

pub returns-then-may_be_removed : goal.returns-then-may_be_removed
returns-then-may_be_removed c = λ grounds.
    let table = c.args.room.now in
    let entry = c.args.intent.now in
    let told = ap (λ (actor : Option Placed). all_hold (removal_checks entry.player actor)) (c.standing.ensures.part grounds) in
    let rising = subst IsRising c.objects.ensures.all c.objects.ensures.rising in
    both (is_visible entry.player (table_part grounds table)) (all_hold (removal_checks entry.player (standing_at (table_part grounds table) entry.actor))) c.look_around.result.is_seen
    (sym told ∙ sym c.may_be_removed.ensures ∙ c.if-may_be_removed.true)
    (c.look_around.ensures.seen ∙ ap (list_any (gives_sight entry.player)) c.objects.ensures.all ∙ sym (seen_by grounds table entry.player rising))

pub returns-else-may_be_removed : goal.returns-else-may_be_removed
returns-else-may_be_removed c = λ grounds.
    let table = c.args.room.now in
    let entry = c.args.intent.now in
    let told = ap (λ (actor : Option Placed). all_hold (removal_checks entry.player actor)) (c.standing.ensures.part grounds) in
    let none = sym told ∙ sym c.may_be_removed.ensures ∙ c.if-may_be_removed.false in
    c.if-may_be_removed.false ∙ neither (is_visible entry.player (table_part grounds table)) (all_hold (removal_checks entry.player (standing_at (table_part grounds table) entry.actor))) none
  where
    neither : (a b : Bool) → b ≡ false → false ≡ (a && b)
    neither true b none = sym none
    neither false b none = refl
