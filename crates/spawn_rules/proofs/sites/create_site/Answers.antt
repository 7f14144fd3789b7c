use Rattle.std.proofs.Common.{◌+◌, ◌-◌, ◌^◌, ◌<◌, ◌≤◌, sym, ap, subst, ◌∙◌, refl, arith}
use Rattle.room_table.specs.declared.object.Object.{Object}
use Rattle.room_table.specs.Tables.{IsOnTile, with_new}
use Rattle.world_rules.specs.RoomParts.{table_part}
use Rattle.world_rules.specs.Sites.{plan_of}
use Rattle.world_rules.proofs.TableParts.{tiles_new}
use Rattle.room_rules.specs.Calls.{Keeps}
use Rattle.spawn_rules.proofs.Sited.{site_added, site_tile}
use Rattle.spawn_rules.proofs.sites.create_site.Goals as goal

pub returns-clause-rule : goal.returns-clause-rule
returns-clause-rule c =
    let table = c.args.room.now in
    let ground = c.args.ground.now in
    let entry = c.args.intent.now in
    let plan = plan_of entry (table_part ground table) in
    let holds = sym c.may_be_made.ensures ∙ c.if-not-may_be_made.false in
    let serial : table.next < 2 ^ 32 - 1 = c.requires.ready.serial in
    let made = c.insert_new.ensures.table ∙ (λ i. record table { next = table.next + 1; objects = with_new (record (c.site_of.ensures ground (table_part ground table) i) { id = c.insert_new.ensures.id i }) table.objects; spare = table.spare - 1 }) in
    ap (table_part ground) made ∙ site_added ground table entry holds (omega (arith, serial))

pub insert_new-requires-clause-tile : goal.insert_new-requires-clause-tile
insert_new-requires-clause-tile c =
    let table = c.args.room.now in
    let ground = c.args.ground.now in
    let holds = sym c.may_be_made.ensures ∙ c.if-not-may_be_made.false in
    subst IsOnTile (sym (c.site_of.ensures ground (table_part ground table))) (site_tile ground table c.args.intent.now holds 0)

pub returns-clause-keeps : goal.returns-clause-keeps
returns-clause-keeps c =
    let table = c.args.room.now in
    let ground = c.args.ground.now in
    let holds = sym c.may_be_made.ensures ∙ c.if-not-may_be_made.false in
    let spare : 1 ≤ table.spare = c.requires.ready.spare in
    let on : IsOnTile (record c.site_of.result { id = c.insert_new.result }) =
    subst (λ (o : Object). IsOnTile (record o { id = c.insert_new.result })) (sym (c.site_of.ensures ground (table_part ground table))) (site_tile ground table c.args.intent.now holds c.insert_new.result) in
    subst (Keeps table) (sym c.insert_new.ensures.table) (record {
      index = refl;
      used = omega arith;
      later = omega arith;
      made = omega arith;
      tiles = tiles_new (record c.site_of.result { id = c.insert_new.result }) table.objects on c.requires.ready.tiles;
    })
