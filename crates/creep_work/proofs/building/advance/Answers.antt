use Rattle.std.proofs.Common.{ℕ, ◌+◌, ◌-◌, ◌*◌, ◌^◌, ◌<◌, ◌≤◌, ◌==◌, not, [], ◌≡◌, Option, Some, None, refl, sym, ap, subst, ◌∙◌, arith}
use Rattle.room_table.specs.declared.object.Object.{Object}
use Rattle.room_table.specs.Tables.{Table, IsOnTile, HasId, HasNoId, find_object, with_new, removed}
use Rattle.room_table.specs.Tallies.{tally_of}
use Rattle.world_rules.specs.RoomParts.{table_part}
use Rattle.world_rules.proofs.TableParts.{tiles_filter, tiles_new}
use Rattle.room_rules.specs.Calls.{Keeps}
use Rattle.room_rules.proofs.Calls.{ready_set, ready_without, set_in, tallies_renewed}
use Rattle.room_rules.proofs.Parties.{keeps_ready}
use Rattle.creep_work.proofs.Sites.{advanced_missing, advanced_whole}
use Rattle.creep_work.proofs.building.advance.Goals as goal

pub returns-then-site-total_of-clause-rule : goal.returns-then-site-total_of-clause-rule
returns-then-site-total_of-clause-rule c =
    let below = subst (λ (n : ℕ). c.args.site.progress < n) c.total_of.ensures c.if-site-total_of.true in
    λ grounds. ap (table_part grounds) c.set.ensures ∙ advanced_missing grounds c.args.room.now c.args.kind c.args.site c.requires.there below

pub returns-then-site-total_of-clause-keeps : goal.returns-then-site-total_of-clause-keeps
returns-then-site-total_of-clause-keeps c =
    let table = c.args.room.now in
    subst (Keeps table) (sym c.set.ensures) (keeps_ready table (set_in c.args.site table) refl refl refl (ready_set table c.args.site c.requires.tile c.requires.ready))

pub insert_new-requires-clause-tile : goal.insert_new-requires-clause-tile
insert_new-requires-clause-tile c =
    subst IsOnTile (sym (c.building_on-building.ensures [])) (record { column = c.requires.tile.column; row = c.requires.tile.row })

pub insert_new-requires-clause-absent : goal.insert_new-requires-clause-absent
insert_new-requires-clause-absent c =
    let ready = ready_without c.args.room.now c.args.site.id c.requires.ready in
    subst (λ (t : Table). HasNoId (t.index * 2 ^ 32 + t.next) t.objects) (sym c.remove.ensures.table) ready.fresh

pub returns-clause-rule : goal.returns-clause-rule
returns-clause-rule c =
    let table = c.args.room.now in
    let site = c.args.site in
    let serial : table.next < 2 ^ 32 - 1 = c.requires.ready.serial in
    let room : table.next < 2 ^ 32 = omega arith in
    let whole = subst (λ (n : ℕ). n ≤ site.progress) c.total_of.ensures c.if-site-total_of.false in
    let gone = c.remove.ensures.table in
    let id = c.insert_new.ensures.id ∙ ap (λ (t : Table). t.index * 2 ^ 32 + t.next) gone in
    λ grounds.
    let building = c.building_on-building.ensures grounds in
    ap (table_part grounds) (c.insert_new.ensures.table ∙ (λ i. record (gone i) {
      next = (gone i).next + 1;
      objects = with_new (record (building i) { id = id i }) (gone i).objects;
      spare = (gone i).spare - 1;
    }))
    ∙ advanced_whole grounds table c.args.kind site (table.spare - 1) room whole

pub returns-clause-keeps : goal.returns-clause-keeps
returns-clause-keeps c =
    let table = c.args.room.now in
    let spare : 1 ≤ table.spare = c.requires.ready.spare in
    let gone = c.remove.ensures.table in
    let new : Object = record c.building_on-building.result { id = c.insert_new.result } in
    let on : IsOnTile new = subst (λ (o : Object). IsOnTile (record o { id = c.insert_new.result })) (sym (c.building_on-building.ensures [])) (record { column = c.requires.tile.column; row = c.requires.tile.row }) in
    let tiles = tiles_filter (λ o. not (o.id == c.args.site.id)) table.objects c.requires.ready.tiles in
    let left : Table = removed c.args.site.id table in
    subst (Keeps table) (sym (c.insert_new.ensures.table ∙ ap (λ (t : Table). record t { next = t.next + 1; objects = with_new new t.objects; spare = t.spare - 1 }) gone)) (record {
      index = refl;
      used = omega arith;
      later = omega arith;
      made = omega arith;
      tiles = tiles_new new left.objects on tiles;
    })

pub returns-clause-tallies : goal.returns-clause-tallies
returns-clause-tallies c = λ id has.
    let table = c.args.room.now in
    let site = c.args.site in
    let new : Object = record c.building_on-building.result { id = c.insert_new.result } in
    let made = c.insert_new.ensures.table ∙ ap (λ (t : Table). record t { next = t.next + 1; objects = with_new new t.objects; spare = t.spare - 1 }) c.remove.ensures.table in
    let fresh = c.requires.ready.fresh in
    let own : c.insert_new.result ≡ table.index * 2 ^ 32 + table.next = c.insert_new.ensures.id ∙ ap (λ (t : Table). t.index * 2 ^ 32 + t.next) c.remove.ensures.table in
    let other : c.insert_new.result ≡ site.id → ⊥ = λ same. (
    let none : ◌≡◌ {A = Option Object} None (Some c.requires.there.0) = sym fresh ∙ ap (λ (n : ℕ). find_object n table.objects) (sym own ∙ same) ∙ c.requires.there.1 in
    absurd cc) in
    ap (λ (t : Table). tally_of id t.tallies) made ∙ tallies_renewed table site.id new other id (subst (λ (t : Table). HasId id t.objects) made has)
