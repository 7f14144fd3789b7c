use Rattle.std.proofs.Common.{ℕ, ◌+◌, ◌-◌, ◌*◌, ◌^◌, ◌<◌, List, Option, sym, ap, subst, ◌∙◌}
use Rattle.game_tables.specs.declared.kind.Part.{Part}
use Rattle.room_table.specs.Tables.{Table, HasNoId, with_new}
use Rattle.world_rules.specs.RoomParts.{table_part}
use Rattle.world_rules.specs.Spawns.{hatched_on}
use Rattle.room_rules.specs.Calls.{KeepsUpTo}
use Rattle.spawn_rules.specs.inner.Hatching.{KeepsOthers}
use Rattle.spawn_rules.proofs.Turned.{fresh_between, hatched_after, keeps_after, others_after, set_in, spawn_tile}
use Rattle.spawn_rules.proofs.hatching.hatch_on.Goals as goal

pub set-requires-clause-tile : goal.set-requires-clause-tile
set-requires-clause-tile c =
    let tile = spawn_tile c.args.room.now c.args.spawn.now c.requires.there c.requires.kind c.requires.ready in
    record { column = tile.column; row = tile.row }

pub insert_new-requires-clause-absent : goal.insert_new-requires-clause-absent
insert_new-requires-clause-absent c =
    let spawn = c.args.spawn.now in
    let old = c.args.room.now in
    let at : ℕ × ℕ = (c.in-Some.x, c.in-Some.y) in
    let emptied = c.set.ensures ∙ ap (λ (body : List Part). set_in (record spawn { timer = 0; body = body }) old) c.new.ensures in
    subst (λ (t : Table). HasNoId (t.index * 2 ^ 32 + t.next) t.objects) (sym emptied) (fresh_between old spawn c.requires.there c.requires.kind c.requires.ready c.stands_in_order.ensures.rising at c.in-Some.ensures.inside)

pub returns-clause-rule : goal.returns-clause-rule
returns-clause-rule c =
    let spawn = c.args.spawn.now in
    let old = c.args.room.now in
    let at : ℕ × ℕ = (c.in-Some.x, c.in-Some.y) in
    let emptied = c.set.ensures ∙ ap (λ (body : List Part). set_in (record spawn { timer = 0; body = body }) old) c.new.ensures in
    let id = c.insert_new.ensures.id ∙ ap (λ (t : Table). t.index * 2 ^ 32 + t.next) emptied in
    let made = c.insert_new.ensures.table ∙ (λ i. record (emptied i) { next = (emptied i).next + 1; objects = with_new (record (c.newborn.ensures i) { id = id i }) (emptied i).objects; spare = (emptied i).spare - 1 }) in
    ap (table_part c.args.ground.now) made
    ∙ hatched_after old spawn c.requires.there c.requires.kind c.requires.ready c.stands_in_order.ensures.rising at c.in-Some.ensures.inside c.args.ground.now
    ∙ ap (λ (found : Option (ℕ × ℕ)). hatched_on spawn found (table_part c.args.ground.now old)) c.in-Some.ensures.tile

pub returns-clause-keeps : goal.returns-clause-keeps
returns-clause-keeps c =
    let spawn = c.args.spawn.now in
    let old = c.args.room.now in
    let at : ℕ × ℕ = (c.in-Some.x, c.in-Some.y) in
    let emptied = c.set.ensures ∙ ap (λ (body : List Part). set_in (record spawn { timer = 0; body = body }) old) c.new.ensures in
    let id = c.insert_new.ensures.id ∙ ap (λ (t : Table). t.index * 2 ^ 32 + t.next) emptied in
    let made = c.insert_new.ensures.table ∙ (λ i. record (emptied i) { next = (emptied i).next + 1; objects = with_new (record (c.newborn.ensures i) { id = id i }) (emptied i).objects; spare = (emptied i).spare - 1 }) in
    subst (KeepsUpTo 1 old) (sym made) (keeps_after old spawn c.requires.there c.requires.kind c.requires.ready c.stands_in_order.ensures.rising at c.in-Some.ensures.inside)

pub returns-clause-others : goal.returns-clause-others
returns-clause-others c =
    let spawn = c.args.spawn.now in
    let old = c.args.room.now in
    let at : ℕ × ℕ = (c.in-Some.x, c.in-Some.y) in
    let emptied = c.set.ensures ∙ ap (λ (body : List Part). set_in (record spawn { timer = 0; body = body }) old) c.new.ensures in
    let id = c.insert_new.ensures.id ∙ ap (λ (t : Table). t.index * 2 ^ 32 + t.next) emptied in
    let made = c.insert_new.ensures.table ∙ (λ i. record (emptied i) { next = (emptied i).next + 1; objects = with_new (record (c.newborn.ensures i) { id = id i }) (emptied i).objects; spare = (emptied i).spare - 1 }) in
    subst (KeepsOthers spawn.id old) (sym made) (others_after old spawn c.requires.there c.requires.kind c.requires.ready c.stands_in_order.ensures.rising at c.in-Some.ensures.inside (subst (λ (n : ℕ). n < 2 ^ 64) id c.insert_new.type_inv))
