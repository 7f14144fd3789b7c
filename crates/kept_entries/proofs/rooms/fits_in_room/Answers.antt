use Rattle.std.proofs.Common.{[], ◌/◌, ◌==◌, ◌&&◌, false, true, nat_lt, cond, ap, sym, ◌∙◌, ◌≡◌, arith}
use Rattle.std.specs.FinMap.{get}
use Rattle.world_rules.specs.Intents.{acts_for, names_tile}
use Rattle.world_rules.specs.RoomParts.{table_part}
use Rattle.world_rules.proofs.TableParts.{get_table_part}
use Rattle.kept_entries.proofs.rooms.fits_in_room.Goals as goal

pub returns-else-is_of_tile : goal.returns-else-is_of_tile
returns-else-is_of_tile c =
    let room = c.args.room.now in
    let intent = c.args.intent.now in
    let found = c.acts_in_room.ensures ∙ ap (acts_for intent) (sym (get_table_part [] room intent.actor)) in
    let object : false ≡ names_tile intent.action = c.if-is_of_tile.ensures in
    let player : nat_lt 0 intent.player ≡ true = grind (arith, c.if-intent-eq0.false) in
    found ∙ (λ i. sym player i && cond (object i) (intent.actor / 2500 == room.index) (acts_for intent (get (table_part [] room).objects intent.actor)))
