use Rattle.std.proofs.Common.{◌≡◌, Vec, Global, List, [], Some, filter}
use Rattle.std.proofs.lemmas.Result.{IfOk-weaker}
use Rattle.room_terrain.specs.declared.terrain.Ground.{Ground}
use Rattle.intent_book.specs.declared.intent.Intent.{Intent}
use Rattle.world_rules.specs.Intents.{last_of_each, undropped}
use Rattle.world_rules.specs.RoomParts.{table_part}
use Rattle.world_rules.specs.RoomTick.{fits_room, kept_in}
use Rattle.kept_entries.specs.declared.entries.Entry.{Entry}
use Rattle.kept_entries.specs.Turns.{in_turn}
use Rattle.kept_entries.specs.inner.Choosing.{Makes}
use Rattle.kept_entries.proofs.Standing.{intents_of, stand_intents}
use Rattle.kept_entries.proofs.rooms.kept_in_room.Goals as goal

pub returns : goal.returns
returns c =
    let room = c.args.room.now in
    let list : List Intent = c.args.intents.now in
    let old = c.in_ok-entries.entries.items in
    IfOk-weaker c.counting.result
    (λ (kept : Vec Entry Global). Makes (λ intents. in_turn (undropped (last_of_each intents))) old kept.items)
    (λ (kept : Vec Entry Global). (grounds : List Ground) → intents_of kept.items ≡ in_turn (kept_in (table_part grounds room) list))
    (λ kept makes grounds. stand_intents (λ intent. Some room.index) kept.items (in_turn (kept_in (table_part grounds room) list))
    (makes (λ intent. Some room.index) (filter (fits_room (table_part [] room)) list) c.in_ok-entries.ensures))
    c.counting.ensures
