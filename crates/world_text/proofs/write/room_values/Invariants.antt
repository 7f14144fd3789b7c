use Rattle.std.proofs.Common.{◌≡◌, length, map, take}
use Rattle.std.specs.List.{AllByRecursion}
use Rattle.serde_json.specs.View.{view}
use Rattle.world_form.specs.Written.{room_data}
use Rattle.world_text.proofs.write.room_values.Given as goal

abbrev pub invariant-loop-room : goal.invariant-loop-room
invariant-loop-room l = record {
  values : map view l.values.items ≡ map room_data (take l.room-index l.rooms);
  all : AllByRecursion (λ room. length room.terrain ≡ 2500) (take l.room-index l.rooms);
}
