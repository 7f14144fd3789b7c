use Rattle.std.proofs.Common.{◌≡◌, length}
use Rattle.object_store.specs.declared.world.Room.{Room}
use Rattle.world_form.specs.Written.{room_data}
use Rattle.world_text.proofs.Passes.{all_next, values_next}
use Rattle.world_text.proofs.write.room_values.Goals as goal

pub loop-room-preserved : goal.loop-room-preserved
loop-room-preserved c = record {
  values =
      values_next room_data c.args.rooms.now c.loop-room.room-index c.room-item.result c.room-item.result
      c.loop-room.values.items c.push.new.self.items c.in_ok-room_value.field-0 c.loop-room-test.true
      c.room-item.is c.loop-room.invariant.values c.in_ok-room_value.ensures.value c.in_ok-push.ensures.items;
  all =
      all_next (λ (room : Room). length room.terrain ≡ 2500) c.args.rooms.now c.loop-room.room-index
      c.room-item.result c.room-item.result c.loop-room-test.true c.room-item.is c.loop-room.invariant.all
      c.in_ok-room_value.ensures.all;
}
