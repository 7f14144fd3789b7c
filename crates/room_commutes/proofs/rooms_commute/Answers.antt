use Rattle.std.proofs.Common.{ap}
use Rattle.world_rules.specs.Tick.{Course}
use Rattle.world_rules.proofs.Parts.{seen_part}
use Rattle.room_commutes.proofs.Inner.{inner_alike}
use Rattle.room_commutes.proofs.OneRoom.{tick_room}
use Rattle.room_commutes.proofs.Schedule.{schedule_ruled}
use Rattle.room_commutes.proofs.Points.{gains_alone, points_summed}
use Rattle.room_commutes.proofs.Apart.{same_inner}
use Rattle.room_commutes.proofs.rooms_commute.Goals as goal

pub returns : goal.returns
returns c = record {
  parts = λ book world list room orderly used. ap (seen_part room) (inner_alike book orderly world used list room).world;
  rooms = λ book world list room orderly used. (inner_alike book orderly world used list room).world;
  gains = λ book world list room orderly used. gains_alone book orderly world used list room;
  itself = λ book world list room frame orderly used is. (tick_room book orderly world room used list frame is).part;
  earned = λ book world list room frame orderly used is. (tick_room book orderly world room used list frame is).gains;
  schedules = λ book crossed world list events n orderly used rooms full. schedule_ruled book orderly world used list n rooms events full crossed;
  points = λ book world list player orderly used. points_summed book orderly world used list player;
  frames = λ book one other list rules rooms objects. ap (λ (course : Course). course.world.rooms) (same_inner book one other list rules rooms objects);
  objects = λ book one other list rules rooms objects. ap (λ (course : Course). course.world.objects) (same_inner book one other list rules rooms objects);
  same_gains = λ book one other list rules rooms objects. ap (λ (course : Course). course.gains) (same_inner book one other list rules rooms objects);
}
