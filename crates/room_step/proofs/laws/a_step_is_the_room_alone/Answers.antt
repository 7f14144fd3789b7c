use Rattle.std.proofs.Common.{Some, sym, ap, ◌∙◌}
use Rattle.world_rules.specs.RoomTick.{RoomCourse}
use Rattle.world_rules.specs.Tick.{book}
use Rattle.world_rules.specs.World.{world_of}
use Rattle.world_rules.proofs.Orderly.{book_orderly}
use Rattle.world_rules.proofs.Parts.{seen_part}
use Rattle.room_commutes.proofs.Births.{used_stored}
use Rattle.room_commutes.proofs.Inner.{inner_alike}
use Rattle.room_step.proofs.Earned.{alone_points}
use Rattle.room_step.proofs.Inside.{at_room, tick_of}
use Rattle.room_step.proofs.laws.a_step_is_the_room_alone.Goals as goal

pub returns : goal.returns
returns c = record {
  part = λ stored list index room sound at.
      sym (ap (seen_part index) (inner_alike book book_orderly (world_of stored) (used_stored stored sound) list index).world)
      ∙ (at_room stored sound list index room at).part
      ∙ ap (λ (course : RoomCourse). Some course.part) (sym (tick_of stored sound list index room at));
  points = λ stored list index room player sound at. alone_points stored sound list index room player at;
}
