use Rattle.std.specs.Prelude.{length}
use Rattle.world_rules.specs.World.{world_of}
use Rattle.world_rules.specs.Crossings.{crossed}
use Rattle.world_rules.specs.Tick.{book}
use Rattle.world_rules.proofs.Orderly.{book_orderly}
use Rattle.room_commutes.proofs.Schedule.{schedule_ruled}
use Rattle.room_commutes.proofs.Points.{points_summed}
use Rattle.room_commutes.proofs.Births.{used_stored, rooms_stored}
use Rattle.room_commutes.proofs.game.game_commutes.Goals as goal

pub returns : goal.returns
returns c = record {
  schedules = λ stored list events sound full. schedule_ruled book book_orderly (world_of stored) (used_stored stored sound) list (length stored.rooms) (rooms_stored stored) events full crossed;
  points = λ stored list player sound. points_summed book book_orderly (world_of stored) (used_stored stored sound) list player;
}
