use Rattle.world_gen.specs.Generator.{players_of}
use Rattle.made_worlds.proofs.Players.{player_known}
use Rattle.made_worlds.proofs.Streams.{one_stream, players_stream}
use Rattle.made_worlds.proofs.laws.generated_uploads_are_good.Goals as goal

pub returns : goal.returns
returns c = record {
  good = players_stream;
  alone = one_stream;
  known = λ seed rooms player some most. player_known (players_of rooms) player some most;
}
