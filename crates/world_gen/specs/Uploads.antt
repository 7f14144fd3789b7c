-- The uploads of the players of a generated world.
use Rattle.std.specs.Prelude.{ℕ, List, map}
use Rattle.std.specs.List.{range_with_len}
use Rattle.upload_stream.specs.Streams.{Upload}
use Rattle.world_gen.specs.Generator.{players_of}

-- what a player uploads for tick 0
abbrev pub upload : List ℕ → ℕ → Upload
upload text player = record { tick = 0; player = player; bytes = text }

-- the uploads of the first players, each of the same text
unfoldable pub uploads_to : List ℕ → ℕ → List Upload
uploads_to text count = map (upload text) (range_with_len 1 count)

-- the uploads of a world of so many rooms
abbrev pub uploads : List ℕ → ℕ → List Upload
uploads text rooms = uploads_to text (players_of rooms)
