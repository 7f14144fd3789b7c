-- The world that is made from a number.
use Rattle.std.specs.Prelude.{ℕ, zero, suc, ◌+◌, ◌*◌, ◌/◌, ◌%◌, ◌^◌, ◌==◌, ◌&&◌, nat_le, nat_lt, min, pos}
use Rattle.std.specs.Prelude.{if◌then◌else◌, List, [], ◌∷◌, ◌++◌, map}
use Rattle.std.specs.List.{flat_map, range_with_len}
use Rattle.game_tables.specs.declared.kind.Kind.{Kind}
use Rattle.game_tables.specs.declared.kind.Kind.TheVariants.{Source, Controller, Creep, Spawn}
use Rattle.game_tables.specs.declared.kind.Part.TheVariants.{Work, Carry, Move}
use Rattle.room_terrain.specs.declared.terrain.Ground.{Ground}
use Rattle.room_terrain.specs.declared.terrain.Ground.TheVariants.{Plain, Wall, Swamp}
use Rattle.object_store.specs.declared.account.Account.{Account}
use Rattle.room_table.specs.declared.object.Object.{Object}
use Rattle.object_store.specs.declared.world.Room.{Room}
use Rattle.object_store.specs.Stored.{Stored}
use Rattle.room_table.specs.Tables.{Table}
use Rattle.room_table.specs.Tallies.{no_tallies}

-- ---- draws

-- the state that a draw makes of a state
unfoldable pub after_draw : ℕ → ℕ
after_draw state = (state * 6364136223846793005 + 1442695040888963407) % 2 ^ 64

-- the state behind so many draws
unfoldable pub state_after : ℕ → ℕ → ℕ
state_after state zero = state
state_after state (suc n) = after_draw (state_after state n)

-- what the draw of a number gives, from 0 on
unfoldable pub draw : ℕ → ℕ → ℕ
draw state n = after_draw (state_after state n) / 2 ^ 33

-- ---- the ground of a room, whose draws begin at a state

-- a border tile is plain where the coordinate along the border is 20 to 29, and else wall, at corners too
abbrev pub border : ℕ → Ground
border along = if nat_le 20 along && nat_le along 29 then Plain else Wall

-- an inner tile, by the number that is drawn for it
abbrev pub inner : ℕ → Ground
inner drawn = if drawn % 8 == 0 then Swamp else Plain

-- the first tiles of the first row, or of the last
unfoldable pub border_tiles : ℕ → List Ground
border_tiles count = map border (range_with_len 0 count)

-- the first inner tiles of a row whose draws begin at a state
unfoldable pub inner_tiles : ℕ → ℕ → List Ground
inner_tiles state count = map (λ n. inner (draw state n)) (range_with_len 0 count)

-- such a row: 48 inner tiles between two of the border, along which it has its own number
unfoldable pub inner_row : ℕ → ℕ → List Ground
inner_row state y = border y ∷ (inner_tiles state 48 ++ border y ∷ [])

-- the first of these rows; each begins behind the 48 draws of each one before it
unfoldable pub inner_rows : ℕ → ℕ → List Ground
inner_rows state count =
    flat_map (λ n. inner_row (state_after state (48 * n)) (n + 1)) (range_with_len 0 count)

-- all rows
unfoldable pub grounds : ℕ → List Ground
grounds state = border_tiles 50 ++ (inner_rows state 48 ++ border_tiles 50)

-- ---- the objects of a room

-- an object of a room under a serial, of which all but its place is 0
abbrev pub thing : ℕ → ℕ → Kind → ℕ → ℕ → Object
thing room serial kind x y = record {
  id = room * 2 ^ 32 + serial;
  kind = kind;
  x = x;
  y = y;
  owner = 0;
  hits = 0;
  energy = 0;
  timer = 0;
  extra = 0;
  progress = 0;
  other = 0;
  other_ticks = 0;
  body = [];
}

-- a controller that nobody owns, and one that a player owns at level 1
abbrev pub free_controller : ℕ → Object
free_controller room = thing room 1 Controller 10 10

abbrev pub owned_controller : ℕ → ℕ → Object
owned_controller room player = record (free_controller room) { owner = player; timer = 20000; extra = 1 }

-- a source, placed by two numbers that are drawn for it
abbrev pub source : ℕ → ℕ → ℕ → Object
source room u v = record (thing room 2 Source (15 + u % 20) (15 + v % 10)) { energy = 1500 }

abbrev pub spawn : ℕ → ℕ → Object
spawn room player = record (thing room 3 Spawn 25 30) { owner = player; hits = 5000; energy = 300 }

abbrev pub creep : ℕ → ℕ → Object
creep room player = record (thing room 4 Creep 25 28) {
  owner = player;
  hits = 400;
  timer = 1500;
  body = Work ∷ Carry ∷ Move ∷ Move ∷ [];
}

-- the objects of a room; the first rooms have players, each the one of the next number
abbrev pub objects : ℕ → ℕ → ℕ → ℕ → List Object
objects players room u v =
    if nat_lt room players
    then owned_controller room (room + 1) ∷ source room u v
    ∷ spawn room (room + 1) ∷ creep room (room + 1) ∷ []
    else free_controller room ∷ source room u v ∷ []

-- the table of a room's objects
unfoldable pub made_table : ℕ → ℕ → ℕ → ℕ → Table
made_table players room u v = record {
  index = room;
  next = 5;
  objects = objects players room u v;
  spare = 0;
  tallies = no_tallies;
}

-- ---- the world

-- the room of an index, whose draws begin at a state: 2,304 for the ground, and two for the source
abbrev pub made_room : ℕ → ℕ → ℕ → Room
made_room players index state = record {
  name = record { column = pos (index % 20); row = pos (index / 20) };
  terrain = grounds state;
  table = made_table players index (draw state 2304) (draw state 2305);
}

abbrev pub account : ℕ → Account
account player = record { player = player; limit = 20; bucket = 1000; points = 0; memory = [] }

-- how many players a world of so many rooms has
abbrev pub players_of : ℕ → ℕ
players_of rooms = min 8 rooms

-- the first rooms, each behind the 2,306 draws of each room before it
unfoldable pub rooms_from : ℕ → ℕ → ℕ → List Room
rooms_from seed players count =
    map (λ index. made_room players index (state_after seed (2306 * index))) (range_with_len 0 count)

-- the accounts of the first players
unfoldable pub accounts_to : ℕ → List Account
accounts_to count = map account (range_with_len 1 count)

-- the world of a seed and so many rooms
abbrev pub generated : ℕ → ℕ → Stored
generated seed rooms = record {
  tick = 0;
  rooms = rooms_from seed (players_of rooms) rooms;
  accounts = accounts_to (players_of rooms);
}
