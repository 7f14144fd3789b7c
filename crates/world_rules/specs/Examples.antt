-- Worked examples of the upkeep, of what falls, of which entries count and of accounts, which the check
-- computes.
use Rattle.std.specs.Prelude.{◌≡◌, ℕ, List, [], ◌∷◌, map, Some, None}
use Rattle.std.specs.FinMap.{from_entries, get}
use Rattle.game_tables.specs.declared.action.Action.{Action}
use Rattle.game_tables.specs.declared.action.Action.TheVariants as actions
use Rattle.game_tables.specs.declared.kind.Kind.{Kind}
use Rattle.game_tables.specs.declared.kind.Kind.TheVariants as kinds
use Rattle.game_tables.specs.declared.kind.Part.TheVariants as parts
use Rattle.intent_book.specs.declared.intent.Intent.{Intent}
use Rattle.object_store.specs.declared.account.Account.{Account}
use Rattle.room_table.specs.declared.object.Object.{Object}
use Rattle.world_rules.specs.World.{Frame, World}
use Rattle.world_rules.specs.RoomParts.{RoomPart}
use Rattle.world_rules.specs.Drops.{dropped, pile_of}
use Rattle.world_rules.specs.Intents.{kept}
use Rattle.world_rules.specs.Tick.{bucket_after}
use Rattle.world_rules.specs.Upkeep.{source_renewed, pile_decayed}

-- A source with this energy and timer has those after a tick, where its capacity is this.
abbrev pub Renews : ℕ → ℕ → ℕ → ℕ → ℕ → Type 0
Renews capacity energy timer energy_then timer_then =
    (source : Object)
    → source_renewed capacity (record source { energy = energy; timer = timer })
    ≡ record source { energy = energy_then; timer = timer_then }

-- A pile with this energy has that after a tick.
abbrev pub Decays : ℕ → ℕ → Type 0
Decays energy energy_then =
    (pile : Object)
    → pile_decayed (record pile { energy = energy }) ≡ Some (record pile { energy = energy_then })

-- A pile with this energy is gone after a tick.
abbrev pub Vanishes : ℕ → Type 0
Vanishes energy = (pile : Object) → pile_decayed (record pile { energy = energy }) ≡ None

-- A creep of player 1 at (30, 30), with this load.
abbrev pub creep_with : ℕ → Object
creep_with load = record {
  id = 3;
  kind = kinds.Creep;
  x = 30;
  y = 30;
  owner = 1;
  hits = 200;
  energy = load;
  timer = 1500;
  extra = 0;
  progress = 0;
  other = 0;
  other_ticks = 0;
  body = parts.Carry ∷ parts.Move ∷ [];
}

-- A room in which these objects stand and nothing else, and whose next serial is 4.
abbrev pub room_with : List Object → RoomPart
room_with objects =
    record {
      rules = 1;
      index = 0;
      grounds = [];
      next = 4;
      objects = from_entries (map (λ object. (object.id, object)) objects);
    }

-- An entry of this player that creep 3 drops this amount.
abbrev pub drop_of : ℕ → ℕ → Intent
drop_of player amount =
    record { player = player; action = actions.DropLoad; actor = 3; target = 0; amount = amount; body = [] }

-- A creep with this load that is to drop an amount has another load after it, and a new pile of this energy
-- lies on its tile.
abbrev pub Drops : ℕ → ℕ → ℕ → ℕ → Type 0
Drops load amount load_then energy =
    (get (dropped (drop_of 1 amount) (room_with (creep_with load ∷ []))).objects 3
    ≡ Some (creep_with load_then))
    × (get (dropped (drop_of 1 amount) (room_with (creep_with load ∷ []))).objects 4
    ≡ Some (pile_of 4 30 30 energy))
    × ((dropped (drop_of 1 amount) (room_with (creep_with load ∷ []))).next ≡ 5)

-- The pile that lies there grows so.
abbrev pub Grows : ℕ → ℕ → ℕ → Type 0
Grows energy amount energy_then =
    (get (dropped (drop_of 1 amount) (room_with (pile_of 2 30 30 energy ∷ creep_with 20 ∷ []))).objects 2
    ≡ Some (pile_of 2 30 30 energy_then))
    × ((dropped (drop_of 1 amount) (room_with (pile_of 2 30 30 energy ∷ creep_with 20 ∷ []))).next ≡ 4)

-- An entry of this player changes nothing, where the creep has these hits and this load.
abbrev pub DropsNothing : ℕ → ℕ → ℕ → Type 0
DropsNothing player hits load =
    dropped (drop_of player 5) (room_with (record (creep_with load) { hits = hits } ∷ []))
    ≡ room_with (record (creep_with load) { hits = hits } ∷ [])

-- An entry of this player, action, actor and amount.
abbrev pub entry_of : ℕ → Action → ℕ → ℕ → Intent
entry_of player action actor amount =
    record { player = player; action = action; actor = actor; target = 0; amount = amount; body = [] }

-- An object of this id, kind and owner.
abbrev pub object_of : ℕ → Kind → ℕ → Object
object_of id kind owner = record (creep_with 20) { id = id; kind = kind; owner = owner }

-- A world of one room, in which creep 3, site 6 and spawn 7 of player 1, creep 5 of player 2 and source 8
-- stand.
abbrev pub one_room : Frame → World
one_room frame = record {
  rules = 1;
  tick = 0;
  rooms = from_entries ((0, frame) ∷ []);
  objects =
      from_entries (map (λ object. (object.id, record { room = 0; object = object }))
      (object_of 3 kinds.Creep 1 ∷ object_of 5 kinds.Creep 2 ∷ object_of 6 kinds.Site 1
      ∷ object_of 7 kinds.Spawn 1 ∷ object_of 8 kinds.Source 0 ∷ []));
  accounts = from_entries [];
}

-- Of these entries those count in that world.
abbrev pub CountOf : List Intent → List Intent → Type 0
CountOf intents those = (frame : Frame) → kept (one_room frame) intents ≡ those

-- An account with this limit and bucket has that bucket after a tick in which so many instructions were used.
abbrev pub Saves : ℕ → ℕ → ℕ → ℕ → Type 0
Saves limit bucket used bucket_then =
    (account : Account) → bucket_after (record account { limit = limit; bucket = bucket }) used ≡ bucket_then
