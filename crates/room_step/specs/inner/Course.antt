-- A room's part along the entries that count, each of which does its harm in its own turn.
use Rattle.std.specs.Prelude.{◌≡◌, ◌⊎◌, ℕ, ◌+◌, ◌*◌, ◌≤◌, ◌==◌, Bool, List, [], ◌∷◌, length, map}
use Rattle.std.specs.List.{AllByRecursion, sum_by}
use Rattle.room_terrain.specs.declared.terrain.Ground.{Ground}
use Rattle.room_table.specs.Tables.{Table, IsRising}
use Rattle.game_tables.specs.Actions.{action_number}
use Rattle.game_tables.specs.declared.action.Action.TheVariants.{Move}
use Rattle.intent_book.specs.declared.intent.Intent.{Intent}
use Rattle.kept_entries.specs.declared.entries.Entry.{Entry}
use Rattle.world_rules.specs.RoomParts.{RoomPart, table_part}
use Rattle.world_rules.specs.RuleBook.{Harm}
use Rattle.world_rules.specs.Tick.{book}
use Rattle.room_rules.specs.Within.{within}
use Rattle.ruled_tick.specs.inner.Entered.{HasRoomFor, HasSumsOf}
use Rattle.room_step.specs.Stepping.{KeepsItsRules}

-- what is wanted by entries, each of which has the room of its actor beside it
abbrev pub intents_in : List Entry → List Intent
intents_in entries = map (λ entry. entry.intent) entries

abbrev pub is_move : Intent → Bool
is_move entry = action_number entry.action == action_number Move

-- the part after an entry, and after entries
abbrev pub part_after : RoomPart → Intent → RoomPart
part_after part entry = (book.effect entry part).part

abbrev pub part_entered : RoomPart → List Intent → RoomPart
part_entered part [] = part
part_entered part (entry ∷ later) = part_entered (part_after part entry) later

-- what they do to objects, and what they give their players
abbrev pub harms_entered : RoomPart → List Intent → List Harm
harms_entered part [] = []
harms_entered part (entry ∷ later) = book.harm entry part ∷ harms_entered (part_after part entry) later

abbrev pub points_entered : RoomPart → List Intent → List (ℕ × ℕ)
points_entered part [] = []
points_entered part (entry ∷ later) =
    (entry.player, (book.effect entry part).points) ∷ points_entered (part_after part entry) later

-- The table has come to this by the entries that are done, and has serials and memory for those to come.
pub record HasCome (grounds : List Ground) (start : Table) (done : List Intent) (later : ℕ) (table : Table)
    : Type 0 where
  pub part : table_part grounds table ≡ part_entered (table_part grounds start) done
  pub keeps : KeepsItsRules within grounds table
  pub rising : IsRising table.objects
  pub used : table.next + table.spare ≡ start.next + start.spare
  pub after : start.next ≤ table.next
  pub ready : HasRoomFor (length done) later table
  pub summed : HasSumsOf (harms_entered (table_part grounds start) done) table

-- Of points that were given these are all, at most 50 by an entry; and the player is the one who got some,
-- where it was one player.
pub record HasGained (list : List (ℕ × ℕ)) (player points : ℕ) : Type 0 where
  pub all : points ≡ sum_by (λ gain. gain.1) list
  pub few : points ≤ 50 * length list
  pub own : (one : ℕ) → AllByRecursion (λ gain. (gain.1 ≡ 0) ⊎ (gain.0 ≡ one)) list
      → (points ≡ 0) ⊎ (player ≡ one)
  pub nobody : points ≡ 0 → player ≡ 0
