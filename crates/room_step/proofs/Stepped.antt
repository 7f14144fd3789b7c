-- A room's table after all entries, movement and upkeep.
use Rattle.std.proofs.Common.{◌≡◌, ℕ, ◌+◌, ◌-◌, ◌*◌, ◌^◌, ◌≤◌, max, arith, List, [], ◌∷◌, length, sym, ap, subst, ◌∙◌}
use Rattle.std.specs.List.{AllByRecursion, filter}
use Rattle.std.proofs.lemmas.List.{length-map}
use Rattle.game_tables.specs.declared.action.Action.TheVariants.{Move}
use Rattle.room_terrain.specs.declared.terrain.Ground.{Ground}
use Rattle.room_table.specs.Tables.{Table}
use Rattle.intent_book.specs.declared.intent.Intent.{Intent}
use Rattle.kept_entries.specs.declared.entries.Entry.{Entry}
use Rattle.kept_entries.specs.Turns.{in_turn}
use Rattle.world_rules.specs.Intents.{all_actions, entries_of}
use Rattle.world_rules.specs.RoomParts.{RoomPart, table_part}
use Rattle.world_rules.specs.RoomTick.{RoomCourse, fits_room, kept_in, room_after_actions, room_begun, room_tick}
use Rattle.world_rules.specs.RuleBook.{Follows}
use Rattle.world_rules.specs.Tick.{book, sums_of}
use Rattle.world_rules.proofs.Follows.{follows_self, follows_trans}
use Rattle.world_rules.proofs.Orderly.{book_orderly}
use Rattle.room_rules.specs.Calls.{AreActorsOnce}
use Rattle.room_rules.specs.RoomRules.{KeepsRoomRules}
use Rattle.room_rules.specs.Within.{between, moved}
use Rattle.room_rules.proofs.Rules.{begun_leads}
use Rattle.room_rules.proofs.Steps.{keeps_rest}
use Rattle.exit_crossing.specs.Crossing.{crossers_of, rested_table}
use Rattle.ruled_tick.specs.inner.Entered.{wanted_spare, widened_table}
use Rattle.ruled_tick.specs.inner.Ticked.{ticked_part, IsTickedTable}
use Rattle.ruled_tick.proofs.Fewer.{no_more}
use Rattle.ruled_tick.proofs.Few.{fewer_standing, in_turn_many}
use Rattle.ruled_tick.proofs.Moves.{moves_in_turn}
use Rattle.ruled_tick.proofs.Players.{all_in_turn}
use Rattle.ruled_tick.proofs.Rested.{rested_part}
use Rattle.room_step.specs.Stepping.{anybody, AreOf, HasAtMost, IsStepped, KeepsItsRules, StaysInRules}
use Rattle.room_step.specs.declared.step.StepDone.{StepDone}
use Rattle.room_step.specs.inner.Course.{harms_entered, intents_in, is_move, part_after, part_entered, points_entered, HasCome, HasGained}
use Rattle.room_step.proofs.Coming.{room_of}
use Rattle.room_step.proofs.Gainer.{one_gainer}
use Rattle.room_step.proofs.Gains.{gained_all}
use Rattle.room_step.proofs.Keeping.{kept_player, moves_apart, tick_keeps}
use Rattle.room_step.proofs.Running.{all_enter, IsKept}

-- The entries that count in a room are of somebody, and no two of them are moves of one creep.
pub players_in_turn : (part : RoomPart) (list : List Intent) → AllByRecursion (λ entry. 1 ≤ entry.player) (in_turn (kept_in part list))
players_in_turn part list = all_in_turn (kept_in part list) (λ entry. 1 ≤ entry.player) (kept_player part list)

pub moves_are : (part : RoomPart) (list : List Intent) → filter is_move (in_turn (kept_in part list)) ≡ entries_of Move (kept_in part list)
moves_are part list = moves_in_turn (kept_in part list)

pub moves_once : (part : RoomPart) (list entries : List Intent) → entries ≡ in_turn (kept_in part list) → AreActorsOnce (filter is_move entries)
moves_once part list entries is = subst AreActorsOnce (sym (ap (filter is_move) is ∙ moves_are part list)) (moves_apart part list)

module _ (grounds : List Ground) (old : Table) (list entries : List Intent) (kept : entries ≡ in_turn (kept_in (table_part grounds old) list)) (keeps : KeepsItsRules between grounds old) where
  abbrev part : RoomPart
  part = table_part grounds old

  abbrev counted : List Intent
  counted = kept_in part list

  is_kept : IsKept part
  is_kept = record {
    keyed = keeps.ids;
    used = λ serial object small there. (let born = keeps.born (part.index * 2 ^ 32 + serial) object there (omega (arith, small)) in omega (arith, small, born.1));
  }

  -- the course of the room after its entries
  course_is : room_after_actions book all_actions counted (room_begun part) ≡ record { part = part_entered part entries; harms = harms_entered part entries; points = points_entered part entries }
  course_is = subst (λ (those : List Intent). room_after_actions book all_actions counted (room_begun part) ≡ record { part = part_entered part those; harms = harms_entered part those; points = points_entered part those }) (sym kept) (all_enter counted part is_kept)

  pub points_are : (room_tick book list part).points ≡ points_entered part entries
  points_are = ap (λ (course : RoomCourse). course.points) course_is

  pub all_points : (player points : ℕ) → HasGained (points_entered part entries) player points → AreOf player points (room_tick book list part).points
  all_points player points gained =
      let one = one_gainer anybody part (begun_leads anybody part keeps) list in
      gained_all (room_tick book list part).points player points one.0 one.1 (subst (λ (gains : List (ℕ × ℕ)). HasGained gains player points) (sym points_are) gained)

  module _ (start entered left : Table) (same : table_part grounds start ≡ part) (come : HasCome grounds start entries 0 entered) (ticked : IsTickedTable (filter is_move entries) grounds entered left) where
    -- The table that is left is the one of the room's tick.
    tick_is : table_part grounds left ≡ (room_tick book list part).part
    tick_is =
        ticked.part (sums_of (harms_entered (table_part grounds start) entries)) come.summed.sums
        ∙ (λ i. ticked_part ((ap (filter is_move) kept ∙ moves_are part list) i) (sums_of (harms_entered (same i) entries)) ((come.part ∙ ap (λ (p : RoomPart). part_entered p entries) same) i))
        ∙ sym (ap (λ (course : RoomCourse). ticked_part (entries_of Move counted) (sums_of course.harms) course.part) course_is)

    pub stepped : (done : StepDone) → done.room ≡ rested_table left → done.crossers ≡ crossers_of left → HasGained (points_entered part entries) done.player done.points → IsStepped grounds list old done
    stepped done room crossers gained = record {
      left = left;
      tick = tick_is;
      rising = ticked.rising;
      tiles = ticked.tiles;
      sums = ticked.sums;
      memory = ticked.spare;
      room = room;
      crossers = crossers;
      points = all_points done.player done.points gained;
    }

    -- It keeps its rules once no creep has moved any more, whoever the players are.
    pub keeps_then : (room : Table) → room ≡ rested_table left → StaysInRules grounds old room
    keeps_then room is players before =
        let ticked_part_keeps = subst (KeepsRoomRules players moved) (sym tick_is) (tick_keeps players part list (begun_leads players part before)) in
        subst (KeepsRoomRules players between) (sym (ap (table_part grounds) is ∙ rested_part (room_of grounds left) ticked.rising)) (keeps_rest players (table_part grounds left) ticked_part_keeps)

-- ---- memory

-- Entries stay in their room.
entered_follow : (part : RoomPart) (list : List Intent) → Follows part (part_entered part list)
entered_follow part [] = follows_self part
entered_follow part (entry ∷ later) =
    let next : RoomPart = part_after part entry in
    follows_trans part next (part_entered next later) (book_orderly.effect entry part) (entered_follow next later)

-- The memory that is left is no more than was at hand, or than the objects that stood and were made may need.
pub memory_left : (grounds : List Ground) (old start entered left room : Table) (entries moves : List Intent) (many : ℕ) → start ≡ widened_table many old → HasCome grounds start entries 0 entered → IsTickedTable moves grounds entered left → room ≡ rested_table left
    → HasAtMost (max old.spare (wanted_spare many (length old.objects))) old room
memory_left grounds old start entered left room entries moves many is come ticked rests =
    let part : RoomPart = table_part grounds start in
    let few = no_more grounds start entered (subst (Follows part) (sym come.part) (entered_follow part entries)) come.rising in
    let start_next : start.next ≡ old.next = ap (λ (t : Table). t.next) is in
    let start_spare : start.spare ≡ max old.spare (wanted_spare many (length old.objects)) = ap (λ (t : Table). t.spare) is in
    let start_many : length start.objects ≡ length old.objects = ap (λ (t : Table). length t.objects) is in
    let next : room.next ≡ left.next = ap (λ (t : Table). t.next) rests in
    let spare : room.spare ≡ left.spare = ap (λ (t : Table). t.spare) rests in
    most_of old.spare old.next (length old.objects) (wanted_spare many (length old.objects)) start.next start.spare (length start.objects) entered.next entered.spare (length entered.objects) left.next left.spare room.next room.spare
    start_next start_spare start_many few come.used come.after ticked.later ticked.most next spare
  where
    most_of : (spare next many wanted start_next start start_many entered_next entered entered_many left_next left room_next room : ℕ)
        → start_next ≡ next → start ≡ max spare wanted → start_many ≡ many → entered_many ≤ start_many + (entered_next - start_next) → entered_next + entered ≡ start_next + start → start_next ≤ entered_next
        → entered_next ≤ left_next → left ≤ max entered (2 * (entered_many + (left_next - entered_next)) + 196) → room_next ≡ left_next → room ≡ left
        → room ≤ max (max spare wanted) (2 * (many + (room_next - next)) + 196)
    most_of spare next many wanted start_next start start_many entered_next entered entered_many left_next left room_next room one two three four five six seven eight nine ten =
        omega (arith, one, two, three, four, five, six, seven, eight, nine, ten)

-- As many entries count as are kept.
pub as_many_entries : (part : RoomPart) (list : List Intent) (entries : List Entry) → intents_in entries ≡ in_turn (kept_in part list) → length entries ≡ length (kept_in part list)
as_many_entries part list entries is = sym (length-map entries (λ e. e.intent)) ∙ ap length is ∙ in_turn_many (kept_in part list)

-- No more entries count than there are.
pub few_entries : (part : RoomPart) (list : List Intent) (entries : List Entry) → intents_in entries ≡ in_turn (kept_in part list) → length entries ≤ length list
few_entries part list entries is =
    omega (arith, ap length is, length-map entries (λ e. e.intent), in_turn_many (kept_in part list), fewer_standing (fits_room part) list)

-- A copy is stepped as the table itself.
pub stepped_copy : (grounds : List Ground) (list : List Intent) (old copy : Table) (done : StepDone) → table_part grounds copy ≡ table_part grounds old → IsStepped grounds list copy done → IsStepped grounds list old done
stepped_copy grounds list old copy done same is = record {
  left = is.left;
  tick = is.tick ∙ ap (λ (part : RoomPart). (room_tick book list part).part) same;
  rising = is.rising;
  tiles = is.tiles;
  sums = is.sums;
  memory = is.memory;
  room = is.room;
  crossers = is.crossers;
  points = subst (λ (part : RoomPart). AreOf done.player done.points (room_tick book list part).points) same is.points;
}
