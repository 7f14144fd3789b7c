-- The places at which a view's objects stand among all of the world. For private clauses.
use Rattle.std.specs.Prelude.{◌≡◌, ℕ, suc, ◌^◌, ◌<◌, Bool, if◌then◌else◌, List, [], ◌∷◌, length, map}
use Rattle.std.specs.Prelude.{slice_get, option_map}
use Rattle.std.specs.List.{AllByRecursion, count_by, filter_map}
use Rattle.std.specs.Option.{unwrap_or}
use Rattle.std.specs.FinMap.{entries}
use Rattle.room_table.specs.declared.standing.Standing.{Standing}
use Rattle.room_table.proofs.Rising.{Rises}
use Rattle.world_rules.specs.World.{Objects, Placed}
use Rattle.visible_view.specs.declared.gather.RoomInView.{RoomInView}
use Rattle.visible_view.specs.declared.listed.Listed.{Listed}
use Rattle.visible_view.specs.declared.listed.Listed.TheVariants.{Own, Lent}
use Rattle.visible_view.specs.inner.Gathered.{index_in, is_controller_of, is_flagged, HaveTables}

-- ---- all objects of the world

abbrev pub objects_of : Listed → Objects
objects_of (Own roster) = roster
objects_of (Lent roster) = roster.now

-- in rising id
abbrev pub all_of : Listed → List Placed
all_of listed = map (λ entry. entry.1) (entries (objects_of listed))

-- ---- places among them

-- the objects at these places
abbrev pub at_places : List Placed → List ℕ → List Placed
at_places all places = filter_map (slice_get all) places

-- the id of the object at a place
abbrev pub id_at : List Placed → ℕ → ℕ
id_at all place = unwrap_or (option_map (λ placed. placed.object.id) (slice_get all place)) 0

-- the places of the objects whose rooms are flagged, where the first has this place
abbrev pub flagged_from : List Bool → ℕ → List Standing → List ℕ
flagged_from flags place [] = []
flagged_from flags place (standing ∷ later) =
    if is_flagged flags standing then place ∷ flagged_from flags (suc place) later
    else flagged_from flags (suc place) later

-- ---- what a view keeps

-- The rooms rise by their index and the places by the ids of their objects, their numbers fit, and the
-- objects are those of the rooms' tables. So many of them are controllers of the player.
pub record IsKept (player controllers : ℕ) (rooms : List RoomInView) (all : List Placed) (places : List ℕ)
    : Type 0 where
  pub rising : Rises index_in rooms
  pub ids : Rises (id_at all) places
  pub below : AllByRecursion (λ place. place < length all) places
  pub few_rooms : length rooms < 2 ^ 32
  pub few_places : length places < 2 ^ 32
  pub tables : HaveTables rooms (at_places all places)
  pub counted :
      controllers ≡ count_by (λ placed. is_controller_of player placed.object) (at_places all places)
