-- What holds where a creep goes to a tile of another room.
use Rattle.std.proofs.Common.{◌≡◌, List, Some, None, refl, sym, ap, ◌∙◌, option_map, slice_get}
use Rattle.object_store.specs.declared.world.Room.{Room}
use Rattle.room_table.specs.Tables.{find_object, HasNoId, IsOnTile}
use Rattle.world_rules.proofs.TableParts.{has_the_id}
use Rattle.room_rules.specs.Crossed.{left_by}
use Rattle.exit_crossing.specs.Crossing.{AreIdsApart}
use Rattle.exit_crossing.specs.declared.leaving.Crosser.{Crosser}
use Rattle.exit_crossing.specs.declared.crossing.Landing.{Landing}
use Rattle.exit_crossing.specs.inner.Landings.{Lands, rooms_left}
use Rattle.exit_crossing.proofs.Rooms.{get_set_other}
use Rattle.exit_crossing.proofs.Mirrored.{mirrors_apart, mirrors_tile}

module _ (rooms : List Room) (crosser : Crosser) (at : Landing) (lands : Lands rooms crosser at) where
  pub name_there : lands.other.name ≡ lands.name
  name_there = let both : Some lands.other.name ≡ Some lands.name = sym (ap (option_map (λ (room : Room). room.name)) lands.entered) ∙ lands.named in cc

  pub rooms_apart : (at.room ≡ crosser.room) → ⊥
  rooms_apart same =
      let both : Some lands.other ≡ Some lands.was = sym lands.entered ∙ ap (slice_get rooms) same ∙ lands.left in
      let one : lands.other ≡ lands.was = cc in
      mirrors_apart lands.was.name lands.creep.x lands.creep.y lands.name at.x at.y lands.mirrors (sym name_there ∙ ap (λ (room : Room). room.name) one)

  -- the other room is as it was when the creep left
  pub other_stays : slice_get (rooms_left rooms crosser.room crosser.id lands.was) at.room ≡ Some lands.other
  other_stays = get_set_other rooms crosser.room at.room (left_by crosser.id lands.was) rooms_apart ∙ lands.entered

  pub id_of_creep : lands.creep.id ≡ crosser.id
  id_of_creep = has_the_id crosser.id lands.was.table.objects lands.creep lands.stood

  pub on_tile : IsOnTile (record lands.creep { x = at.x; y = at.y })
  on_tile = let to = mirrors_tile lands.was.name lands.creep.x lands.creep.y lands.name at.x at.y lands.mirrors in record { column = to.column; row = to.row }

  pub absent_there : AreIdsApart rooms → HasNoId crosser.id lands.other.table.objects
  absent_there ids = elim (find_object crosser.id lands.other.table.objects) as (λ found. find_object crosser.id lands.other.table.objects ≡ found → found ≡ None) [
    | None ↦ λ is. refl
    | Some object ↦ λ is. absurd (rooms_apart (ids at.room crosser.room crosser.id lands.other lands.was lands.entered lands.left (object, is) (lands.creep, lands.stood)))
  ] refl

  pub same_other : (other : Room) → slice_get (rooms_left rooms crosser.room crosser.id lands.was) at.room ≡ Some other → lands.other ≡ other
  same_other other is = let both : Some lands.other ≡ Some other = sym other_stays ∙ is in cc
