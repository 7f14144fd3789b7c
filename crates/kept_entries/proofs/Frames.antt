-- Which rooms a stored world has.
use Rattle.std.proofs.Common.{◌≡◌, ℕ, zero, suc, ◌<◌, ◌≤◌, true, false, List, [], ◌∷◌, length, is_some, option_map, refl, ap, ◌∙◌, arith}
use Rattle.std.specs.Prelude.{slice_get}
use Rattle.std.specs.FinMap.{contains_key}
use Rattle.object_store.specs.declared.world.Room.{Room}
use Rattle.object_store.specs.Stored.{Stored}
use Rattle.world_rules.specs.World.{Frame, listed_room, world_of}
use Rattle.world_rules.proofs.Lifting.{frame_stored}

abbrev frame_of : Room → Frame
frame_of room = (listed_room room).frame

there : (rooms : List Room) (index : ℕ) → index < length rooms → is_some (option_map frame_of (slice_get rooms index)) ≡ true
there [] index within = absurd (omega arith)
there (room ∷ rooms) zero within = refl
there (room ∷ rooms) (suc index) within = there rooms index (omega arith)

past : (rooms : List Room) (index : ℕ) → length rooms ≤ index → is_some (option_map frame_of (slice_get rooms index)) ≡ false
past [] index behind = refl
past (room ∷ rooms) zero behind = absurd (omega arith)
past (room ∷ rooms) (suc index) behind = past rooms index (omega arith)

pub has_room : (stored : Stored) (index : ℕ) → index < length stored.rooms → contains_key (world_of stored).rooms index ≡ true
has_room stored index within = ap is_some (frame_stored stored index) ∙ there stored.rooms index within

pub no_room : (stored : Stored) (index : ℕ) → length stored.rooms ≤ index → contains_key (world_of stored).rooms index ≡ false
no_room stored index behind = ap is_some (frame_stored stored index) ∙ past stored.rooms index behind
