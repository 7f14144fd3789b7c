use Rattle.std.proofs.Common.{take}
use Rattle.serde_json.specs.View.{items_view}
use Rattle.world_form.specs.Facts.{SayEach}
use Rattle.world_text.specs.inner.Drafts.{SaysDraft}
use Rattle.world_text.proofs.rooms.read_room_list.Given as goal

abbrev pub invariant-loop-place : goal.invariant-loop-place
invariant-loop-place l = SayEach SaysDraft (items_view (take l.place l.values)) l.drafts.items
