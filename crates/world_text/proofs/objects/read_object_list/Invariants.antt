use Rattle.std.proofs.Common.{take}
use Rattle.serde_json.specs.View.{items_view}
use Rattle.world_form.specs.Facts.{SayEach, SaysObject}
use Rattle.world_text.proofs.objects.read_object_list.Given as goal

abbrev pub invariant-loop-place : goal.invariant-loop-place
invariant-loop-place l = SayEach SaysObject (items_view (take l.place l.values)) l.objects.items
