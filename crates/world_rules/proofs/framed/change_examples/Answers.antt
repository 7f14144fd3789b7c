-- What the changes that rules are made of do in worked examples.
use Rattle.std.proofs.Common.{ℕ, List, [], ◌∷◌, ap, ◌∙◌}
use Rattle.std.specs.Cmp.{nat_cmp_total}
use Rattle.std.specs.FinMap.{get-from_entries}
use Rattle.room_table.specs.declared.object.Object.{Object}
use Rattle.world_rules.specs.RoomParts.{RoomPart}
use Rattle.world_rules.specs.Changes.{put}
use Rattle.world_rules.specs.FrameExamples.{by_id, creep_with, room_of_objects}
use Rattle.world_rules.proofs.Listed.{insert_listed}
use Rattle.world_rules.proofs.framed.change_examples.Goals as goal

abbrev both : List (ℕ × Object)
both = by_id (creep_with 1 0 ∷ creep_with 2 0 ∷ [])

abbrev room : RoomPart
room = room_of_objects 4 (creep_with 1 0 ∷ creep_with 2 0 ∷ [])

pub returns-clause-placed : goal.returns-clause-placed
returns-clause-placed c =
    ap (put (creep_with 1 5) room) (get-from_entries nat_cmp_total both 1)
    ∙ (λ i. record room { objects = insert_listed both 1 (creep_with 1 5) i })

pub returns-clause-absent : goal.returns-clause-absent
returns-clause-absent c = ap (put (creep_with 3 5) room) (get-from_entries nat_cmp_total both 3)
