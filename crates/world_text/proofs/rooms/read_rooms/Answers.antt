use Rattle.std.proofs.lemmas.Result.{IfOk-weaker, MatchResult-weaker}
use Rattle.serde_json.specs.View.{view, items_view}
use Rattle.world_form.specs.declared.field.Field.TheVariants as fields
use Rattle.world_form.specs.FirstFaults.{room_checks}
use Rattle.world_text.proofs.Parts.{rooms_said}
use Rattle.world_text.proofs.Turns.{list_fault}
use Rattle.world_text.proofs.rooms.read_rooms.Goals as goal

pub returns-clause-ok : goal.returns-clause-ok
returns-clause-ok c =
    let there = c.in_ok-values.ensures.ok in
    let values = items_view c.in_ok-values.values.now in
    IfOk-weaker c.read_room_list.result _ _ (λ drafts each. let said = rooms_said values drafts.items each in (said.0, (there.0, there.1, (values, there.2, said.1)), said.2)) c.read_room_list.ensures.ok

pub returns-clause-err : goal.returns-clause-err
returns-clause-err c =
    MatchResult-weaker c.read_room_list.result c.read_room_list.ensures.err (λ drafts h. h) (λ e first other. list_fault fields.Rooms room_checks 0 (view c.args.part.now) (items_view c.in_ok-values.values.now) e c.in_ok-values.ensures.ok (first other))
