use Rattle.std.proofs.Common.{◌==◌, option_map, option_and_then, sym, ap, ◌∙◌}
use Rattle.std.specs.List.{find}
use Rattle.visible_view.specs.Sights.{Sight}
use Rattle.visible_view.specs.Fields.{ground_in}
use Rattle.visible_view.specs.inner.Gathered.{shown_room, index_in}
use Rattle.visible_view.specs.declared.gather.RoomInView.{RoomInView}
use Rattle.visible_view.proofs.Told.{room_told}
use Rattle.visible_view.proofs.view.View.ground.Goals as goal

pub returns-in_err-seen : goal.returns-in_err-seen
returns-in_err-seen c =
    let told = room_told c.args.room c.self.inside.rooms.items c.args.self.now (ap (λ (s : Sight). s.rooms) c.self.view_is) c.room_of.result (c.room_of.ensures ∙ ap (find (λ (room : RoomInView). index_in room == c.args.room)) c.deref.ensures.value) in
    c.from_residual.ensures ∙ sym (ap (option_and_then (ground_in c.args.x c.args.y)) (told ∙ ap (option_map shown_room) c.in_err-seen.was))

pub returns : goal.returns
returns c =
    let told = room_told c.args.room c.self.inside.rooms.items c.args.self.now (ap (λ (s : Sight). s.rooms) c.self.view_is) c.room_of.result (c.room_of.ensures ∙ ap (find (λ (room : RoomInView). index_in room == c.args.room)) c.deref.ensures.value) in
    c.ground_of.ensures ∙ sym (ap (option_and_then (ground_in c.args.x c.args.y)) (told ∙ ap (option_map shown_room) c.in_ok-seen.was))
