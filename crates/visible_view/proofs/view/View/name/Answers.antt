use Rattle.std.proofs.Common.{◌==◌, option_map, sym, ap, ◌∙◌}
use Rattle.std.specs.List.{find}
use Rattle.visible_view.specs.Sights.{SeenRoom, Sight}
use Rattle.visible_view.specs.inner.Gathered.{shown_room, index_in}
use Rattle.visible_view.specs.declared.gather.RoomInView.{RoomInView}
use Rattle.visible_view.proofs.Told.{room_told}
use Rattle.visible_view.proofs.view.View.name.Goals as goal

pub returns-in_err-seen : goal.returns-in_err-seen
returns-in_err-seen c =
    let told = room_told c.args.room c.self.inside.rooms.items c.args.self.now (ap (λ (s : Sight). s.rooms) c.self.view_is) c.room_of.result (c.room_of.ensures ∙ ap (find (λ (room : RoomInView). index_in room == c.args.room)) c.deref.ensures.value) in
    c.from_residual.ensures ∙ sym (ap (option_map (λ (room : SeenRoom). room.name)) (told ∙ ap (option_map shown_room) c.in_err-seen.was))

pub returns : goal.returns
returns c =
    let told = room_told c.args.room c.self.inside.rooms.items c.args.self.now (ap (λ (s : Sight). s.rooms) c.self.view_is) c.room_of.result (c.room_of.ensures ∙ ap (find (λ (room : RoomInView). index_in room == c.args.room)) c.deref.ensures.value) in
    sym (ap (option_map (λ (room : SeenRoom). room.name)) (told ∙ ap (option_map shown_room) c.in_ok-seen.was))
