use Rattle.std.proofs.Common.{Bor, ◌==◌, option_map, sym, ap, ◌∙◌}
use Rattle.std.specs.List.{find}
use Rattle.room_table.specs.Controllers.{controller_among}
use Rattle.room_table.specs.declared.object.Object.{Object}
use Rattle.visible_view.specs.Sights.{Sight}
use Rattle.visible_view.specs.inner.Gathered.{index_in}
use Rattle.visible_view.specs.declared.gather.RoomInView.{RoomInView}
use Rattle.visible_view.specs.inner.Places.{all_of, at_places}
use Rattle.visible_view.proofs.Told.{among, controller_found, objects_told}
use Rattle.visible_view.proofs.view.View.controller.Goals as goal

pub returns-in_err-room_of : goal.returns-in_err-room_of
returns-in_err-room_of c =
    let found = c.room_of.ensures ∙ ap (find (λ (room : RoomInView). index_in room == c.args.room)) c.deref.ensures.value in
    let objects = objects_told c.args.room c.self.inside.rooms.items (at_places (all_of c.self.inside.listed) c.self.inside.places.items) c.args.self.now c.self.invariant.tables (ap (λ (s : Sight). s.objects) c.self.view_is) c.room_of.result found in
    ap (option_map (λ (object : Bor Object). object.now)) c.from_residual.ensures ∙ sym (controller_found c.args.room c.args.self.now.objects ∙ ap controller_among (objects ∙ ap among c.in_err-room_of.was))

pub returns : goal.returns
returns c =
    let found = c.room_of.ensures ∙ ap (find (λ (room : RoomInView). index_in room == c.args.room)) c.deref.ensures.value in
    let objects = objects_told c.args.room c.self.inside.rooms.items (at_places (all_of c.self.inside.listed) c.self.inside.places.items) c.args.self.now c.self.invariant.tables (ap (λ (s : Sight). s.objects) c.self.view_is) c.room_of.result found in
    c.controller.ensures ∙ sym (controller_found c.args.room c.args.self.now.objects ∙ ap controller_among (objects ∙ ap among c.in_ok-room_of.was))
