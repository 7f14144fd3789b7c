use Rattle.std.proofs.Common.{Bor, ◌==◌, Option, Some, option_map, [], sym, ap, ◌∙◌}
use Rattle.std.specs.List.{find}
use Rattle.std.specs.Option.{unwrap_or}
use Rattle.room_table.specs.declared.room_table.RoomTable.{RoomTable}
use Rattle.visible_view.specs.Sights.{SeenRoom, Sight}
use Rattle.visible_view.specs.Fields.{objects_at}
use Rattle.visible_view.specs.inner.Gathered.{shown_room, index_in}
use Rattle.visible_view.specs.declared.gather.RoomInView.{RoomInView}
use Rattle.visible_view.specs.inner.Places.{all_of, at_places}
use Rattle.visible_view.proofs.Told.{among, objects_told, room_told}
use Rattle.visible_view.proofs.view.View.table.Goals as goal

pub returns-in_err-seen : goal.returns-in_err-seen
returns-in_err-seen c =
    let found = c.room_of.ensures ∙ ap (find (λ (room : RoomInView). index_in room == c.args.room)) c.deref.ensures.value in
    let told = room_told c.args.room c.self.inside.rooms.items c.args.self.now (ap (λ (s : Sight). s.rooms) c.self.view_is) c.room_of.result found in
    let objects = objects_told c.args.room c.self.inside.rooms.items (at_places (all_of c.self.inside.listed) c.self.inside.places.items) c.args.self.now c.self.invariant.tables (ap (λ (s : Sight). s.objects) c.self.view_is) c.room_of.result found in
    record {
      seen = ap (option_map (λ (table : Bor RoomTable). table.now.objects)) c.from_residual.ensures
          ∙ sym (ap (option_map (λ (seen : SeenRoom). objects_at c.args.self.now c.args.room)) (told ∙ ap (option_map shown_room) c.in_err-seen.was));
      objects = ap (λ (table : Option (Bor RoomTable)). unwrap_or (option_map (λ (t : Bor RoomTable). t.now.objects) table) []) c.from_residual.ensures
          ∙ sym (objects ∙ ap among c.in_err-seen.was);
    }

pub returns : goal.returns
returns c =
    let found = c.room_of.ensures ∙ ap (find (λ (room : RoomInView). index_in room == c.args.room)) c.deref.ensures.value in
    let told = room_told c.args.room c.self.inside.rooms.items c.args.self.now (ap (λ (s : Sight). s.rooms) c.self.view_is) c.room_of.result found in
    let objects = objects_told c.args.room c.self.inside.rooms.items (at_places (all_of c.self.inside.listed) c.self.inside.places.items) c.args.self.now c.self.invariant.tables (ap (λ (s : Sight). s.objects) c.self.view_is) c.room_of.result found in
    let here = sym (objects ∙ ap among c.in_ok-seen.was) in
    record {
      seen = ap Some here ∙ sym (ap (option_map (λ (seen : SeenRoom). objects_at c.args.self.now c.args.room)) (told ∙ ap (option_map shown_room) c.in_ok-seen.was));
      objects = here;
    }
