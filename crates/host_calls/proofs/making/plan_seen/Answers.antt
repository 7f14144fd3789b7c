use Rattle.std.proofs.Common.{◌≡◌, ◌+◌, ◌==◌, true, Option, Some, None, Bor, option_map, option_and_then, slice_get, length, refl, sym, ap, subst, ◌∙◌, w64, FitsSigned}
use Rattle.std.specs.List.{find}
use Rattle.std.specs.Option.{is_some}
use Rattle.std.proofs.lemmas.Int.{to_z-of_z}
use Rattle.game_tables.specs.Numbers.{kind_number}
use Rattle.game_tables.specs.declared.kind.Kind.{Kind}
use Rattle.room_table.specs.Stores.{site_kinds}
use Rattle.room_terrain.specs.declared.terrain.Terrain.{Terrain}
use Rattle.object_store.specs.declared.account.Account.{Account}
use Rattle.room_table.specs.declared.room_table.RoomTable.{RoomTable}
use Rattle.intent_book.specs.Records.{Record}
use Rattle.game_tables.specs.declared.action.Action.TheVariants.{CreateSite}
use Rattle.world_rules.specs.Sites.{count_of}
use Rattle.action_checks.specs.declared.plans.Plan.{Plan}
use Rattle.counted_record.specs.Others.{others_in, others_of}
use Rattle.sight_census.specs.declared.told.Told.{Told}
use Rattle.sight_census.specs.Censuses.{Census, built, told_in}
use Rattle.visible_view.specs.Sights.{SeenRoom, Sight}
use Rattle.visible_view.specs.Fields.{objects_at, room_at}
use Rattle.host_calls.specs.Desks.{as_index, signed_32}
use Rattle.host_calls.specs.inner.Wishes.{IsPlanIn}
use Rattle.host_calls.proofs.Planned.{built_counts, no_room, the_room, told_there}
use Rattle.host_calls.proofs.making.plan_seen.Goals as goal

pub returns-in_err-place-clause-plan : goal.returns-in_err-place-clause-plan
returns-in_err-place-clause-plan c = λ desk sees books.
    let view = c.args.view.now in
    let room : FitsSigned w64 c.args.room = c.ranges.room in
    let n = c.in_ok-index_32.field-0 in
    let index : as_index (signed_32 c.args.room) ≡ Some n = sym (simp to_z-of_z at c.index_32.ensures) ∙ c.in_ok-index_32.was in
    let here = ap (option_and_then (room_at view)) index in
    let none = here ∙ no_room view n (sym c.place.ensures ∙ c.in_err-place.was) in
    subst (λ (seen : Option SeenRoom). IsPlanIn desk c.args.wish.now c.args.x c.args.y seen c.from_residual-in_err-place.result) (sym none) c.from_residual-in_err-place.ensures

pub returns-in_err-told-clause-plan : goal.returns-in_err-told-clause-plan
returns-in_err-told-clause-plan c = λ desk sees books.
    let view = c.args.view.now in
    let room : FitsSigned w64 c.args.room = c.ranges.room in
    let n = c.in_ok-index_32.field-0 in
    let index : as_index (signed_32 c.args.room) ≡ Some n = sym (simp to_z-of_z at c.index_32.ensures) ∙ c.in_ok-index_32.was in
    let here = ap (option_and_then (room_at view)) index in
    let place = c.in_ok-place.place in
    let there = the_room view n place (sym c.place.ensures ∙ c.in_ok-place.was) in
    let counted = ap (λ (k : Census). slice_get k.rooms place) c.requires.census ∙ told_there view n place there.0 there.1 in
    let gone : None ≡ Some (told_in view there.0) = sym c.in_err-told.was ∙ c.room.ensures.told ∙ counted in
    absurd (cc)

pub returns-in_err-terrain_at-clause-plan : goal.returns-in_err-terrain_at-clause-plan
returns-in_err-terrain_at-clause-plan c = λ desk sees books.
    let view = c.args.view.now in
    let room : FitsSigned w64 c.args.room = c.ranges.room in
    let n = c.in_ok-index_32.field-0 in
    let index : as_index (signed_32 c.args.room) ≡ Some n = sym (simp to_z-of_z at c.index_32.ensures) ∙ c.in_ok-index_32.was in
    let here = ap (option_and_then (room_at view)) index in
    let place = c.in_ok-place.place in
    let there = the_room view n place (sym c.place.ensures ∙ c.in_ok-place.was) in
    let counted = ap (λ (k : Census). slice_get k.rooms place) c.requires.census ∙ told_there view n place there.0 there.1 in
    let gone = sym (ap (option_map (λ (t : Bor Terrain). t.now)) c.in_err-terrain_at.was) ∙ c.terrain_at.ensures ∙ ap (option_map (λ (seen : SeenRoom). seen.grounds)) there.1 in
    absurd (cc)

pub returns-clause-plan : goal.returns-clause-plan
returns-clause-plan c = λ desk sees books.
    let view = c.args.view.now in
    let room : FitsSigned w64 c.args.room = c.ranges.room in
    let n = c.in_ok-index_32.field-0 in
    let index : as_index (signed_32 c.args.room) ≡ Some n = sym (simp to_z-of_z at c.index_32.ensures) ∙ c.in_ok-index_32.was in
    let here = ap (option_and_then (room_at view)) index in
    let place = c.in_ok-place.place in
    let there = the_room view n place (sym c.place.ensures ∙ c.in_ok-place.was) in
    let counted = ap (λ (k : Census). slice_get k.rooms place) c.requires.census ∙ told_there view n place there.0 there.1 in
    let both : Some c.in_ok-told.told ≡ Some (told_in view there.0) = sym c.in_ok-told.was ∙ c.room.ensures.told ∙ counted in
    let told : c.in_ok-told.told ≡ told_in view there.0 = cc in
    let lent = sym (ap (option_map (λ (t : Bor Terrain). t.now)) c.in_ok-terrain_at.was) ∙ c.terrain_at.ensures ∙ ap (option_map (λ (seen : SeenRoom). seen.grounds)) there.1 in
    let grounds : c.in_ok-terrain_at.field-0.now ≡ there.0.grounds = cc in
    let listed = sym (ap (option_map (λ (t : Bor RoomTable). t.now.objects)) c.in_ok-table_at.was) ∙ c.table_at.ensures ∙ ap (option_map (λ (seen : SeenRoom). objects_at view seen.index)) there.1 in
    let around : c.in_ok-table_at.field-0.now.objects ≡ objects_at view there.0.index = cc in
    let sight = sym sees in
    let x : FitsSigned w64 c.args.x = c.ranges.x in
    let y : FitsSigned w64 c.args.y = c.ranges.y in
    let column = simp to_z-of_z at c.coordinate_of.ensures in
    let row = simp to_z-of_z at c.coordinate_of-2.ensures in
    let wish = c.args.wish.now in
    let player = ap (λ (a : Account). a.player) c.account.ensures ∙ ap (λ (s : Sight). s.account.player) sight in
    let recorded = c.sites_elsewhere-elsewhere.ensures.in_room ∙ ap (λ (r : Record). length (others_in wish.actor wish.amount r.entries)) (sym books) in
    let others = c.from-2.ensures ∙ c.sites_elsewhere-elsewhere.ensures.in_all ∙ ap (λ (r : Record). length (others_of CreateSite wish.actor r.entries)) (sym books) in
    let own = c.from.ensures ∙ c.sites.ensures ∙ ap (λ (s : Sight). s.sites) sight in
    let seen = around ∙ ap (λ (s : Sight). objects_at s there.0.index) sight in
    let counts : is_some (find (λ (kind : Kind). kind_number kind == wish.amount) site_kinds) ≡ true → c.built.result ≡ count_of wish.amount c.in_ok-table_at.field-0.now.objects = λ is.
    c.built.ensures ∙ ap (λ (t : Told). built t wish.amount) told ∙ built_counts view.account.player wish.amount (objects_at view there.0.index) is ∙ ap (count_of wish.amount) (sym around) in
    let plan : Plan = record {
      player = c.account.result.now.player;
      x = c.coordinate_of.result;
      y = c.coordinate_of-2.result;
      number = wish.amount;
      ground = c.in_ok-terrain_at.field-0;
      around = c.in_ok-table_at.field-0;
      standing = c.built.result;
      recorded = c.sites_elsewhere-elsewhere.result.in_room;
      sites = c.from.result + c.from-2.result;
    } in
    subst (λ (found : Option SeenRoom). IsPlanIn desk wish c.args.x c.args.y found (Some plan)) (sym (here ∙ there.2))
    (plan, refl, (λ i. record { player = player i; x = column i; y = row i; number = wish.amount; grounds = grounds i; around = seen i; recorded = recorded i; sites = own i + others i }), counts)
