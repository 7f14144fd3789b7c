use Rattle.std.proofs.Common.{Bor, Bool, ◌≡◌, ◌<◌, ◌∙◌, ℕ, List, Some, map, option_map, arith, sym, ap, subst}
use Rattle.std.specs.Prelude.{length}
use Rattle.std.specs.FinMap.{entries}
use Rattle.std.specs.List.{AllByRecursion, count_by, filter}
use Rattle.std.proofs.lemmas.List.{length-map}
use Rattle.object_store.specs.declared.account.Account.{Account}
use Rattle.object_store.specs.declared.world.Room.{Room}
use Rattle.object_store.specs.Stored.{find_account}
use Rattle.room_table.proofs.Rising.{Rises}
use Rattle.world_rules.specs.World.{Objects, Placed, shown, world_of}
use Rattle.world_roster.specs.Rosters.{shown_entry}
use Rattle.visible_view.specs.inner.Gathered.{is_controller_of, is_flagged, is_seen, is_site_of, shown_room, IsGathered}
use Rattle.visible_view.specs.inner.Places.{all_of, at_places, flagged_from, id_at}
use Rattle.visible_view.proofs.Seen.{controllers_seen, listed_few, sight_seen}
use Rattle.visible_view.proofs.Places.{flagged_below, flagged_few, flagged_rise, flagged_shown}
use Rattle.visible_view.proofs.Tables.{tables_seen}
use Rattle.visible_view.proofs.Few.{few_counted, few_listed, few_rooms}
use Rattle.visible_view.proofs.Told.{found_player}
use Rattle.visible_view.proofs.view.View.by.Goals as goal

pub flagged_places-requires : goal.flagged_places-requires
flagged_places-requires c =
    let are : map shown_entry c.list.result.now ≡ entries (world_of c.args.world.now).objects = c.list.ensures.entries ∙ ap (λ (objects : Objects). entries objects) c.requires.listed in
    omega (arith, listed_few c.args.world.now c.requires.sound c.args.player c.list.result.now are, few_listed c.args.world.now c.requires.sound c.requires.rooms)

pub overflow_cast-result : goal.overflow_cast-result
overflow_cast-result c =
    let so = subst (λ (rooms : List Room). IsGathered c.args.player rooms c.in_ok-seen.seen) c.room_list.ensures.all c.in_ok-seen.ensures in
    omega (arith, so.sites, few_counted c.args.world.now c.requires.sound c.requires.rooms (is_site_of c.args.player))

pub overflow_cast-result-2 : goal.overflow_cast-result-2
overflow_cast-result-2 c =
    let so = subst (λ (rooms : List Room). IsGathered c.args.player rooms c.in_ok-seen.seen) c.room_list.ensures.all c.in_ok-seen.ensures in
    omega (arith, so.controllers, few_counted c.args.world.now c.requires.sound c.requires.rooms (is_controller_of c.args.player))

pub invariant_of-result : goal.invariant_of-result
invariant_of-result c =
    let stored = c.args.world.now in
    let seen = c.in_ok-seen.seen in
    let places = c.in_ok-places.places.items in
    let so = subst (λ (rooms : List Room). IsGathered c.args.player rooms seen) c.room_list.ensures.all c.in_ok-seen.ensures in
    let listed = c.list.result.now in
    let are : map shown_entry listed ≡ entries (world_of stored).objects = c.list.ensures.entries ∙ ap (λ (objects : Objects). entries objects) c.requires.listed in
    let told = c.list.ensures.all in
    let flags = map (is_seen c.args.player) stored.rooms in
    let is : places ≡ flagged_from flags 0 listed = c.in_ok-places.ensures ∙ ap (λ (bs : List Bool). flagged_from bs 0 listed) (c.deref.ensures.value ∙ so.flags) in
    let shows : at_places (all_of c.args.listed) places ≡ map shown (filter (is_flagged flags) listed) = (λ i. at_places (sym told i) (is i)) ∙ flagged_shown flags listed in
    let account = c.unwrap-account.result.now in
    let found : find_account c.args.player stored.accounts ≡ Some account = sym c.account.ensures ∙ ap (option_map (λ (a : Bor Account). a.now)) c.unwrap-account.ensures in
    let mine = found_player c.args.player stored.accounts account found in
    let long : length (map shown listed) ≡ length listed = length-map listed shown in
    record {
      rising = so.rising;
      ids = subst (λ (ps : List ℕ). Rises (id_at (all_of c.args.listed)) ps) (sym is) (subst (λ (all : List Placed). Rises (id_at all) (flagged_from flags 0 listed)) told (flagged_rise flags listed c.list.ensures.rising));
      below = subst (λ (ps : List ℕ). AllByRecursion (λ place. place < length (all_of c.args.listed)) ps) (sym is) (subst (λ (all : List Placed). AllByRecursion (λ place. place < length all) (flagged_from flags 0 listed)) told (flagged_below flags (length (map shown listed)) 0 listed (omega arith)));
      few_rooms = omega (arith, c.requires.rooms, few_rooms c.args.player 0 stored.rooms, length-map seen.rooms.items shown_room, ap length so.shown);
      few_places = omega (arith, ap length is, flagged_few flags 0 listed, listed_few stored c.requires.sound c.args.player listed are, few_listed stored c.requires.sound c.requires.rooms);
      tables = tables_seen stored c.requires.sound c.args.player listed are (at_places (all_of c.args.listed) places) shows seen.rooms.items so.tables;
      counted = so.controllers ∙ sym (controllers_seen stored c.requires.sound c.args.player listed are (at_places (all_of c.args.listed) places) shows) ∙ ap (λ (n : ℕ). count_by (λ (p : Placed). is_controller_of n p.object) (at_places (all_of c.args.listed) places)) (sym mine);
    }

pub returns : goal.returns
returns c =
    let stored = c.args.world.now in
    let seen = c.in_ok-seen.seen in
    let places = c.in_ok-places.places.items in
    let so = subst (λ (rooms : List Room). IsGathered c.args.player rooms seen) c.room_list.ensures.all c.in_ok-seen.ensures in
    let listed = c.list.result.now in
    let are : map shown_entry listed ≡ entries (world_of stored).objects = c.list.ensures.entries ∙ ap (λ (objects : Objects). entries objects) c.requires.listed in
    let flags = map (is_seen c.args.player) stored.rooms in
    let is : places ≡ flagged_from flags 0 listed = c.in_ok-places.ensures ∙ ap (λ (bs : List Bool). flagged_from bs 0 listed) (c.deref.ensures.value ∙ so.flags) in
    let shows : at_places (all_of c.args.listed) places ≡ map shown (filter (is_flagged flags) listed) = (λ i. at_places (sym c.list.ensures.all i) (is i)) ∙ flagged_shown flags listed in
    let account = c.unwrap-account.result.now in
    let found : find_account c.args.player stored.accounts ≡ Some account = sym c.account.ensures ∙ ap (option_map (λ (a : Bor Account). a.now)) c.unwrap-account.ensures in
    let same = sight_seen stored c.requires.sound c.args.player listed are (at_places (all_of c.args.listed) places) shows account (found_player c.args.player stored.accounts account found) seen.rooms.items seen.sites so.shown so.sites in
    (account, found, rw c.tick.ensures same)
