-- The rules of objects are the rules of each room, and that no number is there more often than may be.
use Rattle.std.proofs.Common.{◌≡◌, ◌≢◌, ◌/◌, ◌%◌, ◌^◌, ◌<◌, ◌≤◌, ◌==◌, ◌&&◌, ◌⊎◌, ℕ, zero, suc, Bool, true, false, cond, List, [], ◌∷◌, map, Some, refl, sym, ap, subst, ◌∙◌, inl, inr, arith}
use Rattle.std.specs.Prelude.{slice_get}
use Rattle.std.specs.List.{AllByRecursion, count_by}
use Rattle.std.proofs.lemmas.Bool.{and_parts, cases_lt, eqb-true, eq-eqb}
use Rattle.std.proofs.lemmas.Option.{same_Some}
use Rattle.game_tables.specs.declared.kind.Kind.{Kind}
use Rattle.game_tables.specs.declared.kind.Kind.TheVariants as kinds
use Rattle.game_tables.specs.Kinds.{is_controller, is_site, may_have_owner}
use Rattle.game_tables.specs.Limits.{most_sites}
use Rattle.object_store.specs.declared.account.Account.{Account}
use Rattle.room_table.specs.declared.object.Object.{Object}
use Rattle.object_store.specs.declared.world.Room.{Room}
use Rattle.object_store.specs.Stored.{Stored, HasAccount, HaveRisingTables, find_account}
use Rattle.room_table.specs.Tables.{IsOnTile, IsRising}
use Rattle.room_table.proofs.Rising.{non_decreasing}
use Rattle.world_rules.specs.declared.rule.Rule.{Rule}
use Rattle.world_rules.specs.declared.rule.Rule.TheVariants as rules
use Rattle.world_rules.specs.Rules.{Broken, IsInRangeAs, IsOnWrongTile, IsSite}
use Rattle.world_rules.specs.World.{listed_room, listing_of, placed}
use Rattle.rule_check.specs.declared.view.RoomView.{RoomView}
use Rattle.rule_check.specs.Kept.{AreOnTiles, IsBlocked, KeepsObjectRules, KeepsRoomRules, is_of_objects}
use Rattle.rule_check.specs.Views.{IsOrdered, viewed, viewed_room}
use Rattle.rule_check.specs.inner.Checks.{AnyObject, AnyOf, HasWrongHolder, IsListed, owners_in, IsUnborn as HasNoSerial}
use Rattle.rule_check.proofs.Breaks.{controllers_breaks, controllers_broken, each_once, owner_breaks, owner_broken, range_breaks, range_broken, serial_breaks, serial_broken, shared_breaks, shared_broken, sites_breaks, sites_broken, tile_breaks, tile_broken}
use Rattle.rule_check.proofs.Found.{mapped_at, mapped_back, times as times_there}
use Rattle.rule_check.proofs.Minima.{all_at}
use Rattle.rule_check.proofs.Placing.{EachOnce, count_owners_in, count_placed, the_world}
use Rattle.rule_check.proofs.Ticks.{any_tick}
use Rattle.rule_check.proofs.Twice.{one_of}
use Rattle.changed_rules.specs.declared.counted.Counted.{Counted}
use Rattle.changed_rules.specs.declared.counted.Counted.TheVariants.{Ids, SiteOwners}
use Rattle.changed_rules.specs.Census.{IsUnborn, IsWronglyHeld, KeepsElsewhere, KeepsHere}
use Rattle.changed_rules.specs.Counts.{HaveFewSites, is_under, most_of, times, times_in}
use Rattle.changed_rules.proofs.Lists.{all_from, sum_map, sum_some}

-- ---- stored rooms as the tests of the rules look at them

abbrev as_view : Room → RoomView
as_view room = record {
  name = room.name;
  terrain = record { ref_ptr = (0, 0); now = room.terrain };
  next = room.table.next;
  objects = record { ref_ptr = (0, 0); now = room.table.objects };
}

abbrev views : List Room → List RoomView
views rooms = map as_view rooms

listed_views : (rooms : List Room) → map viewed_room (views rooms) ≡ map listed_room rooms
listed_views [] = refl
listed_views (room ∷ rooms) = ap (λ rest. listed_room room ∷ rest) (listed_views rooms)

ordered_views : (rooms : List Room) → HaveRisingTables rooms → AreOnTiles rooms → AllByRecursion IsOrdered (views rooms)
ordered_views [] rising tiles = tt
ordered_views (room ∷ rooms) rising tiles = (record { order = non_decreasing (λ object. object.id) room.table.objects rising.0; tiles = tiles.0 }, ordered_views rooms rising.1 tiles.1)

viewed_listing : (world : Stored) → viewed (views world.rooms) world.accounts world.tick ≡ listing_of world
viewed_listing world = ap (λ rooms. record { rules = 1; tick = world.tick; rooms = rooms; accounts = world.accounts }) (listed_views world.rooms)

as_listed : (world : Stored) (rule : Rule) (n : ℕ) → Broken rule n (the_world (views world.rooms) world.accounts) → Broken rule n (listing_of world)
as_listed world rule n broken = subst (Broken rule n) (viewed_listing world) (any_tick (views world.rooms) world.accounts 0 world.tick rule n broken)

as_viewed : (world : Stored) (rule : Rule) (n : ℕ) → Broken rule n (listing_of world) → Broken rule n (the_world (views world.rooms) world.accounts)
as_viewed world rule n broken = any_tick (views world.rooms) world.accounts world.tick 0 rule n (subst (Broken rule n) (sym (viewed_listing world)) broken)

-- a room of which one says something
any_room : (so : RoomView → ℕ → Type 0) (rooms : List Room) (n : ℕ) → AnyOf so (views rooms) n → (i : ℕ) × (room : Room) × (slice_get rooms i ≡ Some room) × so (as_view room) n
any_room so rooms n any =
    let back = mapped_back as_view rooms any.index any.one any.place in
    (any.index, back.0, back.1, subst (λ (view : RoomView). so view n) (sym back.2) any.is)

-- ---- ids, players and numbers

unborn_viewed : (rooms : List Room) (id : ℕ) → IsUnborn rooms id → HasNoSerial (views rooms) id
unborn_viewed rooms id is =
    elim is [
      | inl late ↦ inl (λ view at. let back = mapped_back as_view rooms (id / 2 ^ 32) view at in subst (λ (v : RoomView). v.next ≤ id % 2 ^ 32) back.2 (late back.0 back.1))
      | inr zero_serial ↦ inr zero_serial
    ]

unborn_stored : (rooms : List Room) (id : ℕ) → HasNoSerial (views rooms) id → IsUnborn rooms id
unborn_stored rooms id is =
    elim is [
      | inl late ↦ inl (λ room at. late (as_view room) (mapped_at as_view rooms (id / 2 ^ 32) room at))
      | inr zero_serial ↦ inr zero_serial
    ]

pub has_listed : (accounts : List Account) (player : ℕ) → HasAccount player accounts → IsListed accounts player
has_listed [] player has = absurd (let none = has.1 in cc)
has_listed (first ∷ accounts) player has =
    elim (first.player == player) as (λ b. (first.player == player) ≡ b → cond b (Some first) (find_account player accounts) ≡ Some has.0 → IsListed (first ∷ accounts) player) [
      | true ↦ λ is found. record { index = 0; account = first; place = refl; is = eqb-true first.player player is }
      | false ↦ λ is found. let rest = has_listed accounts player (has.0, found) in record { index = suc rest.index; account = rest.account; place = rest.place; is = rest.is }
    ] refl has.1

has_at : (accounts : List Account) (player index : ℕ) (account : Account) → slice_get accounts index ≡ Some account → account.player ≡ player → HasAccount player accounts
has_at [] player index account at is = absurd cc
has_at (first ∷ accounts) player zero account at is = (first, ap (λ (b : Bool). cond b (Some first) (find_account player accounts)) (eq-eqb first.player player (ap (λ (a : Account). a.player) (same_Some first account at) ∙ is)))
has_at (first ∷ accounts) player (suc index) account at is =
    elim (first.player == player) as (λ b. (first.player == player) ≡ b → HasAccount player (first ∷ accounts)) [
      | true ↦ λ tied. (first, ap (λ (b : Bool). cond b (Some first) (find_account player accounts)) tied)
      | false ↦ λ tied. let rest = has_at accounts player index account at is in (rest.0, ap (λ (b : Bool). cond b (Some first) (find_account player accounts)) tied ∙ rest.1)
    ] refl

pub listed_has : (accounts : List Account) (player : ℕ) → IsListed accounts player → HasAccount player accounts
listed_has accounts player is = has_at accounts player is.index is.account is.place is.is

-- what is wrongly held stays so where no more players have accounts
pub held_less : (object : Object) (Has Listed : ℕ → Type 0) → ((player : ℕ) → Listed player → Has player)
    → (((object.owner ≢ 0) × ((Has object.owner → ⊥) ⊎ (may_have_owner object.kind ≡ false))) ⊎ ((object.other ≢ 0) × ((Has object.other → ⊥) ⊎ (is_controller object.kind ≡ false))))
    → ((object.owner ≢ 0) × ((Listed object.owner → ⊥) ⊎ (may_have_owner object.kind ≡ false))) ⊎ ((object.other ≢ 0) × ((Listed object.other → ⊥) ⊎ (is_controller object.kind ≡ false)))
held_less object Has Listed to is =
    elim is [
      | inl owner ↦ inl (owner.0, elim owner.1 [ inl nobody ↦ inl (λ listed. nobody (to object.owner listed)) | inr kind ↦ inr kind ])
      | inr other ↦ inr (other.0, elim other.1 [ inl nobody ↦ inl (λ listed. nobody (to object.other listed)) | inr kind ↦ inr kind ])
    ]

ids_there : (rooms : List Room) (accounts : List Account) (n : ℕ) → times_there n (placed (the_world (views rooms) accounts)) ≡ times Ids n rooms
ids_there rooms accounts n = count_placed (λ e. e.0 == n) (λ object. object.id == n) (λ base object. refl) (views rooms) 0 ∙ sum_map (λ (view : RoomView). count_by (λ object. object.id == n) view.objects.now) as_view rooms

owners_there : (rooms : List Room) (n : ℕ) → count_by (λ owner. owner == n) (owners_in (views rooms)) ≡ times SiteOwners n rooms
owners_there rooms n = count_owners_in n (views rooms) ∙ sum_map (λ (view : RoomView). count_by (λ object. is_site object.kind && (object.owner == n)) view.objects.now) as_view rooms

-- ---- from the rules of the world to those of its rooms

site_range : (kind : Kind) (object : Object) → is_site kind ≡ true → IsInRangeAs kind object → IsSite object
site_range kinds.Site object is range = range
site_range kind object is range = absurd (cc)

module _ (world : Stored) (kept : KeepsObjectRules world) where
  none : (rule : Rule) (n : ℕ) → is_of_objects rule ≡ true → Broken rule n (the_world (views world.rooms) world.accounts) → ⊥
  none rule n of_objects broken = kept.rules rule n of_objects (as_listed world rule n broken)

  once : EachOnce (views world.rooms) world.accounts
  once = each_once (views world.rooms) world.accounts (λ n. none rules.IdTwice n refl)

  tiles_here : (i : ℕ) (room : Room) → slice_get world.rooms i ≡ Some room → AllByRecursion IsOnTile room.table.objects
  tiles_here i room at = all_at (λ (r : Room). AllByRecursion IsOnTile r.table.objects) world.rooms i room kept.tiles at

  ranges_here : (i : ℕ) (room : Room) → slice_get world.rooms i ≡ Some room → (k : ℕ) (object : Object) → slice_get room.table.objects k ≡ Some object → (IsInRangeAs object.kind object → ⊥) → ⊥
  ranges_here i room at k object place bad =
      none rules.Range object.id refl (range_breaks (views world.rooms) world.accounts once object.id (record { index = i; one = as_view room; place = mapped_at as_view world.rooms i room at; is = record { index = k; object = object; place = place; id = refl; is = bad } }))

  held_here : (i : ℕ) (room : Room) → slice_get world.rooms i ≡ Some room → AllByRecursion (λ object. IsWronglyHeld world.accounts object → ⊥) room.table.objects
  held_here i room at =
      all_from (λ (object : Object). IsWronglyHeld world.accounts object → ⊥) room.table.objects
      (λ k object place bad.
      none rules.Owner object.id refl
      (owner_breaks (views world.rooms) world.accounts once object.id
      (record {
        index = i;
        one = as_view room;
        place = mapped_at as_view world.rooms i room at;
        is = record { index = k; object = object; place = place; id = refl; is = held_less object (λ player. HasAccount player world.accounts) (IsListed world.accounts) (listed_has world.accounts) bad };
      })))

  keeps_alone : (i : ℕ) (room : Room) → slice_get world.rooms i ≡ Some room → IsRising room.table.objects → KeepsRoomRules room.terrain room.table.objects
  keeps_alone i room at rising =
      let ordered : IsOrdered (as_view room) = record { order = non_decreasing (λ object. object.id) room.table.objects rising; tiles = tiles_here i room at } in
      record {
        tiles = λ k object place bad.
            none rules.Tile object.id refl (tile_breaks (views world.rooms) world.accounts once object.id (record { index = i; one = as_view room; place = mapped_at as_view world.rooms i room at; is = record { index = k; object = object; place = place; id = refl; is = bad } }));
        ranges = ranges_here i room at;
        controllers = (
            let one : 2 ≤ count_by (λ object. is_controller object.kind) room.table.objects → ⊥ =
            λ many. none rules.Controllers i refl (controllers_breaks (views world.rooms) world.accounts once i (record { room = as_view room; place = mapped_at as_view world.rooms i room at; is = many }) ordered) in
            omega arith
            );
        shared = λ n blocked. none rules.Shared n refl (shared_breaks (views world.rooms) world.accounts once n (record { index = i; one = as_view room; place = mapped_at as_view world.rooms i room at; is = blocked }) ordered);
      }

  pub keeps_here : (i : ℕ) (room : Room) → slice_get world.rooms i ≡ Some room → IsRising room.table.objects → KeepsHere world room
  keeps_here i room at rising = record {
    rising = rising;
    tiles = tiles_here i room at;
    rules = keeps_alone i room at rising;
    born = all_from (λ (object : Object). IsUnborn world.rooms object.id → ⊥) room.table.objects
        (λ k object place bad. none rules.Serial object.id refl (serial_breaks (views world.rooms) world.accounts object.id (record { index = i; one = as_view room; place = mapped_at as_view world.rooms i room at; is = record { index = k; object = object; place = place; id = refl; is = unborn_viewed world.rooms object.id bad } })));
    held = held_here i room at;
  }

  too_many : (n : ℕ) → most_sites < times SiteOwners n world.rooms → ⊥
  too_many n many =
      let there = sum_some (λ (room : Room). times_in SiteOwners n room.table.objects) world.rooms (omega arith) in
      let site = one_of (is_under SiteOwners n) there.1.table.objects there.3 in
      let parts = and_parts (is_site site.one.kind) (site.one.owner == n) site.is in
      let named : site.one.owner ≡ n = eqb-true site.one.owner n parts.1 in
      ranges_here there.0 there.1 there.2 site.index site.one site.place
      (λ range.
      let owned : 1 ≤ site.one.owner = (site_range site.one.kind site.one parts.0 range).owner in
      all_at (λ (object : Object). IsWronglyHeld world.accounts object → ⊥) there.1.table.objects site.index site.one (held_here there.0 there.1 there.2) site.place
      (inl (
        (λ nobody. omega arith),
        inl (λ has.
            let listed = has_listed world.accounts site.one.owner has in
            none rules.Sites n refl (sites_breaks (views world.rooms) world.accounts n (record { index = listed.index; one = listed.account; place = listed.place; is = (listed.is ∙ named, subst (λ (k : ℕ). most_sites < k) (sym (owners_there world.rooms n)) many) }))),
      )))

  pub few_kept : (counted : Counted) (n : ℕ) → times counted n world.rooms ≤ most_of counted
  few_kept Ids n = let twice : times_there n (placed (the_world (views world.rooms) world.accounts)) < 2 = once n in omega (arith, ids_there world.rooms world.accounts n)
  few_kept SiteOwners n = elim (cases_lt most_sites (times SiteOwners n world.rooms)) [ inl many ↦ absurd (too_many n many) | inr within ↦ within ]

  pub split_from : HaveRisingTables world.rooms → KeepsElsewhere [] world
  split_from rising = record { each = λ i room at apart. keeps_here i room at (all_at (λ (r : Room). IsRising r.table.objects) world.rooms i room rising at); few = few_kept }

-- ---- and back

module _ (world : Stored) (kept : KeepsElsewhere [] world) where
  pub rises : HaveRisingTables world.rooms
  rises = all_from (λ (r : Room). IsRising r.table.objects) world.rooms (λ i room at. (kept.each i room at refl).rising)

  tiled : AreOnTiles world.rooms
  tiled = all_from (λ (r : Room). AllByRecursion IsOnTile r.table.objects) world.rooms (λ i room at. (kept.each i room at refl).tiles)

  once_each : EachOnce (views world.rooms) world.accounts
  once_each n = let fits : times Ids n world.rooms ≤ 1 = kept.few Ids n in omega (arith, ids_there world.rooms world.accounts n)

  kept_rule : (rule : Rule) (n : ℕ) → is_of_objects rule ≡ true → Broken rule n (the_world (views world.rooms) world.accounts) → ⊥
  kept_rule rules.Counts n of_objects broken = absurd cc
  kept_rule rules.RoomTwice n of_objects broken = absurd cc
  kept_rule rules.Corner n of_objects broken = absurd cc
  kept_rule rules.PlayerTwice n of_objects broken = absurd cc
  kept_rule rules.Serial n of_objects broken =
      let any = any_room (λ view. AnyObject (λ object. HasNoSerial (views world.rooms) object.id) view.objects.now) world.rooms n (serial_broken (views world.rooms) world.accounts n broken) in
      all_at (λ (object : Object). IsUnborn world.rooms object.id → ⊥) any.1.table.objects any.3.index any.3.object (kept.each any.0 any.1 any.2 refl).born any.3.place (unborn_stored world.rooms any.3.object.id any.3.is)
  kept_rule rules.IdTwice n of_objects broken =
      let many : 2 ≤ times_there n (placed (the_world (views world.rooms) world.accounts)) = broken in
      let fits : times_there n (placed (the_world (views world.rooms) world.accounts)) < 2 = once_each n in
      omega arith
  kept_rule rules.Tile n of_objects broken =
      let any = any_room (λ view. AnyObject (λ object. IsOnWrongTile view.terrain.now object) view.objects.now) world.rooms n (tile_broken (views world.rooms) world.accounts once_each n broken) in
      (kept.each any.0 any.1 any.2 refl).rules.tiles any.3.index any.3.object any.3.place any.3.is
  kept_rule rules.Shared n of_objects broken =
      let any = any_room (λ view. IsBlocked view.objects.now) world.rooms n (shared_broken (views world.rooms) world.accounts (ordered_views world.rooms rises tiled) once_each n broken) in
      (kept.each any.0 any.1 any.2 refl).rules.shared n any.3
  kept_rule rules.Owner n of_objects broken =
      let any = any_room (λ view. AnyObject (λ object. HasWrongHolder world.accounts object) view.objects.now) world.rooms n (owner_broken (views world.rooms) world.accounts once_each n broken) in
      all_at (λ (object : Object). IsWronglyHeld world.accounts object → ⊥) any.1.table.objects any.3.index any.3.object (kept.each any.0 any.1 any.2 refl).held any.3.place
      (held_less any.3.object (IsListed world.accounts) (λ player. HasAccount player world.accounts) (has_listed world.accounts) any.3.is)
  kept_rule rules.Controllers n of_objects broken =
      let at = controllers_broken (views world.rooms) world.accounts (ordered_views world.rooms rises tiled) once_each n broken in
      let back = mapped_back as_view world.rooms n at.room at.place in
      let many : 2 ≤ count_by (λ object. is_controller object.kind) back.0.table.objects = subst (λ (view : RoomView). 2 ≤ count_by (λ object. is_controller object.kind) view.objects.now) (sym back.2) at.is in
      let one : count_by (λ object. is_controller object.kind) back.0.table.objects < 2 = (kept.each n back.0 back.1 refl).rules.controllers in
      omega arith
  kept_rule rules.Range n of_objects broken =
      let any = any_room (λ view. AnyObject (λ object. IsInRangeAs object.kind object → ⊥) view.objects.now) world.rooms n (range_broken (views world.rooms) world.accounts once_each n broken) in
      (kept.each any.0 any.1 any.2 refl).rules.ranges any.3.index any.3.object any.3.place any.3.is
  kept_rule rules.Sites n of_objects broken =
      let any = sites_broken (views world.rooms) world.accounts n broken in
      let many : most_sites < count_by (λ owner. owner == n) (owners_in (views world.rooms)) = any.is.1 in
      let fits : times SiteOwners n world.rooms ≤ most_sites = kept.few SiteOwners n in
      omega (arith, owners_there world.rooms n)

  pub split_to : KeepsObjectRules world
  split_to = record { tiles = tiled; rules = λ rule n of_objects broken. kept_rule rule n of_objects (as_viewed world rule n broken) }

-- ---- the limit of sites alone

pub few_sites : (world : Stored) → HaveFewSites world.rooms → (n : ℕ) → Broken rules.Sites n (listing_of world) → ⊥
few_sites world few n broken =
    let any = sites_broken (views world.rooms) world.accounts n (as_viewed world rules.Sites n broken) in
    let many : most_sites < count_by (λ owner. owner == n) (owners_in (views world.rooms)) = any.is.1 in
    let fits : times SiteOwners n world.rooms ≤ most_sites = few n in
    omega (arith, owners_there world.rooms n)
