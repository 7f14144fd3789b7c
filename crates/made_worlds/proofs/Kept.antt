-- A generated world keeps all rules.
use Rattle.std.proofs.Common.{◌≡◌, ℕ, zero, suc, ◌+◌, ◌*◌, ◌<◌, ◌≤◌, ◌==◌, List, [], ◌++◌, length, map, None, refl, ap, ap₂, sym, subst, arith}
use Rattle.std.specs.List.{AllByRecursion, count_by, range_with_len, sum_by}
use Rattle.std.proofs.lemmas.List.FromFn.{length-map-range_with_len}
use Rattle.game_tables.specs.Kinds.{is_controller}
use Rattle.game_tables.specs.Limits.{most_sites}
use Rattle.object_store.specs.declared.account.Account.{Account}
use Rattle.world_rules.specs.declared.rule.Rule.TheVariants as rules
use Rattle.world_rules.specs.Rules.{HasOpenCorner, IsInRangeAs, IsOnWrongTile, KeepsRules}
use Rattle.world_rules.specs.World.{ListedRoom, Listing, listing_of}
use Rattle.world_form.proofs.Standing.{all_weaker}
use Rattle.rule_check.specs.declared.view.RoomView.{RoomView}
use Rattle.rule_check.specs.inner.Checks.{AnyOf, AreWithinCounts, HasWrongHolder, IsUnborn, owners_in, site_owners_of}
use Rattle.rule_check.specs.Kept.{IsBlocked}
use Rattle.rule_check.proofs.Breaks.{each_once, least_controllers, least_corner, least_counts_kept, least_id, least_name, least_owner, least_player, least_range, least_serial, least_shared_tile, least_sites, least_tile}
use Rattle.rule_check.proofs.Placing.{EachOnce, the_world}
use Rattle.world_gen.specs.Generator.{accounts_to, draw, generated, players_of, state_after}
use Rattle.made_worlds.proofs.Grounds.{corners_are_walls}
use Rattle.made_worlds.proofs.Ids.{all_born, all_ordered, no_id_twice}
use Rattle.made_worlds.proofs.Names.{no_name_twice}
use Rattle.made_worlds.proofs.Objects.{all_in_range, few_objects, no_sites, no_tile_shared, one_controller, owners_are_right, tiles_are_right}
use Rattle.made_worlds.proofs.Places.{at_place, sum_at_most}
use Rattle.made_worlds.proofs.Players.{accounts_long, no_player_twice}
use Rattle.made_worlds.proofs.Views.{no_object, no_room, room_of, view_at, views, views_are}

-- ---- counts

within_counts : (seed players rooms : ℕ) → 1 ≤ rooms → rooms ≤ 400 → players ≤ 8
    → AreWithinCounts (views seed players rooms) (accounts_to players)
within_counts seed players rooms some most few =
    let long : length (views seed players rooms) ≡ rooms = length-map-range_with_len (view_at seed players) 0 rooms in
    let all : sum_by (λ (room : RoomView). length room.objects.now) (views seed players rooms) ≤ 4 * rooms =
    sum_at_most (λ (room : RoomView). length room.objects.now) (view_at seed players) 0 rooms 4
    (λ index. few_objects players index (draw (state_after seed (2306 * index)) 2304) (draw (state_after seed (2306 * index)) 2305)) in
    (omega arith, omega arith, omega (arith, accounts_long players), omega arith)

-- ---- sites

no_owners : (seed players a n : ℕ) → owners_in (map (view_at seed players) (range_with_len a n)) ≡ []
no_owners seed players a zero = refl
no_owners seed players a (suc n) =
    let none : site_owners_of (room_of seed players a).table.objects ≡ [] =
    no_sites players a (draw (state_after seed (2306 * a)) 2304) (draw (state_after seed (2306 * a)) 2305) in
    ap₂ (λ (xs ys : List ℕ). xs ++ ys) none (no_owners seed players (a + 1) n)

few_sites : (seed players rooms n : ℕ)
    → AnyOf (λ (account : Account) n. (account.player ≡ n) × (most_sites < count_by (λ owner. owner == n) (owners_in (views seed players rooms)))) (accounts_to players) n
    → ⊥
few_sites seed players rooms n any =
    let none : count_by (λ owner. owner == n) (owners_in (views seed players rooms)) ≡ 0 =
    ap (count_by (λ owner. owner == n)) (no_owners seed players 0 rooms) in
    omega (arith, any.is.1)

-- ---- the rules

once : (seed players rooms : ℕ) → EachOnce (views seed players rooms) (accounts_to players)
once seed players rooms =
    each_once (views seed players rooms) (accounts_to players)
    (least_id (views seed players rooms) (accounts_to players) None (no_id_twice seed players rooms))

no_blocked : (seed players rooms n : ℕ) → AnyOf (λ room. IsBlocked room.objects.now) (views seed players rooms) n → ⊥
no_blocked seed players rooms n any =
    let here = at_place (view_at seed players) 0 rooms any.index any.one any.place in
    let index : ℕ = 0 + any.index in
    no_tile_shared players index (draw (state_after seed (2306 * index)) 2304) (draw (state_after seed (2306 * index)) 2305) n
    (subst (λ (r : RoomView). IsBlocked r.objects.now n) (sym here.1) any.is)

never_out : (seed players index : ℕ)
    → AllByRecursion (λ o. (IsInRangeAs o.kind o → ⊥) → ⊥) (room_of seed players index).table.objects
never_out seed players index =
    all_weaker (λ o. IsInRangeAs o.kind o) (λ o. (IsInRangeAs o.kind o → ⊥) → ⊥) (λ o is out. out is)
    (room_of seed players index).table.objects
    (all_in_range players index (draw (state_after seed (2306 * index)) 2304) (draw (state_after seed (2306 * index)) 2305))

keeps : (seed players rooms : ℕ) → 1 ≤ rooms → rooms ≤ 400 → players ≤ 8
    → KeepsRules (the_world (views seed players rooms) (accounts_to players))
keeps seed players rooms some most few rules.Counts =
    least_counts_kept (views seed players rooms) (accounts_to players) (within_counts seed players rooms some most few)
keeps seed players rooms some most few rules.RoomTwice =
    least_name (views seed players rooms) (accounts_to players) None (no_name_twice seed players rooms)
keeps seed players rooms some most few rules.Corner =
    least_corner (views seed players rooms) (accounts_to players) None
    (λ n. no_room (λ index room. HasOpenCorner room.terrain.now) seed players rooms n
    (λ index less. corners_are_walls (state_after seed (2306 * index))))
keeps seed players rooms some most few rules.Serial =
    least_serial (views seed players rooms) (accounts_to players) None
    (λ n. no_object (λ room object. IsUnborn (views seed players rooms) object.id) seed players rooms n
    (λ index less. all_born seed players rooms index (draw (state_after seed (2306 * index)) 2304) (draw (state_after seed (2306 * index)) 2305) less))
keeps seed players rooms some most few rules.IdTwice =
    least_id (views seed players rooms) (accounts_to players) None (no_id_twice seed players rooms)
keeps seed players rooms some most few rules.Tile =
    least_tile (views seed players rooms) (accounts_to players) None (once seed players rooms)
    (λ n. no_object (λ room object. IsOnWrongTile room.terrain.now object) seed players rooms n
    (λ index less. tiles_are_right (state_after seed (2306 * index)) players index (draw (state_after seed (2306 * index)) 2304) (draw (state_after seed (2306 * index)) 2305)))
keeps seed players rooms some most few rules.Shared =
    least_shared_tile (views seed players rooms) (accounts_to players) None (all_ordered seed players rooms) (once seed players rooms)
    (λ n. no_blocked seed players rooms n)
keeps seed players rooms some most few rules.Owner =
    least_owner (views seed players rooms) (accounts_to players) None (once seed players rooms)
    (λ n. no_object (λ room object. HasWrongHolder (accounts_to players) object) seed players rooms n
    (λ index less. owners_are_right players index (draw (state_after seed (2306 * index)) 2304) (draw (state_after seed (2306 * index)) 2305)))
keeps seed players rooms some most few rules.Controllers =
    least_controllers (views seed players rooms) (accounts_to players) None (all_ordered seed players rooms) (once seed players rooms)
    (λ n. no_room (λ index room. 2 ≤ count_by (λ object. is_controller object.kind) room.objects.now) seed players rooms n
    (λ index less. one_controller players index (draw (state_after seed (2306 * index)) 2304) (draw (state_after seed (2306 * index)) 2305)))
keeps seed players rooms some most few rules.Range =
    least_range (views seed players rooms) (accounts_to players) None (once seed players rooms)
    (λ n. no_object (λ room object. IsInRangeAs object.kind object → ⊥) seed players rooms n
    (λ index less. never_out seed players index))
keeps seed players rooms some most few rules.PlayerTwice =
    least_player (views seed players rooms) (accounts_to players) None (no_player_twice players)
keeps seed players rooms some most few rules.Sites =
    least_sites (views seed players rooms) (accounts_to players) None (few_sites seed players rooms)

-- ---- as it is stored

listed : (seed rooms : ℕ)
    → the_world (views seed (players_of rooms) rooms) (accounts_to (players_of rooms)) ≡ listing_of (generated seed rooms)
listed seed rooms =
    ap (λ (list : List ListedRoom). let listing : Listing = record { rules = 1; tick = 0; rooms = list; accounts = accounts_to (players_of rooms) } in listing)
    (views_are seed (players_of rooms) rooms)

pub keeps_rules : (seed rooms : ℕ) → 1 ≤ rooms → rooms ≤ 400 → KeepsRules (listing_of (generated seed rooms))
keeps_rules seed rooms some most =
    subst KeepsRules (listed seed rooms) (keeps seed (players_of rooms) rooms some most (omega arith))
