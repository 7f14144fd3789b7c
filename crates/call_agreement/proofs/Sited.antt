-- Calls for sites: their rule reads the room alone.
use Rattle.std.proofs.Common.{◌≡◌, ℕ, ℤ, ◌+◌, ◌*◌, ◌/◌, ◌%◌, ◌<◌, ◌==◌, ◌≢◌, Bool, true, false, cond, List, [], ◌∷◌, Option, Some, None, option_map, option_and_then, refl, sym, ap, subst, ◌∙◌, arith}
use Rattle.std.specs.Prelude.{nat_lt, if◌then◌else◌}
use Rattle.std.specs.List.{find}
use Rattle.std.specs.Ordering.{nat_cmp}
use Rattle.std.specs.FinMap.{entries, get-entries, values}
use Rattle.std.specs.FinMap.{find as find_key}
use Rattle.std.specs.Cmp.{unsigned_tied}
use Rattle.std.specs.Option.{unwrap_or}
use Rattle.std.proofs.lemmas.Bool.{eq-eqb, eqb-true, lt-ltb, ltb-true, ne_eqb}
use Rattle.game_tables.specs.Levels.{allowed}
use Rattle.game_tables.specs.declared.code.Code.TheVariants.{Done}
use Rattle.game_tables.specs.declared.kind.Kind.{Kind}
use Rattle.room_table.specs.Controllers.{controller_among, level_of}
use Rattle.object_store.specs.declared.account.Account.{Account}
use Rattle.object_store.specs.Stored.{Stored}
use Rattle.intent_book.specs.declared.intent.Intent.{Intent}
use Rattle.world_rules.specs.Checks.{all_hold}
use Rattle.world_rules.specs.RoomParts.{RoomPart, objects_in, part_at, part_of}
use Rattle.world_rules.specs.Sights.{is_visible}
use Rattle.world_rules.specs.Sites.{Plan, count_of, has_place, of_kind, plan_of, planned_kind, site_checks}
use Rattle.world_rules.specs.World.{Frame, World, world_of}
use Rattle.visible_view.specs.Sights.{SeenRoom, Sight, sees_room, seen_rooms, sight_of}
use Rattle.visible_view.specs.Fields.{objects_at, room_at}
use Rattle.visible_view.proofs.Tables.{around_seen, seen_part}
use Rattle.host_calls.specs.Agreement.{IsRecorded}
use Rattle.host_calls.specs.Desks.{Desk, as_index, signed_32}
use Rattle.host_calls.specs.Replies.{coordinate_of, number_of, plan_seen, record_checks, seen_room, site_code, site_code_in, site_reply, site_wish}
use Rattle.host_calls.proofs.Wanting.{site_codes}
use Rattle.action_checks.proofs.Passing.{each_holds, hold_each, own_checks}
use Rattle.call_agreement.specs.Agreeing.{HoldsIn, SitesAgree, may_make}
use Rattle.call_agreement.proofs.Standing.{both_true, recorded_where_0}

-- ---- what the rule does not count

fewer : (plan : Plan) (kind : Option Kind) → of_kind (has_place plan) kind ≡ true → of_kind (has_place (record plan { recorded = 0; sites = 0 })) kind ≡ true
fewer plan None holds = holds
fewer plan (Some kind) holds =
    let count : ℕ = count_of plan.number plan.around in
    let most : ℕ = allowed kind (level_of (controller_among plan.around)) in
    let less : count + plan.recorded < most = ltb-true (count + plan.recorded) most holds in
    lt-ltb (count + 0) most (omega (arith, less))

uncounted : (plan : Plan) → all_hold (site_checks plan) ≡ true → all_hold (site_checks (record plan { recorded = 0; sites = 0 })) ≡ true
uncounted plan holds =
    let e = each_holds (site_checks plan) holds in
    hold_each (site_checks (record plan { recorded = 0; sites = 0 }))
    (e.0, (e.1.0, (e.1.1.0, (fewer plan (planned_kind plan) e.1.1.1.0, (e.1.1.1.1.0, (e.1.1.1.1.1.0, (refl, tt)))))))

-- ---- the tile

inside : (value : ℤ) → coordinate_of value < 50
inside value = elim (nat_lt (number_of value) 50) as (λ b. nat_lt (number_of value) 50 ≡ b → (if b then number_of value else 0) < 50) [
  | true ↦ λ less. ltb-true (number_of value) 50 less
  | false ↦ λ more. omega arith
] refl

module _ (room a b : ℕ) (column : a < 50) (row : b < 50) where
  its_room : (room * 2500 + b * 50 + a) / 2500 ≡ room
  its_room = omega (arith, column, row)

  its_column : (room * 2500 + b * 50 + a) % 50 ≡ a
  its_column = omega (arith, column, row)

  its_row : (room * 2500 + b * 50 + a) % 2500 / 50 ≡ b
  its_row = omega (arith, column, row)

-- ---- the room

-- A room that is seen is one of the world.
record IsSeenAt (world : World) (player n : ℕ) (room : SeenRoom) : Type 0 where
  pub frame : Frame
  pub sees : sees_room world player n ≡ true
  pub index : room.index ≡ n
  pub grounds : room.grounds ≡ frame.grounds

module _ (world : World) (player n : ℕ) where
  found_among : (rooms : List (ℕ × Frame)) (room : SeenRoom) → find (λ r. r.index == n) (seen_rooms world player rooms) ≡ Some room → (seen : IsSeenAt world player n room) × (find_key nat_cmp n rooms ≡ Some seen.frame)
  found_among [] room found = absurd (cc)
  found_among (entry ∷ later) room found =
      let told : SeenRoom = record { index = entry.0; name = entry.1.name; grounds = entry.1.grounds } in
      let rest : List SeenRoom = seen_rooms world player later in
      elim (entry.0 == n) as (λ b. (entry.0 == n) ≡ b → (seen : IsSeenAt world player n room) × (find_key nat_cmp n (entry ∷ later) ≡ Some seen.frame)) [
        | true ↦ λ at.
            let same : entry.0 ≡ n = eqb-true entry.0 n at in
            let key : find_key nat_cmp n (entry ∷ later) ≡ Some entry.1 = ap (λ (b : Bool). cond b (Some entry.1) (find_key nat_cmp n later)) (unsigned_tied n entry.0 ∙ eq-eqb n entry.0 (sym same)) in
            elim (sees_room world player entry.0) as (λ b. sees_room world player entry.0 ≡ b → find (λ r. r.index == n) (if b then told ∷ rest else rest) ≡ Some room → (seen : IsSeenAt world player n room) × (find_key nat_cmp n (entry ∷ later) ≡ Some seen.frame)) [
              | true ↦ λ sees got.
                  let here : Some told ≡ Some room = sym (ap (λ (b : Bool). cond b (Some told) (find (λ r. r.index == n) rest)) at) ∙ got in
                  let is : told ≡ room = cc in
                  (record { frame = entry.1; sees = ap (sees_room world player) (sym same) ∙ sees; index = ap (λ (r : SeenRoom). r.index) (sym is) ∙ same; grounds = ap (λ (r : SeenRoom). r.grounds) (sym is) }, key)
              | false ↦ λ blind got.
                  let more = found_among later room got in
                  let sees : sees_room world player entry.0 ≡ true = ap (sees_room world player) same ∙ more.0.sees in
                  absurd (cc)
            ] refl found
        | false ↦ λ off.
            let other : n ≢ entry.0 = λ same. (let is = eq-eqb entry.0 n (sym same) in cc) in
            let key : find_key nat_cmp n (entry ∷ later) ≡ find_key nat_cmp n later = ap (λ (b : Bool). cond b (Some entry.1) (find_key nat_cmp n later)) (unsigned_tied n entry.0 ∙ ne_eqb n entry.0 other) in
            let passed : find (λ r. r.index == n) rest ≡ Some room =
            elim (sees_room world player entry.0) as (λ b. find (λ r. r.index == n) (if b then told ∷ rest else rest) ≡ Some room → find (λ r. r.index == n) rest ≡ Some room) [
              | true ↦ λ got. sym (ap (λ (b : Bool). cond b (Some told) (find (λ r. r.index == n) rest)) off) ∙ got
              | false ↦ λ got. got
            ] found in
            let more = found_among later room passed in
            (more.0, key ∙ more.1)
      ] refl

-- ---- the call

module _ (stored : Stored) (account : Account) (desk : Desk) (sees : desk.sight ≡ sight_of (world_of stored) account) (x y kind : ℤ) where
  abbrev world : World
  world = world_of stored

  made_in : (value : ℤ) (n : ℕ) (room : SeenRoom) → number_of value ≡ n → room_at desk.sight n ≡ Some room → all_hold (site_checks (plan_seen desk (site_wish desk.sight.account.player value x y kind) x y room)) ≡ true
      → HoldsIn may_make world (site_wish desk.sight.account.player value x y kind)
  made_in value n room number found holds =
      let wish : Intent = site_wish desk.sight.account.player value x y kind in
      let seen = found_among world account.player n (entries world.rooms) room (sym (ap (λ (s : Sight). room_at s n) sees) ∙ found) in
      let frame : Frame = seen.0.frame in
      let part : RoomPart = part_of world n frame in
      let stands : part_at world n ≡ Some part = ap (option_map (part_of world n)) (get-entries world.rooms n ∙ seen.1) in
      let column = inside x in
      let row = inside y in
      let in_room : wish.actor / 2500 ≡ n = its_room (number_of value) (coordinate_of x) (coordinate_of y) column row ∙ number in
      let plan : Plan = plan_seen desk wish x y room in
      let around : plan.around ≡ values part.objects =
      ap (objects_at desk.sight) seen.0.index ∙ ap (λ (s : Sight). objects_at s n) sees ∙ around_seen world account n ∙ ap (λ (b : Bool). cond b (values (objects_in world n)) []) seen.0.sees in
      let same : record plan { recorded = 0; sites = 0 } ≡ plan_of wish part = λ i. record {
        player = desk.sight.account.player;
        x = sym (its_column (number_of value) (coordinate_of x) (coordinate_of y) column row) i;
        y = sym (its_row (number_of value) (coordinate_of x) (coordinate_of y) column row) i;
        number = wish.amount;
        grounds = seen.0.grounds i;
        around = around i;
        recorded = 0;
        sites = 0;
      } in
      let visible : is_visible wish.player part ≡ true =
      ap (λ (player : ℕ). is_visible player part) (ap (λ (s : Sight). s.account.player) sees) ∙ sym (seen_part world account.player n frame) ∙ seen.0.sees in
      (n, part, ap Some in_room, stands, both_true (is_visible wish.player part) (all_hold (site_checks (plan_of wish part))) visible (sym (ap (λ (p : Plan). all_hold (site_checks p)) same) ∙ uncounted plan holds))

  made_where : (value : ℤ) (n : Option ℕ) (room : Option SeenRoom) → as_index (signed_32 value) ≡ n → option_and_then (room_at desk.sight) n ≡ room
      → site_code_in desk (site_wish desk.sight.account.player value x y kind) x y room ≡ Done → HoldsIn may_make world (site_wish desk.sight.account.player value x y kind)
  made_where value n None number found done = absurd (cc)
  made_where value None (Some room) number found done = absurd (cc)
  made_where value (Some n) (Some room) number found done =
      let wish : Intent = site_wish desk.sight.account.player value x y kind in
      made_in value n room (ap (λ (o : Option ℕ). unwrap_or o 0) number) found (own_checks (site_checks (plan_seen desk wish x y room)) (record_checks desk wish) (site_codes (plan_seen desk wish x y room)) done)

pub sites_agree : SitesAgree
sites_agree memory room x y kind stored account desk sound sees zero =
    let own : desk.sight.account ≡ account = ap (λ (s : Sight). s.account) sees in
    let wish : Intent = site_wish desk.sight.account.player room x y kind in
    let done = recorded_where_0 desk memory wish (site_code desk room x y kind) zero in (
      subst (λ (a : Account). IsRecorded desk (site_wish a.player room x y kind) (site_reply desk memory room x y kind).desk) own done.1,
      subst (λ (a : Account). HoldsIn may_make (world_of stored) (site_wish a.player room x y kind)) own
          (made_where stored account desk sees x y kind room (as_index (signed_32 room)) (seen_room desk room) refl refl done.0),
    )
