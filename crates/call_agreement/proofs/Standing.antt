-- Calls whose rules read what stands under an id.
use Rattle.std.proofs.Common.{◌≡◌, ℕ, ℤ, pos, ◌&&◌, Bool, false, true, List, Option, Some, None, option_map, refl, sym, ap, subst, ◌∙◌}
use Rattle.std.specs.FinMap.{values}
use Rattle.std.proofs.lemmas.Bool.{and_parts}
use Rattle.game_tables.specs.declared.code.Code.{Code}
use Rattle.game_tables.specs.declared.code.Code.TheVariants.{Done}
use Rattle.game_tables.specs.declared.kind.Part.{Part}
use Rattle.object_store.specs.declared.account.Account.{Account}
use Rattle.room_table.specs.declared.object.Object.{Object}
use Rattle.object_store.specs.Stored.{Stored}
use Rattle.intent_book.specs.declared.intent.Intent.{Intent}
use Rattle.wasm_store.specs.Memory.{Memory}
use Rattle.world_rules.specs.Checks.{Check, all_hold, holds_of, standing_at}
use Rattle.world_rules.specs.Intents.{room_at}
use Rattle.world_rules.specs.RoomParts.{RoomPart, part_at, part_of}
use Rattle.world_rules.specs.Sights.{is_visible}
use Rattle.world_rules.specs.Sites.{removal_checks}
use Rattle.world_rules.specs.Sound.{IsSound}
use Rattle.world_rules.specs.Spawns.{spawn_checks}
use Rattle.world_rules.specs.World.{Placed, world_of}
use Rattle.action_checks.proofs.Passing.{HaveCodes, each_holds, own_checks}
use Rattle.visible_view.specs.Sights.{Sight, sight_of}
use Rattle.host_calls.specs.Agreement.{IsRecorded}
use Rattle.host_calls.specs.Desks.{Desk}
use Rattle.host_calls.specs.Replies.{body_in, id_of, objects_around, record_checks, removal_code, removal_reply, removal_wish, seen, spawn_code, spawn_reply, spawn_wish, wanted}
use Rattle.visible_view.proofs.Tables.{seen_part}
use Rattle.host_calls.proofs.SeenStands.{around_stands, its_part, room_sees, seen_stands, stands_in_part}
use Rattle.call_agreement.specs.Agreeing.{HoldsIn, RemovalsAgree, SpawnsAgree, may_begin, may_remove}

pub both_true : (a b : Bool) → a ≡ true → b ≡ true → (a && b) ≡ true
both_true a b first second = λ i. first i && second i

-- What a call that is answered 0 wants is recorded.
pub recorded_where_0 : (desk : Desk) (memory : Memory) (intent : Intent) (code : Code) → (wanted desk memory intent code).answer ≡ pos 0 → (code ≡ Done) × IsRecorded desk intent (wanted desk memory intent code).desk
recorded_where_0 desk memory intent Done zero = (refl, refl)
recorded_where_0 desk memory intent _ zero = absurd (cc)

no_body : ◌≡◌ {A = Bool} false true → ⊥
no_body is = cc

pub found_where : (found : Option Placed) (test : Object → Bool) → holds_of found test ≡ true → (p : Placed) × (found ≡ Some p)
found_where None test holds = absurd (cc)
found_where (Some placed) test holds = (placed, refl)

-- What is seen under an id stands in a room, with what is seen around it.
pub record Stands (stored : Stored) (sight : Sight) (id : ℤ) : Type 0 where
  pub room : ℕ
  pub part : RoomPart
  pub in_room : room_at (world_of stored) (id_of id) ≡ Some room
  pub is_part : part_at (world_of stored) room ≡ Some part
  pub here : seen sight id ≡ standing_at part (id_of id)
  pub around : objects_around sight (seen sight id) ≡ values part.objects
  pub visible : is_visible sight.account.player part ≡ true

pub stands : (stored : Stored) → IsSound stored → (account : Account) (sight : Sight) → sight ≡ sight_of (world_of stored) account → (id : ℤ) (p : Placed) → seen sight id ≡ Some p → Stands stored sight id
stands stored sound account sight sees id p found =
    let world = world_of stored in
    let stand = seen_stands stored sound sight account sees id p found in
    let part = its_part stored sound (id_of id) p stand in
    record {
      room = p.room;
      part = part_of (world_of stored) p.room part.0;
      in_room = ap (option_map (λ (q : Placed). q.room)) stand;
      is_part = part.1;
      here = found ∙ sym (stands_in_part stored sound (id_of id) p p.room part.0 stand refl);
      around = around_stands stored sound sight account sees id p found;
      visible =
          ap (λ (s : Sight). is_visible s.account.player (part_of world p.room part.0)) sees
          ∙ sym (seen_part world account.player p.room part.0)
          ∙ room_sees stored sound sight account sees id p found;
    }

-- ---- removals

removal_codes : (player : ℕ) (actor : Option Placed) → HaveCodes (removal_checks player actor)
removal_codes player actor = (λ e. cc, (λ e. cc, tt))

pub removals_agree : RemovalsAgree
removals_agree memory id stored account desk sound sees zero =
    let own : desk.sight.account ≡ account = ap (λ (s : Sight). s.account) sees in
    let wish : Intent = removal_wish desk.sight.account.player id in
    let done = recorded_where_0 desk memory wish (removal_code desk id) zero in
    let holds = own_checks (removal_checks desk.sight.account.player (seen desk.sight id)) (record_checks desk wish) (removal_codes desk.sight.account.player (seen desk.sight id)) done.0 in
    let found = found_where (seen desk.sight id) _ (and_parts _ _ holds).0 in
    let here = stands stored sound account desk.sight sees id found.0 found.1 in (
      subst (λ (a : Account). IsRecorded desk (removal_wish a.player id) (removal_reply desk memory id).desk) own done.1,
      subst (λ (a : Account). HoldsIn may_remove (world_of stored) (removal_wish a.player id)) own (
        here.room,
        here.part,
        here.in_room,
        here.is_part,
        both_true (is_visible desk.sight.account.player here.part) (all_hold (removal_checks desk.sight.account.player (standing_at here.part wish.actor))) here.visible
            (sym (ap (λ (a : Option Placed). all_hold (removal_checks desk.sight.account.player a)) here.here) ∙ holds),
      ),
    )

-- ---- creeps that spawns make

spawn_codes : (player : ℕ) (actor : Option Placed) (around : List Object) (body : Option (List Part)) → HaveCodes (spawn_checks player actor around body)
spawn_codes player actor around body = (λ e. cc, (λ e. cc, (λ e. cc, (λ e. cc, (λ e. cc, tt)))))

module _ (stored : Stored) (account : Account) (desk : Desk) (sound : IsSound stored) (sees : desk.sight ≡ sight_of (world_of stored) account) (id : ℤ) where
  begins : (body : Option (List Part)) → all_hold (spawn_checks desk.sight.account.player (seen desk.sight id) (objects_around desk.sight (seen desk.sight id)) body) ≡ true
      → HoldsIn may_begin (world_of stored) (spawn_wish desk.sight.account.player id body)
  begins None holds = absurd (no_body (each_holds (spawn_checks desk.sight.account.player (seen desk.sight id) (objects_around desk.sight (seen desk.sight id)) None) holds).1.1.1.0)
  begins (Some body) holds =
      let found = found_where (seen desk.sight id) _ (and_parts _ _ holds).0 in
      let here = stands stored sound account desk.sight sees id found.0 found.1 in
      (here.room, here.part, here.in_room, here.is_part, sym (λ i. all_hold (spawn_checks desk.sight.account.player (here.here i) (here.around i) (Some body))) ∙ holds)

pub spawns_agree : SpawnsAgree
spawns_agree memory id at n stored account desk sound sees zero =
    let own : desk.sight.account ≡ account = ap (λ (s : Sight). s.account) sees in
    let body : Option (List Part) = body_in memory at n in
    let wish : Intent = spawn_wish desk.sight.account.player id body in
    let checks : List Check = spawn_checks desk.sight.account.player (seen desk.sight id) (objects_around desk.sight (seen desk.sight id)) body in
    let done = recorded_where_0 desk memory wish (spawn_code desk id body) zero in
    let holds = own_checks checks (record_checks desk wish) (spawn_codes desk.sight.account.player (seen desk.sight id) (objects_around desk.sight (seen desk.sight id)) body) done.0 in (
      subst (λ (a : Account). IsRecorded desk (spawn_wish a.player id body) (spawn_reply desk memory id at n).desk) own done.1,
      subst (λ (a : Account). HoldsIn may_begin (world_of stored) (spawn_wish a.player id body)) own (begins stored account desk sound sees id body holds),
    )
