-- What a reply makes of the desk.
use Rattle.std.proofs.Common.{◌≡◌, ℕ, ℤ, pos, ◌+◌, ◌<◌, true, false, nat_le, nat_eq, ◌&&◌, if◌then◌else◌, List, length, Option, Some, None, refl, subst}
use Rattle.std.proofs.lemmas.Bool.{ltb-true}
use Rattle.game_tables.specs.Codes.{code_number}
use Rattle.game_tables.specs.Limits.{most_memory, most_sites}
use Rattle.game_tables.specs.declared.action.Action.{Action}
use Rattle.game_tables.specs.declared.action.Action.TheVariants.{DropLoad, Transfer, Withdraw, Pickup, Heal, RangedHeal, Dismantle, Attack, Harvest, Repair, Build, RangedMassAttack, RangedAttack, Suicide, ClaimController, Upgrade, Reserve, AttackController, CreateSite, Move}
use Rattle.game_tables.specs.declared.code.Code.{Code}
use Rattle.game_tables.specs.declared.code.Code.TheVariants.{Done, InvalidArgs}
use Rattle.counted_record.specs.Others.{others_of}
use Rattle.intent_book.specs.Records.{put_last}
use Rattle.intent_book.specs.declared.intent.Intent.{Intent}
use Rattle.visible_view.specs.Sights.{SeenRoom}
use Rattle.world_rules.specs.Checks.{all_hold}
use Rattle.world_rules.specs.Intents.{names_tile}
use Rattle.world_rules.specs.Sites.{Plan, site_checks}
use Rattle.action_checks.proofs.Passing.{each_holds, own_checks}
use Rattle.wasm_store.specs.Memory.{Memory, span, written}
use Rattle.host_calls.specs.declared.call.Call.{Call}
use Rattle.host_calls.specs.declared.call.Call.TheVariants as call
use Rattle.host_calls.specs.Calls.{call_at, row}
use Rattle.host_calls.specs.Desks.{Desk, argument, unsigned_32}
use Rattle.host_calls.specs.Replies.{Reply, act_code, act_reply, answers, body_in, claim_code, fits, plan_seen, read_reply, record_checks, removal_code, removal_wish, reply_of, reply_to, seen_room, site_code, site_code_in, site_reply, site_wish, spawn_code, spawn_wish, told, wanted, wish_of, write_reply}
use Rattle.host_calls.proofs.Wanting.{site_codes}

-- An entry that is recorded is the player's, and where it is for a new site he has fewer than he may have, with those that are recorded for
-- other tiles.
pub record IsWanted (desk : Desk) (intent : Intent) : Type 0 where
  pub own : intent.player ≡ desk.sight.account.player
  pub few : names_tile intent.action ≡ true → desk.sight.sites + length (others_of CreateSite intent.actor desk.book.entries) < most_sites

-- The desk stays, or its memory text changes, or an entry is recorded.
pub data Changes (desk : Desk) : Desk → Type 0 where
  same : Changes desk desk
  text : {memory : List ℕ} → Changes desk (record desk { memory = memory })
  records : {intent : Intent} → IsWanted desk intent → Changes desk (record desk { book = record desk.book { entries = put_last desk.book.entries intent } })

-- ---- calls for sites

-- The last check of a new site is how many the player has.
few_sites : (plan : Plan) → all_hold (site_checks plan) ≡ true → plan.sites < most_sites
few_sites plan holds = ltb-true plan.sites most_sites (each_holds (site_checks plan) holds).1.1.1.1.1.1.0

few_in : (desk : Desk) (wish : Intent) (x y : ℤ) (room : Option SeenRoom) → site_code_in desk wish x y room ≡ Done → desk.sight.sites + length (others_of CreateSite wish.actor desk.book.entries) < most_sites
few_in desk wish x y None done = absurd (cc)
few_in desk wish x y (Some room) done = few_sites (plan_seen desk wish x y room) (own_checks (site_checks (plan_seen desk wish x y room)) (record_checks desk wish) (site_codes (plan_seen desk wish x y room)) done)

-- ---- all calls

module _ (desk : Desk) (memory : Memory) where
  wanted_where : (intent : Intent) (code : Code) → (code ≡ Done → IsWanted desk intent) → Changes desk (wanted desk memory intent code).desk
  wanted_where intent Done is = records (is refl)
  wanted_where intent _ is = same

  wanted_changes : (intent : Intent) (code : Code) → intent.player ≡ desk.sight.account.player → (names_tile intent.action ≡ true → ⊥) → Changes desk (wanted desk memory intent code).desk
  wanted_changes intent code own other = wanted_where intent code (λ done. record { own = own; few = λ tile. absurd (other tile) })

  act_changes : (action : Action) (id target amount : ℤ) → (names_tile action ≡ true → ⊥) → Changes desk (act_reply action desk memory id target amount).desk
  act_changes action id target amount other = wanted_changes (wish_of action desk.sight.account.player id target amount) (act_code action desk id target amount) refl other

  site_changes : (room x y kind : ℤ) → Changes desk (site_reply desk memory room x y kind).desk
  site_changes room x y kind =
      let wish : Intent = site_wish desk.sight.account.player room x y kind in
      wanted_where wish (site_code desk room x y kind) (λ done. record { own = refl; few = λ tile. few_in desk wish x y (seen_room desk room) done })

  read_changes : (at : ℕ) → Changes desk (read_reply desk memory at).desk
  read_changes at = elim (fits memory at (length desk.memory)) as (λ b. Changes desk (if b then record { answer = code_number Done; desk = desk; memory = written memory at desk.memory } else told desk memory (code_number InvalidArgs)).desk) [ true ↦ same | false ↦ same ]

  write_changes : (at n : ℕ) → Changes desk (write_reply desk memory at n).desk
  write_changes at n = elim (nat_le n most_memory && fits memory at n) as (λ b. Changes desk (if b then record { answer = code_number Done; desk = record desk { memory = span memory at n }; memory = memory } else told desk memory (code_number InvalidArgs)).desk) [ true ↦ text | false ↦ same ]

  changes : (found : Call) (args : List ℤ) → Changes desk (reply_of found desk memory args).desk
  changes call.MemoryRead args = read_changes (unsigned_32 (argument args 0))
  changes call.MemoryWrite args = write_changes (unsigned_32 (argument args 0)) (unsigned_32 (argument args 1))
  changes call.Tick args = same
  changes call.Me args = same
  changes call.Allowance args = same
  changes call.Bucket args = same
  changes call.Points args = same
  changes call.Level args = same
  changes call.Rooms args = same
  changes call.Room args = same
  changes call.RoomName args = same
  changes call.Terrain args = same
  changes call.Count args = same
  changes call.Find args = same
  changes call.Get args = same
  changes call.MemoryLength args = same
  changes call.DropLoad args = act_changes DropLoad (argument args 0) (pos 0) (argument args 1) (λ tile. absurd cc)
  changes call.Transfer args = act_changes Transfer (argument args 0) (argument args 1) (argument args 2) (λ tile. absurd cc)
  changes call.Withdraw args = act_changes Withdraw (argument args 0) (argument args 1) (argument args 2) (λ tile. absurd cc)
  changes call.Pickup args = act_changes Pickup (argument args 0) (argument args 1) (pos 0) (λ tile. absurd cc)
  changes call.Heal args = act_changes Heal (argument args 0) (argument args 1) (pos 0) (λ tile. absurd cc)
  changes call.RangedHeal args = act_changes RangedHeal (argument args 0) (argument args 1) (pos 0) (λ tile. absurd cc)
  changes call.Dismantle args = act_changes Dismantle (argument args 0) (argument args 1) (pos 0) (λ tile. absurd cc)
  changes call.Attack args = act_changes Attack (argument args 0) (argument args 1) (pos 0) (λ tile. absurd cc)
  changes call.Harvest args = act_changes Harvest (argument args 0) (argument args 1) (pos 0) (λ tile. absurd cc)
  changes call.Repair args = act_changes Repair (argument args 0) (argument args 1) (pos 0) (λ tile. absurd cc)
  changes call.Build args = act_changes Build (argument args 0) (argument args 1) (pos 0) (λ tile. absurd cc)
  changes call.RangedMassAttack args = act_changes RangedMassAttack (argument args 0) (pos 0) (pos 0) (λ tile. absurd cc)
  changes call.RangedAttack args = act_changes RangedAttack (argument args 0) (argument args 1) (pos 0) (λ tile. absurd cc)
  changes call.Suicide args = act_changes Suicide (argument args 0) (pos 0) (pos 0) (λ tile. absurd cc)
  changes call.ClaimController args = wanted_changes (wish_of ClaimController desk.sight.account.player (argument args 0) (argument args 1) (pos 0)) (claim_code desk (argument args 0) (argument args 1)) refl (λ tile. absurd cc)
  changes call.Upgrade args = act_changes Upgrade (argument args 0) (argument args 1) (pos 0) (λ tile. absurd cc)
  changes call.Reserve args = act_changes Reserve (argument args 0) (argument args 1) (pos 0) (λ tile. absurd cc)
  changes call.AttackController args = act_changes AttackController (argument args 0) (argument args 1) (pos 0) (λ tile. absurd cc)
  changes call.CreateSite args = site_changes (argument args 0) (argument args 1) (argument args 2) (argument args 3)
  changes call.RemoveSite args = wanted_changes (removal_wish desk.sight.account.player (argument args 0)) (removal_code desk (argument args 0)) refl (λ tile. absurd cc)
  changes call.SpawnCreep args = wanted_changes (spawn_wish desk.sight.account.player (argument args 0) (body_in memory (unsigned_32 (argument args 1)) (unsigned_32 (argument args 2)))) (spawn_code desk (argument args 0) (body_in memory (unsigned_32 (argument args 1)) (unsigned_32 (argument args 2)))) refl (λ tile. absurd cc)
  changes call.Move args = act_changes Move (argument args 0) (pos 0) (argument args 1) (λ tile. absurd cc)

  replied : (found : Option Call) (args : List ℤ) → Changes desk (reply_to found desk memory args).desk
  replied None args = same
  replied (Some found) args = elim (nat_eq (length args) (length (row found).params)) as (λ b. Changes desk (if b then reply_of found desk memory args else told desk memory (code_number InvalidArgs)).desk) [ true ↦ changes found args | false ↦ same ]

pub answered : (host later : Desk) (number : ℕ) (args : List ℤ) (memory after : Memory) (answer : ℤ) → answers host number args memory answer after later → Changes host later
answered host later number args memory after answer is = subst (λ (r : Reply). Changes host r.desk) is (replied host memory (call_at number) args)
