-- What a run records is bounded: its entries, and the parts of their bodies.
use Rattle.std.proofs.Common.{◌≡◌, ℕ, suc, ℤ, pos, ◌≤◌, ◌&&◌, ◌||◌, Bool, true, false, not, cond, nat_le, nat_eq, nat_lt, List, [], ◌∷◌, ◌++◌, All, filter, length, drop, Option, Some, None, unwrap_or, option_map, option_and_then, inl, inr, refl, sym, ap, subst, ◌∙◌, arith}
use Rattle.std.specs.Prelude.{if◌then◌else◌}
use Rattle.std.specs.List.{AllByRecursion, IsDistinct, list_any}
use Rattle.std.proofs.lemmas.Bool.{cases_Bool, ltb-true, leb-true, and_parts}
use Rattle.std.proofs.lemmas.List.{length_push, length-take}
use Rattle.std.proofs.lemmas.List.Elements.{All-filter, All-nil, All-push, recursion_from_All}
use Rattle.std.proofs.lemmas.List.Filters.{length-filter_both}
use Rattle.std.proofs.lemmas.List.Sorted.{All-permutation, length_permutation}
use Rattle.std.proofs.lemmas.Map.Keys.{IsDistinct-IsPermutation}
use Rattle.game_tables.specs.Bodies.{most_parts}
use Rattle.game_tables.specs.Codes.{code_number}
use Rattle.game_tables.specs.declared.action.Action.{Action}
use Rattle.game_tables.specs.declared.action.Action.TheVariants.{DropLoad, Transfer, Withdraw, Pickup, Heal, RangedHeal, Dismantle, Attack, Harvest, Repair, Build, RangedMassAttack, RangedAttack, Suicide, ClaimController, Upgrade, Reserve, AttackController, Move}
use Rattle.game_tables.specs.declared.code.Code.{Code}
use Rattle.game_tables.specs.declared.code.Code.TheVariants.{Done, Full, InvalidArgs}
use Rattle.game_tables.specs.declared.kind.Part.{Part}
use Rattle.world_rules.specs.Checks.{Check, checks, first_failing}
use Rattle.world_rules.specs.Sites.{removal_checks, site_checks}
use Rattle.world_rules.specs.Spawns.{spawn_checks}
use Rattle.action_checks.proofs.Passing.{HaveCodes, all_where_done, each_holds, fails_late, have_codes, own_checks}
use Rattle.intent_book.proofs.Orders.{place_symm}
use Rattle.intent_book.specs.Records.{accepts, entries_bound, has_place, place, put_last, same_place}
use Rattle.intent_book.specs.declared.intent.Intent.{Intent}
use Rattle.intent_book.specs.declared.player_run.PlayerRun.{PlayerRun}
use Rattle.visible_view.specs.Sights.{SeenRoom, Sight}
use Rattle.wasm_link.specs.Linking.{Link}
use Rattle.wasm_store.specs.Memory.{Memory, span, written}
use Rattle.game_tables.specs.Limits.{most_memory}
use Rattle.host_calls.proofs.Wanting.{site_codes}
use Rattle.host_calls.specs.Calls.{call_at, row}
use Rattle.host_calls.specs.Desks.{Desk, argument, unsigned_32}
use Rattle.host_calls.specs.Replies.{Reply, act_code, act_reply, answers, body_in, claim_code, claim_seen, fits, objects_around, part_of, parts_of, plan_seen, read_reply, removal_code, removal_wish, reply_of, reply_to, scene_seen, seen, seen_room, site_code, site_code_in, site_reply, site_wish, spawn_code, spawn_wish, told, wanted, wish_of, write_reply}
use Rattle.host_calls.specs.declared.call.Call.{Call}
use Rattle.host_calls.specs.declared.call.Call.TheVariants as call
use Rattle.player_run.specs.Emitted.{EmitsBy}
use Rattle.player_run.proofs.HostKept.{run_keeps}

-- ---- an entry that is put

some_passes : (test : Intent → Bool) (entries : List Intent) → list_any test entries ≡ true → 1 ≤ length (filter test entries)
some_passes test [] is = absurd (cc)
some_passes test (entry ∷ later) is = elim (test entry) as (λ b. (b || list_any test later) ≡ true → 1 ≤ length (cond b (entry ∷ filter test later) (filter test later))) [
  | true ↦ λ here. omega arith
  | false ↦ λ there. some_passes test later there
] is

put_within : (entries : List Intent) (intent : Intent) → accepts entries intent ≡ true → length entries ≤ entries_bound → length (put_last entries intent) ≤ entries_bound
put_within entries intent takes few =
    let apart : Intent → Bool = λ entry. not (same_place intent entry) in
    let parts = length-filter_both (same_place intent) apart (λ entry. refl) entries in
    let long = length_push (filter apart entries) intent in
    elim (cases_Bool (has_place entries intent)) [
      | inl there ↦ (let some = some_passes (same_place intent) entries there in omega (arith, parts, long, some, few))
      | inr absent ↦
          let less = ltb-true (length entries) entries_bound (sym (ap (λ (b : Bool). b || nat_lt (length entries) entries_bound) absent) ∙ takes) in
          omega (arith, parts, long, less)
    ]

-- ---- bodies

read_parts : (found : Option Part) (others : Option (List Part)) (n : ℕ) → length (unwrap_or others []) ≤ n → length (unwrap_or (option_and_then (λ (part : Part). option_map (λ (more : List Part). part ∷ more) others) found) []) ≤ suc n
read_parts None others n few = omega arith
read_parts (Some part) None n few = omega arith
read_parts (Some part) (Some more) n few = omega (arith, few)

parts_few : (bytes : List ℕ) → length (unwrap_or (parts_of bytes) []) ≤ length bytes
parts_few [] = omega arith
parts_few (byte ∷ later) = read_parts (part_of byte) (parts_of later) (length later) (parts_few later)

body_few : (memory : Memory) (at n : ℕ) → length (unwrap_or (body_in memory at n) []) ≤ most_parts
body_few memory at n =
    let body : Bool → Option (List Part) = λ b. if b then parts_of (span memory at n) else None in
    elim (cases_Bool (nat_le n most_parts && fits memory at n)) [
      | inl is ↦
          let few = parts_few (span memory at n) in
          let long = length-take n (drop at memory.bytes) in
          let most = leb-true n most_parts (and_parts (nat_le n most_parts) (fits memory at n) is).0 in
          subst (λ (b : Bool). length (unwrap_or (body b) []) ≤ most_parts) (sym is) (omega (arith, few, long, most))
      | inr none ↦ subst (λ (b : Bool). length (unwrap_or (body b) []) ≤ most_parts) (sym none) (omega arith)
    ]

-- ---- the desk

-- The record has no more entries than one may have, and no body more parts.
record IsBounded (desk : Desk) : Type 0 where
  pub few : length desk.book.entries ≤ entries_bound
  pub bodies : All (λ (entry : Intent). length entry.body ≤ most_parts) desk.book.entries

-- Where all checks pass, the record takes the entry.
taken : (own : List Check) (takes : Bool) → HaveCodes own → first_failing (own ++ (takes, Full) ∷ []) ≡ Done → takes ≡ true
taken own takes have done =
    let late : List Check = (takes, Full) ∷ [] in
    let holds = own_checks own late have done in
    let last = (fails_late own late holds).0 in
    let codes : HaveCodes late = (λ e. cc, tt) in
    (each_holds late (all_where_done late codes (sym last ∙ done))).0

module _ (desk : Desk) (memory : Memory) (bounded : IsBounded desk) where
  wanted_bounded : (intent : Intent) (code : Code) → length intent.body ≤ most_parts → (code ≡ Done → accepts desk.book.entries intent ≡ true) → IsBounded (wanted desk memory intent code).desk
  wanted_bounded intent Done parts takes = record {
    few = put_within desk.book.entries intent (takes refl) bounded.few;
    bodies = All-push (λ (entry : Intent). length entry.body ≤ most_parts) (filter (λ entry. not (same_place intent entry)) desk.book.entries) intent
        (All-filter (λ entry. not (same_place intent entry)) (λ (entry : Intent). length entry.body ≤ most_parts) desk.book.entries bounded.bodies) parts;
  }
  wanted_bounded intent _ parts takes = bounded

  act_bounded : (action : Action) (id target amount : ℤ) → IsBounded (act_reply action desk memory id target amount).desk
  act_bounded action id target amount =
      let wish : Intent = wish_of action desk.sight.account.player id target amount in
      wanted_bounded wish (act_code action desk id target amount) (omega arith)
      (λ done. taken (checks action (scene_seen desk.sight id target amount)) (accepts desk.book.entries wish) (have_codes action (scene_seen desk.sight id target amount)) done)

  claim_bounded : (id target : ℤ) → IsBounded (wanted desk memory (wish_of ClaimController desk.sight.account.player id target (pos 0)) (claim_code desk id target)).desk
  claim_bounded id target =
      let wish : Intent = wish_of ClaimController desk.sight.account.player id target (pos 0) in
      wanted_bounded wish (claim_code desk id target) (omega arith)
      (λ done. taken (checks ClaimController (claim_seen desk id target)) (accepts desk.book.entries wish) (have_codes ClaimController (claim_seen desk id target)) done)

  site_taken : (wish : Intent) (x y : ℤ) (room : Option SeenRoom) → site_code_in desk wish x y room ≡ Done → accepts desk.book.entries wish ≡ true
  site_taken wish x y None done = absurd (cc)
  site_taken wish x y (Some room) done = taken (site_checks (plan_seen desk wish x y room)) (accepts desk.book.entries wish) (site_codes (plan_seen desk wish x y room)) done

  site_bounded : (room x y kind : ℤ) → IsBounded (site_reply desk memory room x y kind).desk
  site_bounded room x y kind =
      let wish : Intent = site_wish desk.sight.account.player room x y kind in
      wanted_bounded wish (site_code desk room x y kind) (omega arith) (λ done. site_taken wish x y (seen_room desk room) done)

  removal_bounded : (id : ℤ) → IsBounded (wanted desk memory (removal_wish desk.sight.account.player id) (removal_code desk id)).desk
  removal_bounded id =
      let wish : Intent = removal_wish desk.sight.account.player id in
      let own : List Check = removal_checks desk.sight.account.player (seen desk.sight id) in
      let codes : HaveCodes own = (λ e. cc, (λ e. cc, tt)) in
      wanted_bounded wish (removal_code desk id) (omega arith) (λ done. taken own (accepts desk.book.entries wish) codes done)

  spawn_bounded : (id : ℤ) (body : Option (List Part)) → length (unwrap_or body []) ≤ most_parts → IsBounded (wanted desk memory (spawn_wish desk.sight.account.player id body) (spawn_code desk id body)).desk
  spawn_bounded id body parts =
      let wish : Intent = spawn_wish desk.sight.account.player id body in
      let own : List Check = spawn_checks desk.sight.account.player (seen desk.sight id) (objects_around desk.sight (seen desk.sight id)) body in
      let codes : HaveCodes own = (λ e. cc, (λ e. cc, (λ e. cc, (λ e. cc, (λ e. cc, tt))))) in
      wanted_bounded wish (spawn_code desk id body) parts (λ done. taken own (accepts desk.book.entries wish) codes done)

  read_bounded : (at : ℕ) → IsBounded (read_reply desk memory at).desk
  read_bounded at = elim (fits memory at (length desk.memory)) as (λ b. IsBounded (if b then record { answer = code_number Done; desk = desk; memory = written memory at desk.memory } else told desk memory (code_number InvalidArgs)).desk) [ true ↦ bounded | false ↦ bounded ]

  write_bounded : (at n : ℕ) → IsBounded (write_reply desk memory at n).desk
  write_bounded at n = elim (nat_le n most_memory && fits memory at n) as (λ b. IsBounded (if b then record { answer = code_number Done; desk = record desk { memory = span memory at n }; memory = memory } else told desk memory (code_number InvalidArgs)).desk) [
    | true ↦ record { few = bounded.few; bodies = bounded.bodies }
    | false ↦ bounded
  ]

  call_bounded : (found : Call) (args : List ℤ) → IsBounded (reply_of found desk memory args).desk
  call_bounded call.MemoryRead args = read_bounded (unsigned_32 (argument args 0))
  call_bounded call.MemoryWrite args = write_bounded (unsigned_32 (argument args 0)) (unsigned_32 (argument args 1))
  call_bounded call.Tick args = bounded
  call_bounded call.Me args = bounded
  call_bounded call.Allowance args = bounded
  call_bounded call.Bucket args = bounded
  call_bounded call.Points args = bounded
  call_bounded call.Level args = bounded
  call_bounded call.Rooms args = bounded
  call_bounded call.Room args = bounded
  call_bounded call.RoomName args = bounded
  call_bounded call.Terrain args = bounded
  call_bounded call.Count args = bounded
  call_bounded call.Find args = bounded
  call_bounded call.Get args = bounded
  call_bounded call.MemoryLength args = bounded
  call_bounded call.DropLoad args = act_bounded DropLoad (argument args 0) (pos 0) (argument args 1)
  call_bounded call.Transfer args = act_bounded Transfer (argument args 0) (argument args 1) (argument args 2)
  call_bounded call.Withdraw args = act_bounded Withdraw (argument args 0) (argument args 1) (argument args 2)
  call_bounded call.Pickup args = act_bounded Pickup (argument args 0) (argument args 1) (pos 0)
  call_bounded call.Heal args = act_bounded Heal (argument args 0) (argument args 1) (pos 0)
  call_bounded call.RangedHeal args = act_bounded RangedHeal (argument args 0) (argument args 1) (pos 0)
  call_bounded call.Dismantle args = act_bounded Dismantle (argument args 0) (argument args 1) (pos 0)
  call_bounded call.Attack args = act_bounded Attack (argument args 0) (argument args 1) (pos 0)
  call_bounded call.Harvest args = act_bounded Harvest (argument args 0) (argument args 1) (pos 0)
  call_bounded call.Repair args = act_bounded Repair (argument args 0) (argument args 1) (pos 0)
  call_bounded call.Build args = act_bounded Build (argument args 0) (argument args 1) (pos 0)
  call_bounded call.RangedMassAttack args = act_bounded RangedMassAttack (argument args 0) (pos 0) (pos 0)
  call_bounded call.RangedAttack args = act_bounded RangedAttack (argument args 0) (argument args 1) (pos 0)
  call_bounded call.Suicide args = act_bounded Suicide (argument args 0) (pos 0) (pos 0)
  call_bounded call.ClaimController args = claim_bounded (argument args 0) (argument args 1)
  call_bounded call.Upgrade args = act_bounded Upgrade (argument args 0) (argument args 1) (pos 0)
  call_bounded call.Reserve args = act_bounded Reserve (argument args 0) (argument args 1) (pos 0)
  call_bounded call.AttackController args = act_bounded AttackController (argument args 0) (argument args 1) (pos 0)
  call_bounded call.CreateSite args = site_bounded (argument args 0) (argument args 1) (argument args 2) (argument args 3)
  call_bounded call.RemoveSite args = removal_bounded (argument args 0)
  call_bounded call.SpawnCreep args = spawn_bounded (argument args 0) (body_in memory (unsigned_32 (argument args 1)) (unsigned_32 (argument args 2))) (body_few memory (unsigned_32 (argument args 1)) (unsigned_32 (argument args 2)))
  call_bounded call.Move args = act_bounded Move (argument args 0) (pos 0) (argument args 1)

  reply_bounded : (found : Option Call) (args : List ℤ) → IsBounded (reply_to found desk memory args).desk
  reply_bounded None args = bounded
  reply_bounded (Some found) args = elim (nat_eq (length args) (length (row found).params)) as (λ b. IsBounded (if b then reply_of found desk memory args else told desk memory (code_number InvalidArgs)).desk) [ true ↦ call_bounded found args | false ↦ bounded ]

answer_bounded : (host later : Desk) (number : ℕ) (args : List ℤ) (memory after : Memory) (answer : ℤ) → answers host number args memory answer after later → IsBounded host → IsBounded later
answer_bounded host later number args memory after answer is bounded = subst (λ (r : Reply). IsBounded r.desk) is (reply_bounded host memory bounded (call_at number) args)

-- ---- a run

-- No two entries of what a run wants have one place, it wants no more than a record takes, and no body has more parts than one may have.
pub record AreFew (intents : List Intent) : Type 0 where
  pub distinct : IsDistinct same_place intents
  pub most : length intents ≤ entries_bound
  pub bodies : AllByRecursion (λ (entry : Intent). length entry.body ≤ most_parts) intents

pub emitted_few : (link : Link) (sight : Sight) (run : PlayerRun) → EmitsBy link sight run → AreFew run.intents
emitted_few link sight run emits =
    let last : IsBounded emits.last.host = run_keeps link.program answers IsBounded answer_bounded emits.ends (record { few = omega arith; bodies = All-nil (λ (entry : Intent). length entry.body ≤ most_parts) }) in
    let entries : List Intent = emits.last.host.book.entries in
    let many = length_permutation entries run.intents emits.intents.0 in
    let few = last.few in
    record {
      distinct = IsDistinct-IsPermutation same_place (λ a b. place_symm (place a) (place b)) entries run.intents emits.intents.0 emits.single;
      most = omega (arith, many, few);
      bodies = recursion_from_All (λ (entry : Intent). length entry.body ≤ most_parts) run.intents (All-permutation (λ (entry : Intent). length entry.body ≤ most_parts) entries run.intents emits.intents.0 last.bodies);
    }
