-- A tick leaves the players as they were.
use Rattle.std.proofs.Common.{◌≡◌, ℕ, true, false, cond, List, [], ◌∷◌, ◌++◌, map, Option, Some, None, refl, sym, ap, subst, ◌∙◌}
use Rattle.std.specs.Ordering.{nat_cmp, eq_by_cmp}
use Rattle.std.specs.Cmp.{nat_cmp_total}
use Rattle.std.specs.FinMap.{FinMap, entries, find, get, get-entries, get-from_entries, keys}
use Rattle.game_tables.specs.declared.action.Action.{Action}
use Rattle.object_store.specs.declared.account.Account.{Account}
use Rattle.object_store.specs.Stored.{Stored}
use Rattle.intent_book.specs.declared.intent.Intent.{Intent}
use Rattle.intent_book.specs.declared.player_run.PlayerRun.{PlayerRun}
use Rattle.world_rules.specs.Crossings.{crossed, crossers}
use Rattle.world_rules.specs.Intents.{all_actions, entries_of, kept, room_of}
use Rattle.world_rules.specs.RoomParts.{RoomPart, in_every_room, in_frame, in_room, in_rooms}
use Rattle.world_rules.specs.RuleBook.{Step, Sums}
use Rattle.world_rules.specs.Rules.{IsPlayer}
use Rattle.world_rules.specs.Tick.{Course, account_after, acted, after_actions, after_kind, after_rule, after_rules, after_steps, begun, book, gained, harm_of, intents_of, movement, next_world, ruled, run_of, sums_in}
use Rattle.world_rules.specs.Upkeep.{steps}
use Rattle.world_rules.specs.World.{Frame, World, world_of}
use Rattle.std.specs.List.{filter_map}
use Rattle.ruled_tick.proofs.Leaving.{over_accounts}

frame_accounts : (change : RoomPart → RoomPart) (room : ℕ) (world : World) (found : Option Frame) → (in_frame change room world found).accounts ≡ world.accounts
frame_accounts change room world None = refl
frame_accounts change room world (Some frame) = refl

rooms_accounts : (change : ℕ → RoomPart → RoomPart) (rooms : List ℕ) (world : World) → (in_rooms change rooms world).accounts ≡ world.accounts
rooms_accounts change [] world = refl
rooms_accounts change (room ∷ later) world = rooms_accounts change later (in_room (change room) room world) ∙ frame_accounts (change room) room world (get world.rooms room)

steps_accounts : (sums : ℕ → Sums) (list : List Step) (world : World) → (after_steps sums list world).accounts ≡ world.accounts
steps_accounts sums [] world = refl
steps_accounts sums (step ∷ later) world =
    steps_accounts sums later (in_every_room (λ room. step (sums room)) world) ∙ rooms_accounts (λ room. step (sums room)) (keys world.rooms) world

rule_accounts : (before : World) (course : Course) (entry : Intent) (room : Option ℕ) → (after_rule book before course entry room).world.accounts ≡ course.world.accounts
rule_accounts before course entry None = refl
rule_accounts before course entry (Some room) = frame_accounts (λ part. (book.effect entry part).part) room course.world (get course.world.rooms room)

rules_accounts : (before : World) (list : List Intent) (course : Course) → (after_rules book before list course).world.accounts ≡ course.world.accounts
rules_accounts before [] course = refl
rules_accounts before (entry ∷ later) course =
    rules_accounts before later (after_rule book before course entry (room_of before entry)) ∙ rule_accounts before course entry (room_of before entry)

actions_accounts : (before : World) (actions : List Action) (list : List Intent) (course : Course) → (after_actions book before actions list course).world.accounts ≡ course.world.accounts
actions_accounts before [] list course = refl
actions_accounts before (action ∷ later) list course =
    let harmed : Course = record course { harms = course.harms ++ filter_map (harm_of book before course.world) (entries_of action list) } in
    actions_accounts before later list (after_kind book before (entries_of action list) course) ∙ rules_accounts before (entries_of action list) harmed

pub ruled_accounts : (world : World) (list : List Intent) → (ruled book crossed world list).accounts ≡ world.accounts
ruled_accounts world list =
    let after : Course = acted book world list in
    let moved : World = in_every_room (movement book world list) after.world in
    let rested : World = after_steps (sums_in after) steps moved in
    over_accounts (crossers rested) rested
    ∙ steps_accounts (sums_in after) steps moved
    ∙ rooms_accounts (movement book world list) (keys after.world.rooms) after.world
    ∙ actions_accounts world all_actions (kept world list) (begun world)

-- A key of changed entries is one of those before.
key_stays : {A : Type 0} (change : ℕ × A → A) (es : List (ℕ × A)) (key : ℕ) (x : A) → find nat_cmp key (map (λ e. (e.0, change e)) es) ≡ Some x → (y : A) × (find nat_cmp key es ≡ Some y)
key_stays change [] key x is = absurd (cc)
key_stays {A} change (e ∷ es) key x is =
    elim (eq_by_cmp nat_cmp key e.0) as (λ b. cond b (Some (change e)) (find nat_cmp key (map (λ f. (f.0, change f)) es)) ≡ Some x → (y : A) × (cond b (Some e.1) (find nat_cmp key es) ≡ Some y)) [
      | true ↦ λ got. (e.1, refl)
      | false ↦ λ got. key_stays change es key x got
    ] is

pub players_stay : (before after : Stored) (runs : List PlayerRun) → world_of after ≡ next_world (world_of before) runs → (player : ℕ) → IsPlayer (world_of after) player → IsPlayer (world_of before) player
players_stay before after runs is player has =
    let world : World = world_of before in
    let list : List Intent = intents_of runs in
    let now : World = ruled book crossed world list in
    let change : ℕ × Account → Account = λ entry. account_after (gained book world list entry.0) entry.1 (run_of entry.0 runs) in
    let found : get (next_world world runs).accounts player ≡ Some has.0 = subst (λ (w : World). get w.accounts player ≡ Some has.0) is has.1 in
    let stays = key_stays change (entries now.accounts) player has.0 (sym (get-from_entries nat_cmp_total (map (λ e. (e.0, change e)) (entries now.accounts)) player) ∙ found) in
    (stays.0, ap (λ (accounts : FinMap nat_cmp Account). get accounts player) (sym (ruled_accounts world list)) ∙ get-entries now.accounts player ∙ stays.1)
