-- A reply keeps the size of the module's memory, and where its answer is not 0 it changes nothing.
use Rattle.std.proofs.Common.{◌≡◌, ◌≢◌, ℕ, ℤ, pos, ◌+◌, ◌≤◌, List, length, Option, Some, None, refl, arith, length-append, length-drop}
use Rattle.std.specs.Prelude.{◌&&◌, nat_eq, nat_le}
use Rattle.std.proofs.lemmas.Bool.{cond_both, leb-true}
use Rattle.std.proofs.lemmas.List.{length-take}
use Rattle.game_tables.specs.Codes.{code_number}
use Rattle.game_tables.specs.Limits.{most_memory}
use Rattle.game_tables.specs.declared.action.Action.{Action}
use Rattle.game_tables.specs.declared.action.Action.TheVariants.{DropLoad, Transfer, Withdraw, Pickup, Heal, RangedHeal, Dismantle, Attack, Harvest, Repair, Build, RangedMassAttack, RangedAttack, Suicide, ClaimController, Upgrade, Reserve, AttackController, Move}
use Rattle.game_tables.specs.declared.code.Code.{Code}
use Rattle.game_tables.specs.declared.code.Code.TheVariants.{Done, InvalidArgs}
use Rattle.intent_book.specs.declared.intent.Intent.{Intent}
use Rattle.wasm_store.specs.Memory.{Memory, span, written}
use Rattle.host_calls.specs.declared.call.Call.{Call}
use Rattle.host_calls.specs.declared.call.Call.TheVariants as call
use Rattle.host_calls.specs.Calls.{call_at, row}
use Rattle.host_calls.specs.Desks.{Desk, argument, unsigned_32}
use Rattle.host_calls.specs.Replies.{Reply, act_code, act_reply, body_in, claim_code, fits, read_reply, removal_code, removal_wish, reply, reply_of, reply_to, site_code, site_wish, spawn_code, spawn_wish, told, wanted, wish_of, write_reply}

-- The memory behind a reply has the size and the limit of that before it.
abbrev pub KeepsSize : Memory → Reply → Type 0
KeepsSize memory to = (length to.memory.bytes ≡ length memory.bytes) × (to.memory.limit ≡ memory.limit)

length-written : (memory : Memory) (at : ℕ) (bytes : List ℕ) → at + length bytes ≤ length memory.bytes → length (written memory at bytes).bytes ≡ length memory.bytes
length-written memory at bytes h = simp (length-append, length-take, length-drop) (omega arith)

wanted_size : (desk : Desk) (memory : Memory) (intent : Intent) (code : Code) → KeepsSize memory (wanted desk memory intent code)
wanted_size desk memory intent Done = (refl, refl)
wanted_size desk memory intent _ = (refl, refl)

act_size : (action : Action) (desk : Desk) (memory : Memory) (id target amount : ℤ) → KeepsSize memory (act_reply action desk memory id target amount)
act_size action desk memory id target amount = wanted_size desk memory (wish_of action desk.sight.account.player id target amount) (act_code action desk id target amount)

reply_of_size : (found : Call) (desk : Desk) (memory : Memory) (args : List ℤ) → KeepsSize memory (reply_of found desk memory args)
reply_of_size call.MemoryRead desk memory args =
    let at = unsigned_32 (argument args 0) in
    cond_both (fits memory at (length desk.memory)) _ _ (KeepsSize memory) (λ h. (length-written memory at desk.memory (leb-true _ _ h), refl)) (λ _. (refl, refl))
reply_of_size call.MemoryWrite desk memory args =
    cond_both _ _ _ (KeepsSize memory) (λ _. (refl, refl)) (λ _. (refl, refl))
reply_of_size call.DropLoad desk memory args =
    act_size DropLoad desk memory (argument args 0) (pos 0) (argument args 1)
reply_of_size call.Transfer desk memory args =
    act_size Transfer desk memory (argument args 0) (argument args 1) (argument args 2)
reply_of_size call.Withdraw desk memory args =
    act_size Withdraw desk memory (argument args 0) (argument args 1) (argument args 2)
reply_of_size call.Pickup desk memory args =
    act_size Pickup desk memory (argument args 0) (argument args 1) (pos 0)
reply_of_size call.Heal desk memory args =
    act_size Heal desk memory (argument args 0) (argument args 1) (pos 0)
reply_of_size call.RangedHeal desk memory args =
    act_size RangedHeal desk memory (argument args 0) (argument args 1) (pos 0)
reply_of_size call.Dismantle desk memory args =
    act_size Dismantle desk memory (argument args 0) (argument args 1) (pos 0)
reply_of_size call.Attack desk memory args =
    act_size Attack desk memory (argument args 0) (argument args 1) (pos 0)
reply_of_size call.Harvest desk memory args =
    act_size Harvest desk memory (argument args 0) (argument args 1) (pos 0)
reply_of_size call.Repair desk memory args =
    act_size Repair desk memory (argument args 0) (argument args 1) (pos 0)
reply_of_size call.Build desk memory args =
    act_size Build desk memory (argument args 0) (argument args 1) (pos 0)
reply_of_size call.RangedMassAttack desk memory args =
    act_size RangedMassAttack desk memory (argument args 0) (pos 0) (pos 0)
reply_of_size call.RangedAttack desk memory args =
    act_size RangedAttack desk memory (argument args 0) (argument args 1) (pos 0)
reply_of_size call.Suicide desk memory args =
    act_size Suicide desk memory (argument args 0) (pos 0) (pos 0)
reply_of_size call.Upgrade desk memory args =
    act_size Upgrade desk memory (argument args 0) (argument args 1) (pos 0)
reply_of_size call.Reserve desk memory args =
    act_size Reserve desk memory (argument args 0) (argument args 1) (pos 0)
reply_of_size call.AttackController desk memory args =
    act_size AttackController desk memory (argument args 0) (argument args 1) (pos 0)
reply_of_size call.ClaimController desk memory args =
    wanted_size desk memory (wish_of ClaimController desk.sight.account.player (argument args 0) (argument args 1) (pos 0)) (claim_code desk (argument args 0) (argument args 1))
reply_of_size call.CreateSite desk memory args =
    wanted_size desk memory (site_wish desk.sight.account.player (argument args 0) (argument args 1) (argument args 2) (argument args 3)) (site_code desk (argument args 0) (argument args 1) (argument args 2) (argument args 3))
reply_of_size call.RemoveSite desk memory args =
    wanted_size desk memory (removal_wish desk.sight.account.player (argument args 0)) (removal_code desk (argument args 0))
reply_of_size call.SpawnCreep desk memory args =
    let body = body_in memory (unsigned_32 (argument args 1)) (unsigned_32 (argument args 2)) in
    wanted_size desk memory (spawn_wish desk.sight.account.player (argument args 0) body) (spawn_code desk (argument args 0) body)
reply_of_size call.Move desk memory args =
    act_size Move desk memory (argument args 0) (pos 0) (argument args 1)
reply_of_size _ desk memory args = (refl, refl)

reply_to_size : (found : Option Call) (desk : Desk) (memory : Memory) (args : List ℤ) → KeepsSize memory (reply_to found desk memory args)
reply_to_size None desk memory args = (refl, refl)
reply_to_size (Some found) desk memory args =
    cond_both (nat_eq (length args) (length (row found).params)) _ _ (KeepsSize memory) (λ _. reply_of_size found desk memory args) (λ _. (refl, refl))

pub reply_size : (number : ℕ) (desk : Desk) (memory : Memory) (args : List ℤ) → KeepsSize memory (reply number desk memory args)
reply_size number desk memory args = reply_to_size (call_at number) desk memory args

-- ---- an answer that is not 0

-- Where the answer is not 0, the desk and the memory behind the reply are those before it.
abbrev pub ChangesOnlyAt0 : Desk → Memory → Reply → Type 0
ChangesOnlyAt0 desk memory to = to.answer ≢ pos 0 → (to.desk ≡ desk) × (to.memory ≡ memory)

answers_0 : (desk : Desk) (memory : Memory) (to : Reply) → to.answer ≡ pos 0 → ChangesOnlyAt0 desk memory to
answers_0 desk memory to zero = λ other. absurd (other zero)

told_unchanged : (desk : Desk) (memory : Memory) (answer : ℤ) → ChangesOnlyAt0 desk memory (told desk memory answer)
told_unchanged desk memory answer = λ other. (refl, refl)

read_unchanged : (desk : Desk) (memory : Memory) (at : ℕ) → ChangesOnlyAt0 desk memory (read_reply desk memory at)
read_unchanged desk memory at =
    let read : Reply = record { answer = pos 0; desk = desk; memory = written memory at desk.memory } in
    let refused : Reply = told desk memory (code_number InvalidArgs) in
    cond_both (fits memory at (length desk.memory)) read refused (ChangesOnlyAt0 desk memory) (λ _. answers_0 desk memory read refl) (λ _. told_unchanged desk memory (code_number InvalidArgs))

write_unchanged : (desk : Desk) (memory : Memory) (at n : ℕ) → ChangesOnlyAt0 desk memory (write_reply desk memory at n)
write_unchanged desk memory at n =
    let changed : Reply = record { answer = pos 0; desk = record desk { memory = span memory at n }; memory = memory } in
    let refused : Reply = told desk memory (code_number InvalidArgs) in
    cond_both (nat_le n most_memory && fits memory at n) changed refused (ChangesOnlyAt0 desk memory) (λ _. answers_0 desk memory changed refl) (λ _. told_unchanged desk memory (code_number InvalidArgs))

wanted_unchanged : (desk : Desk) (memory : Memory) (intent : Intent) (code : Code) → ChangesOnlyAt0 desk memory (wanted desk memory intent code)
wanted_unchanged desk memory intent Done = answers_0 desk memory (wanted desk memory intent Done) refl
wanted_unchanged desk memory intent code = told_unchanged desk memory (code_number code)

act_unchanged : (action : Action) (desk : Desk) (memory : Memory) (id target amount : ℤ) → ChangesOnlyAt0 desk memory (act_reply action desk memory id target amount)
act_unchanged action desk memory id target amount = wanted_unchanged desk memory (wish_of action desk.sight.account.player id target amount) (act_code action desk id target amount)

reply_of_unchanged : (found : Call) (desk : Desk) (memory : Memory) (args : List ℤ) → ChangesOnlyAt0 desk memory (reply_of found desk memory args)
reply_of_unchanged call.MemoryRead desk memory args = read_unchanged desk memory (unsigned_32 (argument args 0))
reply_of_unchanged call.MemoryWrite desk memory args = write_unchanged desk memory (unsigned_32 (argument args 0)) (unsigned_32 (argument args 1))
reply_of_unchanged call.DropLoad desk memory args =
    act_unchanged DropLoad desk memory (argument args 0) (pos 0) (argument args 1)
reply_of_unchanged call.Transfer desk memory args =
    act_unchanged Transfer desk memory (argument args 0) (argument args 1) (argument args 2)
reply_of_unchanged call.Withdraw desk memory args =
    act_unchanged Withdraw desk memory (argument args 0) (argument args 1) (argument args 2)
reply_of_unchanged call.Pickup desk memory args =
    act_unchanged Pickup desk memory (argument args 0) (argument args 1) (pos 0)
reply_of_unchanged call.Heal desk memory args =
    act_unchanged Heal desk memory (argument args 0) (argument args 1) (pos 0)
reply_of_unchanged call.RangedHeal desk memory args =
    act_unchanged RangedHeal desk memory (argument args 0) (argument args 1) (pos 0)
reply_of_unchanged call.Dismantle desk memory args =
    act_unchanged Dismantle desk memory (argument args 0) (argument args 1) (pos 0)
reply_of_unchanged call.Attack desk memory args =
    act_unchanged Attack desk memory (argument args 0) (argument args 1) (pos 0)
reply_of_unchanged call.Harvest desk memory args =
    act_unchanged Harvest desk memory (argument args 0) (argument args 1) (pos 0)
reply_of_unchanged call.Repair desk memory args =
    act_unchanged Repair desk memory (argument args 0) (argument args 1) (pos 0)
reply_of_unchanged call.Build desk memory args =
    act_unchanged Build desk memory (argument args 0) (argument args 1) (pos 0)
reply_of_unchanged call.RangedMassAttack desk memory args =
    act_unchanged RangedMassAttack desk memory (argument args 0) (pos 0) (pos 0)
reply_of_unchanged call.RangedAttack desk memory args =
    act_unchanged RangedAttack desk memory (argument args 0) (argument args 1) (pos 0)
reply_of_unchanged call.Suicide desk memory args =
    act_unchanged Suicide desk memory (argument args 0) (pos 0) (pos 0)
reply_of_unchanged call.Upgrade desk memory args =
    act_unchanged Upgrade desk memory (argument args 0) (argument args 1) (pos 0)
reply_of_unchanged call.Reserve desk memory args =
    act_unchanged Reserve desk memory (argument args 0) (argument args 1) (pos 0)
reply_of_unchanged call.AttackController desk memory args =
    act_unchanged AttackController desk memory (argument args 0) (argument args 1) (pos 0)
reply_of_unchanged call.ClaimController desk memory args =
    wanted_unchanged desk memory (wish_of ClaimController desk.sight.account.player (argument args 0) (argument args 1) (pos 0)) (claim_code desk (argument args 0) (argument args 1))
reply_of_unchanged call.CreateSite desk memory args =
    wanted_unchanged desk memory (site_wish desk.sight.account.player (argument args 0) (argument args 1) (argument args 2) (argument args 3)) (site_code desk (argument args 0) (argument args 1) (argument args 2) (argument args 3))
reply_of_unchanged call.RemoveSite desk memory args =
    wanted_unchanged desk memory (removal_wish desk.sight.account.player (argument args 0)) (removal_code desk (argument args 0))
reply_of_unchanged call.SpawnCreep desk memory args =
    let body = body_in memory (unsigned_32 (argument args 1)) (unsigned_32 (argument args 2)) in
    wanted_unchanged desk memory (spawn_wish desk.sight.account.player (argument args 0) body) (spawn_code desk (argument args 0) body)
reply_of_unchanged call.Move desk memory args =
    act_unchanged Move desk memory (argument args 0) (pos 0) (argument args 1)
reply_of_unchanged _ desk memory args = λ _. (refl, refl)

reply_to_unchanged : (found : Option Call) (desk : Desk) (memory : Memory) (args : List ℤ) → ChangesOnlyAt0 desk memory (reply_to found desk memory args)
reply_to_unchanged None desk memory args = told_unchanged desk memory (code_number InvalidArgs)
reply_to_unchanged (Some found) desk memory args =
    cond_both (nat_eq (length args) (length (row found).params)) (reply_of found desk memory args) (told desk memory (code_number InvalidArgs)) (ChangesOnlyAt0 desk memory)
    (λ _. reply_of_unchanged found desk memory args) (λ _. told_unchanged desk memory (code_number InvalidArgs))

pub reply_unchanged : (number : ℕ) (desk : Desk) (memory : Memory) (args : List ℤ) → ChangesOnlyAt0 desk memory (reply number desk memory args)
reply_unchanged number desk memory args = reply_to_unchanged (call_at number) desk memory args
