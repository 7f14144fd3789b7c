-- What each call answers, and what it changes.
use Rattle.std.specs.Prelude.{◌≡◌, ℕ, ◌+◌, ◌*◌, ◌==◌, ◌&&◌, nat_lt, ℤ, pos, ◌+ℤ◌, ◌*ℤ◌, nat_le, nat_eq, Bool}
use Rattle.std.specs.Prelude.{if◌then◌else◌, List, [], ◌∷◌, ◌++◌, length, Option, Some, None, option_map}
use Rattle.std.specs.Prelude.{option_and_then, slice_get}
use Rattle.std.specs.List.{find}
use Rattle.std.specs.Option.{unwrap_or}
use Rattle.game_tables.specs.Codes.{code_number}
use Rattle.game_tables.specs.Bodies.{most_parts}
use Rattle.game_tables.specs.Limits.{most_memory}
use Rattle.game_tables.specs.declared.action.Action.{Action}
use Rattle.game_tables.specs.declared.action.Action.TheVariants.{DropLoad, Transfer, Withdraw, Pickup, Heal}
use Rattle.game_tables.specs.declared.action.Action.TheVariants.{RangedHeal, Dismantle, Attack, Harvest}
use Rattle.game_tables.specs.declared.action.Action.TheVariants.{Repair, Build, RangedMassAttack}
use Rattle.game_tables.specs.declared.action.Action.TheVariants.{RangedAttack, Suicide, ClaimController}
use Rattle.game_tables.specs.declared.action.Action.TheVariants.{Upgrade, Reserve, AttackController}
use Rattle.game_tables.specs.declared.action.Action.TheVariants.{CreateSite, RemoveSite, SpawnCreep, Move}
use Rattle.game_tables.specs.Numbers.{part_number}
use Rattle.game_tables.specs.declared.kind.Part.{Part}
use Rattle.game_tables.specs.declared.kind.Part.TheVariants as parts
use Rattle.game_tables.specs.declared.code.Code.{Code}
use Rattle.game_tables.specs.declared.code.Code.TheVariants.{Done, NotFound, Full, InvalidArgs}
use Rattle.room_terrain.specs.Tiles.{ground_number}
use Rattle.room_terrain.specs.declared.name.RoomName.{RoomName}
use Rattle.room_table.specs.declared.object.Object.{Object}
use Rattle.world_rules.specs.World.{Placed}
use Rattle.world_rules.specs.Checks.{Check, Scene, checks, first_failing, least_of}
use Rattle.world_rules.specs.Sites.{Plan, removal_checks, site_checks}
use Rattle.world_rules.specs.Spawns.{spawn_checks}
use Rattle.counted_record.specs.Others.{others_in, others_of}
use Rattle.sight_census.specs.Censuses.{census_of}
use Rattle.visible_view.specs.Sights.{SeenRoom, Sight}
use Rattle.visible_view.specs.Fields.{field_at, ground_at, objects_at, place_of, room_at}
use Rattle.intent_book.specs.Records.{accepts, put_last}
use Rattle.intent_book.specs.declared.intent.Intent.{Intent}
use Rattle.wasm_store.specs.Memory.{Memory, span, written}
use Rattle.host_calls.specs.declared.call.Call.{Call}
use Rattle.host_calls.specs.declared.call.Call.TheVariants as call
use Rattle.host_calls.specs.Calls.{call_at, row}
use Rattle.host_calls.specs.Desks.{Desk, allowance, argument, as_answer, as_index, global_level, signed_32}
use Rattle.host_calls.specs.Desks.{unsigned_32}

-- an answer, with the desk and the module's memory behind it
pub record Reply : Type 0 where
  pub answer : ℤ
  pub desk : Desk
  pub memory : Memory

-- an answer that changes nothing
abbrev pub told : Desk → Memory → ℤ → Reply
told desk memory answer = record { answer = answer; desk = desk; memory = memory }

-- what there is, or else a code
abbrev pub or_code : Code → Option ℕ → ℤ
or_code code (Some n) = as_answer n
or_code code None = code_number code

-- ---- what is seen

-- the room of an argument, where it is seen
abbrev pub seen_room : Desk → ℤ → Option SeenRoom
seen_room desk value = option_and_then (room_at desk.sight) (as_index (signed_32 value))

-- a name as a number: 256 times the column from -128 on, and the row from there
abbrev pub name_number : RoomName → ℤ
name_number name = (name.column +ℤ pos 128) *ℤ pos 256 +ℤ name.row +ℤ pos 128

abbrev pub name_reply : Option SeenRoom → ℤ
name_reply (Some room) = name_number room.name
name_reply None = code_number InvalidArgs

abbrev pub room_reply : Desk → ℤ → ℤ
room_reply desk i =
    or_code InvalidArgs
    (option_map (λ room. room.index) (option_and_then (slice_get desk.sight.rooms) (as_index (signed_32 i))))

abbrev pub ground_reply : Desk → ℤ → ℤ → ℤ → ℤ
ground_reply desk room x y =
    or_code InvalidArgs
    (option_and_then
    (λ index. option_and_then
    (λ column. option_and_then (λ row. option_map ground_number (ground_at desk.sight index column row))
    (as_index (signed_32 y))) (as_index (signed_32 x))) (as_index (signed_32 room)))

abbrev pub find_reply : Desk → ℤ → ℤ
find_reply desk id = or_code NotFound (option_and_then (λ n. place_of n desk.sight.objects) (as_index id))

abbrev pub field_reply : Desk → ℤ → ℤ → ℤ
field_reply desk index field =
    or_code InvalidArgs
    (option_and_then (λ i. option_and_then (field_at desk.sight i) (as_index (signed_32 field)))
    (as_index (signed_32 index)))

-- ---- the memory text

-- The span is in the module's memory. In a module without a memory this is the empty one at 0.
abbrev pub fits : Memory → ℕ → ℕ → Bool
fits memory at n = nat_le (at + n) (length memory.bytes)

-- the text is copied to an address
abbrev pub read_reply : Desk → Memory → ℕ → Reply
read_reply desk memory at =
    if fits memory at (length desk.memory) then record {
      answer = code_number Done;
      desk = desk;
      memory = written memory at desk.memory;
    }
    else told desk memory (code_number InvalidArgs)

-- the text becomes the bytes of a span
abbrev pub write_reply : Desk → Memory → ℕ → ℕ → Reply
write_reply desk memory at n =
    if nat_le n most_memory && fits memory at n then record {
      answer = code_number Done;
      desk = record desk { memory = span memory at n };
      memory = memory;
    }
    else told desk memory (code_number InvalidArgs)

-- ---- what is wanted

-- an object that is seen and its room, by its id
abbrev pub seen : Sight → ℤ → Option Placed
seen sight id =
    option_and_then (λ n. option_and_then (slice_get sight.objects) (place_of n sight.objects)) (as_index id)

-- all that is seen in the room of an object that is seen, in rising id
abbrev pub objects_around : Sight → Option Placed → List Object
objects_around sight None = []
objects_around sight (Some placed) = objects_at sight placed.room

-- the number of an id, where it is one
abbrev pub id_of : ℤ → ℕ
id_of value = unwrap_or (as_index value) 0

-- the amount of an argument: none where it is negative
abbrev pub amount_of : ℤ → Option ℕ
amount_of value = as_index (signed_32 value)

-- what a call wants by which a creep is to act
abbrev pub wish_of : Action → ℕ → ℤ → ℤ → ℤ → Intent
wish_of action player id target amount = record {
  player = player;
  action = action;
  actor = id_of id;
  target = id_of target;
  amount = unwrap_or (amount_of amount) 0;
  body = [];
}

-- what the checks of such a call read: what the player sees of its creep, of its target and of the room of
-- its creep
abbrev pub scene_seen : Sight → ℤ → ℤ → ℤ → Scene
scene_seen sight id target amount = record {
  player = sight.account.player;
  actor = seen sight id;
  target = seen sight target;
  around = objects_around sight (seen sight id);
  amount = amount_of amount;
  least = least_of (amount_of amount);
  claims = 0;
  level = 1;
}

-- what every call checks last: that the record takes the entry
abbrev pub record_checks : Desk → Intent → List Check
record_checks desk intent = (accepts desk.book.entries intent, Full) ∷ []

-- the code of a call of an action: that of the first check that fails, the record's being the last
abbrev pub act_code : Action → Desk → ℤ → ℤ → ℤ → Code
act_code action desk id target amount =
    first_failing
    (checks action (scene_seen desk.sight id target amount)
    ++ record_checks desk (wish_of action desk.sight.account.player id target amount))

-- A call that wants something: where its code is Done it is recorded, and else nothing is changed.
abbrev pub wanted : Desk → Memory → Intent → Code → Reply
wanted desk memory intent Done = record {
  answer = code_number Done;
  desk = record desk { book = record desk.book { entries = put_last desk.book.entries intent } };
  memory = memory;
}
wanted desk memory intent code = told desk memory (code_number code)

-- the reply to a call of an action
abbrev pub act_reply : Action → Desk → Memory → ℤ → ℤ → ℤ → Reply
act_reply action desk memory id target amount =
    wanted desk memory (wish_of action desk.sight.account.player id target amount)
    (act_code action desk id target amount)

-- Of each call of an action, which of its arguments are its creep, its target and its amount.

-- drop: an amount of 0 wants all that the creep carries, and at least 1 has to be there
abbrev pub drop_reply : Desk → Memory → ℤ → ℤ → Reply
drop_reply desk memory id amount = act_reply DropLoad desk memory id (pos 0) amount

-- transfer: an amount of 0 wants all that the creep carries and the target takes, and at least 1 has to be
-- there
abbrev pub transfer_reply : Desk → Memory → ℤ → ℤ → ℤ → Reply
transfer_reply desk memory id target amount = act_reply Transfer desk memory id target amount

-- withdraw: an amount of 0 wants all that the target holds and the creep takes, and at least 1 has to be
-- there
abbrev pub withdraw_reply : Desk → Memory → ℤ → ℤ → ℤ → Reply
withdraw_reply desk memory id target amount = act_reply Withdraw desk memory id target amount

-- pickup: a creep and a pile, and no amount
abbrev pub pickup_reply : Desk → Memory → ℤ → ℤ → Reply
pickup_reply desk memory id target = act_reply Pickup desk memory id target (pos 0)

-- heal and ranged_heal: a creep and a creep, and no amount
abbrev pub heal_reply : Desk → Memory → ℤ → ℤ → Reply
heal_reply desk memory id target = act_reply Heal desk memory id target (pos 0)

abbrev pub ranged_heal_reply : Desk → Memory → ℤ → ℤ → Reply
ranged_heal_reply desk memory id target = act_reply RangedHeal desk memory id target (pos 0)

-- dismantle: a creep and a building, and no amount
abbrev pub dismantle_reply : Desk → Memory → ℤ → ℤ → Reply
dismantle_reply desk memory id target = act_reply Dismantle desk memory id target (pos 0)

-- attack and ranged_attack: a creep, another creep or a building, and no amount
abbrev pub attack_reply : Desk → Memory → ℤ → ℤ → Reply
attack_reply desk memory id target = act_reply Attack desk memory id target (pos 0)

abbrev pub ranged_attack_reply : Desk → Memory → ℤ → ℤ → Reply
ranged_attack_reply desk memory id target = act_reply RangedAttack desk memory id target (pos 0)

-- harvest: a creep and a source, and no amount
abbrev pub harvest_reply : Desk → Memory → ℤ → ℤ → Reply
harvest_reply desk memory id target = act_reply Harvest desk memory id target (pos 0)

-- repair: a creep and a building, and no amount
abbrev pub repair_reply : Desk → Memory → ℤ → ℤ → Reply
repair_reply desk memory id target = act_reply Repair desk memory id target (pos 0)

-- build: a creep and a site, and no amount
abbrev pub build_reply : Desk → Memory → ℤ → ℤ → Reply
build_reply desk memory id target = act_reply Build desk memory id target (pos 0)

-- ranged_mass_attack and suicide: a creep alone
abbrev pub mass_attack_reply : Desk → Memory → ℤ → Reply
mass_attack_reply desk memory id = act_reply RangedMassAttack desk memory id (pos 0) (pos 0)

abbrev pub suicide_reply : Desk → Memory → ℤ → Reply
suicide_reply desk memory id = act_reply Suicide desk memory id (pos 0) (pos 0)

-- upgrade, reserve and attack_controller: a creep and a controller, and no amount
abbrev pub upgrade_reply : Desk → Memory → ℤ → ℤ → Reply
upgrade_reply desk memory id target = act_reply Upgrade desk memory id target (pos 0)

abbrev pub reserve_reply : Desk → Memory → ℤ → ℤ → Reply
reserve_reply desk memory id target = act_reply Reserve desk memory id target (pos 0)

abbrev pub attack_controller_reply : Desk → Memory → ℤ → ℤ → Reply
attack_controller_reply desk memory id target = act_reply AttackController desk memory id target (pos 0)

-- move: the amount is the number of the direction
abbrev pub move_reply : Desk → Memory → ℤ → ℤ → Reply
move_reply desk memory id direction = act_reply Move desk memory id (pos 0) direction

-- ---- claims

-- What the checks of a claim read beside: the controllers that the player owns and those that other creeps of
-- his are to claim, and his global level.
abbrev pub claim_seen : Desk → ℤ → ℤ → Scene
claim_seen desk id target = record (scene_seen desk.sight id target (pos 0)) {
  claims = (census_of desk.sight).controllers
      + length (others_of ClaimController (id_of id) desk.book.entries);
  level = global_level desk.sight.account.points;
}

abbrev pub claim_code : Desk → ℤ → ℤ → Code
claim_code desk id target =
    first_failing
    (checks ClaimController (claim_seen desk id target)
    ++ record_checks desk (wish_of ClaimController desk.sight.account.player id target (pos 0)))

abbrev pub claim_reply : Desk → Memory → ℤ → ℤ → Reply
claim_reply desk memory id target =
    wanted desk memory (wish_of ClaimController desk.sight.account.player id target (pos 0))
    (claim_code desk id target)

-- ---- sites

-- a number of an argument, and 0 where it is negative
abbrev pub number_of : ℤ → ℕ
number_of value = unwrap_or (amount_of value) 0

-- a coordinate of a tile of a room, and else 0, where no site may be
abbrev pub coordinate_of : ℤ → ℕ
coordinate_of value = if nat_lt (number_of value) 50 then number_of value else 0

-- what a call for a site wants: the actor is the tile, and the amount the number of the kind
abbrev pub site_wish : ℕ → ℤ → ℤ → ℤ → ℤ → Intent
site_wish player room x y kind = record {
  player = player;
  action = CreateSite;
  actor = number_of room * 2500 + coordinate_of y * 50 + coordinate_of x;
  target = 0;
  amount = number_of kind;
  body = [];
}

-- what its checks read: the room as it is seen, and what the record has for other tiles
abbrev pub plan_seen : Desk → Intent → ℤ → ℤ → SeenRoom → Plan
plan_seen desk wish x y room = record {
  player = desk.sight.account.player;
  x = coordinate_of x;
  y = coordinate_of y;
  number = wish.amount;
  grounds = room.grounds;
  around = objects_at desk.sight room.index;
  recorded = length (others_in wish.actor wish.amount desk.book.entries);
  sites = desk.sight.sites + length (others_of CreateSite wish.actor desk.book.entries);
}

abbrev pub site_code_in : Desk → Intent → ℤ → ℤ → Option SeenRoom → Code
site_code_in desk wish x y None = NotFound
site_code_in desk wish x y (Some room) =
    first_failing (site_checks (plan_seen desk wish x y room) ++ record_checks desk wish)

abbrev pub site_code : Desk → ℤ → ℤ → ℤ → ℤ → Code
site_code desk room x y kind =
    site_code_in desk (site_wish desk.sight.account.player room x y kind) x y (seen_room desk room)

abbrev pub site_reply : Desk → Memory → ℤ → ℤ → ℤ → ℤ → Reply
site_reply desk memory room x y kind =
    wanted desk memory (site_wish desk.sight.account.player room x y kind) (site_code desk room x y kind)

abbrev pub removal_wish : ℕ → ℤ → Intent
removal_wish player id =
    record { player = player; action = RemoveSite; actor = id_of id; target = 0; amount = 0; body = [] }

abbrev pub removal_code : Desk → ℤ → Code
removal_code desk id =
    first_failing
    (removal_checks desk.sight.account.player (seen desk.sight id)
    ++ record_checks desk (removal_wish desk.sight.account.player id))

abbrev pub removal_reply : Desk → Memory → ℤ → Reply
removal_reply desk memory id =
    wanted desk memory (removal_wish desk.sight.account.player id) (removal_code desk id)

-- ---- creeps that spawns make

-- the part of a number
abbrev pub part_of : ℕ → Option Part
part_of number =
    find (λ part. part_number part == number)
    (parts.Move ∷ parts.Work ∷ parts.Carry ∷ parts.Attack ∷ parts.RangedAttack ∷ parts.Tough ∷ parts.Heal
    ∷ parts.Claim ∷ [])

-- the parts of a span of bytes, where each is the number of one
abbrev pub parts_of : List ℕ → Option (List Part)
parts_of [] = Some []
parts_of (byte ∷ later) =
    option_and_then (λ part. option_map (λ others. part ∷ others) (parts_of later)) (part_of byte)

-- the body in a span of the module's memory: there is none where the span passes its end or is of more bytes
-- than a body may have
abbrev pub body_in : Memory → ℕ → ℕ → Option (List Part)
body_in memory at n =
    if nat_le n most_parts && fits memory at n then parts_of (span memory at n) else None

abbrev pub spawn_wish : ℕ → ℤ → Option (List Part) → Intent
spawn_wish player id body = record {
  player = player;
  action = SpawnCreep;
  actor = id_of id;
  target = 0;
  amount = 0;
  body = unwrap_or body [];
}

abbrev pub spawn_code : Desk → ℤ → Option (List Part) → Code
spawn_code desk id body =
    let spawn : Option Placed = seen desk.sight id in
    first_failing
    (spawn_checks desk.sight.account.player spawn (objects_around desk.sight spawn) body
    ++ record_checks desk (spawn_wish desk.sight.account.player id body))

abbrev pub spawn_reply : Desk → Memory → ℤ → ℕ → ℕ → Reply
spawn_reply desk memory id at n =
    let body : Option (List Part) = body_in memory at n in
    wanted desk memory (spawn_wish desk.sight.account.player id body) (spawn_code desk id body)

-- ---- all calls

abbrev pub reply_of : Call → Desk → Memory → List ℤ → Reply
reply_of call.Tick desk memory args = told desk memory (as_answer desk.sight.tick)
reply_of call.Me desk memory args = told desk memory (as_answer desk.sight.account.player)
reply_of call.Allowance desk memory args = told desk memory (as_answer (allowance desk.sight.account))
reply_of call.Bucket desk memory args = told desk memory (as_answer desk.sight.account.bucket)
reply_of call.Points desk memory args = told desk memory (as_answer desk.sight.account.points)
reply_of call.Level desk memory args = told desk memory (as_answer (global_level desk.sight.account.points))
reply_of call.Rooms desk memory args = told desk memory (as_answer (length desk.sight.rooms))
reply_of call.Room desk memory args = told desk memory (room_reply desk (argument args 0))
reply_of call.RoomName desk memory args = told desk memory (name_reply (seen_room desk (argument args 0)))
reply_of call.Terrain desk memory args =
    told desk memory (ground_reply desk (argument args 0) (argument args 1) (argument args 2))
reply_of call.Count desk memory args = told desk memory (as_answer (length desk.sight.objects))
reply_of call.Find desk memory args = told desk memory (find_reply desk (argument args 0))
reply_of call.Get desk memory args = told desk memory (field_reply desk (argument args 0) (argument args 1))
reply_of call.MemoryLength desk memory args = told desk memory (as_answer (length desk.memory))
reply_of call.MemoryRead desk memory args = read_reply desk memory (unsigned_32 (argument args 0))
reply_of call.MemoryWrite desk memory args =
    write_reply desk memory (unsigned_32 (argument args 0)) (unsigned_32 (argument args 1))
reply_of call.DropLoad desk memory args = drop_reply desk memory (argument args 0) (argument args 1)
reply_of call.Transfer desk memory args =
    transfer_reply desk memory (argument args 0) (argument args 1) (argument args 2)
reply_of call.Withdraw desk memory args =
    withdraw_reply desk memory (argument args 0) (argument args 1) (argument args 2)
reply_of call.Pickup desk memory args = pickup_reply desk memory (argument args 0) (argument args 1)
reply_of call.Heal desk memory args = heal_reply desk memory (argument args 0) (argument args 1)
reply_of call.RangedHeal desk memory args = ranged_heal_reply desk memory (argument args 0) (argument args 1)
reply_of call.Dismantle desk memory args = dismantle_reply desk memory (argument args 0) (argument args 1)
reply_of call.Attack desk memory args = attack_reply desk memory (argument args 0) (argument args 1)
reply_of call.Harvest desk memory args = harvest_reply desk memory (argument args 0) (argument args 1)
reply_of call.Repair desk memory args = repair_reply desk memory (argument args 0) (argument args 1)
reply_of call.Build desk memory args = build_reply desk memory (argument args 0) (argument args 1)
reply_of call.RangedMassAttack desk memory args = mass_attack_reply desk memory (argument args 0)
reply_of call.RangedAttack desk memory args =
    ranged_attack_reply desk memory (argument args 0) (argument args 1)
reply_of call.Suicide desk memory args = suicide_reply desk memory (argument args 0)
reply_of call.ClaimController desk memory args = claim_reply desk memory (argument args 0) (argument args 1)
reply_of call.Upgrade desk memory args = upgrade_reply desk memory (argument args 0) (argument args 1)
reply_of call.Reserve desk memory args = reserve_reply desk memory (argument args 0) (argument args 1)
reply_of call.AttackController desk memory args =
    attack_controller_reply desk memory (argument args 0) (argument args 1)
reply_of call.CreateSite desk memory args =
    site_reply desk memory (argument args 0) (argument args 1) (argument args 2) (argument args 3)
reply_of call.RemoveSite desk memory args = removal_reply desk memory (argument args 0)
reply_of call.SpawnCreep desk memory args =
    spawn_reply desk memory (argument args 0) (unsigned_32 (argument args 1)) (unsigned_32 (argument args 2))
reply_of call.Move desk memory args = move_reply desk memory (argument args 0) (argument args 1)

-- the reply to a call with as many arguments as its type has, and to any other
abbrev pub reply_to : Option Call → Desk → Memory → List ℤ → Reply
reply_to (Some found) desk memory args =
    if nat_eq (length args) (length (row found).params) then reply_of found desk memory args
    else told desk memory (code_number InvalidArgs)
reply_to None desk memory args = told desk memory (code_number InvalidArgs)

-- the reply to the call of a number
abbrev pub reply : ℕ → Desk → Memory → List ℤ → Reply
reply number desk memory args = reply_to (call_at number) desk memory args

-- A desk as a host of modules: the answer to a call is its reply.
abbrev pub answers : Desk → ℕ → List ℤ → Memory → ℤ → Memory → Desk → Type 0
answers desk number args memory answer after later =
    reply number desk memory args ≡ record { answer = answer; desk = later; memory = after }
