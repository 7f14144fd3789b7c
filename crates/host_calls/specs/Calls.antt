-- The calls of a module to its host, each with a row of its own. A call's number is its place in the list.
use Rattle.std.specs.Prelude.{◌≡◌, ℕ, List, [], ◌∷◌, codes, Option, Some, slice_get}
use Rattle.wasm_values.specs.declared.types.ValType.{ValType}
use Rattle.wasm_values.specs.declared.types.ValType.TheVariants.{I32, I64}
use Rattle.wasm_values.specs.declared.host_sig.HostSig.{HostSig}
use Rattle.host_calls.specs.declared.call.Call.{Call}
use Rattle.host_calls.specs.declared.call.Call.TheVariants as call

-- all calls, in the order of their numbers
abbrev pub all_calls : List Call
all_calls =
    call.Tick ∷ call.Me ∷ call.Allowance ∷ call.Bucket ∷ call.Points ∷ call.Level ∷ call.Rooms ∷ call.Room
    ∷ call.RoomName ∷ call.Terrain ∷ call.Count ∷ call.Find ∷ call.Get
    ∷ call.MemoryLength ∷ call.MemoryRead ∷ call.MemoryWrite ∷ call.DropLoad ∷ call.Transfer ∷ call.Withdraw
    ∷ call.Pickup ∷ call.Heal ∷ call.RangedHeal ∷ call.Dismantle ∷ call.Attack ∷ call.Harvest ∷ call.Repair
    ∷ call.Build ∷ call.RangedMassAttack ∷ call.RangedAttack ∷ call.Suicide
    ∷ call.ClaimController ∷ call.Upgrade ∷ call.Reserve ∷ call.AttackController
    ∷ call.CreateSite ∷ call.RemoveSite ∷ call.SpawnCreep ∷ call.Move ∷ []

-- the call of a number
abbrev pub call_at : ℕ → Option Call
call_at number = slice_get all_calls number

-- the name of the module that the calls are imported from
abbrev pub host_module : List ℕ
host_module = codes "screeps"

-- a call: the name by which a module imports it, the types of its arguments, and the type of its answer
pub record Row : Type 0 where
  pub name : List ℕ
  pub params : List ValType
  pub result : ValType

abbrev pub row : Call → Row
row call.Tick = record { name = codes "tick"; params = []; result = I64 }
row call.Me = record { name = codes "me"; params = []; result = I32 }
row call.Allowance = record { name = codes "allowance"; params = []; result = I32 }
row call.Bucket = record { name = codes "bucket"; params = []; result = I32 }
row call.Points = record { name = codes "points"; params = []; result = I64 }
row call.Level = record { name = codes "level"; params = []; result = I32 }
row call.Rooms = record { name = codes "rooms"; params = []; result = I32 }
row call.Room = record { name = codes "room"; params = I32 ∷ []; result = I32 }
row call.RoomName = record { name = codes "room_name"; params = I32 ∷ []; result = I32 }
row call.Terrain = record { name = codes "terrain"; params = I32 ∷ I32 ∷ I32 ∷ []; result = I32 }
row call.Count = record { name = codes "count"; params = []; result = I32 }
row call.Find = record { name = codes "find"; params = I64 ∷ []; result = I32 }
row call.Get = record { name = codes "get"; params = I32 ∷ I32 ∷ []; result = I64 }
row call.MemoryLength = record { name = codes "memory_length"; params = []; result = I32 }
row call.MemoryRead = record { name = codes "memory_read"; params = I32 ∷ []; result = I32 }
row call.MemoryWrite = record { name = codes "memory_write"; params = I32 ∷ I32 ∷ []; result = I32 }
row call.DropLoad = record { name = codes "drop"; params = I64 ∷ I32 ∷ []; result = I32 }
row call.Transfer = record { name = codes "transfer"; params = I64 ∷ I64 ∷ I32 ∷ []; result = I32 }
row call.Withdraw = record { name = codes "withdraw"; params = I64 ∷ I64 ∷ I32 ∷ []; result = I32 }
row call.Pickup = record { name = codes "pickup"; params = I64 ∷ I64 ∷ []; result = I32 }
row call.Heal = record { name = codes "heal"; params = I64 ∷ I64 ∷ []; result = I32 }
row call.RangedHeal = record { name = codes "ranged_heal"; params = I64 ∷ I64 ∷ []; result = I32 }
row call.Dismantle = record { name = codes "dismantle"; params = I64 ∷ I64 ∷ []; result = I32 }
row call.Attack = record { name = codes "attack"; params = I64 ∷ I64 ∷ []; result = I32 }
row call.Harvest = record { name = codes "harvest"; params = I64 ∷ I64 ∷ []; result = I32 }
row call.Repair = record { name = codes "repair"; params = I64 ∷ I64 ∷ []; result = I32 }
row call.Build = record { name = codes "build"; params = I64 ∷ I64 ∷ []; result = I32 }
row call.RangedMassAttack = record { name = codes "ranged_mass_attack"; params = I64 ∷ []; result = I32 }
row call.RangedAttack = record { name = codes "ranged_attack"; params = I64 ∷ I64 ∷ []; result = I32 }
row call.Suicide = record { name = codes "suicide"; params = I64 ∷ []; result = I32 }
row call.ClaimController =
    record { name = codes "claim_controller"; params = I64 ∷ I64 ∷ []; result = I32 }
row call.Upgrade = record { name = codes "upgrade"; params = I64 ∷ I64 ∷ []; result = I32 }
row call.Reserve = record { name = codes "reserve"; params = I64 ∷ I64 ∷ []; result = I32 }
row call.AttackController =
    record { name = codes "attack_controller"; params = I64 ∷ I64 ∷ []; result = I32 }
row call.CreateSite =
    record { name = codes "create_site"; params = I32 ∷ I32 ∷ I32 ∷ I32 ∷ []; result = I32 }
row call.RemoveSite = record { name = codes "remove_site"; params = I64 ∷ []; result = I32 }
row call.SpawnCreep =
    record { name = codes "spawn_creep"; params = I64 ∷ I32 ∷ I32 ∷ []; result = I32 }
row call.Move = record { name = codes "move"; params = I64 ∷ I32 ∷ []; result = I32 }

-- The signature is that of the call.
pub record IsSignature (sig : HostSig) (of : Call) : Type 0 where
  pub host : sig.module.now ≡ host_module
  pub name : sig.name.now ≡ (row of).name
  pub params : sig.params.now ≡ (row of).params
  pub result_is : sig.result ≡ Some (row of).result

-- The signatures are those of the calls, in the order of their numbers.
abbrev pub AreSignatures : List HostSig → List Call → Type 0
AreSignatures [] [] = Unit {0}
AreSignatures (sig ∷ sigs) (of ∷ calls) = IsSignature sig of × AreSignatures sigs calls
AreSignatures _ _ = ⊥
