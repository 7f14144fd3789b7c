-- What is written for a world has no floats.
use Rattle.std.proofs.Common.{◌≡◌, List, [], ◌∷◌, false, refl}
use Rattle.serde_json.specs.Data.{Data, string}
use Rattle.serde_json.specs.Written.{has_float}
use Rattle.game_tables.specs.Texts.{part_text}
use Rattle.room_table.specs.declared.object.Object.{Object}
use Rattle.object_store.specs.declared.account.Account.{Account}
use Rattle.object_store.specs.declared.world.Room.{Room}
use Rattle.object_store.specs.Stored.{Stored}
use Rattle.world_form.specs.Written.{list_data, object_data, room_data, account_data, world_data}

list_plain : {A : Type 0} (data_of : A → Data) → ((x : A) → has_float (data_of x) ≡ false) → (xs : List A) → has_float (list_data data_of xs) ≡ false
list_plain data_of plain [] = refl
list_plain data_of plain (x ∷ xs) = rw (plain x, list_plain data_of plain xs) (refl {a = false})

object_plain : (o : Object) → has_float (object_data o) ≡ false
unfolding object_data
object_plain o = rw (list_plain (λ part. string (part_text part)) (λ part. refl) o.body) (refl {a = false})

room_plain : (room : Room) → has_float (room_data room) ≡ false
unfolding room_data
room_plain room = rw (list_plain object_data object_plain room.table.objects) (refl {a = false})

account_plain : (account : Account) → has_float (account_data account) ≡ false
unfolding account_data
account_plain account = refl

pub world_plain : (world : Stored) → has_float (world_data world) ≡ false
unfolding world_data
world_plain world = rw (list_plain account_data account_plain world.accounts, list_plain room_data room_plain world.rooms) (refl {a = false})
