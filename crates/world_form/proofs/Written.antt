-- The value that is written for a world is legible, and nests six deep.
use Rattle.std.proofs.Common.{◌≡◌, ℕ, suc, ◌^◌, ◌<◌, ◌≤◌, List, [], ◌∷◌, length, map, refl, arith}
use Rattle.std.specs.List.{AllByRecursion}
use Rattle.std.proofs.Math.Nat.{max-le}
use Rattle.serde_json.specs.Data.{Data, string, depth, items_depth}
use Rattle.serde_json.specs.View.{items_of}
use Rattle.game_tables.specs.declared.kind.Part.{Part}
use Rattle.game_tables.specs.Texts.{part_text}
use Rattle.game_tables.specs.Limits.{most_limit, most_bucket, most_points}
use Rattle.room_table.specs.declared.object.Object.{Object}
use Rattle.object_store.specs.declared.account.Account.{Account}
use Rattle.object_store.specs.declared.world.Room.{Room}
use Rattle.object_store.specs.Stored.{Stored}
use Rattle.room_table.specs.Tables.{IsOnTile}
use Rattle.world_form.specs.Written.{list_data, object_data, room_data, account_data, world_data, IsWritableRoom, IsWritableAccount, IsWritable, IsOfTypes}
use Rattle.world_form.proofs.Clear.{name_clear, kind_clear, part_clear, grounds_clear, hex_clear}
use Rattle.world_form.proofs.Legible.{IsLegible, AreLegible}
use Rattle.world_form.proofs.InFile.{IsInFile, objects_in_file}

-- ---- a world's parts, with all that is known of each

-- The object's fields and its tile are in a file's ranges.
abbrev pub IsFiledObject : Object → Type 0
IsFiledObject o = IsInFile o × IsOnTile o

pub record IsFiledRoom (room : Room) : Type 0 where
  pub writable : IsWritableRoom room
  pub grounds : length room.terrain ≡ 2500
  pub objects : AllByRecursion IsFiledObject room.table.objects

pub record IsFiledAccount (account : Account) : Type 0 where
  pub writable : IsWritableAccount account
  pub bytes : AllByRecursion (λ byte. byte < 2 ^ 8) account.memory

objects_filed : (objects : List Object) → AllByRecursion IsInFile objects → AllByRecursion IsOnTile objects → AllByRecursion IsFiledObject objects
objects_filed [] fits tiles = tt
objects_filed (o ∷ objects) fits tiles = ((fits.0, tiles.0), objects_filed objects fits.1 tiles.1)

rooms_filed : (rooms : List Room) → AllByRecursion IsWritableRoom rooms → AllByRecursion (λ room. length room.terrain ≡ 2500) rooms → AllByRecursion (λ room. AllByRecursion IsInFile room.table.objects) rooms → AllByRecursion IsFiledRoom rooms
rooms_filed [] writable grounds fits = tt
rooms_filed (room ∷ rooms) writable grounds fits =
    (record { writable = writable.0; grounds = grounds.0; objects = objects_filed room.table.objects fits.0 writable.0.objects }, rooms_filed rooms writable.1 grounds.1 fits.1)

accounts_filed : (accounts : List Account) → AllByRecursion IsWritableAccount accounts → AllByRecursion (λ account. AllByRecursion (λ byte. byte < 2 ^ 8) account.memory) accounts → AllByRecursion IsFiledAccount accounts
accounts_filed [] writable bytes = tt
accounts_filed (account ∷ accounts) writable bytes = (record { writable = writable.0; bytes = bytes.0 }, accounts_filed accounts writable.1 bytes.1)

pub record IsFiledWorld (world : Stored) : Type 0 where
  pub tick : world.tick ≤ 2 ^ 53
  pub rooms : AllByRecursion IsFiledRoom world.rooms
  pub accounts : AllByRecursion IsFiledAccount world.accounts

pub world_filed : (world : Stored) → IsWritable world → IsOfTypes world → IsFiledWorld world
world_filed world writable types = record {
  tick = writable.tick;
  rooms = rooms_filed world.rooms writable.rooms types.grounds (objects_in_file world writable);
  accounts = accounts_filed world.accounts writable.accounts types.bytes;
}

-- ---- what is written is legible

list_legible : {A : Type 0} (P : A → Type 0) (data_of : A → Data) → ((x : A) → P x → IsLegible (data_of x)) → (xs : List A) → AllByRecursion P xs → AreLegible (items_of (map data_of xs))
list_legible P data_of legible [] all = tt
list_legible P data_of legible (x ∷ xs) all = (legible x all.0, list_legible P data_of legible xs all.1)

body_legible : (body : List Part) → IsLegible (list_data (λ part. string (part_text part)) body)
body_legible [] = tt
body_legible (part ∷ body) = (part_clear part, body_legible body)

object_legible : (o : Object) → IsFiledObject o → IsLegible (object_data o)
unfolding object_data
object_legible o filed =
    let fits = filed.0 in
    let small = fits.small in
    let tile = filed.1 in (
      (
        refl,
        body_legible o.body,
        (
          refl,
          omega (arith, small.energy),
          (
            refl,
            omega (arith, small.extra),
            (
              refl,
              omega (arith, small.hits),
              (
                refl,
                omega (arith, fits.id),
                (
                  refl,
                  kind_clear o.kind,
                  (
                    refl,
                    omega (arith, fits.other),
                    (
                      refl,
                      omega (arith, small.other_ticks),
                      (
                        refl,
                        omega (arith, fits.owner),
                        (
                          refl,
                          omega (arith, small.progress),
                          (
                            refl,
                            omega (arith, small.timer),
                            (
                              refl,
                              omega (arith, tile.column),
                              (refl, omega (arith, tile.row), tt),
                            ),
                          ),
                        ),
                      ),
                    ),
                  ),
                ),
              ),
            ),
          ),
        ),
      ),
      refl,
    )

room_legible : (room : Room) → IsFiledRoom room → IsLegible (room_data room)
unfolding room_data
room_legible room filed = (
  (
    refl,
    name_clear room.name filed.writable.name,
    (
      refl,
      omega (arith, filed.writable.below),
      (
        refl,
        list_legible IsFiledObject object_data object_legible room.table.objects filed.objects,
        (refl, grounds_clear room.terrain, tt),
      ),
    ),
  ),
  refl,
)

account_legible : (account : Account) → IsFiledAccount account → IsLegible (account_data account)
unfolding account_data
account_legible account filed =
    let limit : account.limit ≤ most_limit = filed.writable.limit in
    let bucket : account.bucket ≤ most_bucket = filed.writable.bucket in
    let points : account.points ≤ most_points = filed.writable.points in (
      (
        refl,
        omega arith,
        (
          refl,
          omega arith,
          (
            refl,
            hex_clear account.memory filed.bytes,
            (
              refl,
              omega (arith, filed.writable.below),
              (refl, omega arith, tt),
            ),
          ),
        ),
      ),
      refl,
    )

pub world_legible : (world : Stored) → IsFiledWorld world → IsLegible (world_data world)
unfolding world_data
world_legible world filed = (
  (
    refl,
    list_legible IsFiledAccount account_data account_legible world.accounts filed.accounts,
    (
      refl,
      list_legible IsFiledRoom room_data room_legible world.rooms filed.rooms,
      (
        refl,
        omega (arith, filed.tick),
        (refl, omega arith, tt),
      ),
    ),
  ),
  refl,
)

-- ---- what is written nests six deep

items_shallow : {A : Type 0} (data_of : A → Data) (most : ℕ) → ((x : A) → depth (data_of x) ≤ most) → (xs : List A) → items_depth (items_of (map data_of xs)) ≤ most
items_shallow data_of most shallow [] = omega arith
items_shallow data_of most shallow (x ∷ xs) = max-le (shallow x) (items_shallow data_of most shallow xs)

list_shallow : {A : Type 0} (data_of : A → Data) (most : ℕ) → ((x : A) → depth (data_of x) ≤ most) → (xs : List A) → depth (list_data data_of xs) ≤ suc most
list_shallow data_of most shallow xs = omega (arith, items_shallow data_of most shallow xs)

object_shallow : (o : Object) → depth (object_data o) ≤ 2
unfolding object_data
object_shallow o =
    let body : depth (list_data (λ part. string (part_text part)) o.body) ≤ 1 = list_shallow (λ part. string (part_text part)) 0 (λ part. omega arith) o.body in
    omega arith

room_shallow : (room : Room) → depth (room_data room) ≤ 4
unfolding room_data
room_shallow room =
    let objects : depth (list_data object_data room.table.objects) ≤ 3 = list_shallow object_data 2 object_shallow room.table.objects in
    omega arith

account_shallow : (account : Account) → depth (account_data account) ≤ 1
unfolding account_data
account_shallow account = omega arith

pub world_shallow : (world : Stored) → depth (world_data world) ≤ 6
unfolding world_data
world_shallow world =
    let players : depth (list_data account_data world.accounts) ≤ 2 = list_shallow account_data 1 account_shallow world.accounts in
    let rooms : depth (list_data room_data world.rooms) ≤ 5 = list_shallow room_data 4 room_shallow world.rooms in
    omega arith
