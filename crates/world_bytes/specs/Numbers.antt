-- The numbers of a value fit their fields in the bytes, as all numbers of a program's values do.
use Rattle.std.specs.Prelude.{◌<◌, ◌^◌, length}
use Rattle.std.specs.List.{AllByRecursion}
use Rattle.intent_book.specs.declared.intent.Intent.{Intent}
use Rattle.object_store.specs.declared.account.Account.{Account}
use Rattle.room_table.specs.declared.object.Object.{Object}
use Rattle.room_table.specs.Tables.{Table}

pub record ObjectFits (object : Object) : Type 0 where
  pub id : object.id < 2 ^ 64
  pub owner : object.owner < 2 ^ 32
  pub hits : object.hits < 2 ^ 32
  pub energy : object.energy < 2 ^ 64
  pub timer : object.timer < 2 ^ 32
  pub extra : object.extra < 2 ^ 32
  pub progress : object.progress < 2 ^ 64
  pub other : object.other < 2 ^ 32
  pub other_ticks : object.other_ticks < 2 ^ 32

pub record TableFits (table : Table) : Type 0 where
  pub index : table.index < 2 ^ 32
  pub next : table.next < 2 ^ 32
  pub count : length table.objects < 2 ^ 32
  pub objects : AllByRecursion ObjectFits table.objects

pub record AccountFits (account : Account) : Type 0 where
  pub player : account.player < 2 ^ 32
  pub limit : account.limit < 2 ^ 32
  pub bucket : account.bucket < 2 ^ 32
  pub points : account.points < 2 ^ 64
  pub count : length account.memory < 2 ^ 32
  pub bytes : AllByRecursion (λ byte. byte < 2 ^ 8) account.memory

-- An intent's bytes are without its player.
pub record IntentFits (intent : Intent) : Type 0 where
  pub actor : intent.actor < 2 ^ 64
  pub target : intent.target < 2 ^ 64
  pub amount : intent.amount < 2 ^ 64
