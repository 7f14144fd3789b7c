use Rattle.world_bytes.proofs.Intents.{intent_one}
use Rattle.world_bytes.proofs.Rooms.{room_one, account_one, room_written}
use Rattle.world_bytes.proofs.laws.forms_are_one.Goals as goal

pub returns-clause-rooms : goal.returns-clause-rooms
returns-clause-rooms c = room_one

pub returns-clause-accounts : goal.returns-clause-accounts
returns-clause-accounts c = account_one

pub returns-clause-written_rooms : goal.returns-clause-written_rooms
returns-clause-written_rooms c = room_written

pub returns-clause-intents : goal.returns-clause-intents
returns-clause-intents c = intent_one
