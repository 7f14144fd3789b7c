-- The return codes of host calls.
use Rattle.std.specs.Prelude.{ℤ, pos, neg_ℤ}
use Rattle.game_tables.specs.declared.code.Code.{Code}
use Rattle.game_tables.specs.declared.code.Code.TheVariants.{Done, NotOwner, Busy, NotFound}
use Rattle.game_tables.specs.declared.code.Code.TheVariants.{NotEnoughResources, InvalidTarget, Full}
use Rattle.game_tables.specs.declared.code.Code.TheVariants.{NotInRange, InvalidArgs, Tired, NoBodypart}
use Rattle.game_tables.specs.declared.code.Code.TheVariants.{RoomLevelNotEnough, GlobalLevelNotEnough}

-- the number that a module gets
abbrev pub code_number : Code → ℤ
code_number Done = pos 0
code_number NotOwner = neg_ℤ (pos 1)
code_number Busy = neg_ℤ (pos 4)
code_number NotFound = neg_ℤ (pos 5)
code_number NotEnoughResources = neg_ℤ (pos 6)
code_number InvalidTarget = neg_ℤ (pos 7)
code_number Full = neg_ℤ (pos 8)
code_number NotInRange = neg_ℤ (pos 9)
code_number InvalidArgs = neg_ℤ (pos 10)
code_number Tired = neg_ℤ (pos 11)
code_number NoBodypart = neg_ℤ (pos 12)
code_number RoomLevelNotEnough = neg_ℤ (pos 14)
code_number GlobalLevelNotEnough = neg_ℤ (pos 15)
