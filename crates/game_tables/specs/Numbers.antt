-- The numbers of kinds and parts, as byte forms and host calls give them.
use Rattle.std.specs.Prelude.{ℕ}
use Rattle.game_tables.specs.declared.kind.Kind.{Kind}
use Rattle.game_tables.specs.declared.kind.Kind.TheVariants.{Source, Controller, Creep, Spawn, Extension}
use Rattle.game_tables.specs.declared.kind.Kind.TheVariants.{Storage, Container, Road, Pile, Site, Tower}
use Rattle.game_tables.specs.declared.kind.Kind.TheVariants.{Rampart, Wall, Tombstone}
use Rattle.game_tables.specs.declared.kind.Part.{Part}
use Rattle.game_tables.specs.declared.kind.Part.TheVariants.{Move, Work, Carry, Attack, RangedAttack, Tough}
use Rattle.game_tables.specs.declared.kind.Part.TheVariants.{Heal, Claim}

-- the number of a kind
abbrev pub kind_number : Kind → ℕ
kind_number Source = 1
kind_number Controller = 2
kind_number Creep = 3
kind_number Spawn = 4
kind_number Extension = 5
kind_number Storage = 6
kind_number Container = 7
kind_number Road = 8
kind_number Pile = 9
kind_number Site = 10
kind_number Tower = 11
kind_number Rampart = 12
kind_number Wall = 13
kind_number Tombstone = 14

-- the number of a part
abbrev pub part_number : Part → ℕ
part_number Move = 1
part_number Work = 2
part_number Carry = 3
part_number Attack = 4
part_number RangedAttack = 5
part_number Tough = 6
part_number Heal = 7
part_number Claim = 8
