-- The texts of kinds and parts, as a world file spells them.
use Rattle.std.specs.Prelude.{ℕ, List, codes}
use Rattle.game_tables.specs.declared.kind.Kind.{Kind}
use Rattle.game_tables.specs.declared.kind.Kind.TheVariants.{Source, Controller, Creep, Spawn, Extension}
use Rattle.game_tables.specs.declared.kind.Kind.TheVariants.{Storage, Container, Road, Pile, Site, Tower}
use Rattle.game_tables.specs.declared.kind.Kind.TheVariants.{Rampart, Wall, Tombstone}
use Rattle.game_tables.specs.declared.kind.Part.{Part}
use Rattle.game_tables.specs.declared.kind.Part.TheVariants.{Move, Work, Carry, Attack, RangedAttack, Tough}
use Rattle.game_tables.specs.declared.kind.Part.TheVariants.{Heal, Claim}

-- the text of a kind
abbrev pub kind_text : Kind → List ℕ
kind_text Source = codes "source"
kind_text Controller = codes "controller"
kind_text Creep = codes "creep"
kind_text Spawn = codes "spawn"
kind_text Extension = codes "extension"
kind_text Storage = codes "storage"
kind_text Container = codes "container"
kind_text Road = codes "road"
kind_text Pile = codes "pile"
kind_text Site = codes "site"
kind_text Tower = codes "tower"
kind_text Rampart = codes "rampart"
kind_text Wall = codes "wall"
kind_text Tombstone = codes "tombstone"

-- the text of a part
abbrev pub part_text : Part → List ℕ
part_text Move = codes "move"
part_text Work = codes "work"
part_text Carry = codes "carry"
part_text Attack = codes "attack"
part_text RangedAttack = codes "ranged_attack"
part_text Tough = codes "tough"
part_text Heal = codes "heal"
part_text Claim = codes "claim"
