-- Worked examples of fights, which the check computes.
use Rattle.std.specs.Prelude.{◌≡◌, ℕ, List, [], Some}
use Rattle.game_tables.specs.declared.kind.Kind.{Kind}
use Rattle.game_tables.specs.declared.kind.Kind.TheVariants as kinds
use Rattle.game_tables.specs.declared.kind.Part.{Part}
use Rattle.room_table.specs.declared.object.Object.{Object}
use Rattle.world_rules.specs.RuleBook.{Sums}
use Rattle.world_rules.specs.Fights.{all_struck_by, salvage}
use Rattle.world_rules.specs.Upkeep.{hits_left}

-- an object of a player in the column 10 and this row, with these hits and this body
abbrev pub fighter : ℕ → Kind → ℕ → ℕ → ℕ → List Part → Object
fighter id kind owner y hits body = record {
  id = id;
  kind = kind;
  x = 10;
  y = y;
  owner = owner;
  hits = hits;
  energy = 0;
  timer = 1500;
  extra = 0;
  progress = 0;
  other = 0;
  other_ticks = 0;
  body = body;
}

-- creep 1 of player 1, beside creep 2 of player 2
abbrev pub one_of : ℕ → List Part → Object
one_of hits body = fighter 1 kinds.Creep 1 20 hits body

abbrev pub other_of : ℕ → List Part → Object
other_of hits body = fighter 2 kinds.Creep 2 21 hits body

-- so much damage and healing to every object
abbrev pub done : ℕ → ℕ → Sums
done damage healing = record { damage = λ id. damage; healing = λ id. healing }

-- A creep of these parts with these hits, damaged and healed by so much, is left these.
abbrev pub CreepLeft : List Part → ℕ → ℕ → ℕ → ℕ → Type 0
CreepLeft body hits damage healing left =
    hits_left kinds.Creep (done damage healing) (one_of hits body) ≡ left

-- A building with these hits and so much damage is left these.
abbrev pub BuildingLeft : ℕ → ℕ → ℕ → Type 0
BuildingLeft hits damage left =
    hits_left kinds.Road (done damage 1000) (fighter 1 kinds.Road 0 20 hits []) ≡ left

-- A creep of these parts gets so much energy out of a building with these hits.
abbrev pub Salvages : List Part → ℕ → ℕ → Type 0
Salvages body hits energy = salvage (one_of 5000 body) (fighter 2 kinds.Road 0 20 hits []) ≡ energy

-- A mass attack of a creep with these hits and parts in the row 20 does this damage to these objects.
abbrev pub Strikes : ℕ → List Part → List Object → List (ℕ × ℕ) → Type 0
Strikes hits body objects damage =
    all_struck_by objects (Some (one_of hits body)) ≡ record { damage = damage; healing = [] }
