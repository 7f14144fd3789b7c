-- The parts of a creep, by its body and its hits.
use Rattle.std.specs.Prelude.{ℕ, ◌-◌, ◌*◌, ◌==◌, min, Bool, nat_lt, if◌then◌else◌, List, [], ◌∷◌, length}
use Rattle.std.specs.Prelude.{count_by, sum_by}
use Rattle.std.specs.List.{list_any}
use Rattle.game_tables.specs.Numbers.{part_number}
use Rattle.game_tables.specs.declared.kind.Part.{Part}
use Rattle.game_tables.specs.declared.kind.Part.TheVariants.{Move, Work, Carry, Attack, RangedAttack, Tough}
use Rattle.game_tables.specs.declared.kind.Part.TheVariants.{Heal, Claim}

-- the most parts of a body
abbrev pub most_parts : ℕ
most_parts = 50

-- the energy that a part costs
abbrev pub part_cost : Part → ℕ
part_cost Move = 50
part_cost Work = 100
part_cost Carry = 50
part_cost Attack = 80
part_cost RangedAttack = 150
part_cost Tough = 10
part_cost Heal = 250
part_cost Claim = 600

-- the energy that a body costs
abbrev pub body_cost : List Part → ℕ
body_cost parts = sum_by part_cost parts

-- the two are one part
abbrev pub same_part : Part → Part → Bool
same_part part other = part_number part == part_number other

-- the body has the part
abbrev pub has_part : Part → List Part → Bool
has_part part parts = list_any (same_part part) parts

-- the ticks that a creep of the body lives
abbrev pub lifetime : List Part → ℕ
lifetime parts = if has_part Claim parts then 600 else 1500

-- the hits of a part with so many parts after it, where the creep has these hits: the last part
-- takes the first 100 of them
abbrev pub part_hits : ℕ → ℕ → ℕ
part_hits hits after = min 100 (hits - 100 * after)

-- the parts that have hits
abbrev pub live_parts : ℕ → List Part → List Part
live_parts hits [] = []
live_parts hits (part ∷ rest) =
    if nat_lt 0 (part_hits hits (length rest)) then part ∷ live_parts hits rest else live_parts hits rest

-- how many live parts there are of a kind
abbrev pub live_count : Part → ℕ → List Part → ℕ
live_count part hits parts = count_by (same_part part) (live_parts hits parts)

-- the energy that a creep can carry
abbrev pub load_room : ℕ → List Part → ℕ
load_room hits parts = 50 * live_count Carry hits parts
