-- What an entry to drop makes of a room's table and of the room's part.
use Rattle.std.proofs.Common.{◌≡◌, ◌-◌, Bool, true, false, if◌then◌else◌, List, Option, Some, None, sym, ap, ◌∙◌}
use Rattle.room_terrain.specs.declared.terrain.Ground.{Ground}
use Rattle.room_table.specs.declared.object.Object.{Object}
use Rattle.room_table.specs.Tables.{Table, find_object, with_object}
use Rattle.intent_book.specs.declared.intent.Intent.{Intent}
use Rattle.world_rules.specs.RoomParts.{RoomPart, table_part}
use Rattle.game_tables.specs.declared.action.Action.TheVariants.{DropLoad}
use Rattle.world_rules.specs.Checks.{may_take_effect}
use Rattle.world_rules.specs.Drops.{dropped, dropped_by, dropped_of, fallen, wanted_of}
use Rattle.world_rules.proofs.TableParts.{get_table_part, part_replaced}
use Rattle.creep_logistics.proofs.Standing.{stands}

-- the creep without what it drops
abbrev pub emptied : Intent → Object → Object
emptied intent creep = record creep { energy = creep.energy - wanted_of intent.amount creep.energy }

-- the table with it
abbrev pub left : Intent → Object → Table → Table
left intent creep table = record table { objects = with_object (emptied intent creep) table.objects }

module _ (grounds : List Ground) (table : Table) (intent : Intent) where
  abbrev part : RoomPart
  part = table_part grounds table

  of_actor : (found : Option Object) → find_object intent.actor table.objects ≡ found → dropped intent part ≡ dropped_of intent found part
  of_actor found is = ap (λ (o : Option Object). dropped_of intent o part) (get_table_part grounds table intent.actor ∙ is)

  -- No object drops nothing.
  pub dropped_by_none : find_object intent.actor table.objects ≡ None → table_part grounds table ≡ dropped intent (table_part grounds table)
  dropped_by_none is = sym (of_actor None is)

  module _ (creep : Object) (is : find_object intent.actor table.objects ≡ Some creep) where
    -- An entry without effect drops nothing.
    pub dropped_by_other : may_take_effect DropLoad intent (table_part grounds table) ≡ false → table_part grounds table ≡ dropped intent (table_part grounds table)
    dropped_by_other no_drop = sym (of_actor (Some creep) is ∙ ap (λ (b : Bool). if b then dropped_by creep (wanted_of intent.amount creep.energy) part else part) no_drop)

    -- What leaves the creep of one that has it falls on its tile.
    pub dropped_by_creep : may_take_effect DropLoad intent (table_part grounds table) ≡ true → dropped intent (table_part grounds table) ≡ fallen creep.x creep.y (wanted_of intent.amount creep.energy) (table_part grounds (left intent creep table))
    dropped_by_creep may =
        of_actor (Some creep) is
        ∙ ap (λ (b : Bool). if b then dropped_by creep (wanted_of intent.amount creep.energy) part else part) may
        ∙ ap (fallen creep.x creep.y (wanted_of intent.amount creep.energy)) (sym (part_replaced grounds table (emptied intent creep) (creep, stands intent.actor table.objects creep is)))
