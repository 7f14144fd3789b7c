-- The damage that is done to the objects of a table. For private clauses.
use Rattle.std.specs.Prelude.{◌≡◌, ℕ, ◌==◌, if◌then◌else◌, Some}
use Rattle.room_table.specs.declared.object.Object.{Object}
use Rattle.room_table.specs.declared.tally.Tally.{Tally}
use Rattle.room_table.specs.Tables.{Table, find_object}
use Rattle.room_table.specs.Tallies.{sum_with, tally_of}

-- a tally with so much damage more
abbrev pub with_damage : ℕ → Tally → Tally
with_damage n tally = record tally { damage = sum_with n tally.damage }

-- Each object that stands there got so much damage, and nothing else was done.
pub record IsDamaged (damage : Object → ℕ) (old new : Table) : Type 0 where
  pub rest : new ≡ record old { tallies = new.tallies }
  pub tallies : (id : ℕ) (object : Object) → find_object id old.objects ≡ Some object
      → tally_of id new.tallies ≡ with_damage (damage object) (tally_of id old.tallies)

-- so much to the object of an id, and nothing to others
abbrev pub to_one : ℕ → ℕ → Object → ℕ
to_one id n object = if id == object.id then n else 0
