-- Steps of a census. For private clauses.
use Rattle.std.specs.Prelude.{◌≡◌, ℕ, ◌+◌, ◌-◌, ◌<◌, ◌≤◌, ◌⊎◌, cond, List, Option, Some, None}
use Rattle.game_tables.specs.Kinds.{is_site}
use Rattle.room_table.specs.declared.object.Object.{Object}
use Rattle.object_store.specs.declared.world.Room.{Room}
use Rattle.object_store.specs.Stored.{Stored}
use Rattle.changed_rules.specs.declared.census.Census.{Census}
use Rattle.changed_rules.specs.declared.counted.Counted.{Counted}
use Rattle.changed_rules.specs.declared.counted.Counted.TheVariants.{Ids, SiteOwners}
use Rattle.changed_rules.specs.declared.tally.Tally.{Tally}
use Rattle.changed_rules.specs.Census.{KeepsHere, tally_of}
use Rattle.changed_rules.specs.Counts.{most_of, tallied, times_in}

-- the number that an object is counted under, where it is counted
abbrev pub number_of : Counted → Object → Option ℕ
number_of Ids object = Some object.id
number_of SiteOwners object = cond (is_site object.kind) (Some object.owner) None

-- The tally has no number more often than may be.
abbrev pub AreFew : Counted → Tally → Type 0
AreFew counted tally = (n : ℕ) → tallied tally n ≤ most_of counted

-- The new tally has these objects more, and no number more often than may be.
pub record Adds (counted : Counted) (objects : List Object) (old new : Tally) : Type 0 where
  pub more : (n : ℕ) → tallied new n ≡ tallied old n + times_in counted n objects
  pub few : AreFew counted new

-- With these objects there would be a number more often than may be.
pub record Exceeds (counted : Counted) (objects : List Object) (old : Tally) : Type 0 where
  pub number : ℕ
  pub many : most_of counted < tallied old number + times_in counted number objects

-- The new tally has these objects less.
abbrev pub Drops : Counted → List Object → Tally → Tally → Type 0
Drops counted objects old new = (n : ℕ) → tallied new n ≡ tallied old n - times_in counted n objects

-- The room keeps the rules, and the census has its objects more.
pub record Enters (world : Stored) (room : Room) (old new : Census) : Type 0 where
  pub keeps : KeepsHere world room
  pub adds : (counted : Counted)
      → Adds counted room.table.objects (tally_of counted old) (tally_of counted new)

-- The room doesn't keep the rules, or with its objects there is a number more often than may be.
abbrev pub IsRefused : Stored → Room → Census → Type 0
IsRefused world room census =
    (KeepsHere world room → ⊥)
    ⊎ ((counted : Counted) × Exceeds counted room.table.objects (tally_of counted census))
