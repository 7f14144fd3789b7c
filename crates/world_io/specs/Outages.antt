-- Which calls of a device in memory fail by plan, and how it counts its calls and failures.
use Rattle.std.specs.Prelude.{◌≡◌, ℕ, ◌<◌, ◌⊎◌, List, Contains, Option, Some, None, Result, is_ok}
use Rattle.std.specs.Prelude.{if◌then◌else◌}
use Rattle.world_io.specs.Causes.{one_more}
use Rattle.world_io.specs.declared.outages.Outages.{Outages}

-- The call of this number comes after the stop.
abbrev pub IsPast : Option ℕ → ℕ → Type 0
IsPast None call = ⊥
IsPast (Some stop) call = stop < call

-- The call of this number is to fail: it is listed, or comes after the stop.
abbrev pub IsOut : List ℕ → Option ℕ → ℕ → Type 0
IsOut fails stop call = Contains fails call ⊎ IsPast stop call

-- No call was made yet; the calls of these numbers are to fail, and all calls after the stop.
pub record IsFresh (outages : Outages) (fails : List ℕ) (stop : Option ℕ) : Type 0 where
  pub planned : outages.fails.items ≡ fails
  pub stopped : outages.stop ≡ stop
  pub calls : outages.calls ≡ 0
  pub faults : outages.faults.count ≡ 0

-- The next call is to fail.
abbrev pub NextIsOut : Outages → Type 0
NextIsOut outages = IsOut outages.fails.items outages.stop outages.calls

-- A call was made: its number is used up, the plan stays, and the count of failures rose by one exactly where
-- it failed.
pub record Counted {T E : Type 0} (before now : Outages) (result : Result T E) : Type 0 where
  pub calls : now.calls ≡ one_more before.calls
  pub fails : now.fails.items ≡ before.fails.items
  pub stop : now.stop ≡ before.stop
  pub faults : now.faults.count ≡ (if is_ok result then before.faults.count else one_more before.faults.count)
