-- What was done to the objects of a room so far in a tick.
use Rattle.std.specs.Prelude.{ℕ, ◌+◌, ◌-◌, ◌^◌, ◌==◌, ◌&&◌, min, Bool, if◌then◌else◌}
use Rattle.std.specs.Option.{unwrap_or}
use Rattle.std.specs.Ordering.{nat_cmp}
use Rattle.std.specs.Coded.{Coded, coded_ℕ}
use Rattle.std.specs.FinMap.{FinMap, code, empty, get, insert}
use Rattle.room_table.specs.contracts.tally.Tally.{the_row}
use Rattle.room_table.specs.declared.tally.Tally.{Tally}

-- the most that damage or healing sums to
abbrev pub most_sum : ℕ
most_sum = 2 ^ 32 - 1

-- a sum and so much more, up to the most
abbrev pub sum_with : ℕ → ℕ → ℕ
sum_with n sum = min most_sum (sum + n)

-- of an object to which nothing was done
abbrev pub no_tally : Tally
no_tally = record { damage = 0; healing = 0 }

-- Nothing was done.
abbrev pub is_no_tally : Tally → Bool
is_no_tally tally = (tally.damage == 0) && (tally.healing == 0)

-- what was done, by the ids of objects; none is kept of an object to which nothing was done
abbrev pub Tallies : Type 0
Tallies = FinMap nat_cmp Tally

-- how they are stored
abbrev pub tallies_code : Coded Tallies
tallies_code = code coded_ℕ the_row.coded

-- of a room in which nothing was done
abbrev pub no_tallies : Tallies
no_tallies = empty

-- what was done to the object of an id
abbrev pub tally_of : ℕ → Tallies → Tally
tally_of id tallies = unwrap_or (get tallies id) no_tally

-- with this of an object
abbrev pub with_tally : ℕ → Tally → Tallies → Tallies
with_tally id tally tallies = if is_no_tally tally then tallies else insert tallies id tally

-- so much damage more, and so much healing, to an object
abbrev pub damaged : ℕ → ℕ → Tallies → Tallies
damaged id n tallies =
    let tally : Tally = tally_of id tallies in
    with_tally id (record tally { damage = sum_with n tally.damage }) tallies

abbrev pub healed : ℕ → ℕ → Tallies → Tallies
healed id n tallies =
    let tally : Tally = tally_of id tallies in
    with_tally id (record tally { healing = sum_with n tally.healing }) tallies
