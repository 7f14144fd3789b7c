-- How a record is put in the place of what was there. For private clauses.
use Rattle.std.specs.Prelude.{◌≡◌, ◌==◌, ℕ, zero, suc, List, [], ◌∷◌, Option, None, map}
use Rattle.std.specs.Prelude.{option_map, get_or}
use Rattle.std.specs.Borrow.{Bor}
use Rattle.std.specs.List.{find}
use Rattle.object_store.specs.declared.account.Account.{Account}
use Rattle.object_store.specs.Stored.{Stored}
use Rattle.room_table.specs.Tables.{Table}
use Rattle.record_follows.specs.Follows.{account_after, room_after}

-- the table that is noted for an index
abbrev pub noted : List (Option (Bor Table)) → ℕ → Option Table
noted firsts index = option_map (λ lent. lent.now) (get_or firsts index None)

-- For each index the first table of it is noted.
abbrev pub AreFirst : List (Option (Bor Table)) → List Table → Type 0
AreFirst firsts tables = (index : ℕ) → noted firsts index ≡ find (λ table. table.index == index) tables

-- the world with these accounts in the place of those of their players
abbrev pub with_accounts : List Account → Stored → Stored
with_accounts accounts world = record world { accounts = map (account_after accounts) world.accounts }

-- the world with these tables in the place of those of their indices
abbrev pub with_rooms : List Table → Stored → Stored
with_rooms tables world = record world { rooms = map (room_after tables) world.rooms }

-- the list with what is made of its first elements, so many
abbrev pub first_mapped : {X : Type 0} → (X → X) → ℕ → List X → List X
first_mapped f zero xs = xs
first_mapped f (suc count) [] = []
first_mapped f (suc count) (x ∷ xs) = f x ∷ first_mapped f count xs
