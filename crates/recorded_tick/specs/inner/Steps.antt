-- What one room and one account add to a record.
use Rattle.std.specs.Prelude.{◌≡◌, ◌⊎◌, List, [], ◌∷◌, ◌++◌}
use Rattle.object_store.specs.declared.account.Account.{Account}
use Rattle.room_table.specs.Tables.{Table}
use Rattle.recorded_tick.specs.Recording.{AreAlike}

-- Where the tables are not alike, one that is like the second stands behind those before.
abbrev pub AddsTable : Table → Table → List Table → List Table → Type 0
AddsTable one other before after =
    (AreAlike one other × (after ≡ before))
    ⊎ ((AreAlike one other → ⊥) × (table : Table) × (after ≡ before ++ table ∷ []) × AreAlike table other)

-- Where the accounts are not the same, the second stands behind those before.
abbrev pub AddsAccount : Account → Account → List Account → List Account → Type 0
AddsAccount one other before after =
    ((one ≡ other) × (after ≡ before)) ⊎ ((one ≡ other → ⊥) × (after ≡ before ++ other ∷ []))
