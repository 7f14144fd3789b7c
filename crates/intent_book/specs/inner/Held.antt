-- How a record is held.
use Rattle.std.specs.Prelude.{◌≡◌, ◌+◌, ◌<◌, ◌≤◌, ◌^◌, [], vec_capacity}
use Rattle.indexmap.specs.IndexMap.{index_map_len, spare}
use Rattle.intent_book.specs.declared.recorded.Recorded.TheInside.{Inside}
use Rattle.intent_book.specs.inner.Numbered.{IsKept, listed}
use Rattle.intent_book.specs.Records.{AreOf, Record, entries_bound}

-- the record that is held
abbrev pub record_of : Inside → Record
record_of inside = record { player = inside.player; entries = listed inside.next inside.entries.entries }

-- The entries have numbers below `next` and are the player's, and there is room for all that a record may
-- have.
pub record IsHeld (inside : Inside) : Type 0 where
  pub kept : IsKept inside.next inside.entries.entries
  pub own : AreOf inside.player (listed inside.next inside.entries.entries)
  pub room : entries_bound ≤ spare inside.entries + index_map_len inside.entries
  pub most : index_map_len inside.entries ≤ entries_bound
  pub empty : inside.canonical.items ≡ []
  pub list_room : entries_bound ≤ vec_capacity inside.canonical
  pub below : inside.next < 2 ^ 64
