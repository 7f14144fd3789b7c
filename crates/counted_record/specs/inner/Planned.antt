-- How the sites and the claims of a record are kept beside it.
use Rattle.std.specs.Prelude.{◌≡◌, ℕ, ◌/◌, ◌==◌, ◌&&◌, not, Bool, List, length, map}
use Rattle.std.specs.List.{filter}
use Rattle.game_tables.specs.declared.action.Action.TheVariants.{ClaimController, CreateSite}
use Rattle.intent_book.specs.declared.intent.Intent.{Intent}
use Rattle.counted_record.specs.Others.{is_of}
use Rattle.counted_record.specs.declared.counted.Planned.{Planned}

-- the site that an entry is for
abbrev pub planned_of : Intent → Planned
planned_of entry = record { tile = entry.actor; number = entry.amount }

-- The site is on another tile.
abbrev pub is_apart : ℕ → Planned → Bool
is_apart tile site = not (site.tile == tile)

-- It is on another tile of the same room, and for the kind of this number.
abbrev pub is_beside : ℕ → ℕ → Planned → Bool
is_beside tile number site =
    is_apart tile site && (site.tile / 2500 == tile / 2500) && (site.number == number)

-- The sites are those of the entries, in their order, and so many claims are among them.
pub record IsCounting (entries : List Intent) (planned : List Planned) (count : ℕ) : Type 0 where
  pub sites : planned ≡ map planned_of (filter (is_of CreateSite) entries)
  pub claims : count ≡ length (filter (is_of ClaimController) entries)
