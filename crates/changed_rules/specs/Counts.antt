-- How often ids, and owners of sites, stand in rooms.
use Rattle.std.specs.Prelude.{ℕ, ◌≤◌, ◌==◌, ◌&&◌, Bool, List, cond, unwrap_or, sum_by, count_by}
use Rattle.std.specs.List.{list_any}
use Rattle.std.specs.BTreeMap.{get}
use Rattle.std.specs.Ordering.{nat_cmp}
use Rattle.game_tables.specs.Kinds.{is_site}
use Rattle.game_tables.specs.Limits.{most_sites}
use Rattle.room_table.specs.declared.object.Object.{Object}
use Rattle.object_store.specs.declared.world.Room.{Room}
use Rattle.changed_rules.specs.declared.counted.Counted.{Counted}
use Rattle.changed_rules.specs.declared.counted.Counted.TheVariants.{Ids, SiteOwners}
use Rattle.changed_rules.specs.declared.tally.Tally.{Tally}

-- The object is counted under this number: its id, or its owner where it is a site.
abbrev pub is_under : Counted → ℕ → Object → Bool
is_under Ids n object = object.id == n
is_under SiteOwners n object = is_site object.kind && (object.owner == n)

-- how many objects may be under one number: an id stands once, and a player has so many sites
abbrev pub most_of : Counted → ℕ
most_of Ids = 1
most_of SiteOwners = most_sites

-- how many of these objects are under a number
abbrev pub times_in : Counted → ℕ → List Object → ℕ
times_in counted n objects = count_by (is_under counted n) objects

-- how many objects of these rooms are under a number
abbrev pub times : Counted → ℕ → List Room → ℕ
times counted n rooms = sum_by (λ room. times_in counted n room.table.objects) rooms

-- Nobody owns more sites in these rooms than a player may have.
abbrev pub HaveFewSites : List Room → Type 0
HaveFewSites rooms = (owner : ℕ) → times SiteOwners owner rooms ≤ most_sites

-- The index is one of these.
abbrev pub is_among : ℕ → List ℕ → Bool
is_among index places = list_any (λ place. index == place) places

-- how many objects are under a number in the rooms but those of these indices
abbrev pub times_apart : Counted → ℕ → List ℕ → List Room → ℕ
times_apart counted n places rooms =
    sum_by (λ room. cond (is_among room.table.index places) 0 (times_in counted n room.table.objects)) rooms

-- how often a number is in a tally
abbrev pub tallied : Tally → ℕ → ℕ
tallied tally n = unwrap_or (get nat_cmp tally.times n) 0
