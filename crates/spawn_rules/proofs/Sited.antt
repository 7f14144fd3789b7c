-- What the rules of sites make of a room's part.
use Rattle.std.proofs.Common.{◌≡◌, ℕ, ◌+◌, ◌-◌, ◌*◌, ◌^◌, ◌<◌, ◌≤◌, ◌==◌, ◌&&◌, nat_le, Bool, true, false, if◌then◌else◌, List, refl, sym, ap, ◌∙◌, inl, inr, arith}
use Rattle.std.specs.List.{find, list_any}
use Rattle.std.specs.Option.{is_some}
use Rattle.std.proofs.lemmas.Bool.{both_ways, cases_lt, leb-true, ne_eqb}
use Rattle.room_terrain.specs.declared.terrain.Ground.{Ground}
use Rattle.game_tables.specs.Numbers.{kind_number}
use Rattle.game_tables.specs.declared.kind.Kind.{Kind}
use Rattle.room_table.specs.Stores.{site_kinds}
use Rattle.room_table.specs.Tables.{Table, IsOnTile, IsRising, removed, with_new}
use Rattle.intent_book.specs.declared.intent.Intent.{Intent}
use Rattle.world_rules.specs.RoomParts.{RoomPart, table_part}
use Rattle.world_rules.specs.Changes.{with_new as new_in_part, without as without_in_part}
use Rattle.world_rules.specs.Checks.{all_hold}
use Rattle.world_rules.specs.Sights.{gives_sight, is_visible}
use Rattle.world_rules.specs.Sites.{Plan, is_inner, plan_of, planned_kind, making_checks, removing_checks, site_checks, site_made, site_of, site_removed}
use Rattle.world_rules.proofs.Checked.{and_left, and_right}
use Rattle.world_rules.proofs.TableParts.{part_values, part_without}
use Rattle.spawn_rules.proofs.Made.{part_made}

-- A kind that is built from sites has a number of at most 8.
number_of : (number : ℕ) → is_some (find (λ kind. kind_number kind == number) site_kinds) ≡ true → number ≤ 8
number_of number is = elim (cases_lt 8 number) [
  | inl more ↦ absurd (none_past more is)
  | inr least ↦ least
]
  where
    other : (n : ℕ) → n ≤ 8 → 8 < number → (n == number) ≡ false
    other n less more = ne_eqb n number (λ same. omega (arith, less, more, same))

    none_past : 8 < number → is_some (find (λ kind. kind_number kind == number) site_kinds) ≡ true → ⊥
    none_past more got =
        let none : is_some (find (λ (kind : Kind). kind_number kind == number) site_kinds) ≡ false =
        rw (other 4 (omega arith) more, other 5 (omega arith) more, other 6 (omega arith) more, other 7 (omega arith) more, other 8 (omega arith) more) refl in
        both_ways (is_some (find (λ (kind : Kind). kind_number kind == number) site_kinds)) none got

-- Who sees a room by its table sees it by its part.
pub seen_by : (ground : List Ground) (table : Table) (player : ℕ) → IsRising table.objects → is_visible player (table_part ground table) ≡ list_any (gives_sight player) table.objects
seen_by ground table player rising = ap (list_any (gives_sight player)) (part_values ground table rising)

module _ (ground : List Ground) (table : Table) (entry : Intent) where
  abbrev plan : Plan
  plan = plan_of entry (table_part ground table)

  -- A site is made, where the checks hold.
  module _ (all : all_hold (making_checks entry (table_part ground table)) ≡ true) where
    holds : all_hold (site_checks plan) ≡ true
    holds = and_right (is_visible entry.player (table_part ground table)) (all_hold (site_checks plan)) all

    arguments : (is_inner plan.x && is_inner plan.y && is_some (planned_kind plan)) ≡ true
    arguments = and_left (is_inner plan.x && is_inner plan.y && is_some (planned_kind plan)) _ holds

    pub site_number : entry.amount ≤ 8
    site_number = number_of entry.amount (and_right (is_inner plan.x && is_inner plan.y) (is_some (planned_kind plan)) arguments)

    pub site_tile : (id : ℕ) → IsOnTile (site_of plan id)
    site_tile id =
        let inner = and_left (is_inner plan.x && is_inner plan.y) (is_some (planned_kind plan)) arguments in
        let column = leb-true plan.x 48 (and_right (nat_le 1 plan.x) (nat_le plan.x 48) (and_left (is_inner plan.x) (is_inner plan.y) inner)) in
        let row = leb-true plan.y 48 (and_right (nat_le 1 plan.y) (nat_le plan.y 48) (and_right (is_inner plan.x) (is_inner plan.y) inner)) in
        record { column = omega (arith, column); row = omega (arith, row) }

    pub site_added : table.next < 2 ^ 32 → table_part ground (record table { next = table.next + 1; objects = with_new (site_of plan (table.index * 2 ^ 32 + table.next)) table.objects; spare = table.spare - 1 }) ≡ site_made entry (table_part ground table)
    site_added room =
        part_made ground table (site_of plan) (table.spare - 1) room refl
        ∙ sym (ap (λ (b : Bool). if b then new_in_part (site_of plan) (table_part ground table) else table_part ground table) all)

  pub no_site : all_hold (making_checks entry (table_part ground table)) ≡ false → table_part ground table ≡ site_made entry (table_part ground table)
  no_site fails = sym (ap (λ (b : Bool). if b then new_in_part (site_of plan) (table_part ground table) else table_part ground table) fails)

module _ (ground : List Ground) (table : Table) (entry : Intent) where
  abbrev checked : Bool
  checked = all_hold (removing_checks entry (table_part ground table))

  abbrev either : Bool → RoomPart
  either b = if b then without_in_part entry.actor (table_part ground table) else table_part ground table

  pub site_gone : checked ≡ true → table_part ground (removed entry.actor table) ≡ site_removed entry (table_part ground table)
  site_gone holds = part_without ground table entry.actor ∙ sym (ap either holds)

  pub no_site_gone : checked ≡ false → table_part ground table ≡ site_removed entry (table_part ground table)
  no_site_gone fails = sym (ap either fails)
