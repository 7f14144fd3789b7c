-- What creeps build keeps the rules of a room.
use Rattle.std.proofs.Common.{◌≡◌, inl, inr, ℕ, ◌+◌, ◌≤◌, ◌==◌, ◌&&◌, not, nat_lt, nat_le, if◌then◌else◌, Bool, true, false, Option, Some, None, refl, sym, ap, subst, ◌∙◌, arith}
use Rattle.std.specs.FinMap.{entries, values, get-entries}
use Rattle.std.proofs.lemmas.Bool.{both_ways, cases_lt, eq-eqb}
use Rattle.game_tables.specs.Actions.{is_target}
use Rattle.game_tables.specs.Kinds.{clash, is_building, is_creep, obstructs}
use Rattle.game_tables.specs.Numbers.{kind_number}
use Rattle.game_tables.specs.declared.action.Action.TheVariants.{Build}
use Rattle.game_tables.specs.declared.kind.Kind.{Kind}
use Rattle.game_tables.specs.declared.kind.Kind.TheVariants.{Creep}
use Rattle.intent_book.specs.declared.intent.Intent.{Intent}
use Rattle.room_table.specs.Stores.{building_of}
use Rattle.room_table.specs.Tables.{first_on}
use Rattle.room_table.specs.declared.object.Object.{Object}
use Rattle.world_rules.specs.RoomParts.{RoomPart}
use Rattle.world_rules.specs.Changes.{with_object, without, with_new, next_id}
use Rattle.world_rules.specs.Checks.{is_in_the_way}
use Rattle.world_rules.specs.Loads.{with_less}
use Rattle.world_rules.specs.Work.{building_on, built, built_as, built_by, total_of, work_put}
use Rattle.world_rules.proofs.Checked.{AreParties}
use Rattle.room_rules.specs.Within.{Stage}
use Rattle.room_rules.specs.RoomRules.{Holds, KeepsRoomRules}
use Rattle.room_rules.proofs.Keeps.{Fits, IsSame, keeps_changed, keeps_new, keeps_without}
use Rattle.room_rules.proofs.Falls.{both_true, is_creep_kind, less_range, none_of_entries}
use Rattle.room_rules.proofs.Sound.{clash_turned}
use Rattle.room_rules.proofs.Changed.{holds_still, left_without, stood_before, PartiesKeep, keeps_parties, target_kind, target_apart}
use Rattle.room_rules.proofs.Loads.{same_less}
use Rattle.room_rules.proofs.Sites.{building_is, building_no_controller, building_owner, building_range, building_tile, clash_site, none_on, site_further, site_is, site_owner}

third_of : (one two three : Bool) → (one && (two && (three && true))) ≡ true → three ≡ true
third_of true true true is = refl
third_of true true false is = absurd (cc)
third_of true false three is = absurd (cc)
third_of false two three is = absurd (cc)

same_progress : (o : Object) (progress : ℕ) → IsSame o (record o { progress = progress })
same_progress o progress = record { id = refl; kind = refl; x = refl; y = refl; owner = refl; other = refl }

-- Nothing that is found of this tile is a creep.
pub no_creep : (part : RoomPart) (x y m : ℕ) (q : Object) → first_on x y Creep (values part.objects) ≡ None → Holds part m q → is_creep q.kind ≡ true → q.x ≡ x → q.y ≡ y → ⊥
no_creep part x y m q none h creep column row =
    let test : Object → Bool = λ o. (o.x == x) && (o.y == y) && (kind_number o.kind == kind_number Creep) in
    both_ways (test q) (none_of_entries test (entries part.objects) m q none (sym (get-entries part.objects m) ∙ h))
    (both_true ((q.x == x) && (q.y == y)) (kind_number q.kind == kind_number Creep) (both_true (q.x == x) (q.y == y) (eq-eqb q.x x column) (eq-eqb q.y y row)) (eq-eqb (kind_number q.kind) (kind_number Creep) (ap kind_number (is_creep_kind q.kind creep))))

module _ (players : ℕ → Bool) (stage : Stage) where
  abbrev Kept : RoomPart → Type 0
  Kept part = KeepsRoomRules players stage part

  -- ---- a creep that puts work into the site of a building

  module _ (entry : Intent) (part : RoomPart) (k : Kept part) (creep site : Object) (p : AreParties Build entry part creep site) (kind : Kind) (of : building_of site ≡ Some kind) where
    abbrev work : ℕ
    work = work_put kind creep site

    -- the creep with less, and the room with it
    abbrev less : Object
    less = with_less work creep

    abbrev middle : RoomPart
    middle = with_object less part

    -- the site with the work, the room without it, and the building
    abbrev further : Object
    further = record site { progress = site.progress + work }

    abbrev gone : RoomPart
    gone = without site.id middle

    abbrev building : Object
    building = building_on kind middle further (next_id gone)

    is_one : is_building kind ≡ true
    is_one = (building_is site kind of).0

    site_target : is_target Build site.kind ≡ true
    site_target = target_kind Build 3 entry part creep site p.targets

    site_id : site.id ≡ entry.target
    site_id = k.ids entry.target site p.at

    middle_keeps : Kept middle
    middle_keeps = keeps_changed players stage part k entry.actor creep less p.there (same_less work creep) (less_range players stage creep work p.kind)

    site_there : Holds middle entry.target site
    site_there = holds_still part less entry.target site p.at (λ e. target_apart Build 3 entry part creep site p.targets refl (e ∙ sym site_id))

    -- ---- who stands on the tile

    creep_there : Holds part creep.id creep
    creep_there = subst (λ (n : ℕ). Holds part n creep) (sym (k.ids entry.actor creep p.there)) p.there

    nobody : obstructs kind ≡ true → (m : ℕ) (q : Object) → Holds middle m q → is_creep q.kind ≡ true → q.x ≡ site.x → q.y ≡ site.y → ⊥
    nobody obstructing m q h is x y =
        let clear = third_of (site.owner == entry.player) (nat_le 1 creep.energy) (not (is_in_the_way (values part.objects) site)) p.further in
        let none = none_on kind (building_of site) (first_on site.x site.y Creep (values part.objects)) of clear obstructing in
        let before = stood_before part less creep creep_there (same_less work creep) m q h in
        no_creep part site.x site.y m before.0 none before.1 (sym (ap is_creep before.2) ∙ is) (sym before.3 ∙ x) (sym before.4 ∙ y)

    -- What stands on the tile beside the site may share it with the building.
    shares : (m : ℕ) (q : Object) → Holds gone m q → q.x ≡ site.x → q.y ≡ site.y → clash kind q.kind ≡ true → ⊥
    shares m q h x y c =
        let left = left_without middle site.id m q h in
        elim (clash_site kind q.kind is_one c) [
          | inl sites ↦ middle_keeps.shared entry.target m site q (λ e. left.0 (sym e ∙ sym site_id)) site_there left.1 (sym x) (sym y) (ap (λ (one : Kind). clash one q.kind) (site_is site.kind site_target) ∙ sites)
          | inr creeps ↦ nobody creeps.0 m q left.1 creeps.1 x y
        ]

    -- ---- the site or its building

    owned : 1 ≤ site.owner
    owned = elim (cases_lt 0 site.owner) [
      | inl some ↦ some
      | inr none ↦ absurd (k.ranges entry.target site p.at (λ r. (let some : 1 ≤ site.owner = site_owner stage site site.kind site_target r in omega (arith, some, none))))
    ]

    fits : Fits players stage gone building
    fits = record {
      id = refl;
      inside = let on = k.inside entry.target site p.at in record { column = on.column; row = on.row };
      tile = building_tile middle further (next_id gone) middle.grounds kind (site_is site.kind site_target) (middle_keeps.tiles entry.target site site_there);
      alone = λ m q h x y. (shares m q h x y, λ c. shares m q h x y (clash_turned kind q.kind ∙ c));
      owner = building_owner middle further (next_id gone) players kind is_one ((k.owners entry.target site p.at).owner (λ none. omega (arith, none, owned))).0;
      controller = building_no_controller kind is_one;
      range = building_range middle further (next_id gone) kind stage is_one owned;
    }

    advanced_keeps : Kept (built_as (Some kind) creep site part)
    advanced_keeps =
        elim (nat_lt further.progress (total_of kind)) as (λ b. nat_lt further.progress (total_of kind) ≡ b → Kept (if b then with_object further middle else with_new (building_on kind middle further) gone)) [
          | true ↦ λ is. keeps_changed players stage middle middle_keeps entry.target site further site_there (same_progress site further.progress)
              (site_further stage site kind further.progress is_one (building_is site kind of).1 is site.kind site_target)
          | false ↦ λ is. keeps_new players stage gone (keeps_without players stage middle middle_keeps site.id) (building_on kind middle further) fits
        ] refl

  -- ---- the rule

  built_keeps : (entry : Intent) (part : RoomPart) → Kept part → (creep site : Object) → AreParties Build entry part creep site → (of : Option Kind) → building_of site ≡ of → Kept (built_as of creep site part)
  built_keeps entry part k creep site p None is = k
  built_keeps entry part k creep site p (Some kind) is = advanced_keeps entry part k creep site p kind is

  build_keeps : (entry : Intent) → PartiesKeep players stage Build built_by entry
  build_keeps entry part k creep site p = built_keeps entry part k creep site p (building_of site) refl

  pub keeps_built : (part : RoomPart) → Kept part → (entry : Intent) → Kept (built entry part)
  keeps_built part k entry = keeps_parties players stage Build built_by entry (build_keeps entry) part k
