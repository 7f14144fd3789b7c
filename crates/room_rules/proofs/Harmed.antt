-- What was done to the objects of a table, after damage and healing were added.
use Rattle.std.proofs.Common.{◌≡◌, ℕ, ◌+◌, ◌≤◌, ◌==◌, Bool, true, false, cond, if◌then◌else◌, List, [], ◌∷◌, Some, Option, refl, sym, ap, subst, ◌∙◌, arith, inl, inr}
use Rattle.std.specs.Option.{unwrap_or}
use Rattle.std.specs.Cmp.{nat_cmp_total, unsigned_tied}
use Rattle.std.specs.FinMap.{get, insert, get-insert}
use Rattle.std.proofs.lemmas.Bool.{eq-eqb, eqb-true, ne_eqb, cases_eq, and_parts}
use Rattle.room_table.specs.declared.object.Object.{Object}
use Rattle.room_table.specs.declared.tally.Tally.{Tally}
use Rattle.room_table.specs.Tables.{Table, AreTalliesOf, find_object}
use Rattle.room_table.specs.Tallies.{Tallies, damaged, healed, is_no_tally, most_sum, no_tally, sum_with, tally_of, with_tally}
use Rattle.room_terrain.specs.declared.terrain.Ground.{Ground}
use Rattle.game_tables.specs.declared.action.Action.{Action}
use Rattle.intent_book.specs.declared.intent.Intent.{Intent}
use Rattle.world_rules.specs.RoomParts.{table_part}
use Rattle.world_rules.specs.Checks.{parties}
use Rattle.world_rules.specs.Fights.{blow, cure, harm_between, harm_by_parties}
use Rattle.world_rules.specs.RuleBook.{Harm, no_harm}
use Rattle.world_rules.specs.Tick.{total_for}
use Rattle.world_rules.proofs.TableParts.{has_the_id}
use Rattle.room_rules.specs.Calls.{IsHarmedBy, IsReady, Keeps, KeepsTallies, tally_with}
use Rattle.room_rules.specs.inner.Damage.{IsDamaged, to_one, with_damage}

-- ---- tallies

-- the table with these tallies
abbrev pub with_tallies : Tallies → Table → Table
with_tallies tallies table = record table { tallies = tallies }

-- The tally of another object stays.
tally_apart : (id other : ℕ) (tally : Tally) (tallies : Tallies) → (id ≡ other → ⊥) → tally_of other (with_tally id tally tallies) ≡ tally_of other tallies
tally_apart id other tally tallies apart =
    elim (is_no_tally tally) as (λ b. tally_of other (if b then tallies else insert tallies id tally) ≡ tally_of other tallies) [
      | true ↦ refl
      | false ↦ ap (λ (o : Option Tally). unwrap_or o no_tally) (get-insert nat_cmp_total tallies id tally other)
          ∙ ap (λ (b : Bool). unwrap_or (cond b (Some tally) (get tallies other)) no_tally) (unsigned_tied other id ∙ ne_eqb other id (λ e. apart (sym e)))
    ]

-- The object has the tally that was put in.
tally_here : (id : ℕ) (tally : Tally) (tallies : Tallies) → (is_no_tally tally ≡ true → tally_of id tallies ≡ tally) → tally_of id (with_tally id tally tallies) ≡ tally
tally_here id tally tallies nothing =
    elim (is_no_tally tally) as (λ b. is_no_tally tally ≡ b → tally_of id (if b then tallies else insert tallies id tally) ≡ tally) [
      | true ↦ nothing
      | false ↦ λ some. ap (λ (o : Option Tally). unwrap_or o no_tally) (get-insert nat_cmp_total tallies id tally id)
          ∙ ap (λ (b : Bool). unwrap_or (cond b (Some tally) (get tallies id)) no_tally) (unsigned_tied id id ∙ eq-eqb id id refl)
    ] refl

sum_of_nothing : (n sum : ℕ) → sum_with n sum ≡ 0 → sum ≡ sum_with n sum
sum_of_nothing n sum is = omega arith

pub sum_within : (sum : ℕ) → sum ≤ most_sum → sum ≡ sum_with 0 sum
sum_within sum within = omega arith

sum_of_both : (n more sum : ℕ) → sum_with more (sum_with n sum) ≡ sum_with (n + more) sum
sum_of_both n more sum = omega arith

-- a tally with so much healing more
abbrev with_healing : ℕ → Tally → Tally
with_healing n tally = record tally { healing = sum_with n tally.healing }

damaged_here : (id n : ℕ) (tallies : Tallies) → tally_of id (damaged id n tallies) ≡ with_damage n (tally_of id tallies)
damaged_here id n tallies =
    let tally : Tally = tally_of id tallies in
    tally_here id (with_damage n tally) tallies (λ nothing.
    let both = and_parts (sum_with n tally.damage == 0) (tally.healing == 0) nothing in
    let same = sum_of_nothing n tally.damage (eqb-true (sum_with n tally.damage) 0 both.0) in
    λ i. record tally { damage = same i })

healed_here : (id n : ℕ) (tallies : Tallies) → tally_of id (healed id n tallies) ≡ with_healing n (tally_of id tallies)
healed_here id n tallies =
    let tally : Tally = tally_of id tallies in
    tally_here id (with_healing n tally) tallies (λ nothing.
    let both = and_parts (tally.damage == 0) (sum_with n tally.healing == 0) nothing in
    let same = sum_of_nothing n tally.healing (eqb-true (sum_with n tally.healing) 0 both.1) in
    λ i. record tally { healing = same i })

with_both : (n more : ℕ) (tally : Tally) → with_damage more (with_damage n tally) ≡ with_damage (n + more) tally
with_both n more tally = let sum = sum_of_both n more tally.damage in λ i. record tally { damage = sum i }

-- ---- damage to the objects of a table

to_one_here : (id n : ℕ) (object : Object) → id ≡ object.id → to_one id n object ≡ n
to_one_here id n object same = ap (λ (b : Bool). if b then n else 0) (eq-eqb id object.id same)

pub to_one_apart : (id n : ℕ) (object : Object) → (id ≡ object.id → ⊥) → to_one id n object ≡ 0
to_one_apart id n object apart = ap (λ (b : Bool). if b then n else 0) (ne_eqb id object.id apart)

-- Where nothing was done.
pub is_undamaged : (table : Table) → AreTalliesOf table.objects table.tallies → IsDamaged (λ object. 0) table table
is_undamaged table within = record {
  rest = refl;
  tallies = λ id object found.
      let same = sum_within (tally_of id table.tallies).damage (within.damage id) in
      λ i. record (tally_of id table.tallies) { damage = same i };
}

-- Where damage was added to one object after the rest.
pub damaged_more : (before : Object → ℕ) (old middle : Table) (id n : ℕ) → IsDamaged before old middle → IsDamaged (λ object. before object + to_one id n object) old (with_tallies (damaged id n middle.tallies) middle)
damaged_more before old middle id n done = record {
  rest = ap (with_tallies (damaged id n middle.tallies)) done.rest;
  tallies = λ other object found.
      let tally : Tally = tally_of other old.tallies in
      let named : object.id ≡ other = has_the_id other old.objects object found in
      elim (cases_eq id other) as (λ c. tally_of other (damaged id n middle.tallies) ≡ with_damage (before object + to_one id n object) tally) [
        | inl same ↦
            ap (λ (k : ℕ). tally_of k (damaged id n middle.tallies)) (sym same)
            ∙ damaged_here id n middle.tallies
            ∙ ap (λ (k : ℕ). with_damage n (tally_of k middle.tallies)) same
            ∙ ap (with_damage n) (done.tallies other object found)
            ∙ with_both (before object) n tally
            ∙ ap (λ (m : ℕ). with_damage (before object + m) tally) (sym (to_one_here id n object (same ∙ sym named)))
        | inr apart ↦
            let none = to_one_apart id n object (λ e. apart (e ∙ named)) in
            let sum : before object ≡ before object + to_one id n object = omega (arith, none) in
            tally_apart id other (with_damage n (tally_of id middle.tallies)) middle.tallies apart
            ∙ done.tallies other object found
            ∙ ap (λ (m : ℕ). with_damage m tally) sum
      ];
}

-- Where damage was done twice.
pub damaged_both : (first second : Object → ℕ) (old middle new : Table) → IsDamaged first old middle → IsDamaged second middle new → IsDamaged (λ object. first object + second object) old new
damaged_both first second old middle new done also = record {
  rest = also.rest ∙ ap (with_tallies new.tallies) done.rest;
  tallies = λ id object found.
      also.tallies id object (ap (λ (t : Table). find_object id t.objects) done.rest ∙ found)
      ∙ ap (with_damage (second object)) (done.tallies id object found)
      ∙ with_both (first object) (second object) (tally_of id old.tallies);
}

-- Damage that is the same for all that stand there.
pub damaged_same : (first second : Object → ℕ) (old new : Table) → IsDamaged first old new → ((id : ℕ) (object : Object) → find_object id old.objects ≡ Some object → first object ≡ second object) → IsDamaged second old new
damaged_same first second old new done same = record {
  rest = done.rest;
  tallies = λ id object found. done.tallies id object found ∙ ap (λ (n : ℕ). with_damage n (tally_of id old.tallies)) (same id object found);
}

-- ---- harm

-- A table with other tallies keeps all.
pub keeps_tallied : (table : Table) (tallies : Tallies) → IsReady table → Keeps table (with_tallies tallies table)
keeps_tallied table tallies ready = record { index = refl; used = refl; later = omega arith; made = omega arith; tiles = ready.tiles }

-- An entry that does this damage harms the objects so.
pub harmed_by : (damage : Object → ℕ) (old new : Table) (list : List (ℕ × ℕ)) → AreTalliesOf old.objects old.tallies → IsDamaged damage old new
    → ((id : ℕ) (object : Object) → find_object id old.objects ≡ Some object → damage object ≡ total_for list id) → IsHarmedBy (record { damage = list; healing = [] }) old new
harmed_by damage old new list within done same = λ id has.
    let tally : Tally = tally_of id old.tallies in
    let found = ap (λ (t : Table). find_object id t.objects) (sym done.rest) ∙ has.1 in
    let healing = sum_within tally.healing (within.healing id) in
    done.tallies id has.0 found ∙ (λ i. record { damage = sum_with (same id has.0 found i) tally.damage; healing = healing i })

pub unharmed : (table : Table) → AreTalliesOf table.objects table.tallies → IsHarmedBy no_harm table table
unharmed table within = harmed_by (λ object. 0) table table [] within (is_undamaged table within) (λ id object found. refl)

-- What keeps tallies harms nothing.
pub harmed_by_none : (old new : Table) → AreTalliesOf old.objects old.tallies → KeepsTallies old new → IsHarmedBy no_harm old new
harmed_by_none old new within keeps = λ id has.
    let tally : Tally = tally_of id old.tallies in
    let damage = sum_within tally.damage (within.damage id) in
    let healing = sum_within tally.healing (within.healing id) in
    keeps id has ∙ (λ i. record { damage = damage i; healing = healing i })

-- One blow, to whatever has an id.
pub blow_at : (table : Table) (id n : ℕ) → AreTalliesOf table.objects table.tallies → (other : ℕ) → tally_of other (damaged id n table.tallies) ≡ tally_with (blow id n) other (tally_of other table.tallies)
blow_at table id n within other =
    let tally : Tally = tally_of other table.tallies in
    let healing = sum_within tally.healing (within.healing other) in
    elim (cases_eq id other) as (λ c. tally_of other (damaged id n table.tallies) ≡ record { damage = sum_with (0 + (if id == other then n else 0)) tally.damage; healing = sum_with 0 tally.healing }) [
      | inl same ↦
          let all : n ≡ 0 + (if id == other then n else 0) = sym (ap (λ (b : Bool). 0 + (if b then n else 0)) (eq-eqb id other same) ∙ omega arith) in
          ap (λ (k : ℕ). tally_of k (damaged id n table.tallies)) (sym same)
          ∙ damaged_here id n table.tallies
          ∙ ap (λ (k : ℕ). with_damage n (tally_of k table.tallies)) same
          ∙ (λ i. record { damage = sum_with (all i) tally.damage; healing = healing i })
      | inr apart ↦
          let none : 0 ≡ 0 + (if id == other then n else 0) = sym (ap (λ (b : Bool). 0 + (if b then n else 0)) (ne_eqb id other apart)) in
          let damage = sum_within tally.damage (within.damage other) ∙ ap (λ (k : ℕ). sum_with k tally.damage) none in
          tally_apart id other (with_damage n (tally_of id table.tallies)) table.tallies apart
          ∙ (λ i. record { damage = damage i; healing = healing i })
    ]

pub harmed_by_blow : (table : Table) (id n : ℕ) → AreTalliesOf table.objects table.tallies → IsHarmedBy (blow id n) table (with_tallies (damaged id n table.tallies) table)
harmed_by_blow table id n within = λ other has. blow_at table id n within other

pub harmed_by_two : (table : Table) (id n other m : ℕ) → AreTalliesOf table.objects table.tallies
    → IsHarmedBy (record { damage = (id, n) ∷ (other, m) ∷ []; healing = [] }) table (with_tallies (damaged other m (damaged id n table.tallies)) table)
harmed_by_two table id n other m within =
    let middle : Table = with_tallies (damaged id n table.tallies) table in
    harmed_by (λ object. 0 + to_one id n object + to_one other m object) table (with_tallies (damaged other m middle.tallies) middle) ((id, n) ∷ (other, m) ∷ []) within
    (damaged_more (λ object. 0 + to_one id n object) table middle other m (damaged_more (λ object. 0) table table id n (is_undamaged table within)))
    (λ one object found. ap (λ (k : ℕ). 0 + (if id == k then n else 0) + (if other == k then m else 0)) (has_the_id one table.objects object found))

pub harmed_by_cure : (table : Table) (id n : ℕ) → AreTalliesOf table.objects table.tallies → IsHarmedBy (cure id n) table (with_tallies (healed id n table.tallies) table)
harmed_by_cure table id n within = λ other has.
    let tally : Tally = tally_of other table.tallies in
    let damage = sum_within tally.damage (within.damage other) in
    elim (cases_eq id other) as (λ c. tally_of other (healed id n table.tallies) ≡ record { damage = sum_with 0 tally.damage; healing = sum_with (0 + (if id == other then n else 0)) tally.healing }) [
      | inl same ↦
          let all : n ≡ 0 + (if id == other then n else 0) = sym (ap (λ (b : Bool). 0 + (if b then n else 0)) (eq-eqb id other same) ∙ omega arith) in
          ap (λ (k : ℕ). tally_of k (healed id n table.tallies)) (sym same)
          ∙ healed_here id n table.tallies
          ∙ ap (λ (k : ℕ). with_healing n (tally_of k table.tallies)) same
          ∙ (λ i. record { damage = damage i; healing = sum_with (all i) tally.healing })
      | inr apart ↦
          let none : 0 ≡ 0 + (if id == other then n else 0) = sym (ap (λ (b : Bool). 0 + (if b then n else 0)) (ne_eqb id other apart)) in
          let healing = sum_within tally.healing (within.healing other) ∙ ap (λ (k : ℕ). sum_with k tally.healing) none in
          tally_apart id other (with_healing n (tally_of id table.tallies)) table.tallies apart
          ∙ (λ i. record { damage = damage i; healing = healing i })
    ]

-- ---- by an entry

-- What an entry does by its creep and its target is what it does by those that are found.
pub harmed_between : (action : Action) (harm : Object → Object → Harm) (entry : Intent) (table new : Table) (found : Option (Object × Object)) → ((grounds : List Ground) → found ≡ parties action entry (table_part grounds table))
    → IsHarmedBy (harm_between harm found) table new → (grounds : List Ground) → IsHarmedBy (harm_by_parties action harm entry (table_part grounds table)) table new
harmed_between action harm entry table new found is harmed grounds = subst (λ (h : Harm). IsHarmedBy h table new) (ap (harm_between harm) (is grounds)) harmed
