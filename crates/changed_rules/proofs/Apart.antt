-- What stands in the rooms but those of some indices, with one index more or less.
use Rattle.std.proofs.Common.{◌≡◌, ◌+◌, ◌-◌, ◌<◌, ◌≤◌, ◌||◌, ℕ, zero, suc, Bool, true, false, cond, List, [], ◌∷◌, length, drop, get_or, Some, refl, sym, ap, subst, ◌∙◌, inl, inr, arith, add-one, drop-cons, option_map, MatchBool}
use Rattle.std.specs.Prelude.{nat_eq, slice_get}
use Rattle.std.specs.List.{AllByRecursion, IsDistinct, sum_by}
use Rattle.std.proofs.lemmas.Bool.{cases_eq, eq-eqb, ne_eqb}
use Rattle.std.proofs.lemmas.List.Sums.{sum_by-le-sum_by}
use Rattle.std.proofs.lemmas.Option.{same_Some, slice_get-get_or}
use Rattle.rule_check.proofs.Minima.{all_at}
use Rattle.room_table.specs.declared.object.Object.{Object}
use Rattle.object_store.specs.declared.world.Room.{Room}
use Rattle.object_store.specs.Stored.{Stored}
use Rattle.room_table.specs.Tables.{IsRising, Table}
use Rattle.rule_check.specs.Kept.{KeepsObjectRules}
use Rattle.changed_rules.specs.declared.census.Census.{Census}
use Rattle.changed_rules.specs.declared.counted.Counted.{Counted}
use Rattle.changed_rules.specs.Census.{ArePlaced, IsCensusApart, KeepsElsewhere, KeepsHere, tally_of}
use Rattle.changed_rules.specs.Counts.{is_among, most_of, tallied, times, times_apart, times_in}
use Rattle.changed_rules.specs.inner.Parts.{Adds, AreFew, Drops, Enters, Exceeds, IsRefused}
use Rattle.changed_rules.proofs.Split.{few_kept, keeps_here}
use Rattle.changed_rules.proofs.Lists.{distinct_drop, drop_end, first_apart, sum_apart, sum_zero}

-- how often a number is counted in a room, if its index is none of these
abbrev apart_in : Counted → ℕ → List ℕ → Room → ℕ
apart_in counted n places room = cond (is_among room.table.index places) 0 (times_in counted n room.table.objects)

-- the room of an index that is left out counts as it stands there
pub apart_one : (counted : Counted) (n place : ℕ) (rest : List ℕ) (rooms : List Room) (room : Room) → ArePlaced rooms → slice_get rooms place ≡ Some room → is_among place rest ≡ false
    → times_apart counted n (place ∷ rest) rooms + times_in counted n room.table.objects ≡ times_apart counted n rest rooms
apart_one counted n place rest rooms room placed at apart =
    let index : room.table.index ≡ place = placed place room at in
    let here : apart_in counted n (place ∷ rest) room ≡ 0 = ap (λ (b : Bool). cond (b || is_among room.table.index rest) 0 (times_in counted n room.table.objects)) (eq-eqb room.table.index place index) in
    let there : apart_in counted n rest room ≡ times_in counted n room.table.objects = ap (λ (b : Bool). cond b 0 (times_in counted n room.table.objects)) (subst (λ (m : ℕ). is_among m rest ≡ false) (sym index) apart) in
    let both : times_apart counted n (place ∷ rest) rooms + apart_in counted n rest room ≡ times_apart counted n rest rooms + apart_in counted n (place ∷ rest) room =
    sum_apart (apart_in counted n (place ∷ rest)) (apart_in counted n rest) rooms place room at
    (λ j other is differs. ap (λ (b : Bool). cond (b || is_among other.table.index rest) 0 (times_in counted n other.table.objects)) (ne_eqb other.table.index place (λ same. differs (sym (placed j other is) ∙ same)))) in
    omega arith

less_apart : (counted : Counted) (n : ℕ) (places : List ℕ) (room : Room) → apart_in counted n places room ≤ times_in counted n room.table.objects
less_apart counted n places room = elim (is_among room.table.index places) as (λ b. cond b 0 (times_in counted n room.table.objects) ≤ times_in counted n room.table.objects) [ true ↦ omega arith | false ↦ omega arith ]

pub apart_less : (counted : Counted) (n : ℕ) (places : List ℕ) (rooms : List Room) → times_apart counted n places rooms ≤ times counted n rooms
apart_less counted n places rooms = sum_by-le-sum_by (apart_in counted n places) (λ (room : Room). times_in counted n room.table.objects) rooms (less_apart counted n places)

pub apart_same : (counted : Counted) (n : ℕ) (places others : List ℕ) (rooms : List Room) → ((m : ℕ) → is_among m places ≡ is_among m others) → times_apart counted n places rooms ≡ times_apart counted n others rooms
apart_same counted n places others rooms same = λ i. sum_by (λ (room : Room). cond (same room.table.index i) 0 (times_in counted n room.table.objects)) rooms

pub apart_all : (counted : Counted) (n : ℕ) (places : List ℕ) (rooms : List Room) → ((i : ℕ) (room : Room) → slice_get rooms i ≡ Some room → is_among room.table.index places ≡ true) → times_apart counted n places rooms ≡ 0
apart_all counted n places rooms all = sum_zero (apart_in counted n places) rooms (λ i room at. ap (λ (b : Bool). cond b 0 (times_in counted n room.table.objects)) (all i room at))

-- ---- what is known elsewhere

pub elsewhere_same : (world : Stored) (places others : List ℕ) → ((m : ℕ) → is_among m places ≡ is_among m others) → KeepsElsewhere others world → KeepsElsewhere places world
elsewhere_same world places others same kept = record {
  each = λ i room at apart. kept.each i room at (sym (same room.table.index) ∙ apart);
  few = λ counted n. (let fits : times_apart counted n others world.rooms ≤ most_of counted = kept.few counted n in omega (arith, apart_same counted n places others world.rooms same));
}

pub few_apart : (world : Stored) (places : List ℕ) (census : Census) → KeepsElsewhere places world → IsCensusApart places world census → (counted : Counted) → AreFew counted (tally_of counted census)
few_apart world places census kept is counted n = let fits : times_apart counted n places world.rooms ≤ most_of counted = kept.few counted n in let same : tallied (tally_of counted census) n ≡ times_apart counted n places world.rooms = is counted n in omega arith

-- ---- a room that enters

-- What is known of a world and its census but for some rooms.
pub record KnownApart (places : List ℕ) (world : Stored) (census : Census) : Type 0 where
  pub kept : KeepsElsewhere places world
  pub is : IsCensusApart places world census

-- the number at a place, and those behind it
dropped_number : (places : List ℕ) (k : ℕ) → k < length places → drop k places ≡ get_or places k 0 ∷ drop (k + 1) places
dropped_number places k within = drop-cons places k 0 within ∙ ap (λ (n : ℕ). get_or places k 0 ∷ drop n places) (sym (add-one k))

next_apart : (places : List ℕ) (k : ℕ) → k < length places → IsDistinct nat_eq places → is_among (get_or places k 0) (drop (k + 1) places) ≡ false
next_apart places k within once = first_apart (get_or places k 0) (drop (k + 1) places) (subst (IsDistinct nat_eq) (dropped_number places k within) (distinct_drop places k once))

pub place_within : (rooms : List Room) (places : List ℕ) (k : ℕ) → k < length places → AllByRecursion (λ place. place < length rooms) places → get_or places k 0 < length rooms
place_within rooms places k within all = all_at (λ (place : ℕ). place < length rooms) places k (get_or places k 0) all (slice_get-get_or places k 0 within)

one_there : {A : Type 0} (xs : List A) (i : ℕ) → i < length xs → (x : A) × (slice_get xs i ≡ Some x)
one_there [] i within = absurd (omega arith)
one_there (x ∷ xs) zero within = (x, refl)
one_there (x ∷ xs) (suc i) within = one_there xs i (omega arith)

-- the room of the number at a place
pub room_there : (rooms : List Room) (places : List ℕ) (k : ℕ) → k < length places → AllByRecursion (λ place. place < length rooms) places → (room : Room) × (slice_get rooms (get_or places k 0) ≡ Some room)
room_there rooms places k within all = one_there rooms (get_or places k 0) (place_within rooms places k within all)

enter_first : (world : Stored) (place : ℕ) (rest : List ℕ) (room : Room) (old new : Census) → ArePlaced world.rooms → slice_get world.rooms place ≡ Some room → is_among place rest ≡ false
    → KnownApart (place ∷ rest) world old → Enters world room old new → KnownApart rest world new
enter_first world place rest room old new placed at apart known enters =
    let more : (counted : Counted) (n : ℕ) → tallied (tally_of counted new) n ≡ times_apart counted n rest world.rooms =
    λ counted n. (
    let one : tallied (tally_of counted new) n ≡ tallied (tally_of counted old) n + times_in counted n room.table.objects = (enters.adds counted).more n in
    let two : tallied (tally_of counted old) n ≡ times_apart counted n (place ∷ rest) world.rooms = known.is counted n in
    omega (arith, apart_one counted n place rest world.rooms room placed at apart)
    ) in
    record {
      kept = record {
        each = λ index other there differs.
            elim (cases_eq other.table.index place) [
              | inl same ↦ (
                  let here : index ≡ place = sym (placed index other there) ∙ same in
                  subst (KeepsHere world) (same_Some room other (sym at ∙ ap (slice_get world.rooms) (sym here) ∙ there)) enters.keeps
                  )
              | inr not_same ↦ known.kept.each index other there (ap (λ (b : Bool). b || is_among other.table.index rest) (ne_eqb other.table.index place not_same) ∙ differs)
            ];
        few = λ counted n. (let fits : tallied (tally_of counted new) n ≤ most_of counted = (enters.adds counted).few n in let same = more counted n in omega arith);
      };
      is = more;
    }

pub enter_step : (world : Stored) (places : List ℕ) (k : ℕ) (room : Room) (old new : Census) → ArePlaced world.rooms → IsDistinct nat_eq places → k < length places → slice_get world.rooms (get_or places k 0) ≡ Some room
    → KnownApart (drop k places) world old → Enters world room old new → KnownApart (drop (k + 1) places) world new
enter_step world places k room old new placed once within at known enters =
    enter_first world (get_or places k 0) (drop (k + 1) places) room old new placed at (next_apart places k within once) (subst (λ (xs : List ℕ). KnownApart xs world old) (dropped_number places k within) known) enters

refused_first : (world : Stored) (place : ℕ) (rest : List ℕ) (room : Room) (old : Census) → ArePlaced world.rooms → slice_get world.rooms place ≡ Some room → IsRising room.table.objects → is_among place rest ≡ false
    → IsCensusApart (place ∷ rest) world old → IsRefused world room old → KeepsObjectRules world → ⊥
refused_first world place rest room old placed at rising apart is refused kept =
    elim refused [
      | inl breaks ↦ breaks (keeps_here world kept place room at rising)
      | inr exceeds ↦ (
          let counted = exceeds.0 in
          let n = exceeds.1.number in
          let many : most_of counted < tallied (tally_of counted old) n + times_in counted n room.table.objects = exceeds.1.many in
          let same : tallied (tally_of counted old) n ≡ times_apart counted n (place ∷ rest) world.rooms = is counted n in
          let fits : times counted n world.rooms ≤ most_of counted = few_kept world kept counted n in
          omega (arith, apart_one counted n place rest world.rooms room placed at apart, apart_less counted n rest world.rooms)
          )
    ]

pub refused_step : (world : Stored) (places : List ℕ) (k : ℕ) (room : Room) (old : Census) → ArePlaced world.rooms → IsDistinct nat_eq places → k < length places → slice_get world.rooms (get_or places k 0) ≡ Some room → IsRising room.table.objects
    → IsCensusApart (drop k places) world old → IsRefused world room old → KeepsObjectRules world → ⊥
refused_step world places k room old placed once within at rising known refused kept =
    refused_first world (get_or places k 0) (drop (k + 1) places) room old placed at rising (next_apart places k within once) (subst (λ (xs : List ℕ). IsCensusApart xs world old) (dropped_number places k within) known) refused kept

pub known_end : (world : Stored) (places : List ℕ) (k : ℕ) (census : Census) → length places ≤ k → KnownApart (drop k places) world census → KnownApart [] world census
known_end world places k census all known = subst (λ (xs : List ℕ). KnownApart xs world census) (drop_end places k all) known

-- What is added of a room that keeps the rules.
pub entered : (world : Stored) (room : Room) (old new : Census) (objects : List Object) (fits : Bool) → room.table.objects ≡ objects → KeepsHere world room
    → MatchBool fits ((counted : Counted) → Adds counted objects (tally_of counted old) (tally_of counted new)) ((counted : Counted) × Exceeds counted objects (tally_of counted old)) → MatchBool fits (Enters world room old new) (IsRefused world room old)
entered world room old new objects true same keeps adds = record { keeps = keeps; adds = λ counted. subst (λ (all : List Object). Adds counted all (tally_of counted old) (tally_of counted new)) (sym same) (adds counted) }
entered world room old new objects false same keeps exceeds = inr (exceeds.0, subst (λ (all : List Object). Exceeds exceeds.0 all (tally_of exceeds.0 old)) (sym same) exceeds.1)

-- the objects of a table that is lent from a room
pub lent_objects : (rooms : List Room) (place : ℕ) (room : Room) (table : Table) (objects : List Object) → slice_get rooms place ≡ Some room → option_map (λ (r : Room). r.table) (slice_get rooms place) ≡ Some table → objects ≡ table.objects → room.table.objects ≡ objects
lent_objects rooms place room table objects at lent same = ap (λ (t : Table). t.objects) (same_Some room.table table (ap (option_map (λ (r : Room). r.table)) (sym at) ∙ lent)) ∙ sym same

-- ---- a room that leaves

pub leave_step : (world : Stored) (places : List ℕ) (at k : ℕ) (room : Room) (old new : Census) → ArePlaced world.rooms → IsDistinct nat_eq places → at ≡ k + 1 → k < length places → slice_get world.rooms (get_or places k 0) ≡ Some room
    → IsCensusApart (drop at places) world old → ((counted : Counted) → Drops counted room.table.objects (tally_of counted old) (tally_of counted new)) → IsCensusApart (drop k places) world new
leave_step world places at k room old new placed once after within there known drops counted n =
    let place : ℕ = get_or places k 0 in
    let rest : List ℕ = drop (k + 1) places in
    let one : tallied (tally_of counted new) n ≡ tallied (tally_of counted old) n - times_in counted n room.table.objects = drops counted n in
    let two : tallied (tally_of counted old) n ≡ times_apart counted n rest world.rooms = known counted n ∙ ap (λ (m : ℕ). times_apart counted n (drop m places) world.rooms) after in
    let three : times_apart counted n (drop k places) world.rooms ≡ times_apart counted n (place ∷ rest) world.rooms = ap (λ (xs : List ℕ). times_apart counted n xs world.rooms) (dropped_number places k within) in
    let four : times_apart counted n (place ∷ rest) world.rooms + times_in counted n room.table.objects ≡ times_apart counted n rest world.rooms = apart_one counted n place rest world.rooms room placed there (next_apart places k within once) in
    omega arith
