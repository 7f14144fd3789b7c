-- A step in place, object by object.
use Rattle.std.proofs.Common.{◌≡◌, ℕ, zero, suc, ◌+◌, ◌-◌, ◌<◌, ◌≤◌, Bool, true, false, List, [], ◌∷◌, ◌++◌, length, get_or, set, filter_map, Option, Some, None, is_some, slice_get, refl, sym, ap, subst, ◌∙◌, arith, append_assoc}
use Rattle.std.specs.List.{AllByRecursion, cons_option}
use Rattle.std.specs.List.{remove as remove_at}
use Rattle.std.proofs.lemmas.Bool.{both_ways}
use Rattle.std.proofs.lemmas.List.{append-nil, length-append}
use Rattle.std.proofs.lemmas.List.Elements.{filter_map-append}
use Rattle.std.proofs.lemmas.Option.{get_or_from_slice_get, slice_get_within}
use Rattle.room_table.specs.declared.object.Object.{Object}
use Rattle.std.specs.FinMap.{remove}
use Rattle.room_table.specs.Tables.{Table, IsRising, IsOnTile, find_object, removed, with_object, without}
use Rattle.room_table.specs.Tallies.{Tallies}
use Rattle.room_table.proofs.Keyed.{rises_from_objects}
use Rattle.room_table.proofs.Rising.{find-at, remove-at, set-at}
use Rattle.upkeep_rules.specs.declared.pass.Step.{Step}
use Rattle.upkeep_rules.specs.inner.Passed.{left_by, IsPassedTo}
use Rattle.upkeep_rules.proofs.Lefts.{left-id, left_stays}

abbrev id_of : Object → ℕ
id_of object = object.id

-- ---- an object on its tile

pub left_on_tile : (step : Step) (object after : Object) → left_by step object ≡ Some after → IsOnTile object → IsOnTile after
left_on_tile step object after is on = let stays = left_stays step object after is in record { column = omega (arith, stays.x, on.column); row = omega (arith, stays.y, on.row) }

pub all_read : {A : Type 0} (P : A → Type 0) (xs : List A) (i : ℕ) (x : A) → AllByRecursion P xs → slice_get xs i ≡ Some x → P x
all_read P [] i x all at = absurd (cc)
all_read P (first ∷ xs) zero x all at = let same : first ≡ x = cc in subst P same all.0
all_read P (first ∷ xs) (suc i) x all at = all_read P xs i x all.1 at

pub found_there : (objects : List Object) (i : ℕ) (object : Object) (id : ℕ) → IsRising objects → slice_get objects i ≡ Some object → object.id ≡ id → find_object id objects ≡ Some object
found_there objects i object id rising at is =
    let here = get_or_from_slice_get objects i object object at in
    find-at id_of id objects i object (rises_from_objects objects rising) (slice_get_within objects i object at) (ap id_of here ∙ is) ∙ ap Some here

-- ---- the object at a place

pub read_middle : {A : Type 0} (before : List A) (x : A) (after : List A) → slice_get (before ++ x ∷ after) (length before) ≡ Some x
read_middle [] x after = refl
read_middle (first ∷ before) x after = read_middle before x after

get_middle : {A : Type 0} (before : List A) (x : A) (after : List A) (d : A) → get_or (before ++ x ∷ after) (length before) d ≡ x
get_middle [] x after d = refl
get_middle (first ∷ before) x after d = get_middle before x after d

set_middle : {A : Type 0} (before : List A) (x y : A) (after : List A) → set (before ++ x ∷ after) (length before) y ≡ before ++ y ∷ after
set_middle [] x y after = refl
set_middle {A} (first ∷ before) x y after = ap (λ (more : List A). first ∷ more) (set_middle before x y after)

remove_middle : {A : Type 0} (before : List A) (x : A) (after : List A) → remove_at (before ++ x ∷ after) (length before) ≡ before ++ after
remove_middle [] x after = refl
remove_middle {A} (first ∷ before) x after = ap (λ (more : List A). first ∷ more) (remove_middle before x after)

inside_middle : {A : Type 0} (before : List A) (x : A) (after : List A) → length before < length (before ++ x ∷ after)
inside_middle [] x after = omega arith
inside_middle (first ∷ before) x after = omega (arith, inside_middle before x after)

module _ (before : List Object) (object : Object) (after : List Object) (rising : IsRising (before ++ object ∷ after)) where
  abbrev all : List Object
  all = before ++ object ∷ after

  pub replaced_middle : (left : Object) → left.id ≡ object.id → with_object left all ≡ before ++ left ∷ after
  replaced_middle left same =
      sym (set-at id_of left all (length before) object (rises_from_objects all rising) (inside_middle before object after) (ap id_of (get_middle before object after object) ∙ sym same))
      ∙ set_middle before object left after

  pub removed_middle : without object.id all ≡ before ++ after
  removed_middle =
      sym (remove-at id_of object.id all (length before) object (rises_from_objects all rising) (inside_middle before object after) (ap id_of (get_middle before object after object)))
      ∙ remove_middle before object after

module _ (step : Step) (table : Table) (place : ℕ) (read : Object) (at : slice_get table.objects place ≡ Some read)
    (before after : List Object) (object : Object) (whole : table.objects ≡ before ++ object ∷ after) (here : length before ≡ place) where
  same : object ≡ read
  same =
      let found : Some object ≡ Some read = sym (read_middle before object after) ∙ ap (slice_get (before ++ object ∷ after)) here ∙ ap (λ (xs : List Object). slice_get xs place) (sym whole) ∙ at in
      cc

  pub left_then : (left : Option Object) → left_by step read ≡ left → left_by step object ≡ left
  left_then left is = ap (left_by step) same ∙ is

  abbrev then_objects : Option Object → List Object
  then_objects left = before ++ cons_option left after

  abbrev then_table : Tallies → List Object → Table
  then_table tallies objects = record table { objects = objects; tallies = tallies }

  -- as a clause says it of a new table
  pub its_own : (new : Table) (tallies : Tallies) (objects : List Object) → new ≡ then_table tallies objects → new ≡ then_table new.tallies objects
  its_own new tallies objects is = is ∙ ap (λ (t : Tallies). then_table t objects) (sym (ap (λ (t : Table). t.tallies) is))

  pub stays : left_by step read ≡ Some read → table ≡ then_table table.tallies (then_objects (left_by step object))
  stays is = ap (then_table table.tallies) (whole ∙ ap then_objects (ap Some same ∙ sym (left_then (Some read) is)))

  module _ (rising : IsRising table.objects) where
    pub changes : (left : Object) → left_by step read ≡ Some left → then_table table.tallies (with_object left table.objects) ≡ then_table table.tallies (then_objects (left_by step object))
    changes left is = ap (then_table table.tallies) (
        ap (with_object left) whole
        ∙ replaced_middle before object after (subst IsRising whole rising) left (left-id step object left (left_then (Some left) is))
        ∙ ap then_objects (sym (left_then (Some left) is)))

    pub goes : left_by step read ≡ None → removed read.id table ≡ then_table (remove table.tallies read.id) (then_objects (left_by step object))
    goes is = ap (then_table (remove table.tallies read.id)) (
        ap (λ (o : Object). without o.id table.objects) (sym same)
        ∙ ap (without object.id) whole
        ∙ removed_middle before object after (subst IsRising whole rising)
        ∙ ap then_objects (sym (left_then None is)))

-- ---- along the places

pub pass_first : (step : Step) (table : Table) → AllByRecursion IsOnTile table.objects → IsPassedTo step table 0 table
pass_first step table tiles = record { done = []; later = table.objects; whole = refl; count = refl; table = refl; tiles = tiles }

module _ (step : Step) (start : Table) (place : ℕ) (now : Table) (upto : IsPassedTo step start place now) where
  abbrev kept : List Object
  kept = filter_map (left_by step) upto.done

  objects_now : now.objects ≡ kept ++ upto.later
  objects_now = ap (λ (t : Table). t.objects) upto.table

  many_now : length now.objects ≡ place + length upto.later
  many_now = ap length objects_now ∙ length-append kept upto.later ∙ ap (λ (n : ℕ). n + length upto.later) upto.count

  all_done : (later : List Object) → upto.later ≡ later → length now.objects ≤ place → now ≡ record start { objects = filter_map (left_by step) start.objects; tallies = now.tallies }
  all_done (object ∷ later) is past = absurd (omega (arith, many_now, ap length is))
  all_done [] is past =
      upto.table
      ∙ ap (λ (objects : List Object). record start { objects = objects; tallies = now.tallies }) (
      ap (λ (more : List Object). kept ++ more) is
      ∙ append-nil kept
      ∙ ap (filter_map (left_by step)) (sym (upto.whole ∙ ap (λ (more : List Object). upto.done ++ more) is ∙ append-nil upto.done)))

  pub pass_last : length now.objects ≤ place → now ≡ record start { objects = filter_map (left_by step) start.objects; tallies = now.tallies }
  pass_last = all_done upto.later refl

  -- a step at the place
  module _ (new : Table) (left : Bool) (tiles : AllByRecursion IsOnTile new.objects)
      (is_left : (before after : List Object) (object : Object) → now.objects ≡ before ++ object ∷ after → length before ≡ place → left ≡ is_some (left_by step object))
      (table : (before after : List Object) (object : Object) → now.objects ≡ before ++ object ∷ after → length before ≡ place → new ≡ record now { objects = before ++ cons_option (left_by step object) after; tallies = new.tallies }) where
    module _ (object : Object) (rest : List Object) (is : upto.later ≡ object ∷ rest) where
      abbrev done_then : List Object
      done_then = upto.done ++ object ∷ []

      whole_now : now.objects ≡ kept ++ object ∷ rest
      whole_now = objects_now ∙ ap (λ (more : List Object). kept ++ more) is

      kept_then : filter_map (left_by step) done_then ≡ kept ++ cons_option (left_by step object) []
      kept_then = filter_map-append (left_by step) upto.done (object ∷ [])

      regrouped : (found : Option Object) → kept ++ cons_option found rest ≡ (kept ++ cons_option found []) ++ rest
      regrouped None = ap (λ (some : List Object). some ++ rest) (sym (append-nil kept))
      regrouped (Some after) = sym (append_assoc kept (after ∷ []) rest)

      new_is : new ≡ record start { objects = kept ++ cons_option (left_by step object) rest; tallies = new.tallies }
      new_is = table kept rest object whole_now upto.count ∙ ap (λ (t : Table). record t { objects = kept ++ cons_option (left_by step object) rest; tallies = new.tallies }) upto.table

      moved_on : (n : ℕ) → length (cons_option (left_by step object) []) ≡ n → IsPassedTo step start (place + n) new
      moved_on n many = record {
        done = done_then;
        later = rest;
        whole = upto.whole ∙ ap (λ (more : List Object). upto.done ++ more) is ∙ sym (append_assoc upto.done (object ∷ []) rest);
        count = ap length kept_then ∙ length-append kept (cons_option (left_by step object) []) ∙ (λ i. upto.count i + many i);
        table = new_is ∙ ap (λ (objects : List Object). record start { objects = objects; tallies = new.tallies }) (regrouped (left_by step object) ∙ ap (λ (some : List Object). some ++ rest) (sym kept_then));
        tiles = tiles;
      }

      new_many : (n : ℕ) → length (cons_option (left_by step object) rest) ≡ n → length new.objects ≡ place + n
      new_many n many = ap (λ (t : Table). length t.objects) new_is ∙ length-append kept (cons_option (left_by step object) rest) ∙ (λ i. upto.count i + many i)

      left_here : left ≡ is_some (left_by step object)
      left_here = is_left kept rest object whole_now upto.count

      more_by : (found : Option Object) → left_by step object ≡ found → left ≡ true → IsPassedTo step start (place + 1) new × (length new.objects - (place + 1) < length now.objects - place)
      more_by None found so = absurd (both_ways (is_some (left_by step object)) (ap is_some found) (sym left_here ∙ so))
      more_by (Some after) found so = (
        moved_on 1 (ap (λ (o : Option Object). length (cons_option o [])) found),
        omega (arith, new_many (suc (length rest)) (ap (λ (o : Option Object). length (cons_option o rest)) found), many_now, ap length is),
      )

      less_by : (found : Option Object) → left_by step object ≡ found → left ≡ false → IsPassedTo step start place new × (length new.objects - place < length now.objects - place)
      less_by (Some after) found so = absurd (both_ways (is_some (left_by step object)) (sym left_here ∙ so) (ap is_some found))
      less_by None found so = (
        subst (λ (n : ℕ). IsPassedTo step start n new) (omega arith) (moved_on 0 (ap (λ (o : Option Object). length (cons_option o [])) found)),
        omega (arith, new_many (length rest) (ap (λ (o : Option Object). length (cons_option o rest)) found), many_now, ap length is),
      )

    more_among : (later : List Object) → upto.later ≡ later → place < length now.objects → left ≡ true → IsPassedTo step start (place + 1) new × (length new.objects - (place + 1) < length now.objects - place)
    more_among [] is inside so = absurd (omega (arith, many_now, ap length is))
    more_among (object ∷ rest) is inside so = more_by object rest is (left_by step object) refl so

    less_among : (later : List Object) → upto.later ≡ later → place < length now.objects → left ≡ false → IsPassedTo step start place new × (length new.objects - place < length now.objects - place)
    less_among [] is inside so = absurd (omega (arith, many_now, ap length is))
    less_among (object ∷ rest) is inside so = less_by object rest is (left_by step object) refl so

    -- an object that is left
    pub pass_more : place < length now.objects → left ≡ true → IsPassedTo step start (place + 1) new × (length new.objects - (place + 1) < length now.objects - place)
    pass_more = more_among upto.later refl

    -- one that is gone
    pub pass_less : place < length now.objects → left ≡ false → IsPassedTo step start place new × (length new.objects - place < length now.objects - place)
    pass_less = less_among upto.later refl
