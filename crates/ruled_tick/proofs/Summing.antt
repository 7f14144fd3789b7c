-- What the entries of a room did to objects, and its sums beside the table, go on together.
use Rattle.std.proofs.Common.{◌≡◌, ℕ, ◌+◌, ◌*◌, ◌^◌, ◌<◌, ◌≤◌, ◌==◌, min, if◌then◌else◌, List, [], ◌∷◌, ◌++◌, refl, sym, ap, subst, ◌∙◌, inl, inr, arith, append-nil}
use Rattle.std.specs.List.{flat_map}
use Rattle.std.proofs.lemmas.List.Sums.{sum_by-append}
use Rattle.room_terrain.specs.declared.terrain.Ground.{Ground}
use Rattle.intent_book.specs.declared.intent.Intent.{Intent}
use Rattle.room_table.specs.declared.tally.Tally.{Tally}
use Rattle.room_table.specs.Tables.{Table, IsRising, HasId, HasNoId}
use Rattle.room_table.specs.Tallies.{most_sum, no_tally, sum_with, tally_of}
use Rattle.world_rules.specs.RoomParts.{RoomPart, table_part}
use Rattle.world_rules.specs.RuleBook.{Harm, Follows}
use Rattle.world_rules.specs.Tick.{book, sums_of, total_for}
use Rattle.world_rules.proofs.Orderly.{book_orderly}
use Rattle.world_rules.proofs.TableParts.{get_table_part}
use Rattle.room_rules.specs.Calls.{tally_with}
use Rattle.ruled_tick.specs.inner.Entered.{HasSumsOf, IsRuled}
use Rattle.ruled_tick.proofs.Harming.{harm_absent}

-- ---- totals

total_append : (one other : List (ℕ × ℕ)) (id : ℕ) → total_for (one ++ other) id ≡ total_for one id + total_for other id
total_append one other id = sum_by-append (λ (e : ℕ × ℕ). if e.0 == id then e.1 else 0) one other

flat_push : (f : Harm → List (ℕ × ℕ)) (harms : List Harm) (harm : Harm) → flat_map f (harms ++ harm ∷ []) ≡ flat_map f harms ++ f harm
flat_push f [] harm = append-nil (f harm)
flat_push f (first ∷ harms) harm = ap (λ (more : List (ℕ × ℕ)). f first ++ more) (flat_push f harms harm) ∙ assoc (f first) (flat_map f harms) (f harm)
  where
    assoc : (a b c : List (ℕ × ℕ)) → a ++ (b ++ c) ≡ (a ++ b) ++ c
    assoc [] b c = refl
    assoc (x ∷ a) b c = ap (λ (more : List (ℕ × ℕ)). x ∷ more) (assoc a b c)

-- the sum with one harm more
module _ (f : Harm → List (ℕ × ℕ)) (harms : List Harm) (harm : Harm) (id : ℕ) where
  abbrev before : ℕ
  before = total_for (flat_map f harms) id

  pushed : total_for (flat_map f (harms ++ harm ∷ [])) id ≡ before + total_for (f harm) id
  pushed = ap (λ (list : List (ℕ × ℕ)). total_for list id) (flat_push f harms harm) ∙ total_append (flat_map f harms) (f harm) id

  capped : (m n : ℕ) → min most_sum (min most_sum m + n) ≡ min most_sum (m + n)
  capped m n = omega arith

  -- what is added to the sum that was capped
  more : sum_with (total_for (f harm) id) (min most_sum before) ≡ min most_sum (total_for (flat_map f (harms ++ harm ∷ [])) id)
  more = capped before (total_for (f harm) id) ∙ ap (min most_sum) (sym pushed)

  -- where nothing was and nothing comes
  still : min most_sum before ≡ 0 → total_for (f harm) id ≡ 0 → min most_sum (total_for (flat_map f (harms ++ harm ∷ [])) id) ≡ 0
  still none nothing = omega (arith, pushed, none, nothing)

-- ---- the room

module _ (harms : List Harm) (entry : Intent) (grounds : List Ground) (old new : Table) (rise : IsRising old.objects) (ruled : IsRuled grounds entry old new)
    (unborn : (serial : ℕ) → old.next ≤ serial → serial < 2 ^ 32 → HasNoId (old.index * 2 ^ 32 + serial) old.objects) (has : HasSumsOf harms old) where
  abbrev part : RoomPart
  part = table_part grounds old

  abbrev harm : Harm
  harm = book.harm entry part

  abbrev later : List Harm
  later = harms ++ harm ∷ []

  follows : Follows part (table_part grounds new)
  follows = subst (Follows part) (sym ruled.rule) (book_orderly.effect entry part)

  absent : (id : ℕ) → HasNoId id old.objects → (total_for harm.damage id ≡ 0) × (total_for harm.healing id ≡ 0)
  absent id none = harm_absent grounds old rise entry.action entry id none

  tally_as : (id : ℕ) → HasId id old.objects → tally_of id old.tallies ≡ record { damage = (sums_of harms).damage id; healing = (sums_of harms).healing id }
  tally_as id has_id = λ i. record { damage = sym (has.sums.damage id has_id) i; healing = sym (has.sums.healing id has_id) i }

  -- of an object that stood
  stood : (id : ℕ) → HasId id new.objects → HasId id old.objects → tally_of id new.tallies ≡ record { damage = (sums_of later).damage id; healing = (sums_of later).healing id }
  stood id now was =
      ruled.harm id now
      ∙ ap (tally_with harm id) (tally_as id was)
      ∙ (λ i. record { damage = more (λ h. h.damage) harms harm id i; healing = more (λ h. h.healing) harms harm id i })

  -- of one that is new
  born : (id serial : ℕ) → HasId id new.objects → id ≡ old.index * 2 ^ 32 + serial → old.next ≤ serial → serial < 2 ^ 32
      → tally_of id new.tallies ≡ record { damage = (sums_of later).damage id; healing = (sums_of later).healing id }
  born id serial now is least below =
      let none : HasNoId id old.objects = subst (λ (n : ℕ). HasNoId n old.objects) (sym is) (unborn serial least below) in
      let nothing = absent id none in
      let damage : (sums_of harms).damage id ≡ 0 = subst (λ (n : ℕ). (sums_of harms).damage n ≡ 0) (sym is) (has.fresh_damage serial least below) in
      let healing : (sums_of harms).healing id ≡ 0 = subst (λ (n : ℕ). (sums_of harms).healing n ≡ 0) (sym is) (has.fresh_healing serial least below) in
      ruled.harm id now
      ∙ ap (tally_with harm id) (ruled.told.absent id none)
      ∙ (λ i. record { damage = zeroth (total_for harm.damage id) nothing.0 i; healing = zeroth (total_for harm.healing id) nothing.1 i })
      ∙ (λ i. record { damage = sym (still (λ h. h.damage) harms harm id damage nothing.0) i; healing = sym (still (λ h. h.healing) harms harm id healing nothing.1) i })
    where
      zeroth : (n : ℕ) → n ≡ 0 → min most_sum (0 + n) ≡ 0
      zeroth n is = omega (arith, is)

  new_tally : (id : ℕ) → HasId id new.objects → tally_of id new.tallies ≡ record { damage = (sums_of later).damage id; healing = (sums_of later).healing id }
  new_tally id now = elim (follows.own id (now.0, get_table_part grounds new id ∙ now.1)) [
    | inl there ↦ stood id now (there.0, sym (get_table_part grounds old id) ∙ there.1)
    | inr fresh ↦ born id fresh.0 now fresh.1 fresh.2 fresh.4
  ]

  module _ (serial : ℕ) (least : new.next ≤ serial) (below : serial < 2 ^ 32) where
    abbrev id_then : ℕ
    id_then = new.index * 2 ^ 32 + serial

    id_is : id_then ≡ old.index * 2 ^ 32 + serial
    id_is = ap (λ (n : ℕ). n * 2 ^ 32 + serial) follows.index

    least_before : old.next ≤ serial
    least_before = let grows : old.next ≤ new.next = follows.serial in omega (arith, least, grows)

    none_before : HasNoId id_then old.objects
    none_before = subst (λ (n : ℕ). HasNoId n old.objects) (sym id_is) (unborn serial least_before below)

    fresh_damage : (sums_of later).damage id_then ≡ 0
    fresh_damage = still (λ h. h.damage) harms harm id_then (subst (λ (n : ℕ). (sums_of harms).damage n ≡ 0) (sym id_is) (has.fresh_damage serial least_before below)) (absent id_then none_before).0

    fresh_healing : (sums_of later).healing id_then ≡ 0
    fresh_healing = still (λ h. h.healing) harms harm id_then (subst (λ (n : ℕ). (sums_of harms).healing n ≡ 0) (sym id_is) (has.fresh_healing serial least_before below)) (absent id_then none_before).1

  -- after one entry more in the room
  pub summed_more : HasSumsOf later new
  summed_more = record {
    sums = record { damage = λ id now. sym (ap (λ (t : Tally). t.damage) (new_tally id now)); healing = λ id now. sym (ap (λ (t : Tally). t.healing) (new_tally id now)) };
    fresh_damage = fresh_damage;
    fresh_healing = fresh_healing;
  }

-- where nothing was done
pub summed_none : (table : Table) → ((id : ℕ) → tally_of id table.tallies ≡ no_tally) → HasSumsOf [] table
summed_none table none = record {
  sums = record { damage = λ id has. sym (ap (λ (t : Tally). t.damage) (none id)); healing = λ id has. sym (ap (λ (t : Tally). t.healing) (none id)) };
  fresh_damage = λ serial least below. refl;
  fresh_healing = λ serial least below. refl;
}
