-- A room's table along the entries that count.
use Rattle.std.proofs.Common.{◌≡◌, ℕ, suc, ◌+◌, ◌*◌, ◌^◌, ◌<◌, ◌≤◌, List, [], ◌∷◌, ◌++◌, length, get_or, take, Option, unwrap_or, pos, refl, sym, ap, subst, ◌∙◌, arith}
use Rattle.std.specs.List.{AllByRecursion}
use Rattle.std.specs.FinMap.{get-empty}
use Rattle.std.specs.Ordering.{nat_cmp}
use Rattle.std.proofs.lemmas.List.{length_push, length-map, length-take-le, map_push, take_all, take_more}
use Rattle.room_terrain.specs.declared.terrain.Ground.{Ground}
use Rattle.room_table.specs.declared.tally.Tally.{Tally}
use Rattle.object_store.specs.declared.world.Room.{Room}
use Rattle.room_table.specs.Tables.{Table, IsRising, HasNoId, find_object}
use Rattle.room_table.specs.Tallies.{no_tallies, no_tally, tally_of}
use Rattle.intent_book.specs.declared.intent.Intent.{Intent}
use Rattle.kept_entries.specs.declared.entries.Entry.{Entry}
use Rattle.world_rules.specs.RoomParts.{RoomPart, table_part}
use Rattle.world_rules.specs.RuleBook.{Harm}
use Rattle.world_rules.specs.Sound.{serials_bound}
use Rattle.world_rules.specs.Tick.{book}
use Rattle.room_rules.specs.Calls.{IsReady}
use Rattle.room_rules.specs.RoomRules.{KeepsRoomRules}
use Rattle.room_rules.specs.Within.{between, within}
use Rattle.room_rules.proofs.Ready.{movable, unborn}
use Rattle.room_rules.proofs.Rules.{begun_leads, rule_keeps}
use Rattle.ruled_tick.specs.inner.Entered.{widened_table, HasSumsOf, IsRuled}
use Rattle.ruled_tick.specs.inner.Ticked.{IsReadyToTick}
use Rattle.ruled_tick.proofs.Summing.{summed_more, summed_none}
use Rattle.room_step.specs.Stepping.{anybody, KeepsItsRules}
use Rattle.room_step.specs.inner.Course.{harms_entered, intents_in, part_after, part_entered, points_entered, HasCome}
use Rattle.room_step.proofs.Running.{harms_append, parts_append, points_append}

-- a room of some name with these grounds and this table
abbrev pub room_of : List Ground → Table → Room
room_of grounds table = record { name = record { column = pos 0; row = pos 0 }; terrain = grounds; table = table }

-- Before the first entry.
pub come_first : (grounds : List Ground) (old : Table) (many : ℕ) → KeepsItsRules between grounds old → IsRising old.objects → old.next ≤ serials_bound
    → HasCome grounds (widened_table many old) [] many (widened_table many old)
come_first grounds old many keeps rising serial = record {
  part = refl;
  keeps = begun_leads anybody (table_part grounds old) keeps;
  rising = rising;
  used = refl;
  after = omega arith;
  ready = record { serial = omega (arith, serial); spare = omega arith };
  summed = summed_none (widened_table many old) none_told;
}
  where
    none_told : (id : ℕ) → tally_of id no_tallies ≡ no_tally
    none_told id = ap (λ (found : Option Tally). unwrap_or found no_tally) (get-empty {X = Tally} nat_cmp id)

module _ (grounds : List Ground) (start : Table) (done : List Intent) (later : ℕ) (table : Table) (come : HasCome grounds start done later table) where
  abbrev room : Room
  room = room_of grounds table

  -- no object has an id that the room will give
  pub fresh : (serial : ℕ) → table.next ≤ serial → serial < 2 ^ 32 → HasNoId (table.index * 2 ^ 32 + serial) table.objects
  fresh serial least below = unborn anybody within room come.keeps come.rising serial least below (find_object (table.index * 2 ^ 32 + serial) table.objects) refl

  -- Its table is ready for movement.
  pub ready_to_tick : IsReadyToTick table
  ready_to_tick = record { movable = movable anybody within room come.keeps come.rising; fresh = fresh }

  -- Its table is ready for an entry.
  pub ready : 1 ≤ later → length done < 2 ^ 18 → IsReady table
  ready some few = record {
    spare = omega (arith, some, come.ready.spare);
    serial = omega (arith, few, come.ready.serial);
    fresh = fresh table.next (omega arith) (omega (arith, few, come.ready.serial));
    tiles = (movable anybody within room come.keeps come.rising).tiles;
  }

-- After one entry more.
pub come_more : (grounds : List Ground) (start : Table) (done : List Intent) (later : ℕ) (entry : Intent) (table next : Table) → HasCome grounds start done (later + 1) table → 1 ≤ entry.player → IsRuled grounds entry table next
    → HasCome grounds start (done ++ entry ∷ []) later next
come_more grounds start done later entry table next come some ruled =
    let part : RoomPart = table_part grounds start in
    let rule : part_after (table_part grounds table) entry ≡ part_entered part (done ++ entry ∷ []) = ap (λ (p : RoomPart). part_after p entry) come.part ∙ sym (parts_append part done (entry ∷ [])) in
    let harms : harms_entered part done ++ book.harm entry (table_part grounds table) ∷ [] ≡ harms_entered part (done ++ entry ∷ []) =
    ap (λ (p : RoomPart). harms_entered part done ++ book.harm entry p ∷ []) come.part ∙ sym (harms_append part done (entry ∷ [])) in
    record {
      part = ruled.rule ∙ rule;
      keeps = subst (KeepsRoomRules anybody within) (sym ruled.rule) (rule_keeps entry.action entry anybody (table_part grounds table) some come.keeps);
      rising = ruled.rising;
      used = omega (arith, come.used, ruled.keeps.used);
      after = omega (arith, come.after, ruled.keeps.later);
      ready = record {
        serial = omega (arith, come.ready.serial, ruled.keeps.made, length_push done entry);
        spare = omega (arith, come.ready.spare, ruled.keeps.used, ruled.keeps.made);
      };
      summed = subst (λ (list : List Harm). HasSumsOf list next) harms
          (summed_more (harms_entered part done) entry grounds table next come.rising ruled (fresh grounds start done (later + 1) table come) come.summed);
    }

-- What it gives its player comes last.
pub points_more : (grounds : List Ground) (start : Table) (done : List Intent) (later : ℕ) (entry : Intent) (table : Table) (given : ℕ) → HasCome grounds start done later table → given ≡ (book.effect entry (table_part grounds table)).points
    → points_entered (table_part grounds start) (done ++ entry ∷ []) ≡ points_entered (table_part grounds start) done ++ (entry.player, given) ∷ []
points_more grounds start done later entry table given come is =
    let part : RoomPart = table_part grounds start in
    points_append part done (entry ∷ [])
    ∙ ap (λ (n : ℕ). points_entered part done ++ (entry.player, n) ∷ []) (sym (is ∙ ap (λ (p : RoomPart). (book.effect entry p).points) come.part))

-- as many as entries
pub points_many : (part : RoomPart) (list : List Intent) → length (points_entered part list) ≡ length list
points_many part [] = refl
points_many part (entry ∷ later) = ap suc (points_many (part_after part entry) later)

-- ---- along the entries by their places

pub next_in : (entries : List Entry) (i : ℕ) (entry : Entry) → i < length entries → entry ≡ get_or entries i entry → intents_in (take (i + 1) entries) ≡ intents_in (take i entries) ++ entry.intent ∷ []
next_in entries i entry inside is = ap intents_in (take_more entries i entry inside) ∙ map_push (λ e. e.intent) (take i entries) (get_or entries i entry) ∙ ap (λ (e : Entry). intents_in (take i entries) ++ e.intent ∷ []) (sym is)

pub as_many : (entries : List Entry) (i : ℕ) → i ≤ length entries → length (intents_in (take i entries)) ≡ i
as_many entries i inside = length-map (take i entries) (λ e. e.intent) ∙ length-take-le i entries inside

pub all_taken : (entries : List Entry) (i : ℕ) → length entries ≤ i → intents_in (take i entries) ≡ intents_in entries
all_taken entries i past = ap intents_in (take_all i entries past)

pub all_entries : (P : Intent → Type 0) (entries : List Entry) → AllByRecursion P (intents_in entries) → AllByRecursion (λ entry. P entry.intent) entries
all_entries P [] all = tt
all_entries P (entry ∷ entries) all = (all.0, all_entries P entries all.1)
