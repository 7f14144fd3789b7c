-- What is written stands for journals.
use Rattle.std.proofs.Common.{◌≡◌, inl, inr, ℕ, ◌+◌, ◌<◌, ◌^◌, List, [], ◌∷◌, ◌++◌, length, map, refl, sym, ap, subst, arith, Option}
use Rattle.world_io.specs.Moments.{Moment, Rests}
use Rattle.frame_log.specs.Frames.{HasContents, IsEmptyOrFirst, IsBeforeOrAfter as LogBeforeOrAfter, frame, no_content}
use Rattle.frame_log.proofs.Frames.{frame_size, spells_more}
use Rattle.object_store.specs.declared.world.Room.{Room}
use Rattle.object_store.specs.Stored.{Stored}
use Rattle.record_follows.specs.Courses.{world_after}
use Rattle.rule_check.specs.Kept.{AreOnTiles}
use Rattle.tick_journal.specs.BaseForms.{room_as_read, world_as_read}
use Rattle.tick_journal.specs.Contents.{base_content, tick_content}
use Rattle.tick_journal.specs.Numbers.{RecordFits, WorldFits}
use Rattle.tick_journal.specs.TickForms.{tick_as_read}
use Rattle.tick_journal.specs.declared.tick_record.TickRecord.{TickRecord}
use Rattle.tick_journal.proofs.BaseContents.{as_read_spelled}
use Rattle.tick_journal.proofs.Ticks.{read_as_written}
use Rattle.world_rules.specs.World.{ListedRoom, listed_room}
use Rattle.rule_check.specs.Kept.{KeepsAllButCounts}
use Rattle.world_journal.specs.Journals.{AreContents, HasJournal, IsBeforeOrAfter, IsEmptyOrBase, KeepsRules, MayBegin, MayFollow}
use Rattle.world_journal.proofs.Contents.{contents_first, contents_more}

-- ---- the rules of a world as it is read

tiles_as_read : (rooms : List Room) → AreOnTiles rooms → AreOnTiles (map room_as_read rooms)
tiles_as_read [] tiles = tt
tiles_as_read (room ∷ rooms) tiles = (tiles.0, tiles_as_read rooms tiles.1)

listed_as_read : (rooms : List Room) → map listed_room (map room_as_read rooms) ≡ map listed_room rooms
listed_as_read [] = refl
listed_as_read (room ∷ rooms) = ap (λ (l : List ListedRoom). listed_room room ∷ l) (listed_as_read rooms)

keeps_as_read : (world : Stored) → KeepsRules world → KeepsRules (world_as_read world)
keeps_as_read world keeps = record {
  tiles = tiles_as_read world.rooms keeps.tiles;
  rules = subst KeepsAllButCounts (λ i. record { rules = 1; tick = world.tick; rooms = sym (listed_as_read world.rooms) i; accounts = world.accounts }) keeps.rules;
}

-- ---- the base

module _ (base : Stored) (content : List ℕ) (is : content ≡ base_content base) (fits : WorldFits base) (may : MayBegin base) where
  base_are : AreContents (world_as_read base) [] (content ∷ [])
  base_are = rw is (contents_first (world_as_read base) (base_content base) (as_read_spelled base (may.form fits)) (keeps_as_read base may.rules))

  pub base_image : (image : List ℕ) → IsEmptyOrFirst content image → IsEmptyOrBase (world_as_read base) image
  base_image image (inl empty) = inl empty
  base_image image (inr stands) = inr (record { contents = content ∷ []; stand = stands; are = base_are })

  pub base_stands : (gate : ℕ) (seen : Option (List ℕ)) (moments : List Moment) → gate ≡ 9 + length content → length content < 2 ^ 64 → Rests ((1 ∷ frame content) ++ 0 ∷ []) seen moments → HasJournal (world_as_read base) [] gate seen moments
  base_stands gate seen moments place small rests = record {
    contents = content ∷ [];
    has = record {
      front = 1 ∷ frame content;
      spelled = spells_more 1 content (omega arith) small no_content;
      place = omega (arith, place, frame_size content);
      rests = rests;
    };
    are = base_are;
  }

-- ---- a record

module _ (base : Stored) (entries : List TickRecord) (entry : TickRecord) (content : List ℕ) (is : content ≡ tick_content entry) (fits : RecordFits entry) (may : MayFollow (world_after base entries) entry) where
  record_are : (contents : List (List ℕ)) → AreContents base entries contents → AreContents base (entries ++ tick_as_read entry ∷ []) (contents ++ content ∷ [])
  record_are contents are = rw is (contents_more (tick_content entry) (tick_as_read entry) are (read_as_written entry (may.form fits)) may.follows)

  pub record_image : (contents : List (List ℕ)) → AreContents base entries contents → (image : List ℕ) → LogBeforeOrAfter contents content image → IsBeforeOrAfter base entries (tick_as_read entry) image
  record_image contents are image (inl before) = inl (record { contents = contents; stand = before; are = are })
  record_image contents are image (inr now) = inr (record { contents = contents ++ content ∷ []; stand = now; are = record_are contents are })

  pub record_stands : (contents : List (List ℕ)) → AreContents base entries contents → (gate : ℕ) (seen : Option (List ℕ)) (moments : List Moment) → HasContents (contents ++ content ∷ []) gate seen moments → HasJournal base (entries ++ tick_as_read entry ∷ []) gate seen moments
  record_stands contents are gate seen moments has = record { contents = contents ++ content ∷ []; has = has; are = record_are contents are }
