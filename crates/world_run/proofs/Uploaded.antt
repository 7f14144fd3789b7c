-- What the uploads and the record of a tick are in the journal.
use Rattle.std.proofs.Common.{◌≡◌, ◌==◌, ℕ, ◌≤◌, true, nat_le, List, [], ◌∷◌, ◌++◌, length, map, Option, Some, None, inl, inr, refl, sym, ap, ◌∙◌}
use Rattle.std.specs.Prelude.{if◌then◌else◌}
use Rattle.std.specs.FinMap.{insert}
use Rattle.std.proofs.lemmas.Bool.{le-leb}
use Rattle.intent_book.specs.declared.player_run.PlayerRun.{PlayerRun}
use Rattle.intent_book.specs.declared.refusal.Refusal.{Refusal}
use Rattle.intent_book.specs.declared.refusal.Refusal.TheVariants.{UnknownPlayer, WrongToken, TooLarge, Malformed, FloatRefused, Invalid, UnknownImport, ImportKind, NoLoop, Segment, Memory}
use Rattle.object_store.specs.declared.world.Room.{Room}
use Rattle.object_store.specs.Stored.{Stored}
use Rattle.room_table.specs.Tables.{Table, without_spare}
use Rattle.world_rules.specs.World.{World}
use Rattle.upload_stream.specs.Streams.{Upload, module_bytes_bound}
use Rattle.hosted_tick.specs.Next.{AreJudged, IsResult, Modules, entry_of}
use Rattle.hosted_tick.specs.Next as hosted
use Rattle.record_follows.specs.Courses.{modules_after, modules_with}
use Rattle.recorded_tick.specs.Recording.{AreChangedRooms, IsRecordOf}
use Rattle.tick_journal.specs.TickForms.{tick_as_read}
use Rattle.tick_journal.specs.declared.entries.UploadEntry.{UploadEntry}
use Rattle.tick_journal.specs.declared.tick_record.TickRecord.{TickRecord}

-- ---- modules

abbrev with_one : Modules → UploadEntry → Modules
with_one modules entry = if entry.result_number == 0 then insert modules entry.player entry.bytes else modules

kept_whole : (bytes : List ℕ) → length bytes ≤ module_bytes_bound → (if nat_le (length bytes) module_bytes_bound then bytes else []) ≡ bytes
kept_whole bytes few = let small : nat_le (length bytes) module_bytes_bound ≡ true = le-leb (length bytes) module_bytes_bound few in rw small refl

one_judged : (world : World) (modules : Modules) (upload : Upload) (result : Option Refusal) → IsResult world upload result → hosted.modules_after modules upload result ≡ with_one modules (entry_of upload result)
one_judged world modules upload None is = ap (insert modules upload.player) (sym (kept_whole upload.bytes is.1.1.spells.0.1))
one_judged world modules upload (Some UnknownPlayer) is = refl
one_judged world modules upload (Some WrongToken) is = refl
one_judged world modules upload (Some TooLarge) is = refl
one_judged world modules upload (Some Malformed) is = refl
one_judged world modules upload (Some FloatRefused) is = refl
one_judged world modules upload (Some Invalid) is = refl
one_judged world modules upload (Some UnknownImport) is = refl
one_judged world modules upload (Some ImportKind) is = refl
one_judged world modules upload (Some NoLoop) is = refl
one_judged world modules upload (Some Segment) is = refl
one_judged world modules upload (Some Memory) is = absurd is.1

-- The modules after uploads that were judged are those with the uploads that are recorded.
pub judged_modules : (world : World) (modules : Modules) (uploads : List Upload) (after : Modules) (records : List UploadEntry) → AreJudged world modules uploads after records → after ≡ modules_with modules records
judged_modules world modules [] after records judged = judged.0 ∙ ap (modules_with modules) (sym judged.1)
judged_modules world modules (upload ∷ later) after records judged =
    judged_modules world (hosted.modules_after modules upload judged.0) later after judged.1 judged.4
    ∙ (ap (λ (m : Modules). modules_with m judged.1) (one_judged world modules upload judged.0 judged.2)
    ∙ ap (modules_with modules) (sym judged.3))

pub modules_more : (modules : Modules) (entries : List TickRecord) (entry : TickRecord) → modules_after modules (entries ++ entry ∷ []) ≡ modules_with (modules_after modules entries) entry.uploads
modules_more modules [] entry = refl
modules_more modules (first ∷ entries) entry = modules_more (modules_with modules first.uploads) entries entry

-- ---- records

rooms_read : (before after : List Room) (tables : List Table) → AreChangedRooms before after tables → AreChangedRooms before after (map without_spare tables)
rooms_read [] after tables is = ap (map without_spare) is
rooms_read (one ∷ before) [] tables is = ap (map without_spare) is
rooms_read (one ∷ before) (other ∷ after) tables (inl same) = inl (same.0, rooms_read before after tables same.1)
rooms_read (one ∷ before) (other ∷ after) tables (inr changed) =
    inr (changed.0, without_spare changed.1, map without_spare changed.2, ap (map without_spare) changed.3, changed.4, rooms_read before after changed.2 changed.5)

-- What is recorded of a tick is so as it is read.
pub record_read : (before after : Stored) (uploads : List UploadEntry) (runs : List PlayerRun) (entry : TickRecord) → IsRecordOf before after uploads runs entry → IsRecordOf before after uploads runs (tick_as_read entry)
record_read before after uploads runs entry is = record {
  tick = is.tick;
  uploads_are = is.uploads_are;
  runs_are = is.runs_are;
  accounts = is.accounts;
  rooms = rooms_read before.rooms after.rooms entry.rooms is.rooms;
}
