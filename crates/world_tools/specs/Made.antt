-- What `gen SEED ROOMS PART` writes.
use Rattle.std.specs.Prelude.{◌≡◌, ℕ, List, Option}
use Rattle.std.specs.Io.KnownBytes.{Appends}
use Rattle.world_io.specs.Told.{AppendsPrefix}
use Rattle.upload_stream.specs.Streams.{UploadList}
use Rattle.world_form.specs.Written.{written}
use Rattle.world_gen.specs.Generator.{generated}
use Rattle.world_gen.specs.Uploads.{uploads}
use Rattle.world_run.specs.Demo.{IsPlayerText}
use Rattle.command_words.specs.declared.command.GenPart.{GenPart}
use Rattle.command_words.specs.declared.command.GenPart.TheVariants as parts
use Rattle.run_status.specs.declared.status.Status.{Status}
use Rattle.run_status.specs.declared.status.Status.TheVariants as statuses

-- ---- the parts of a generated world

-- The bytes are a stream in which each player of a world of so many rooms uploads such a text, for tick 0;
-- and that is so for whatever is such a text.
pub record AreUploads (rooms : ℕ) (bytes : List ℕ) : Type 0 where
  pub found : (text : List ℕ) × IsPlayerText text × UploadList bytes (uploads text rooms)
  pub only : (text : List ℕ) → IsPlayerText text → UploadList bytes (uploads text rooms)

-- The bytes are this part of the world of a seed and so many rooms: its world file, or its upload stream.
abbrev pub IsMade : ℕ → ℕ → GenPart → List ℕ → Type 0
IsMade seed rooms parts.World bytes = bytes ≡ written (generated seed rooms)
IsMade seed rooms parts.Uploads bytes = AreUploads rooms bytes

-- ---- how a gen ends, by its status

-- Of what the sink was given before and after it, where such bytes were to be written:
abbrev pub EndsWriting : (List ℕ → Type 0) → Option (List ℕ) → Option (List ℕ) → Status → Type 0
-- They were written.
EndsWriting Wanted old new statuses.Done = (bytes : List ℕ) × Wanted bytes × Appends old new bytes
-- A prefix of them was written.
EndsWriting Wanted old new statuses.WriteFault = (bytes : List ℕ) × Wanted bytes × AppendsPrefix old new bytes
-- Nothing was written.
EndsWriting Wanted old new statuses.Memory = new ≡ old
-- It ends in no other way.
EndsWriting Wanted old new status = ⊥
