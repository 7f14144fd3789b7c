-- The upload stream of a world that is made of a number.
use Rattle.std.specs.Prelude.{◌≡◌, ℕ, ◌-◌, ◌≤◌, List, length, min, Some, slice_get}
use Rattle.byte_fields.specs.Front.{SpellsShortest}
use Rattle.upload_stream.specs.Streams.{Upload, UploadList}
use Rattle.wasm_module.specs.Sections.{Spells}
use Rattle.world_gen.specs.PlayerModule.{player_module}

-- In tick 0 this player uploads the players' module, in a text than which none is shorter.
pub record UploadsModule (player : ℕ) (upload : Upload) : Type 0 where
  pub tick : upload.tick ≡ 0
  pub who : upload.player ≡ player
  pub text : SpellsShortest Spells upload.bytes player_module

-- The bytes are a stream in which the first eight players, or as many as there are rooms, upload that module,
-- in rising number, and nobody uploads anything else.
pub record IsPlayersStream (rooms : ℕ) (bytes : List ℕ) : Type 0 where
  pub uploads : List Upload
  pub listed : UploadList bytes uploads
  pub count : length uploads ≡ min 8 rooms
  pub each : (player : ℕ) → 1 ≤ player → player ≤ min 8 rooms
      → (upload : Upload) × (slice_get uploads (player - 1) ≡ Some upload) × UploadsModule player upload
