-- The stream of uploads: entries one after the other to the end, whose ticks do not fall. Numbers are little
-- endian.
use Rattle.std.specs.Prelude.{◌≡◌, ◌≢◌, ℕ, ◌<◌, ◌≤◌, ◌^◌, ◌==◌, nat_lt, List, [], ◌∷◌, ◌++◌, length}
use Rattle.std.specs.List.{AllByRecursion, filter, flat_map}
use Rattle.byteorder.specs.Endian.{little_bytes}

-- for which tick a player uploads which bytes
pub record Upload : Type 0 where
  pub tick : ℕ
  pub player : ℕ
  pub bytes : List ℕ

-- the most bytes of a module; an entry may have more, and then its upload is refused
abbrev pub module_bytes_bound : ℕ
module_bytes_bound = 2 ^ 20

-- an entry: the tick, the player, and the bytes behind their number
unfoldable pub entry_bytes : Upload → List ℕ
entry_bytes upload =
    little_bytes 8 upload.tick ++ little_bytes 4 upload.player ++ little_bytes 4 (length upload.bytes)
    ++ upload.bytes

-- The numbers fit their fields.
pub record HasEntryForm (upload : Upload) : Type 0 where
  pub tick : upload.tick < 2 ^ 64
  pub player : upload.player < 2 ^ 32
  pub count : length upload.bytes < 2 ^ 32
  pub bytes : AllByRecursion (λ byte. byte < 2 ^ 8) upload.bytes

-- No tick is less than one before it.
abbrev pub NeverFall : List Upload → Type 0
NeverFall [] = Unit {0}
NeverFall (upload ∷ later) = AllByRecursion (λ other. upload.tick ≤ other.tick) later × NeverFall later

-- Each fits its fields, and the ticks do not fall.
pub record AreEntries (uploads : List Upload) : Type 0 where
  pub forms : AllByRecursion HasEntryForm uploads
  pub order : NeverFall uploads

-- the entries, one after the other
abbrev pub stream_bytes : List Upload → List ℕ
stream_bytes uploads = flat_map entry_bytes uploads

-- The bytes are a stream of these uploads.
pub record UploadList (bytes : List ℕ) (uploads : List Upload) : Type 0 where
  pub entries : AreEntries uploads
  pub spells : bytes ≡ stream_bytes uploads

-- The first bad entry begins at this place: good ones stand before it, something is left, and that begins
-- with no entry that may come next.
pub record IsFirstBad (bytes : List ℕ) (at : ℕ) : Type 0 where
  pub good : List Upload
  pub rest : List ℕ
  pub entries : AreEntries good
  pub spells : bytes ≡ stream_bytes good ++ rest
  pub place : at ≡ length (stream_bytes good)
  pub left : rest ≢ []
  pub bad : (next : Upload) (behind : List ℕ) → AreEntries (good ++ next ∷ [])
      → rest ≡ entry_bytes next ++ behind → ⊥

-- the uploads of a tick, in their order
abbrev pub uploads_at : ℕ → List Upload → List Upload
uploads_at tick uploads = filter (λ upload. upload.tick == tick) uploads

-- those of the ticks behind it, in their order
abbrev pub uploads_after : ℕ → List Upload → List Upload
uploads_after tick uploads = filter (λ upload. nat_lt tick upload.tick) uploads
