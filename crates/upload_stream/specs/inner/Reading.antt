-- Bytes read as a stream, whether they are one or not. For the model of uploads and private clauses alone.
use Rattle.std.specs.Prelude.{◌≡◌, ℕ, zero, suc, ◌+◌, ◌<◌, ◌≤◌, List, [], ◌∷◌, ◌++◌, length, take, drop}
use Rattle.std.specs.List.{AllByRecursion}
use Rattle.byteorder.specs.Endian.{little_number}
use Rattle.upload_stream.specs.Streams.{Upload, stream_bytes}

-- the upload of the entry that begins the bytes
abbrev pub upload_ahead : List ℕ → Upload
upload_ahead bytes = record {
  tick = little_number 8 bytes;
  player = little_number 4 (drop 8 bytes);
  bytes = take (little_number 4 (drop 12 bytes)) (drop 16 bytes);
}

-- the uploads of the first entries of the bytes, so many at most
unfoldable pub first_uploads : ℕ → List ℕ → List Upload
first_uploads zero bytes = []
first_uploads (suc n) [] = []
first_uploads (suc n) (byte ∷ bytes) =
    upload_ahead (byte ∷ bytes)
    ∷ first_uploads n (drop (16 + length (Upload.bytes (upload_ahead (byte ∷ bytes)))) (byte ∷ bytes))

-- the uploads of all entries
unfoldable pub uploads_in : List ℕ → List Upload
uploads_in bytes = first_uploads (length bytes) bytes

-- The uploads of the ticks before this one are the first, and take so many bytes of the stream.
pub record IsSplitAt (tick : ℕ) (uploads : List Upload) (place : ℕ) : Type 0 where
  pub front : List Upload
  pub back : List Upload
  pub parts : uploads ≡ front ++ back
  pub before : AllByRecursion (λ upload. upload.tick < tick) front
  pub behind : AllByRecursion (λ upload. tick ≤ upload.tick) back
  pub size : place ≡ length (stream_bytes front)
