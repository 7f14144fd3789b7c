-- An upload that was read, as the stream has it, and an entry at the front of bytes.
use Rattle.std.specs.Prelude.{◌≡◌, ℕ, ◌≤◌, List, ◌++◌}
use Rattle.upload_stream.specs.Streams.{Upload, HasEntryForm, entry_bytes}
use Rattle.upload_stream.specs.declared.entry.Upload.{Upload as Lent}

-- the upload that lends its bytes
abbrev pub upload_of : Lent → Upload
upload_of lent = record { tick = lent.tick; player = lent.player; bytes = lent.bytes.now }

-- The bytes begin with this entry, whose tick is not less than that before it, and go on with the rest.
pub record BeginsWith (least : ℕ) (bytes : List ℕ) (upload : Upload) (rest : List ℕ) : Type 0 where
  pub form : HasEntryForm upload
  pub order : least ≤ upload.tick
  pub spells : bytes ≡ entry_bytes upload ++ rest

-- The bytes begin with no entry whose tick is this one or a later one.
abbrev pub BeginsNone : ℕ → List ℕ → Type 0
BeginsNone least bytes = (upload : Upload) (rest : List ℕ) → BeginsWith least bytes upload rest → ⊥
