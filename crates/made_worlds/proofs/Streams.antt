-- The upload stream of a generated world.
use Rattle.std.proofs.Common.{◌≡◌, ℕ, ◌+◌, ◌-◌, ◌≤◌, List, [], ◌∷◌, ◌++◌, length, min, Some, refl, ap, sym, subst, ◌∙◌, inl, inr, arith}
use Rattle.std.specs.Prelude.{slice_get}
use Rattle.std.proofs.lemmas.Bool.{cases_lt}
use Rattle.std.proofs.lemmas.List.FromFn.{length-map-range_with_len}
use Rattle.std.proofs.lemmas.Option.{slice_get_past}
use Rattle.byte_fields.specs.Front.{SpellsShortest}
use Rattle.upload_stream.specs.Streams.{Upload, UploadList, stream_bytes}
use Rattle.wasm_module.specs.Sections.{Spells}
use Rattle.wasm_encode.proofs.Whole.{whole_one}
use Rattle.world_rules.proofs.Same.{same_lists}
use Rattle.world_gen.specs.Generator.{players_of}
use Rattle.world_gen.specs.PlayerModule.{player_module}
use Rattle.world_gen.specs.Uploads.{upload, uploads, uploads_to}
use Rattle.made_worlds.specs.Streams.{IsPlayersStream, UploadsModule}
use Rattle.made_worlds.proofs.Places.{placed_at}

-- ---- what is uploaded

uploads_long : (text : List ℕ) (count : ℕ) → length (uploads_to text count) ≡ count
unfolding uploads_to
uploads_long text count = length-map-range_with_len (upload text) 1 count

upload_of_player : (text : List ℕ) (count player : ℕ) → 1 ≤ player → player ≤ count
    → slice_get (uploads_to text count) (player - 1) ≡ Some (upload text player)
unfolding uploads_to
upload_of_player text count player some most =
    let same : 1 + (player - 1) ≡ player = omega arith in
    placed_at (upload text) 1 count (player - 1) (omega arith) ∙ ap (λ k. Some (upload text k)) same

pub players_stream : (rooms : ℕ) (text bytes : List ℕ) → SpellsShortest Spells text player_module
    → UploadList bytes (uploads text rooms) → IsPlayersStream rooms bytes
players_stream rooms text bytes shortest listed = record {
  uploads = uploads text rooms;
  listed = listed;
  count = uploads_long text (players_of rooms);
  each = λ player some most. (
    upload text player,
    upload_of_player text (players_of rooms) player some most,
    record { tick = refl; who = refl; text = shortest },
  );
}

-- ---- one stream

same_upload : (player : ℕ) (one other : Upload) → UploadsModule player one → UploadsModule player other → one ≡ other
same_upload player one other first second =
    let tick : one.tick ≡ other.tick = first.tick ∙ sym second.tick in
    let who : one.player ≡ other.player = first.who ∙ sym second.who in
    let text : one.bytes ≡ other.bytes = whole_one player_module one.bytes other.bytes first.text second.text in
    λ i. record { tick = tick i; player = who i; bytes = text i }

same_at : (rooms : ℕ) (bytes more : List ℕ) (one : IsPlayersStream rooms bytes) (other : IsPlayersStream rooms more)
    (k : ℕ) → slice_get one.uploads k ≡ slice_get other.uploads k
same_at rooms bytes more one other k =
    elim (cases_lt k (min 8 rooms)) [
      | inl less ↦ (
          let first = one.each (k + 1) (omega arith) (omega arith) in
          let second = other.each (k + 1) (omega arith) (omega arith) in
          let place : k ≡ k + 1 - 1 = omega arith in
          ap (slice_get one.uploads) place ∙ first.1
          ∙ ap (λ (u : Upload). Some u) (same_upload (k + 1) first.0 second.0 first.2 second.2)
          ∙ sym second.1 ∙ ap (slice_get other.uploads) (sym place)
          )
      | inr past ↦
          slice_get_past one.uploads k (omega (arith, one.count))
          ∙ sym (slice_get_past other.uploads k (omega (arith, other.count)))
    ]

pub one_stream : (rooms : ℕ) (bytes more : List ℕ)
    → IsPlayersStream rooms bytes → IsPlayersStream rooms more → bytes ≡ more
one_stream rooms bytes more one other =
    let same : one.uploads ≡ other.uploads = same_lists one.uploads other.uploads (same_at rooms bytes more one other) in
    one.listed.spells ∙ (ap stream_bytes same ∙ sym other.listed.spells)
