-- Entries at the front of bytes.
use Rattle.std.proofs.Common.{◌≡◌, ℕ, ◌+◌, ◌^◌, ◌<◌, List, ◌++◌, length, sym, ap, ◌∙◌, refl, arith, append_assoc, length-append}
use Rattle.std.specs.List.{AllByRecursion}
use Rattle.byteorder.specs.Endian.{little_bytes}
use Rattle.upload_stream.specs.Entries.{BeginsNone, BeginsWith}
use Rattle.upload_stream.specs.Streams.{Upload, entry_bytes}
use Rattle.upload_stream.proofs.Words.{behind_word, text_one}

-- ---- an entry, field by field

pub entry_split : (upload : Upload) (rest : List ℕ) → entry_bytes upload ++ rest ≡ little_bytes 8 upload.tick ++ (little_bytes 4 upload.player ++ (little_bytes 4 (length upload.bytes) ++ (upload.bytes ++ rest)))
unfolding entry_bytes
entry_split upload rest = simp append_assoc

pub entry_length : (upload : Upload) → length (entry_bytes upload) ≡ 16 + length upload.bytes
unfolding entry_bytes
entry_length upload =
    simp length-append (omega arith)

pub begins_length : (least : ℕ) (bytes : List ℕ) (upload : Upload) (rest : List ℕ) → BeginsWith least bytes upload rest → length bytes ≡ length (entry_bytes upload) + length rest
begins_length least bytes upload rest begins = ap length begins.spells ∙ length-append (entry_bytes upload) rest

-- an entry at the front leaves fewer bytes
pub begins_shorter : (least : ℕ) (bytes : List ℕ) (upload : Upload) (rest : List ℕ) → BeginsWith least bytes upload rest → 16 + length upload.bytes + length rest ≡ length bytes
begins_shorter least bytes upload rest begins = omega (arith, begins_length least bytes upload rest begins, entry_length upload)

upload_from : ℕ → ℕ → List ℕ → Upload
upload_from tick player bytes = record { tick = tick; player = player; bytes = bytes }

pub upload_same : (a b : Upload) → a.tick ≡ b.tick → a.player ≡ b.player → a.bytes ≡ b.bytes → a ≡ b
unfolding upload_from
upload_same a b e f g =
    let same : upload_from a.tick a.player a.bytes ≡ upload_from b.tick b.player b.bytes = cc in
    same

-- ---- what is behind the fields that were read

behind_tick : (upload : Upload) (least tick : ℕ) (bytes left rest : List ℕ) → tick < 2 ^ 64 → bytes ≡ little_bytes 8 tick ++ left → BeginsWith least bytes upload rest
    → (tick ≡ upload.tick) × (left ≡ little_bytes 4 upload.player ++ (little_bytes 4 (length upload.bytes) ++ (upload.bytes ++ rest)))
behind_tick upload least tick bytes left rest fits e begins =
    behind_word 8 tick upload.tick bytes left _ fits begins.form.tick e (begins.spells ∙ entry_split upload rest)

behind_player : (upload : Upload) (least tick player : ℕ) (bytes a b rest : List ℕ) → tick < 2 ^ 64 → player < 2 ^ 32 → bytes ≡ little_bytes 8 tick ++ a → a ≡ little_bytes 4 player ++ b → BeginsWith least bytes upload rest
    → (player ≡ upload.player) × (b ≡ little_bytes 4 (length upload.bytes) ++ (upload.bytes ++ rest))
behind_player upload least tick player bytes a b rest p q e f begins =
    behind_word 4 player upload.player a b _ q begins.form.player f (behind_tick upload least tick bytes a rest p e begins).1

behind_count : (upload : Upload) (least tick player count : ℕ) (bytes a b c rest : List ℕ) → tick < 2 ^ 64 → player < 2 ^ 32 → count < 2 ^ 32 → bytes ≡ little_bytes 8 tick ++ a → a ≡ little_bytes 4 player ++ b → b ≡ little_bytes 4 count ++ c → BeginsWith least bytes upload rest
    → (count ≡ length upload.bytes) × (c ≡ upload.bytes ++ rest)
behind_count upload least tick player count bytes a b c rest p q r e f g begins =
    behind_word 4 count (length upload.bytes) b c _ r begins.form.count g (behind_player upload least tick player bytes a b rest p q e f begins).1

-- ---- which bytes begin with no entry

pub none_by_length : (least : ℕ) (bytes : List ℕ) → length bytes < 16 → BeginsNone least bytes
none_by_length least bytes short upload rest begins = omega (arith, begins_shorter least bytes upload rest begins)

pub none_by_count : (least tick player count : ℕ) (bytes a b c : List ℕ) → tick < 2 ^ 64 → player < 2 ^ 32 → count < 2 ^ 32 → bytes ≡ little_bytes 8 tick ++ a → a ≡ little_bytes 4 player ++ b → b ≡ little_bytes 4 count ++ c → length c < count → BeginsNone least bytes
none_by_count least tick player count bytes a b c p q r e f g short upload rest begins =
    let same = behind_count upload least tick player count bytes a b c rest p q r e f g begins in
    omega (arith, same.0, ap length same.1, length-append upload.bytes rest)

-- ---- the entry that was read

pub entry_whole : (upload : Upload) (count : ℕ) (bytes a b c rest : List ℕ) → upload.tick < 2 ^ 64 → upload.player < 2 ^ 32 → count < 2 ^ 32 → AllByRecursion (λ byte. byte < 2 ^ 8) upload.bytes
    → bytes ≡ little_bytes 8 upload.tick ++ a → a ≡ little_bytes 4 upload.player ++ b → b ≡ little_bytes 4 count ++ c → c ≡ upload.bytes ++ rest → length upload.bytes ≡ count → BeginsWith 0 bytes upload rest
entry_whole upload count bytes a b c rest p q r fits e f g h size =
    let counted : b ≡ little_bytes 4 (length upload.bytes) ++ c = g ∙ ap (λ (z : ℕ). little_bytes 4 z ++ c) (sym size) in
    let whole : bytes ≡ little_bytes 8 upload.tick ++ (little_bytes 4 upload.player ++ (little_bytes 4 (length upload.bytes) ++ (upload.bytes ++ rest))) =
    e ∙ ap (λ (z : List ℕ). little_bytes 8 upload.tick ++ z) (f ∙ ap (λ (z : List ℕ). little_bytes 4 upload.player ++ z) (counted ∙ ap (λ (z : List ℕ). little_bytes 4 (length upload.bytes) ++ z) h)) in
    record {
      form = record { tick = p; player = q; count = omega arith; bytes = fits };
      order = omega arith;
      spells = whole ∙ sym (entry_split upload rest);
    }

-- ---- one entry

-- two entries at the front of the same bytes are one
pub begins_one : (least other : ℕ) (bytes : List ℕ) (u v : Upload) (r s : List ℕ) → BeginsWith least bytes u r → BeginsWith other bytes v s → (u ≡ v) × (r ≡ s)
begins_one least other bytes u v r s p q =
    let spells : bytes ≡ little_bytes 8 u.tick ++ (little_bytes 4 u.player ++ (little_bytes 4 (length u.bytes) ++ (u.bytes ++ r))) = p.spells ∙ entry_split u r in
    let tick = behind_tick v other u.tick bytes _ s p.form.tick spells q in
    let player = behind_player v other u.tick u.player bytes _ _ s p.form.tick p.form.player spells refl q in
    let count = behind_count v other u.tick u.player (length u.bytes) bytes _ _ _ s p.form.tick p.form.player p.form.count spells refl refl q in
    let text = text_one u.bytes v.bytes r s count.0 count.1 in
    (upload_same u v tick.0 player.0 text.0, text.1)

-- ---- the order of an entry

pub none_from : (least : ℕ) (bytes : List ℕ) → BeginsNone 0 bytes → BeginsNone least bytes
none_from least bytes none upload rest begins =
    none upload rest (record { form = begins.form; order = omega arith; spells = begins.spells })

-- the entry at the front comes too early
pub none_by_order : (least : ℕ) (bytes : List ℕ) (upload : Upload) (rest : List ℕ) → upload.tick < least → BeginsWith 0 bytes upload rest → BeginsNone least bytes
none_by_order least bytes upload rest early begins other more next =
    let same = begins_one 0 least bytes upload other rest more begins next in
    let tick : upload.tick ≡ other.tick = ap (λ (z : Upload). z.tick) same.0 in
    omega (arith, tick, next.order)
