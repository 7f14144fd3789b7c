-- The content of a tick from that of a record without uploads.
use Rattle.std.proofs.Common.{◌≡◌, ℕ, ◌≤◌, List, [], ◌∷◌, ◌++◌, length, take, drop, sym, ◌∙◌, ap, arith, append_assoc, length-append}
use Rattle.std.proofs.lemmas.List.{take_at, drop_at}
use Rattle.std.specs.List.{flat_map}
use Rattle.byteorder.specs.Endian.{little_bytes}
use Rattle.byteorder.specs.Numbers.{length-bytes_low_first}
use Rattle.world_bytes.specs.Forms.{account_bytes, room_bytes}
use Rattle.tick_journal.specs.Contents.{run_bytes, tick_content, upload_bytes}
use Rattle.tick_journal.specs.declared.entries.UploadEntry.{UploadEntry}
use Rattle.tick_journal.specs.declared.tick_record.TickRecord.{TickRecord}
use Rattle.judged_uploads.specs.Judging.{with_uploads}

-- what stands before the number of the uploads, and behind the uploads
front : TickRecord → List ℕ
front entry = 0x54 ∷ little_bytes 8 entry.tick

back : TickRecord → List ℕ
back entry =
    little_bytes 4 (length entry.runs)
    ++ flat_map run_bytes entry.runs
    ++ little_bytes 4 (length entry.accounts)
    ++ flat_map account_bytes entry.accounts
    ++ little_bytes 4 (length entry.rooms)
    ++ flat_map room_bytes entry.rooms

regroup : (a b c d e f g h i : List ℕ) → a ++ b ++ c ++ d ++ e ++ f ++ g ++ h ++ i ≡ a ++ (b ++ (c ++ (d ++ e ++ f ++ g ++ h ++ i)))
regroup a b c d e f g h i = simp append_assoc

parts : (entry : TickRecord) (uploads : List UploadEntry) → tick_content (with_uploads uploads entry) ≡ front entry ++ (little_bytes 4 (length uploads) ++ (flat_map upload_bytes uploads ++ back entry))
unfolding tick_content front back
parts entry uploads =
    regroup (0x54 ∷ little_bytes 8 entry.tick) (little_bytes 4 (length uploads)) (flat_map upload_bytes uploads)
    (little_bytes 4 (length entry.runs)) (flat_map run_bytes entry.runs) (little_bytes 4 (length entry.accounts))
    (flat_map account_bytes entry.accounts) (little_bytes 4 (length entry.rooms)) (flat_map room_bytes entry.rooms)

front_size : (entry : TickRecord) → length (front entry) ≡ 9
unfolding front
front_size entry = omega (arith, length-bytes_low_first 0 8 entry.tick)

module _ (entry : TickRecord) (own : List ℕ) (none : entry.uploads ≡ []) (is : own ≡ tick_content entry) where
  own_parts : own ≡ front entry ++ (little_bytes 4 0 ++ back entry)
  own_parts = is ∙ ap (λ (uploads : List UploadEntry). tick_content (with_uploads uploads entry)) none ∙ parts entry []

  pub own_size : 13 ≤ length own
  own_size = omega (arith, ap length own_parts, length-append (front entry) (little_bytes 4 0 ++ back entry), front_size entry, length-append (little_bytes 4 0) (back entry), length-bytes_low_first 0 4 0)

  own_front : take 9 own ≡ front entry
  own_front = ap (take 9) own_parts ∙ take_at (front entry) (little_bytes 4 0 ++ back entry) 9 (front_size entry)

  own_back : drop 13 own ≡ back entry
  own_back =
      ap (drop 13) (own_parts ∙ sym (append_assoc (front entry) (little_bytes 4 0) (back entry)))
      ∙ drop_at (front entry ++ little_bytes 4 0) (back entry) 13 (omega (arith, length-append (front entry) (little_bytes 4 0), front_size entry, length-bytes_low_first 0 4 0))

  module _ (uploads : List UploadEntry) (room a b c whole : List ℕ) (e : a ≡ room ++ take 9 own) (f : b ≡ a ++ little_bytes 4 (length uploads)) (g : c ≡ b ++ flat_map upload_bytes uploads) (h : whole ≡ c ++ drop 13 own) where
    whole_parts : whole ≡ room ++ tick_content (with_uploads uploads entry)
    whole_parts =
        let number = little_bytes 4 (length uploads) in
        let listed = flat_map upload_bytes uploads in
        let made : whole ≡ (((room ++ front entry) ++ number) ++ listed) ++ back entry =
        h ∙ ap (λ (l : List ℕ). c ++ l) own_back ∙ ap (λ (l : List ℕ). l ++ back entry) (
        g ∙ ap (λ (l : List ℕ). l ++ listed) (f ∙ ap (λ (l : List ℕ). l ++ number) (e ∙ ap (λ (l : List ℕ). room ++ l) own_front))
        ) in
        made ∙ grouped room (front entry) number listed (back entry) ∙ ap (λ (l : List ℕ). room ++ l) (sym (parts entry uploads))
      where
        grouped : (r s t u v : List ℕ) → r ++ s ++ t ++ u ++ v ≡ r ++ (s ++ (t ++ (u ++ v)))
        grouped r s t u v = simp append_assoc

    pub piece_content : length room ≡ 8 → drop 8 whole ≡ tick_content (with_uploads uploads entry)
    piece_content size = ap (drop 8) whole_parts ∙ drop_at room (tick_content (with_uploads uploads entry)) 8 size
