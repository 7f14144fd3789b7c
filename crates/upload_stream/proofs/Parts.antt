-- Streams as they are read from bytes, and their parts.
use Rattle.std.proofs.Common.{◌≡◌, ℕ, zero, suc, ◌+◌, ◌-◌, ◌^◌, ◌<◌, ◌≤◌, true, false, eqb, ltb, List, [], ◌∷◌, ◌++◌, length, take, drop, sym, ap, subst, ◌∙◌, refl, arith, append_assoc, length-append, eq-eqb}
use Rattle.std.specs.List.{AllByRecursion}
use Rattle.std.proofs.lemmas.Bool.{le-ltb, lt-ltb, ne_eqb}
use Rattle.std.proofs.lemmas.Grind.{flat_map-append}
use Rattle.std.proofs.lemmas.List.{append-nil, drop_at, take_at, take_rest}
use Rattle.std.proofs.lemmas.List.Elements.{filter-append}
use Rattle.byteorder.specs.Endian.{little_bytes, little_number}
use Rattle.byteorder.specs.Numbers.{little_number-reads_back, length-bytes_low_first}
use Rattle.upload_stream.specs.Entries.{BeginsNone, BeginsWith}
use Rattle.upload_stream.specs.Streams.{HasEntryForm, NeverFall, Upload, UploadList, entry_bytes, stream_bytes, uploads_after, uploads_at}
use Rattle.upload_stream.specs.inner.Reading.{IsSplitAt, first_uploads, upload_ahead, uploads_in}
use Rattle.upload_stream.proofs.Entries.{begins_length, begins_one, entry_length, entry_split, upload_same}

-- ---- one entry

-- the number of so many bytes behind a part of the bytes
number_behind : (n place value : ℕ) (front bytes rest : List ℕ) → length front ≡ place → value < 256 ^ n → bytes ≡ front ++ (little_bytes n value ++ rest) → little_number n (drop place bytes) ≡ value
number_behind n place value front bytes rest size fits is =
    ap (λ (z : List ℕ). little_number n (drop place z)) is
    ∙ (ap (little_number n) (drop_at front (little_bytes n value ++ rest) place size) ∙ little_number-reads_back n value rest fits)

module _ (upload : Upload) (rest : List ℕ) where
  abbrev tick_word : List ℕ
  tick_word = little_bytes 8 upload.tick

  abbrev player_word : List ℕ
  player_word = little_bytes 4 upload.player

  abbrev count_word : List ℕ
  count_word = little_bytes 4 (length upload.bytes)

  abbrev bytes_all : List ℕ
  bytes_all = entry_bytes upload ++ rest

  abbrev count_rest : List ℕ
  count_rest = upload.bytes ++ rest

  abbrev player_rest : List ℕ
  player_rest = count_word ++ count_rest

  abbrev tick_rest : List ℕ
  tick_rest = player_word ++ player_rest

  behind_tick : bytes_all ≡ tick_word ++ tick_rest
  behind_tick = entry_split upload rest

  behind_player : bytes_all ≡ (tick_word ++ player_word) ++ player_rest
  behind_player = behind_tick ∙ sym (append_assoc tick_word player_word player_rest)

  behind_count : bytes_all ≡ ((tick_word ++ player_word) ++ count_word) ++ count_rest
  behind_count = behind_player ∙ sym (append_assoc (tick_word ++ player_word) count_word count_rest)

  tick_size : length tick_word ≡ 8
  tick_size = length-bytes_low_first 0 8 upload.tick

  player_size : length (tick_word ++ player_word) ≡ 12
  player_size = length-append tick_word player_word ∙ refl

  count_size : length ((tick_word ++ player_word) ++ count_word) ≡ 16
  count_size = length-append (tick_word ++ player_word) count_word ∙ refl

  pub entry_at : HasEntryForm upload → upload_ahead (entry_bytes upload ++ rest) ≡ upload
  entry_at form =
      let tick : little_number 8 bytes_all ≡ upload.tick = ap (little_number 8) behind_tick ∙ little_number-reads_back 8 upload.tick tick_rest form.tick in
      let player : little_number 4 (drop 8 bytes_all) ≡ upload.player = number_behind 4 8 upload.player tick_word bytes_all player_rest tick_size form.player behind_tick in
      let count : little_number 4 (drop 12 bytes_all) ≡ length upload.bytes = number_behind 4 12 (length upload.bytes) (tick_word ++ player_word) bytes_all count_rest player_size form.count behind_player in
      let left : drop 16 bytes_all ≡ upload.bytes ++ rest = ap (drop 16) behind_count ∙ drop_at ((tick_word ++ player_word) ++ count_word) count_rest 16 count_size in
      let bytes : take (little_number 4 (drop 12 bytes_all)) (drop 16 bytes_all) ≡ upload.bytes =
      ap (λ (n : ℕ). take n (drop 16 bytes_all)) count ∙ (ap (take (length upload.bytes)) left ∙ take_at upload.bytes rest (length upload.bytes) refl) in
      upload_same (upload_ahead bytes_all) upload tick player bytes

-- ---- all entries

first_more : (n : ℕ) (bytes : List ℕ) → 0 < length bytes → first_uploads (suc n) bytes ≡ upload_ahead bytes ∷ first_uploads n (drop (16 + length (Upload.bytes (upload_ahead bytes))) bytes)
unfolding first_uploads
first_more n [] some = absurd (omega arith)
first_more n (byte ∷ bytes) some = refl

first_none : (n : ℕ) → first_uploads n [] ≡ []
unfolding first_uploads
first_none zero = refl
first_none (suc n) = refl

first_all : (n : ℕ) (uploads : List Upload) → AllByRecursion HasEntryForm uploads → length (stream_bytes uploads) ≤ n → first_uploads n (stream_bytes uploads) ≡ uploads
first_all n [] forms enough = first_none n
first_all zero (upload ∷ later) forms enough =
    absurd (omega (arith, enough, length-append (entry_bytes upload) (stream_bytes later), entry_length upload))
first_all (suc n) (upload ∷ later) forms enough =
    let size = length-append (entry_bytes upload) (stream_bytes later) in
    let bytes = entry_bytes upload ++ stream_bytes later in
    first_more n bytes (omega (arith, size, entry_length upload))
    ∙ (ap (λ (v : Upload). v ∷ first_uploads n (drop (16 + length v.bytes) bytes)) (entry_at upload (stream_bytes later) forms.0)
    ∙ (ap (λ (z : List ℕ). upload ∷ first_uploads n z) (drop_at (entry_bytes upload) (stream_bytes later) (16 + length upload.bytes) (entry_length upload))
    ∙ ap (λ (z : List Upload). upload ∷ z) (first_all n later forms.1 (omega (arith, enough, size, entry_length upload)))))

-- A stream of uploads is read as these.
pub uploads_are : (bytes : List ℕ) (uploads : List Upload) → UploadList bytes uploads → uploads_in bytes ≡ uploads
unfolding uploads_in
uploads_are bytes uploads list =
    ap (λ (z : List ℕ). first_uploads (length z) z) list.spells
    ∙ first_all (length (stream_bytes uploads)) uploads list.entries.forms (omega arith)

pub as_read : (bytes : List ℕ) (uploads : List Upload) → UploadList bytes uploads → UploadList bytes (uploads_in bytes)
as_read bytes uploads list = subst (UploadList bytes) (sym (uploads_are bytes uploads list)) list

-- ---- the first upload

begins_first : (bytes : List ℕ) (upload : Upload) (later : List Upload) → UploadList bytes (upload ∷ later) → BeginsWith 0 bytes upload (stream_bytes later)
begins_first bytes upload later list = record { form = list.entries.forms.0; order = omega arith; spells = list.spells }

list_rest : (bytes : List ℕ) (upload : Upload) (later : List Upload) (rest : List ℕ) → UploadList bytes (upload ∷ later) → stream_bytes later ≡ rest → UploadList rest later
list_rest bytes upload later rest list is = record {
  entries = record { forms = list.entries.forms.1; order = list.entries.order.1 };
  spells = sym is;
}

-- The entry at the front is the first of the uploads, and the others are those of the rest.
pub first_is : (bytes : List ℕ) (uploads : List Upload) → UploadList bytes uploads → (upload : Upload) (rest : List ℕ) → BeginsWith 0 bytes upload rest → (later : List Upload) × (uploads ≡ upload ∷ later) × UploadList rest later
first_is bytes [] list upload rest begins =
    absurd (omega (arith, ap length list.spells, ap length begins.spells, length-append (entry_bytes upload) rest, entry_length upload))
first_is bytes (first ∷ later) list upload rest begins =
    let same = begins_one 0 0 bytes first upload (stream_bytes later) rest (begins_first bytes first later list) begins in
    (later, ap (λ (u : Upload). u ∷ later) same.0, list_rest bytes first later rest list same.1)

pub none_is : (bytes : List ℕ) (uploads : List Upload) → UploadList bytes uploads → BeginsNone 0 bytes → uploads ≡ []
none_is bytes [] list none = refl
none_is bytes (upload ∷ later) list none = absurd (none upload (stream_bytes later) (begins_first bytes upload later list))

pub none_in_none : (bytes : List ℕ) (uploads : List Upload) → UploadList bytes uploads → length bytes ≤ 0 → uploads ≡ []
none_in_none bytes [] list none = refl
none_in_none bytes (upload ∷ later) list none =
    absurd (omega (arith, ap length list.spells, none, length-append (entry_bytes upload) (stream_bytes later), entry_length upload))

-- ---- a front and what is behind it

all_parts : {A : Type 0} (P : A → Type 0) (front back : List A) → AllByRecursion P (front ++ back) → AllByRecursion P front × AllByRecursion P back
all_parts P [] back all = (tt, all)
all_parts P (x ∷ front) back all = let parts = all_parts P front back all.1 in ((all.0, parts.0), parts.1)

order_parts : (front back : List Upload) → NeverFall (front ++ back) → NeverFall front × NeverFall back
order_parts [] back order = (tt, order)
order_parts (upload ∷ front) back order =
    let parts = order_parts front back order.1 in
    (((all_parts (λ other. upload.tick ≤ other.tick) front back order.0).0, parts.0), parts.1)

module _ (bytes : List ℕ) (front back : List Upload) (list : UploadList bytes (front ++ back)) where
  forms : AllByRecursion HasEntryForm front × AllByRecursion HasEntryForm back
  forms = all_parts HasEntryForm front back list.entries.forms

  orders : NeverFall front × NeverFall back
  orders = order_parts front back list.entries.order

  spells_both : bytes ≡ stream_bytes front ++ stream_bytes back
  spells_both = list.spells ∙ flat_map-append entry_bytes front back

  pub list_front : UploadList (take (length (stream_bytes front)) bytes) front
  list_front = record {
    entries = record { forms = forms.0; order = orders.0 };
    spells = ap (take (length (stream_bytes front))) spells_both ∙ take_at (stream_bytes front) (stream_bytes back) (length (stream_bytes front)) refl;
  }

  pub list_back : UploadList (drop (length (stream_bytes front)) bytes) back
  list_back = record {
    entries = record { forms = forms.1; order = orders.1 };
    spells = ap (drop (length (stream_bytes front))) spells_both ∙ drop_at (stream_bytes front) (stream_bytes back) (length (stream_bytes front)) refl;
  }

-- ---- the uploads of one tick

at_before : (tick : ℕ) (uploads : List Upload) → AllByRecursion (λ upload. upload.tick < tick) uploads → uploads_at tick uploads ≡ []
at_before tick [] before = refl
at_before tick (upload ∷ later) before =
    let not_it : eqb upload.tick tick ≡ false = ne_eqb upload.tick tick (omega (arith, before.0)) in
    rw not_it (at_before tick later before.1)

at_of : (tick : ℕ) (uploads : List Upload) → AllByRecursion (λ upload. upload.tick < tick + 1) uploads → AllByRecursion (λ upload. tick ≤ upload.tick) uploads → uploads_at tick uploads ≡ uploads
at_of tick [] below above = refl
at_of tick (upload ∷ later) below above =
    let it : eqb upload.tick tick ≡ true = eq-eqb upload.tick tick (omega (arith, below.0, above.0)) in
    rw it (ap (λ (z : List Upload). upload ∷ z) (at_of tick later below.1 above.1))

at_behind : (tick : ℕ) (uploads : List Upload) → AllByRecursion (λ upload. tick + 1 ≤ upload.tick) uploads → uploads_at tick uploads ≡ []
at_behind tick [] behind = refl
at_behind tick (upload ∷ later) behind =
    let not_it : eqb upload.tick tick ≡ false = ne_eqb upload.tick tick (omega (arith, behind.0)) in
    rw not_it (at_behind tick later behind.1)

after_below : (tick : ℕ) (uploads : List Upload) → AllByRecursion (λ upload. upload.tick < tick + 1) uploads → uploads_after tick uploads ≡ []
after_below tick [] below = refl
after_below tick (upload ∷ later) below =
    let not_it : ltb tick upload.tick ≡ false = le-ltb tick upload.tick (omega (arith, below.0)) in
    rw not_it (after_below tick later below.1)

after_behind : (tick : ℕ) (uploads : List Upload) → AllByRecursion (λ upload. tick + 1 ≤ upload.tick) uploads → uploads_after tick uploads ≡ uploads
after_behind tick [] behind = refl
after_behind tick (upload ∷ later) behind =
    let it : ltb tick upload.tick ≡ true = lt-ltb tick upload.tick (omega (arith, behind.0)) in
    rw it (ap (λ (z : List Upload). upload ∷ z) (after_behind tick later behind.1))

all_less : (low high : ℕ) (uploads : List Upload) → low ≤ high → AllByRecursion (λ upload. upload.tick < low) uploads → AllByRecursion (λ upload. upload.tick < high) uploads
all_less low high [] le all = tt
all_less low high (upload ∷ later) le all = (omega (arith, le, all.0), all_less low high later le all.1)

-- Of uploads in three parts, those before a tick, of it and behind it, the second and the third are what the tick has and leaves.
pub of_tick : (tick : ℕ) (front mid later : List Upload) → AllByRecursion (λ upload. upload.tick < tick) front → AllByRecursion (λ upload. tick ≤ upload.tick) (mid ++ later) → AllByRecursion (λ upload. upload.tick < tick + 1) mid → AllByRecursion (λ upload. tick + 1 ≤ upload.tick) later
    → (uploads_at tick (front ++ (mid ++ later)) ≡ mid) × (uploads_after tick (front ++ (mid ++ later)) ≡ later)
of_tick tick front mid later before from below behind =
    let split_at = filter-append (λ (upload : Upload). eqb upload.tick tick) front (mid ++ later) in
    let again_at = filter-append (λ (upload : Upload). eqb upload.tick tick) mid later in
    let split_after = filter-append (λ (upload : Upload). ltb tick upload.tick) front (mid ++ later) in
    let again_after = filter-append (λ (upload : Upload). ltb tick upload.tick) mid later in (
      split_at ∙ (ap (λ (z : List Upload). z ++ uploads_at tick (mid ++ later)) (at_before tick front before) ∙ (again_at
          ∙ (ap (λ (z : List Upload). z ++ uploads_at tick later) (at_of tick mid below (all_parts (λ upload. tick ≤ upload.tick) mid later from).0)
          ∙ (ap (λ (z : List Upload). mid ++ z) (at_behind tick later behind) ∙ append-nil mid)))),
      split_after ∙ (ap (λ (z : List Upload). z ++ uploads_after tick (mid ++ later)) (after_below tick front (all_less tick (tick + 1) front (omega arith) before)) ∙ (again_after
          ∙ (ap (λ (z : List Upload). z ++ uploads_after tick later) (after_below tick mid below) ∙ after_behind tick later behind))),
    )

-- ---- a walk over the uploads before a tick

-- The uploads in front of the place are of earlier ticks, and the others are those of the bytes that are left.
pub record HasPassed (tick : ℕ) (left : List ℕ) (place : ℕ) (uploads : List Upload) : Type 0 where
  pub front : List Upload
  pub back : List Upload
  pub parts : uploads ≡ front ++ back
  pub before : AllByRecursion (λ upload. upload.tick < tick) front
  pub list : UploadList left back
  pub size : place ≡ length (stream_bytes front)

pub none_passed : (tick : ℕ) (bytes : List ℕ) (uploads : List Upload) → UploadList bytes uploads → HasPassed tick bytes 0 uploads
none_passed tick bytes uploads list = record { front = []; back = uploads; parts = refl; before = tt; list = list; size = refl }

all_snoc : {A : Type 0} (P : A → Type 0) (xs : List A) (x : A) → AllByRecursion P xs → P x → AllByRecursion P (xs ++ x ∷ [])
all_snoc P [] x all it = (it, tt)
all_snoc P (y ∷ xs) x all it = (all.0, all_snoc P xs x all.1 it)

size_more : (front : List Upload) (upload : Upload) → length (stream_bytes (front ++ upload ∷ [])) ≡ length (stream_bytes front) + length (entry_bytes upload)
size_more front upload =
    ap length (flat_map-append entry_bytes front (upload ∷ []) ∙ ap (λ (z : List ℕ). stream_bytes front ++ z) (append-nil (entry_bytes upload)))
    ∙ length-append (stream_bytes front) (entry_bytes upload)

pub passed_more : (tick : ℕ) (left : List ℕ) (place : ℕ) (uploads : List Upload) (upload : Upload) (rest : List ℕ) (next : ℕ) → HasPassed tick left place uploads → BeginsWith 0 left upload rest → upload.tick < tick → next + length rest ≡ place + length left → HasPassed tick rest next uploads
passed_more tick left place uploads upload rest next passed begins early moved =
    let first = first_is left passed.back passed.list upload rest begins in
    record {
      front = passed.front ++ upload ∷ [];
      back = first.0;
      parts = passed.parts ∙ (ap (λ (z : List Upload). passed.front ++ z) first.1 ∙ sym (append_assoc passed.front (upload ∷ []) first.0));
      before = all_snoc (λ (u : Upload). u.tick < tick) passed.front upload passed.before early;
      list = first.2;
      size = omega (arith, moved, passed.size, begins_length 0 left upload rest begins, size_more passed.front upload);
    }

split_of : (tick : ℕ) (left : List ℕ) (place : ℕ) (uploads : List Upload) (passed : HasPassed tick left place uploads) → AllByRecursion (λ upload. tick ≤ upload.tick) passed.back → IsSplitAt tick uploads place
split_of tick left place uploads passed behind = record { front = passed.front; back = passed.back; parts = passed.parts; before = passed.before; behind = behind; size = passed.size }

none_behind : (tick : ℕ) (uploads : List Upload) → uploads ≡ [] → AllByRecursion (λ upload. tick ≤ upload.tick) uploads
none_behind tick uploads is = subst (AllByRecursion (λ (upload : Upload). tick ≤ upload.tick)) (sym is) tt

all_above : (tick low : ℕ) (uploads : List Upload) → tick ≤ low → AllByRecursion (λ upload. low ≤ upload.tick) uploads → AllByRecursion (λ upload. tick ≤ upload.tick) uploads
all_above tick low [] le all = tt
all_above tick low (upload ∷ later) le all = (omega (arith, le, all.0), all_above tick low later le all.1)

-- Nothing is left.
pub split_at_end : (tick : ℕ) (left : List ℕ) (place : ℕ) (uploads : List Upload) → HasPassed tick left place uploads → length left ≤ 0 → IsSplitAt tick uploads place
split_at_end tick left place uploads passed none = split_of tick left place uploads passed (none_behind tick passed.back (none_in_none left passed.back passed.list none))

-- No entry is left.
pub split_at_none : (tick : ℕ) (left : List ℕ) (place : ℕ) (uploads : List Upload) → HasPassed tick left place uploads → BeginsNone 0 left → IsSplitAt tick uploads place
split_at_none tick left place uploads passed none = split_of tick left place uploads passed (none_behind tick passed.back (none_is left passed.back passed.list none))

-- The entry that comes next is not of an earlier tick.
pub split_at_entry : (tick : ℕ) (left : List ℕ) (place : ℕ) (uploads : List Upload) (upload : Upload) (rest : List ℕ) → HasPassed tick left place uploads → BeginsWith 0 left upload rest → tick ≤ upload.tick → IsSplitAt tick uploads place
split_at_entry tick left place uploads upload rest passed begins late =
    let first = first_is left passed.back passed.list upload rest begins in
    let order : NeverFall (upload ∷ first.0) = subst NeverFall first.1 passed.list.entries.order in
    let behind : AllByRecursion (λ (u : Upload). tick ≤ u.tick) (upload ∷ first.0) = (late, all_above tick upload.tick first.0 late order.0) in
    split_of tick left place uploads passed (subst (AllByRecursion (λ (u : Upload). tick ≤ u.tick)) (sym first.1) behind)

-- ---- parts of the bytes

-- the bytes from the place of the rest on
pub rest_is : (bytes : List ℕ) (upload : Upload) (rest : List ℕ) (place : ℕ) → BeginsWith 0 bytes upload rest → place + length rest ≡ length bytes → take (length bytes - place) (drop place bytes) ≡ rest
rest_is bytes upload rest place begins whole =
    take_rest bytes place
    ∙ (ap (drop place) begins.spells
    ∙ drop_at (entry_bytes upload) rest place (omega (arith, whole, begins_length 0 bytes upload rest begins)))

-- from a split on, the bytes are a stream of what is behind it
pub split_back : (tick : ℕ) (bytes : List ℕ) (uploads : List Upload) (place : ℕ) → UploadList bytes uploads → (split : IsSplitAt tick uploads place) → UploadList (take (length bytes - place) (drop place bytes)) split.back
split_back tick bytes uploads place list split =
    subst (λ (z : List ℕ). UploadList z split.back) (sym (take_rest bytes place))
    (subst (λ (n : ℕ). UploadList (drop n bytes) split.back) (sym split.size) (list_back bytes split.front split.back (subst (UploadList bytes) split.parts list)))

-- up to it, they are one of what is in front of it
pub split_front : (tick : ℕ) (bytes : List ℕ) (uploads : List Upload) (place : ℕ) → UploadList bytes uploads → (split : IsSplitAt tick uploads place) → UploadList (take place bytes) split.front
split_front tick bytes uploads place list split =
    subst (λ (n : ℕ). UploadList (take n bytes) split.front) (sym split.size) (list_front bytes split.front split.back (subst (UploadList bytes) split.parts list))
