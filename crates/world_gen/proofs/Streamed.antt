-- The stream of the uploads, one entry after the other.
use Rattle.std.proofs.Common.{◌≡◌, ℕ, zero, suc, ◌+◌, ◌^◌, ◌<◌, ◌≤◌, List, [], ◌∷◌, ◌++◌, map, length, refl, ap, sym, subst, ◌∙◌, append_assoc, arith, lit<}
use Rattle.std.specs.List.{AllByRecursion, flat_map, range_with_len}
use Rattle.std.proofs.lemmas.List.{flat_map_more}
use Rattle.std.proofs.lemmas.List.FromFn.{map-range_with_len_more}
use Rattle.byteorder.specs.Endian.{little_bytes}
use Rattle.byte_fields.specs.Front.{SpellsShortest}
use Rattle.upload_stream.specs.Streams.{HasEntryForm, NeverFall, Upload, UploadList, entry_bytes}
use Rattle.wasm_module.specs.Sections.{Spells, Syntax}
use Rattle.wasm_values.specs.Syntax.{Ops}
use Rattle.world_gen.specs.PlayerModule.{player_module}
use Rattle.world_gen.specs.Uploads.{upload, uploads_to}
use Rattle.world_gen.proofs.Encodes.{module_spelled}

-- the players' module has a binary form
pub spelled_as : (m : Syntax Ops) → m ≡ player_module → (text : List ℕ) × Spells text m
spelled_as m e = subst (λ (n : Syntax Ops). (text : List ℕ) × Spells text n) (sym e) module_spelled

-- ---- one entry more

pub entry_whole : (player count : ℕ) (text xs a b c d : List ℕ)
    → a ≡ xs ++ little_bytes 8 0 → b ≡ a ++ little_bytes 4 player → count ≡ length text
    → c ≡ b ++ little_bytes 4 count → d ≡ c ++ text → d ≡ xs ++ entry_bytes (upload text player)
unfolding entry_bytes
entry_whole player count text xs a b c d p q size r s =
    let tick : List ℕ = little_bytes 8 0 in
    let who : List ℕ = little_bytes 4 player in
    let many : List ℕ = little_bytes 4 (length text) in
    s ∙ ap (λ v. v ++ text) (r ∙ ap (λ v. b ++ little_bytes 4 v) size)
    ∙ ap (λ v. (v ++ many) ++ text) (q ∙ ap (λ v. v ++ who) p)
    ∙ ap (λ v. (v ++ many) ++ text) (append_assoc xs tick who)
    ∙ ap (λ v. v ++ text) (append_assoc xs (tick ++ who) many)
    ∙ append_assoc xs ((tick ++ who) ++ many) text

pub uploads_none : (text : List ℕ) → flat_map entry_bytes (uploads_to text 0) ≡ []
unfolding uploads_to
uploads_none text = refl

uploads_more : (text : List ℕ) (n : ℕ) → uploads_to text (n + 1) ≡ uploads_to text n ++ upload text (n + 1) ∷ []
unfolding uploads_to
uploads_more text n = map-range_with_len_more (upload text) 1 n (n + 1) (omega arith)

pub upload_next : (text : List ℕ) (n player : ℕ) (xs ys : List ℕ)
    → xs ≡ flat_map entry_bytes (uploads_to text n) → player ≡ n + 1
    → ys ≡ xs ++ entry_bytes (upload text player)
    → ys ≡ flat_map entry_bytes (uploads_to text (n + 1))
upload_next text n player xs ys e is h =
    h ∙ ap (λ v. v ++ entry_bytes (upload text player)) e
    ∙ ap (λ v. flat_map entry_bytes (uploads_to text n) ++ entry_bytes (upload text v)) is
    ∙ flat_map_more entry_bytes [] (uploads_to text n) (upload text (n + 1))
    ∙ ap (flat_map entry_bytes) (sym (uploads_more text n))

-- ---- the stream

formed : (text : List ℕ) (a n : ℕ)
    → AllByRecursion (λ byte. byte < 2 ^ 8) text → length text < 2 ^ 32 → a + n < 2 ^ 32
    → AllByRecursion HasEntryForm (map (upload text) (range_with_len a n))
formed text a zero fits small few = tt
formed text a (suc n) fits small few = (
  record { tick = lit< tt; player = omega arith; count = small; bytes = fits },
  formed text (a + 1) n fits small (omega arith),
)

never_before : (uploads : List Upload) → AllByRecursion (λ other. 0 ≤ other.tick) uploads
never_before [] = tt
never_before (first ∷ later) = (omega arith, never_before later)

ordered : (text : List ℕ) (a n : ℕ) → NeverFall (map (upload text) (range_with_len a n))
ordered text a zero = tt
ordered text a (suc n) = (never_before (map (upload text) (range_with_len (a + 1) n)), ordered text (a + 1) n)

counted : (text : List ℕ) (a n : ℕ)
    → AllByRecursion (λ byte. byte < 2 ^ 8) text → length text < 2 ^ 32 → a + n < 2 ^ 32
    → UploadList (flat_map entry_bytes (map (upload text) (range_with_len a n)))
    (map (upload text) (range_with_len a n))
counted text a n fits small few = record {
  entries = record { forms = formed text a n fits small few; order = ordered text a n };
  spells = refl;
}

pub stream_is : (text : List ℕ) (count n : ℕ) (bytes : List ℕ)
    → AllByRecursion (λ byte. byte < 2 ^ 8) text → length text < 2 ^ 32 → count ≤ 8 → n ≡ count
    → bytes ≡ flat_map entry_bytes (uploads_to text n) → UploadList bytes (uploads_to text count)
unfolding uploads_to
stream_is text count n bytes fits small few same e =
    subst (λ (v : List ℕ). UploadList v (map (upload text) (range_with_len 1 count)))
    (sym (e ∙ ap (λ k. flat_map entry_bytes (map (upload text) (range_with_len 1 k))) same))
    (counted text 1 count fits small (omega arith))

same_uploads : (text lent bytes : List ℕ) (count players : ℕ)
    → lent ≡ text → count ≡ players → UploadList bytes (uploads_to lent count)
    → UploadList bytes (uploads_to text players)
same_uploads text lent bytes count players lends same found =
    subst (λ (n : ℕ). UploadList bytes (uploads_to text n)) same
    (subst (λ (v : List ℕ). UploadList bytes (uploads_to v count)) lends found)

-- the shortest text of a module, whatever module it is that the players have
pub shortest_of : (m : Syntax Ops) (text : List ℕ)
    → m ≡ player_module → SpellsShortest Spells text m → SpellsShortest Spells text player_module
shortest_of m text e shortest = subst (λ (n : Syntax Ops). SpellsShortest Spells text n) e shortest

pub shortest_once : (m : Syntax Ops) (text : List ℕ)
    → m ≡ player_module → ((any : List ℕ) → SpellsShortest Spells any m → any ≡ text)
    → (other : List ℕ) → SpellsShortest Spells other player_module → other ≡ text
shortest_once m text e once other spelled =
    once other (subst (λ (n : Syntax Ops). SpellsShortest Spells other n) (sym e) spelled)

pub uploads_found : (text lent bytes : List ℕ) (count players : ℕ)
    → SpellsShortest Spells text player_module → lent ≡ text → count ≡ players
    → UploadList bytes (uploads_to lent count)
    → (any : List ℕ) × SpellsShortest Spells any player_module × UploadList bytes (uploads_to any players)
uploads_found text lent bytes count players shortest lends same found = (
  text,
  shortest,
  same_uploads text lent bytes count players lends same found,
)

-- whatever is the shortest text of the module
pub uploads_are : (text lent bytes : List ℕ) (count players : ℕ)
    → ((any : List ℕ) → SpellsShortest Spells any player_module → any ≡ text)
    → lent ≡ text → count ≡ players → UploadList bytes (uploads_to lent count)
    → (other : List ℕ) → SpellsShortest Spells other player_module
    → UploadList bytes (uploads_to other players)
uploads_are text lent bytes count players once lends same found other spelled =
    same_uploads other lent bytes count players (lends ∙ sym (once other spelled)) same found
