-- The bytes of a log stand for one list of contents.
use Rattle.std.proofs.Common.{◌≡◌, ℕ, ◌<◌, ◌^◌, List, ◌∷◌, ◌++◌, length, take, drop, refl, sym, ◌∙◌, ap, arith, append_assoc}
use Rattle.std.proofs.lemmas.List.{take_at, drop_at}
use Rattle.byteorder.specs.Endian.{little_bytes, little_number}
use Rattle.byteorder.specs.Numbers.{little_number-reads_back, length-bytes_low_first}
use Rattle.frame_log.specs.Frames.{frame, Spells, no_content, one_more, Stands}

-- the length that eight bytes tell
pub same_size : (a b : ℕ) (r s : List ℕ) → a < 2 ^ 64 → b < 2 ^ 64 → little_bytes 8 a ++ r ≡ little_bytes 8 b ++ s → a ≡ b
same_size a b r s p q e = sym (little_number-reads_back 8 a r p) ∙ ap (λ (z : List ℕ). little_number 8 z) e ∙ little_number-reads_back 8 b s q

same_front : (a b r s : List ℕ) → length a ≡ length b → a ++ r ≡ b ++ s → (a ≡ b) × (r ≡ s)
same_front a b r s same e =
    let n = length b in (
      sym (take_at a r n same) ∙ ap (λ (z : List ℕ). take n z) e ∙ take_at b s n refl,
      sym (drop_at a r n same) ∙ ap (λ (z : List ℕ). drop n z) e ∙ drop_at b s n refl,
    )

pub one_frame : (content other r s : List ℕ) → length content < 2 ^ 64 → length other < 2 ^ 64 → frame content ++ r ≡ frame other ++ s → (content ≡ other) × (r ≡ s)
unfolding frame
one_frame content other r s fits short e =
    let f : little_bytes 8 (length content) ++ (content ++ r) ≡ little_bytes 8 (length other) ++ (other ++ s) =
    sym (append_assoc (little_bytes 8 (length content)) content r) ∙ e ∙ append_assoc (little_bytes 8 (length other)) other s in
    let size = same_size (length content) (length other) (content ++ r) (other ++ s) fits short f in
    let heads : length (little_bytes 8 (length content)) ≡ length (little_bytes 8 (length other)) = length-bytes_low_first 0 8 (length content) ∙ sym (length-bytes_low_first 0 8 (length other)) in
    same_front content other r s size (same_front (little_bytes 8 (length content)) (little_bytes 8 (length other)) (content ++ r) (other ++ s) heads f).1

spelled_once : {front also : List ℕ} {one other : List (List ℕ)} (rest more : List ℕ) → Spells front one → Spells also other → front ++ 0 ∷ rest ≡ also ++ 0 ∷ more → one ≡ other
spelled_once rest more no_content no_content e = refl
spelled_once rest more no_content (one_more {gate = g} is_open fits spelled) e = absurd (let shut : 0 ≡ g = cc in omega arith)
spelled_once rest more (one_more {gate = g} is_open fits spelled) no_content e = absurd (let shut : g ≡ 0 = cc in omega arith)
spelled_once rest more (one_more {gate = g} {content = c} {bytes = bytes} {contents = contents} is_open fits spelled) (one_more {gate = h} {content = d} {bytes = others} {contents = further} also_open short also) e =
    let tails : (frame c ++ bytes) ++ 0 ∷ rest ≡ (frame d ++ others) ++ 0 ∷ more = cc in
    let both = one_frame c d (bytes ++ 0 ∷ rest) (others ++ 0 ∷ more) fits short (sym (append_assoc (frame c) bytes (0 ∷ rest)) ∙ tails ∙ append_assoc (frame d) others (0 ∷ more)) in
    let behind = spelled_once rest more spelled also both.1 in
    let same = both.0 in
    cc

pub stand_once : (bytes : List ℕ) (one other : List (List ℕ)) → Stands one bytes → Stands other bytes → one ≡ other
stand_once bytes one other a b = spelled_once a.rest b.rest a.spelled b.spelled (sym a.split ∙ b.split)
