-- What the reads at a gate find.
use Rattle.std.proofs.Common.{◌≡◌, ℕ, ◌+◌, ◌-◌, ◌<◌, ◌≤◌, ◌^◌, List, ◌∷◌, ◌++◌, length, take, drop, refl, sym, ◌∙◌, ap, arith, length-append, append_assoc, take-append-drop, length-take, length-drop, Option, Some, None, IfSome, Vec, Global}
use Rattle.std.proofs.lemmas.List.{drop_at, take_all, drop-drop}
use Rattle.byteorder.specs.Endian.{little_bytes}
use Rattle.byteorder.specs.Numbers.{length-bytes_low_first}
use Rattle.world_io.specs.Disk.{LengthIs, ReadsAt}
use Rattle.frame_log.specs.Frames.{frame, BeginsFrame, BeginsClosed}
use Rattle.frame_log.specs.Reading.{FindsAt}
use Rattle.frame_log.specs.declared.read.Behind.TheVariants.{Frame, Broken}
use Rattle.frame_log.specs.inner.Heads.{HasOpenHead}
use Rattle.frame_log.proofs.Frames.{frame_size}
use Rattle.frame_log.proofs.Once.{same_size}

-- a frame is there, as long as the head tells
size_there : (bytes content rest : List ℕ) (size : ℕ) → size < 2 ^ 64 → HasOpenHead bytes size → BeginsFrame bytes content rest → length content ≡ size
unfolding frame
size_there bytes content rest size fits head begins =
    let tails : frame content ++ rest ≡ little_bytes 8 size ++ head.rest = (let both : begins.gate ∷ (frame content ++ rest) ≡ head.gate ∷ (little_bytes 8 size ++ head.rest) = sym begins.split ∙ head.split in cc) in
    same_size (length content) size (content ++ rest) head.rest begins.fits fits (sym (append_assoc (little_bytes 8 (length content)) content rest) ∙ tails)

framed : (content : List ℕ) → little_bytes 8 (length content) ++ content ≡ frame content
unfolding frame
framed content = refl

whole_size : (bytes content rest : List ℕ) → BeginsFrame bytes content rest → 10 + length content ≤ length bytes
whole_size bytes content rest begins = omega (arith, ap length begins.split, length-append (frame content) rest, frame_size content, begins.next)

pub too_long : (option : Option (List ℕ)) (len gate size : ℕ) → LengthIs option len → gate < len → size < 2 ^ 64 → IfSome option (λ bytes. HasOpenHead (drop gate bytes) size) → len - gate - 9 ≤ size → FindsAt gate Broken option
too_long None len gate size is within fits head long = tt
too_long (Some bytes) len gate size is within fits head long = (
  λ shut. absurd (let zero : head.gate ≡ 0 = (let both : head.gate ∷ (little_bytes 8 size ++ head.rest) ≡ 0 ∷ shut.0 = sym head.split ∙ shut.1 in cc) in omega (arith, zero, head.is_open)),
  λ content rest begins.
      let same = size_there (drop gate bytes) content rest size fits head begins in
      let least = whole_size (drop gate bytes) content rest begins in
      omega (arith, same, least, length-drop gate bytes, is),
)

pub too_short : (option : Option (List ℕ)) (gate : ℕ) (head : List ℕ) → ReadsAt option gate 9 head → (BeginsClosed head → ⊥) → length head < 9 → FindsAt gate Broken option
too_short None gate head reads unshut short = tt
too_short (Some bytes) gate head reads unshut short = (
  λ shut. unshut (take 8 shut.0, reads ∙ ap (take 9) shut.1),
  λ content rest begins.
      let least = whole_size (drop gate bytes) content rest begins in
      omega (arith, least, ap length reads, length-take 9 (drop gate bytes), short),
)

pub frame_found : (option : Option (List ℕ)) (len gate size room count : ℕ) (content : Vec ℕ Global) → LengthIs option len → gate < len → size < 2 ^ 64 → IfSome option (λ bytes. HasOpenHead (drop gate bytes) size) → size < len - gate - 9
    → room ≡ size → length content.items ≡ room → size ≤ count → ReadsAt option (gate + 9) room (take count content.items) → FindsAt gate (Frame content) option
frame_found None len gate size room count content is within fits head some asked sized got reads = tt
frame_found (Some bytes) len gate size room count content is within fits head some asked sized got reads = begun
  where
    tail : List ℕ
    tail = drop gate bytes

    left : head.rest ≡ drop 9 tail
    left =
        let nine : length (head.gate ∷ little_bytes 8 size) ≡ 9 = omega (arith, length-bytes_low_first 0 8 size) in
        sym (drop_at (head.gate ∷ little_bytes 8 size) head.rest 9 nine) ∙ ap (drop 9) (sym head.split)

    whole : content.items ≡ take size head.rest
    whole =
        sym (take_all count content.items (omega (arith, asked, sized)))
        ∙ reads
        ∙ ap (λ (n : ℕ). take n (drop (gate + 9) bytes)) asked
        ∙ ap (take size) (sym (drop-drop 9 gate bytes) ∙ sym left)

    long : size < length head.rest
    long = omega (arith, ap length left, length-drop 9 tail, length-drop gate bytes, is)

    behind : drop (9 + length content.items) tail ≡ drop size head.rest
    behind = ap (λ (n : ℕ). drop (9 + n) tail) (sized ∙ asked) ∙ sym (drop-drop size 9 tail) ∙ ap (drop size) (sym left)

    split : tail ≡ head.gate ∷ ((little_bytes 8 (length content.items) ++ content.items) ++ drop (9 + length content.items) tail)
    split =
        head.split
        ∙ ap (λ (l : List ℕ). head.gate ∷ (little_bytes 8 size ++ l)) (sym (take-append-drop size head.rest) ∙ ap (λ (l : List ℕ). l ++ drop size head.rest) (sym whole) ∙ ap (λ (l : List ℕ). content.items ++ l) (sym behind))
        ∙ ap (λ (n : ℕ). head.gate ∷ (little_bytes 8 n ++ (content.items ++ drop (9 + length content.items) tail))) (sym (sized ∙ asked))
        ∙ ap (λ (l : List ℕ). head.gate ∷ l) (sym (append_assoc (little_bytes 8 (length content.items)) content.items (drop (9 + length content.items) tail)))

    begun : BeginsFrame tail content.items (drop (9 + length content.items) tail)
    begun = record {
      gate = head.gate;
      is_open = head.is_open;
      fits = omega (arith, sized, asked);
      split = split ∙ ap (λ (l : List ℕ). head.gate ∷ (l ++ drop (9 + length content.items) tail)) (framed content.items);
      next = omega (arith, ap length behind, length-drop size head.rest, long);
    }
