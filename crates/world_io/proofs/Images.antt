-- The images of a disk that rests, after one call.
use Rattle.std.proofs.Common.{◌≡◌, inl, inr, ℕ, ◌+◌, ◌-◌, ◌<◌, ◌≤◌, List, ◌++◌, length, take, drop, sym, ◌∙◌, ap, arith, length-append, length-drop, length-take, append_assoc}
use Rattle.std.proofs.lemmas.List.{ext_get_or, get_or-take, get_or-drop, take_at, take_min, drop_at, length-take-le}
use Rattle.world_io.specs.Disk.{written_at}
use Rattle.world_io.specs.Moments.{IsImage, settled, torn, shortened, Torn, Shortened}

pub image_settled : (bytes image : List ℕ) → IsImage (settled bytes) image → image ≡ bytes
image_settled bytes image is =
    let same : length image ≡ length bytes = omega (arith, is.no_shorter, is.no_longer) in
    ext_get_or 0 image bytes same (λ k lt. is.stays k lt (omega arith) tt)

module _ (at n : ℕ) (bytes : List ℕ) (within : at ≤ length bytes) where
  pub image_torn : (image : List ℕ) → IsImage (torn at n (settled bytes)) image → Torn at n bytes image
  image_torn image is =
      let short = is.no_shorter in
      let long = is.no_longer in
      record {
        before = ext_get_or 0 (take at image) (take at bytes)
            (omega (arith, length-take at image, length-take at bytes)) (λ k lt.
            let below : k < at = omega (arith, length-take at image) in
            get_or-take at image k 0 below ∙ is.stays k (omega arith) (omega arith) (inl below, tt)
            ∙ sym (get_or-take at bytes k 0 below));
        behind = ext_get_or 0 (drop (at + n) image) (drop (at + n) bytes)
            (omega (arith, length-drop (at + n) image, length-drop (at + n) bytes)) (λ k lt.
            get_or-drop (at + n) image k 0
            ∙ is.stays (at + n + k) (omega (arith, length-drop (at + n) image))
            (omega (arith, length-drop (at + n) image)) (inr (omega arith), tt)
            ∙ sym (get_or-drop (at + n) bytes k 0));
        no_shorter = short;
        no_longer = long;
      }

pub written_torn : (at : ℕ) (piece bytes : List ℕ) → at ≤ length bytes
    → Torn at (length piece) bytes (written_at at piece bytes)
written_torn at piece bytes within =
    let size : length (take at bytes) ≡ at = length-take-le at bytes within in
    let whole : length (written_at at piece bytes) ≡ at + length piece + (length bytes - (at + length piece)) =
    omega (
      arith,
      length-append (take at bytes ++ piece) (drop (at + length piece) bytes),
      length-append
          (take at bytes) piece,
      length-drop (at + length piece) bytes,
      size,
    ) in
    record {
      before = ap (take at) (append_assoc (take at bytes) piece (drop (at + length piece) bytes))
          ∙ take_at (take at bytes) (piece ++ drop (at + length piece) bytes) at size;
      behind = drop_at (take at bytes ++ piece) (drop (at + length piece) bytes) (at + length piece)
          (omega (arith, length-append (take at bytes) piece, size));
      no_shorter = omega (arith, whole);
      no_longer = omega (arith, whole);
    }

pub image_shortened : (len : ℕ) (bytes image : List ℕ) → IsImage (shortened len (settled bytes)) image
    → Shortened len bytes image
image_shortened len bytes image is =
    let long = is.no_longer in
    record {
      no_shorter = is.no_shorter;
      front = ext_get_or 0 image (take (length image) bytes) (omega (arith, length-take (length image) bytes))
          (λ k lt. is.stays k lt (omega arith) tt ∙ sym (get_or-take (length image) bytes k 0 lt));
    }

pub taken_shortened : (len : ℕ) (bytes : List ℕ) → Shortened len bytes (take len bytes)
taken_shortened len bytes =
    record {
      no_shorter = omega (arith, length-take len bytes);
      front =
          sym (ap (λ k. take k bytes) (length-take len bytes) ∙ take_min len bytes);
    }
