-- What a disk in memory keeps, which it keeps in one way.
use Rattle.std.specs.Prelude.{ℕ, List, [], ◌∷◌, Some}
use Rattle.std.specs.Coded.{le_prop, coded_ℕ, Coded-set}
use Rattle.world_io.specs.Changes.{moments_of}
use Rattle.world_io.specs.Moments.{Moment, IsImage, IsLeftNow}
use Rattle.world_io.specs.declared.change.Change.{Change}

-- What a read gives is one of the images that a crash may leave now.
abbrev pub IsLeft : List ℕ → List Change → Type 0
IsLeft bytes calls = IsLeftNow (Some bytes) (moments_of bytes calls)

image_prop : (moment : Moment) (image : List ℕ) → IsProp (IsImage moment image)
image_prop moment image a b = λ i. record {
  no_shorter = le_prop a.no_shorter b.no_shorter i;
  no_longer = le_prop a.no_longer b.no_longer i;
  stays = λ place lt within outside.
      Coded-set coded_ℕ _ _ (a.stays place lt within outside) (b.stays place lt within outside) i;
}

left_now_prop : (bytes : List ℕ) (moments : List Moment) → IsProp (IsLeftNow (Some bytes) moments)
left_now_prop bytes [] = λ a b. absurd a
left_now_prop bytes (now ∷ past) = image_prop now bytes

pub left_prop : (bytes : List ℕ) (calls : List Change) → IsProp (IsLeft bytes calls)
left_prop bytes calls = left_now_prop bytes (moments_of bytes calls)
