-- Groups of an object's fields in front of other bytes, and lists of objects: the steps in which forms are
-- read and written.
use Rattle.std.specs.Prelude.{◌≡◌, ℕ, ◌≤◌, ◌<◌, ◌^◌, true, List, ◌∷◌, ◌++◌, map, length}
use Rattle.std.specs.List.{AllByRecursion, flat_map}
use Rattle.byteorder.specs.Endian.{little_bytes}
use Rattle.game_tables.specs.Bodies.{most_parts}
use Rattle.game_tables.specs.Kinds.{is_in_rules}
use Rattle.game_tables.specs.Limits.{most_memory}
use Rattle.game_tables.specs.Numbers.{kind_number, part_number}
use Rattle.game_tables.specs.declared.kind.Part.{Part}
use Rattle.room_table.specs.declared.object.Object.{Object}
use Rattle.room_table.specs.Tables.{IsRising}
use Rattle.world_bytes.specs.declared.object.Head.{Head}
use Rattle.world_bytes.specs.declared.object.Counts.{Counts}
use Rattle.world_bytes.specs.Forms.{HasObjectForm, object_bytes}

-- ---- for any kind of value, and its bytes in front of others

-- The bytes are those of a value with a form, in front of the rest.
abbrev pub Leads : {V : Type 0} → (V → Type 0) → (V → List ℕ → List ℕ) → List ℕ → V → List ℕ → Type 0
Leads HasForm row bytes value rest = HasForm value × (bytes ≡ row value rest)

-- The bytes are those of no value with a form.
abbrev pub LeadsNone : {V : Type 0} → (V → Type 0) → (V → List ℕ → List ℕ) → List ℕ → Type 0
LeadsNone {V} HasForm row bytes = (value : V) (rest : List ℕ) → HasForm value → bytes ≡ row value rest → ⊥

-- ---- an object's groups of fields

pub record HasHeadForm (head : Head) : Type 0 where
  pub kind : is_in_rules head.kind 1 ≡ true
  pub column : head.x ≤ 49
  pub row : head.y ≤ 49
  pub id : head.id < 2 ^ 64
  pub owner : head.owner < 2 ^ 32

unfoldable pub head_row : Head → List ℕ → List ℕ
head_row head rest =
    little_bytes 8 head.id ++ (kind_number head.kind ∷ head.x ∷ head.y ∷ (little_bytes 4 head.owner ++ rest))

abbrev pub head_of : Object → Head
head_of object =
    record { id = object.id; kind = object.kind; x = object.x; y = object.y; owner = object.owner }

pub record HasCountsForm (counts : Counts) : Type 0 where
  pub hits : counts.hits < 2 ^ 32
  pub energy : counts.energy < 2 ^ 64
  pub timer : counts.timer < 2 ^ 32
  pub extra : counts.extra < 2 ^ 32
  pub progress : counts.progress < 2 ^ 64
  pub other : counts.other < 2 ^ 32
  pub other_ticks : counts.other_ticks < 2 ^ 32

unfoldable pub counts_row : Counts → List ℕ → List ℕ
counts_row counts rest =
    little_bytes 4 counts.hits
    ++ (little_bytes 8 counts.energy
    ++ (little_bytes 4 counts.timer
    ++ (little_bytes 4 counts.extra
    ++ (little_bytes 8 counts.progress
    ++ (little_bytes 4 counts.other
    ++ (little_bytes 4 counts.other_ticks ++ rest))))))

abbrev pub counts_of : Object → Counts
counts_of object =
    record {
      hits = object.hits;
      energy = object.energy;
      timer = object.timer;
      extra = object.extra;
      progress = object.progress;
      other = object.other;
      other_ticks = object.other_ticks;
    }

pub record HasBodyForm (body : List Part) : Type 0 where
  pub parts : length body ≤ most_parts

unfoldable pub body_row : List Part → List ℕ → List ℕ
body_row body rest = length body ∷ (map part_number body ++ rest)

-- ---- objects

abbrev pub object_row : Object → List ℕ → List ℕ
object_row object rest = object_bytes object ++ rest

-- so many objects in rising id, each with its form
pub record AreObjects (count : ℕ) (objects : List Object) : Type 0 where
  pub rising : IsRising objects
  pub forms : AllByRecursion HasObjectForm objects
  pub counted : length objects ≡ count

abbrev pub objects_row : List Object → List ℕ → List ℕ
objects_row objects rest = flat_map object_bytes objects ++ rest

-- ---- a memory text

pub record HasMemoryForm (text : List ℕ) : Type 0 where
  pub memory : length text ≤ most_memory
  pub bytes : AllByRecursion (λ byte. byte < 2 ^ 8) text

unfoldable pub memory_row : List ℕ → List ℕ → List ℕ
memory_row text rest = little_bytes 4 (length text) ++ (text ++ rest)
