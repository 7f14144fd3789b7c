-- The bytes of a world file: the world that they say, and their first fault.
use Rattle.std.specs.Prelude.{◌≡◌, ℕ, ◌^◌, ◌≤◌, ◌<◌, List, [], ◌∷◌, length, map, Some, IsUtf8}
use Rattle.std.specs.List.Sorted.{IsPermutation}
use Rattle.std.specs.List.{AllByRecursion}
use Rattle.serde_json.specs.Data.{Data}
use Rattle.serde_json.specs.Read.{read}
use Rattle.world_rules.specs.World.{World, world_listed}
use Rattle.world_rules.specs.Rules.{IsFirstBroken, KeepsRules}
use Rattle.world_form.specs.declared.fault.WorldFault.{WorldFault}
use Rattle.world_form.specs.declared.fault.WorldFault.TheVariants as faults
use Rattle.world_form.specs.Facts.{Filed, Player, SaysWorld, filed_listing}
use Rattle.world_form.specs.FirstFaults.{IsFirst, world_checks}

-- The bytes are a JSON text of this value.
abbrev pub IsJson : List ℕ → Data → Type 0
IsJson bytes value = IsUtf8 bytes × (read bytes ≡ Some value)

-- At most 64 MiB.
abbrev pub IsShort : List ℕ → Type 0
IsShort bytes = length bytes ≤ 2 ^ 26

-- The bytes are a JSON text of this value, and not too long.
abbrev pub HasValue : List ℕ → Data → Type 0
HasValue bytes value = IsShort bytes × IsJson bytes value

-- ---- accepted files

-- The keys of the bytes' value say this world with its players.
abbrev pub Says : List ℕ → Filed → Type 0
Says bytes filed = (value : Data) × HasValue bytes value × SaysWorld value filed

-- The bytes are an accepted world file: what they say keeps the rules.
abbrev pub Lists : List ℕ → Filed → Type 0
Lists bytes filed = Says bytes filed × KeepsRules (filed_listing filed)

-- The bytes are an accepted world file of this world.
abbrev pub WorldForm : List ℕ → World → Type 0
WorldForm bytes world = (filed : Filed) × Lists bytes filed × (world ≡ world_listed (filed_listing filed))

-- ---- tokens

-- the players' tokens, in the order of the file
abbrev pub told_tokens : List Player → List (ℕ × List ℕ)
told_tokens players = map (λ player. (player.account.player, player.token)) players

-- The numbers rise.
abbrev pub HaveRisingNumbers : List (ℕ × List ℕ) → Type 0
HaveRisingNumbers [] = Unit {0}
HaveRisingNumbers (first ∷ later) =
    AllByRecursion (λ other. first.0 < other.0) later × HaveRisingNumbers later

-- These are the players' tokens, in rising number.
abbrev pub AreTokens : List Player → List (ℕ × List ℕ) → Type 0
AreTokens players tokens = IsPermutation (told_tokens players) tokens × HaveRisingNumbers tokens

-- ---- refused files

-- The first check of the keys that fails has this fault.
abbrev pub HasKeyFault : List ℕ → WorldFault → Type 0
HasKeyFault bytes fault = (value : Data) × HasValue bytes value × IsFirst (world_checks value) fault

-- The bytes have this as their first fault: they are too long, no JSON text, a key is at fault, or a rule is
-- broken.
abbrev pub HasFault : List ℕ → WorldFault → Type 0
HasFault bytes faults.TooLong = 2 ^ 26 < length bytes
HasFault bytes faults.NotJson = IsShort bytes × ((value : Data) → IsJson bytes value → ⊥)
HasFault bytes (faults.Missing field) = HasKeyFault bytes (faults.Missing field)
HasFault bytes (faults.BadValue field place) = HasKeyFault bytes (faults.BadValue field place)
HasFault bytes (faults.NotBuilt kind) = HasKeyFault bytes (faults.NotBuilt kind)
HasFault bytes (faults.Rule rule n) =
    (filed : Filed) × Says bytes filed × IsFirstBroken rule n (filed_listing filed)
HasFault bytes faults.Memory = Unit {0}
