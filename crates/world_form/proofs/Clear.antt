-- Texts of letters, digits and '_', which JSON writes as they are.
use Rattle.std.proofs.Common.{◌≡◌, ℕ, ◌+◌, ◌/◌, ◌%◌, ◌^◌, ◌<◌, ◌&&◌, ◌||◌, nat_lt, Bool, true, ℤ, pos, negsuc, List, [], ◌∷◌, ◌++◌, map, length, decimal, IsUtf8, refl, ap, ap₂, arith, length-append}
use Rattle.std.specs.List.{AllByRecursion}
use Rattle.std.proofs.lemmas.Bool.{and_parts, and_from, lt-ltb}
use Rattle.std.proofs.lemmas.Bool.Decides.{nat_tests}
use Rattle.std.proofs.lemmas.Fmt.{decimal_by_steps}
use Rattle.json.specs.Print.{escape_byte, escape, quoted}
use Rattle.json.proofs.Printed.Strings.{escape_byte_plain}
use Rattle.json.proofs.Printed.Utf8.{are_ascii, IsUtf8-are_ascii, IsUtf8-quoted}
use Rattle.game_tables.specs.declared.kind.Kind.{Kind}
use Rattle.game_tables.specs.declared.kind.Kind.TheVariants as kinds
use Rattle.game_tables.specs.declared.kind.Part.{Part}
use Rattle.game_tables.specs.declared.kind.Part.TheVariants as parts
use Rattle.game_tables.specs.Texts.{kind_text, part_text}
use Rattle.room_terrain.specs.declared.name.RoomName.{RoomName}
use Rattle.room_terrain.specs.declared.terrain.Ground.{Ground}
use Rattle.room_terrain.specs.declared.terrain.Ground.TheVariants.{Plain, Wall, Swamp}
use Rattle.room_terrain.specs.Names.{IsSideInRange, IsInRange, side_text, name_text}
use Rattle.world_form.specs.Digits.{ground_digit, hex_digit, hex}

-- a digit or a capital, or '_' or a small letter
abbrev pub clear_byte : ℕ → Bool
clear_byte byte = (nat_lt 47 byte && nat_lt byte 91) || (nat_lt 94 byte && nat_lt byte 123)

abbrev pub is_clear : List ℕ → Bool
is_clear [] = true
is_clear (byte ∷ bytes) = clear_byte byte && is_clear bytes

-- ---- no escapes, and ASCII

clear_escape : (byte : ℕ) → clear_byte byte ≡ true → escape_byte byte ≡ byte ∷ []
clear_escape byte clear = escape_byte_plain byte (λ e. grind (arith, nat_tests)) (λ e. grind (arith, nat_tests)) (grind (arith, nat_tests))

clear_low : (byte : ℕ) → clear_byte byte ≡ true → byte < 128
clear_low byte clear = grind (arith, nat_tests)

pub escape_clear : (text : List ℕ) → is_clear text ≡ true → escape text ≡ text
escape_clear [] clear = refl
escape_clear (byte ∷ bytes) clear =
    let parts = and_parts (clear_byte byte) (is_clear bytes) clear in
    ap₂ (λ (front back : List ℕ). front ++ back) (clear_escape byte parts.0) (escape_clear bytes parts.1)

pub length-clear : (text : List ℕ) → is_clear text ≡ true → length (quoted text) ≡ length text + 2
length-clear text clear = omega (arith, ap length (escape_clear text clear), length-append (escape text) (34 ∷ []))

clear_ascii : (text : List ℕ) → is_clear text ≡ true → are_ascii text ≡ true
clear_ascii [] clear = refl
clear_ascii (byte ∷ bytes) clear =
    let parts = and_parts (clear_byte byte) (is_clear bytes) clear in
    and_from _ _ (lt-ltb byte 128 (clear_low byte parts.0)) (clear_ascii bytes parts.1)

pub IsUtf8-clear : (text : List ℕ) → is_clear text ≡ true → IsUtf8 (quoted text)
IsUtf8-clear text clear = IsUtf8-quoted text (IsUtf8-are_ascii text (clear_ascii text clear))

-- ---- the texts of a world

pub clear_append : (text more : List ℕ) → is_clear text ≡ true → is_clear more ≡ true → is_clear (text ++ more) ≡ true
clear_append [] more clear also = also
clear_append (byte ∷ bytes) more clear also =
    let parts = and_parts (clear_byte byte) (is_clear bytes) clear in
    and_from _ _ parts.0 (clear_append bytes more parts.1 also)

digit_clear : (digit : ℕ) → digit < 10 → clear_byte (48 + digit) ≡ true
digit_clear digit low = grind (arith, nat_tests)

pub decimal_clear : (n : ℕ) → n < 2 ^ 64 → is_clear (decimal n) ≡ true
decimal_clear n low =
    decimal_by_steps (λ n text. is_clear text ≡ true) (λ n low. and_from _ _ (digit_clear n low) refl)
    (λ n text more clear. clear_append text ((48 + n % 10) ∷ []) clear (and_from _ _ (digit_clear (n % 10) (omega arith)) refl)) n low

side_clear : (before after : ℕ) (side : ℤ) → clear_byte before ≡ true → clear_byte after ≡ true → IsSideInRange side → is_clear (side_text before after side) ≡ true
side_clear before after (pos n) front back low = and_from _ _ back (decimal_clear n (omega arith))
side_clear before after (negsuc n) front back low = and_from _ _ front (decimal_clear n (omega arith))

pub name_clear : (name : RoomName) → IsInRange name → is_clear (name_text name) ≡ true
name_clear name within = clear_append (side_text 87 69 name.column) (side_text 78 83 name.row) (side_clear 87 69 name.column refl refl within.column) (side_clear 78 83 name.row refl refl within.row)

pub kind_clear : (kind : Kind) → is_clear (kind_text kind) ≡ true
kind_clear kinds.Source = refl
kind_clear kinds.Controller = refl
kind_clear kinds.Creep = refl
kind_clear kinds.Spawn = refl
kind_clear kinds.Extension = refl
kind_clear kinds.Storage = refl
kind_clear kinds.Container = refl
kind_clear kinds.Road = refl
kind_clear kinds.Pile = refl
kind_clear kinds.Site = refl
kind_clear kinds.Tower = refl
kind_clear kinds.Rampart = refl
kind_clear kinds.Wall = refl
kind_clear kinds.Tombstone = refl

pub part_clear : (part : Part) → is_clear (part_text part) ≡ true
part_clear parts.Move = refl
part_clear parts.Work = refl
part_clear parts.Carry = refl
part_clear parts.Attack = refl
part_clear parts.RangedAttack = refl
part_clear parts.Tough = refl
part_clear parts.Heal = refl
part_clear parts.Claim = refl

pub grounds_clear : (grounds : List Ground) → is_clear (map ground_digit grounds) ≡ true
grounds_clear [] = refl
grounds_clear (Plain ∷ grounds) = grounds_clear grounds
grounds_clear (Wall ∷ grounds) = grounds_clear grounds
grounds_clear (Swamp ∷ grounds) = grounds_clear grounds

hex_digit_clear : (digit : ℕ) → digit < 16 → clear_byte (hex_digit digit) ≡ true
hex_digit_clear digit low = grind (arith, nat_tests)

pub hex_clear : (bytes : List ℕ) → AllByRecursion (λ byte. byte < 2 ^ 8) bytes → is_clear (hex bytes) ≡ true
hex_clear [] small = refl
hex_clear (byte ∷ bytes) small =
    let low : byte < 2 ^ 8 = small.0 in
    and_from _ _ (hex_digit_clear (byte / 16) (omega arith)) (and_from _ _ (hex_digit_clear (byte % 16) (omega arith)) (hex_clear bytes small.1))

pub length-hex : (bytes : List ℕ) → length (hex bytes) ≡ length bytes + length bytes
length-hex [] = refl
length-hex (byte ∷ bytes) = omega (arith, length-hex bytes)
