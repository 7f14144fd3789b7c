-- The desk that answers a player's module: what it knows, and how it reads the arguments of a call.
use Rattle.std.specs.Prelude.{ℕ, suc, zero, ◌+◌, ◌*◌, ◌%◌, ◌^◌, min, ℤ, pos, negsuc, nat_le, if◌then◌else◌}
use Rattle.std.specs.Prelude.{List, [], slice_get, Option, Some, None}
use Rattle.std.specs.Option.{unwrap_or}
use Rattle.std.specs.Int.{cast_signed, cast_unsigned, w32, w64}
use Rattle.game_tables.specs.Limits.{most_limit}
use Rattle.object_store.specs.declared.account.Account.{Account}
use Rattle.visible_view.specs.Sights.{Sight}
use Rattle.intent_book.specs.Records.{Record}

-- what the player sees, the record of what he wants, and his memory text
pub record Desk : Type 0 where
  pub sight : Sight
  pub book : Record
  pub memory : List ℕ

-- the desk of a player before his run: nothing is recorded yet, and the memory text is his account's
abbrev pub desk_of : Sight → Desk
desk_of sight =
    record {
      sight = sight;
      book = record { player = sight.account.player; entries = [] };
      memory = sight.account.memory;
    }

-- ---- numbers of the player

-- the CPU units that the player may use in this tick
abbrev pub allowance : Account → ℕ
allowance account = min most_limit (account.limit + account.bucket)

-- the greatest number, not above the bound, of which a million times the square is at most the points
abbrev pub greatest_root : ℕ → ℕ → ℕ
greatest_root zero points = zero
greatest_root (suc bound) points =
    if nat_le (1000000 * (suc bound * suc bound)) points then suc bound else greatest_root bound points

-- the global level: the greatest of which a million times the square of the number before it is at most the
-- points
abbrev pub global_level : ℕ → ℕ
global_level points = suc (greatest_root points points)

-- ---- arguments

-- an argument, and 0 past the last
abbrev pub argument : List ℤ → ℕ → ℤ
argument args i = unwrap_or (slice_get args i) (pos 0)

-- the low 32 bits of an argument: as an address or a length, and as a number with a sign
abbrev pub unsigned_32 : ℤ → ℕ
unsigned_32 value = cast_unsigned w64 value % 2 ^ 32

abbrev pub signed_32 : ℤ → ℤ
signed_32 value = cast_signed w32 (unsigned_32 value)

-- an index, or an id: none where it is negative
abbrev pub as_index : ℤ → Option ℕ
as_index (pos n) = Some n
as_index (negsuc n) = None

-- a number of 64 bits as a module gets it
abbrev pub as_answer : ℕ → ℤ
as_answer n = cast_signed w64 n
