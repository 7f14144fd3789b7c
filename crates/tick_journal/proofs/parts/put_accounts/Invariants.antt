use Rattle.std.proofs.Common.{◌≡◌, ◌<◌, ◌^◌, ◌++◌, length, take}
use Rattle.std.specs.List.{AllByRecursion, flat_map}
use Rattle.byteorder.specs.Endian.{little_bytes}
use Rattle.world_bytes.specs.Forms.{account_bytes}
use Rattle.world_bytes.specs.Numbers.{AccountFits}
use Rattle.tick_journal.proofs.parts.put_accounts.Given as goal

abbrev pub invariant-each : goal.invariant-each
invariant-each l = record {
  written : l.out.items ≡ l.fn.out.items ++ (little_bytes 4 (length l.accounts) ++ flat_map account_bytes (take l.account-index l.accounts));
  count : length l.accounts < 2 ^ 32;
  fits : AllByRecursion AccountFits (take l.account-index l.accounts);
}
