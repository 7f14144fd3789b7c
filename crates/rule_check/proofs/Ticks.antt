-- The rules at each tick.
use Rattle.std.proofs.Common.{ℕ, List, Some}
use Rattle.object_store.specs.declared.account.Account.{Account}
use Rattle.world_rules.specs.declared.rule.Rule.{Rule}
use Rattle.world_rules.specs.declared.rule.Rule.TheVariants as rules
use Rattle.world_rules.specs.Rules.{Broken, IsFirstBroken, rule_place}
use Rattle.rule_check.specs.declared.view.RoomView.{RoomView}
use Rattle.rule_check.specs.Views.{viewed}
use Rattle.rule_check.specs.inner.Checks.{IsLeast, KeptBelow}

-- A rule that is broken at one tick is broken at each.
pub any_tick : (rooms : List RoomView) (accounts : List Account) (tick other : ℕ) (rule : Rule) (n : ℕ) → Broken rule n (viewed rooms accounts tick) → Broken rule n (viewed rooms accounts other)
any_tick rooms accounts tick other rules.Counts n broken = (broken.0, λ within. broken.1 (record { some = within.some; rooms = within.rooms; objects = within.objects; players = within.players }))
any_tick rooms accounts tick other rules.RoomTwice n broken = broken
any_tick rooms accounts tick other rules.Corner n broken = broken
any_tick rooms accounts tick other rules.Serial n broken = broken
any_tick rooms accounts tick other rules.IdTwice n broken = broken
any_tick rooms accounts tick other rules.Tile n broken = broken
any_tick rooms accounts tick other rules.Shared n broken = broken
any_tick rooms accounts tick other rules.Owner n broken = broken
any_tick rooms accounts tick other rules.Controllers n broken = broken
any_tick rooms accounts tick other rules.Range n broken = broken
any_tick rooms accounts tick other rules.PlayerTwice n broken = broken
any_tick rooms accounts tick other rules.Sites n broken = broken

pub first_at_each_tick : (rooms : List RoomView) (accounts : List Account) (rule : Rule) (n : ℕ) → KeptBelow (rule_place rule) (viewed rooms accounts 0) → IsLeast (λ m. Broken rule m (viewed rooms accounts 0)) (Some n)
    → (tick : ℕ) → IsFirstBroken rule n (viewed rooms accounts tick)
first_at_each_tick rooms accounts rule n kept least tick = record {
  broken = any_tick rooms accounts 0 tick rule n least.0;
  earlier = λ other m less broken. kept other m less (any_tick rooms accounts tick 0 other m broken);
  least = λ m less broken. least.1 m less (any_tick rooms accounts tick 0 rule m broken);
}
