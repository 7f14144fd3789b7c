-- Equal parts, by the derived test.
use Rattle.std.proofs.Common.{◌≡◌, rules}
use Rattle.std.specs.Bool.{Decides}
use denote.Enum.Bare.{same_true, true_same}
use Rattle.game_tables.specs.declared.kind.Part.{Part}
use Rattle.game_tables.specs.contracts.kind.Part.{the_type}
use Rattle.game_tables.specs.contracts.kind.PartPartialEq.TheImpl.{eq-value}

pub parts_Decides : (a b : Part) → Decides (eq-value.it a b) (a ≡ b)
parts_Decides a b = (λ e. same_true the_type (search rules) a b e, λ e. true_same the_type a b e)
