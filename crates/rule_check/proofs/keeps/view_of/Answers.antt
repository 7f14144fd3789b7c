use Rattle.room_table.proofs.Rising.{non_decreasing}
use Rattle.rule_check.proofs.keeps.view_of.Goals as goal

pub returns-clause-ordered : goal.returns-clause-ordered
returns-clause-ordered c = record {
  order = non_decreasing (λ object. object.id) c.args.objects.now (rw c.requires.objects c.requires.rising);
  tiles = rw c.requires.objects c.requires.tiles;
}
