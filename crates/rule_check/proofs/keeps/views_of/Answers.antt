use Rattle.std.proofs.Common.{◌∙◌}
use Rattle.rule_check.proofs.Kept.{list_at}
use Rattle.rule_check.proofs.keeps.views_of.Goals as goal

pub view_of-requires-clause-objects : goal.view_of-requires-clause-objects
view_of-requires-clause-objects c =
    c.deref.ensures.value
    ∙ list_at c.args.lists.now c.args.rooms.now c.loop-index.index c.index-lists-index.result c.index-rooms-index.result c.requires.lists c.loop-index-test.true c.index-lists-index.is c.index-rooms-index.is
