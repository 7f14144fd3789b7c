use Rattle.std.proofs.Common.{subst}
use Rattle.wasm_link.specs.Kept.{Kept, link_view, IsMost}
use Rattle.wasm_link.proofs.linked.Linked.most_arguments.Goals as goal

pub returns : goal.returns
returns c = subst (λ (z : Kept). IsMost (link_view z).program c.self.inside.most) c.self.view_is c.self.invariant.kept.most
