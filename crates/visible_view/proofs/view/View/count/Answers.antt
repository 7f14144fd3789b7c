use Rattle.std.proofs.Common.{length, ap, arith}
use Rattle.visible_view.specs.Sights.{Sight}
use Rattle.visible_view.specs.inner.Places.{all_of}
use Rattle.visible_view.proofs.Places.{at_length}
use Rattle.visible_view.proofs.view.View.count.Goals as goal

pub returns : goal.returns
returns c =
    omega (arith, at_length (all_of c.self.inside.listed) c.self.inside.places.items c.self.invariant.below, ap (λ (s : Sight). length s.objects) c.self.view_is)
