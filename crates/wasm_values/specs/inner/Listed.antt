-- The list that a vector, or none, stands for.
use Rattle.std.specs.Prelude.{List, []}
use Rattle.std.specs.declared.option.Option.{Option}
use Rattle.std.specs.declared.option.Option.TheVariants.{None, Some}
use Rattle.std.specs.declared.vec.Vec.{Vec}
use Rattle.std.specs.declared.alloc.Global.{Global}

abbrev pub listed : {E : Type 0} → Option (Vec E Global) → List E
listed None = []
listed (Some list) = list.items
