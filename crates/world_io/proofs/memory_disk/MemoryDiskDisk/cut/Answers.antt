use Rattle.std.proofs.Common.{rules, ◌≡◌, take, drop, ◌++◌, [], ◌∷◌, refl}
use Rattle.std.proofs.lemmas.List.{take_rest}
use Rattle.world_io.specs.declared.change.Change.TheVariants.{Cut}
use Rattle.world_io.proofs.Changes.{IsKept, kept_cut}
use Rattle.world_io.proofs.memory_disk.MemoryDiskDisk.cut.Goals as goal

pub invariant_of-self-2 : goal.invariant_of-self-2
invariant_of-self-2 c =
    let d = c.args.self.now in
    let kept : IsKept d.bytes.items d.calls.items = record { left = d.left; bounded = d.bounded } in
    let now : c.truncate.new.self.items ≡ take c.args.len d.bytes.items = search rules in
    let tail : c.in-Ok.tail.items ≡ drop c.args.len d.bytes.items = search (rules, take_rest) in
    let noted : c.push.new.self.items ≡ d.calls.items ++ Cut c.args.len c.in-Ok.tail ∷ [] = search rules in
    let cut = kept_cut (Cut c.args.len c.in-Ok.tail) kept noted c.truncate.new.self.items c.args.len
    c.in-Ok.tail c.requires refl tail now in
    record { in_range = search rules; left = cut.left; bounded = cut.bounded }
