use Rattle.std.proofs.Common.{rules, length, ap, ◌∙◌, ◌≡◌}
use Rattle.std.proofs.lemmas.List.{with_items_is}
use Rattle.std.specs.Vec.{with_items}
use Rattle.frame_log.proofs.Reading.{too_long, frame_found}
use Rattle.frame_log.proofs.read.read_content.Goals as goal

pub returns-then-size-behind-clause-found : goal.returns-then-size-behind-clause-found
returns-then-size-behind-clause-found g c = too_long _ c.args.len c.args.gate c.args.size c.requires.length c.requires.place (search rules) c.requires.head (search rules)

pub returns-clause-found : goal.returns-clause-found
returns-clause-found g c =
    let filled : length c.read.new.buf ≡ length c.deref_mut.result.now = search rules in
    let whole = with_items_is c.resize.new.self c.read.new.buf (filled ∙ c.deref_mut.ensures.len) in
    let sized : length (with_items c.resize.new.self c.read.new.buf).items ≡ length c.deref_mut.result.now = ap length whole ∙ filled in
    let reads = rw (← whole) at c.in-Ok-read.ensures.told in
    frame_found _ c.args.len c.args.gate c.args.size (length c.deref_mut.result.now) c.in-Ok-read.count (with_items c.resize.new.self c.read.new.buf) c.requires.length c.requires.place (search rules) c.requires.head (search rules) (search rules) sized
    (search rules) reads
