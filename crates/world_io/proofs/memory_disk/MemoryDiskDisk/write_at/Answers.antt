use Rattle.std.proofs.Common.{rules, ◌≡◌, ◌+◌, ◌<◌, ◌^◌, length, refl}
use Rattle.world_io.proofs.Changes.{IsKept, kept_begun, kept_done}
use Rattle.world_io.proofs.memory_disk.MemoryDiskDisk.write_at.Goals as goal

pub invariant_of-self-in-Break-1 : goal.invariant_of-self-in-Break-1
invariant_of-self-in-Break-1 c =
    let d = c.args.self.now in
    let kept : IsKept d.bytes.items d.calls.items = record { left = d.left; bounded = d.bounded } in
    let limit : c.args.at + length c.args.bytes.now < 2 ^ 62 = search rules in
    let undone = rw c.deref.ensures.value at c.in-Ok.ensures.begun in
    let begun = kept_begun c.in-Ok.change kept c.in-Ok-push.ensures.items d.bytes.items c.args.at
    (length c.args.bytes.now) limit refl undone in
    record { in_range = d.in_range; left = begun.left; bounded = begun.bounded }

pub invariant_of-self-in-Ok-put_over : goal.invariant_of-self-in-Ok-put_over
invariant_of-self-in-Ok-put_over c =
    let d = c.args.self.now in
    let kept : IsKept d.bytes.items d.calls.items = record { left = d.left; bounded = d.bounded } in
    let limit : c.args.at + length c.args.bytes.now < 2 ^ 62 = search rules in
    let undone = rw c.deref.ensures.value at c.in-Ok.ensures.done in
    let done = kept_done c.in-Ok.change kept c.in-Ok-push.ensures.items c.put_over.new.bytes.items c.args.at
    c.args.bytes.now c.requires limit c.in-Ok-put_over.ensures.ok
    (λ past. undone c.args.bytes.now past refl) in
    record { in_range = search rules; left = done.left; bounded = done.bounded }

pub invariant_of-self-in_default-put_over : goal.invariant_of-self-in_default-put_over
invariant_of-self-in_default-put_over c =
    let d = c.args.self.now in
    let kept : IsKept d.bytes.items d.calls.items = record { left = d.left; bounded = d.bounded } in
    let limit : c.args.at + length c.args.bytes.now < 2 ^ 62 = search rules in
    let undone = rw c.deref.ensures.value at c.in-Ok.ensures.begun in
    let same : c.put_over.new.bytes.items ≡ d.bytes.items = search rules in
    let begun = kept_begun c.in-Ok.change kept c.in-Ok-push.ensures.items c.put_over.new.bytes.items c.args.at
    (length c.args.bytes.now) limit same undone in
    record { in_range = search rules; left = begun.left; bounded = begun.bounded }
