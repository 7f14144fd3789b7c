use Rattle.std.proofs.Common.{rules, ◌≡◌, ◌∙◌, length}
use Rattle.judged_uploads.proofs.Pieces.{own_size, piece_content}
use Rattle.judged_uploads.proofs.piece.tick_piece.Goals as goal

pub around_uploads-requires : goal.around_uploads-requires
around_uploads-requires c =
    own_size c.args.entry.now c.deref.result.now c.requires (c.deref.ensures.value ∙ c.in_ok-own.ensures.written)

pub returns-clause-written : goal.returns-clause-written
returns-clause-written c =
    let size : length c.extend_from_slice.new.self.items ≡ 8 = search rules in
    piece_content c.args.entry.now c.deref.result.now c.requires (c.deref.ensures.value ∙ c.in_ok-own.ensures.written) c.args.judged.now
    c.extend_from_slice.new.self.items c.extend_from_slice-2.new.self.items c.put_length.new.out.items c.put_entries.new.out.items c.extend_from_slice-3.new.self.items
    (rw c.around_uploads.ensures.front at c.in_ok-extend_from_slice-2.ensures.items)
    (rw c.count.ensures at c.in_ok-put_length.ensures.written)
    c.in_ok-put_entries.ensures.written
    (rw c.around_uploads.ensures.back at c.in_ok-extend_from_slice-3.ensures.items)
    size
