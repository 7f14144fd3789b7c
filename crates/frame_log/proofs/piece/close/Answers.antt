use Rattle.std.proofs.Common.{rules, ◌≡◌, ℕ, ◌-◌, [], ◌∷◌, ◌++◌, List, length, drop, ap, ◌∙◌, arith, length-drop}
use Rattle.std.proofs.lemmas.List.{with_items_is}
use Rattle.byteorder.specs.Endian.{little_bytes}
use Rattle.frame_log.specs.Frames.{frame}
use Rattle.frame_log.proofs.piece.close.Goals as goal

pub returns : goal.returns
unfolding frame
returns c =
    let piece = c.args.piece in
    let content = drop 8 piece.items in
    let size : c.len.result - 8 ≡ length content = omega (arith, c.len.ensures, length-drop 8 piece.items) in
    let put : c.write_u64.new.buf ≡ little_bytes 8 (c.len.result - 8) ++ content = c.write_u64.ensures ∙ ap (λ (l : List ℕ). little_bytes 8 (c.len.result - 8) ++ drop 8 l) c.deref_mut.ensures.value in
    let made : c.write_u64.new.buf ≡ frame content = put ∙ ap (λ (n : ℕ). little_bytes 8 n ++ content) size in
    let long : length c.write_u64.new.buf ≡ piece.len = search rules in
    let whole = with_items_is piece c.write_u64.new.buf long in
    c.in_ok-push.ensures.items ∙ ap (λ (l : List ℕ). l ++ 0 ∷ []) (whole ∙ made)
