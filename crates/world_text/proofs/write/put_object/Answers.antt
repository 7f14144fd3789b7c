use Rattle.std.proofs.Common.{ap, codes, ◌∙◌}
use Rattle.serde_json.specs.Data.{object, string}
use Rattle.serde_json.specs.View.{members_view}
use Rattle.world_text.proofs.Members.{object_whole, put_next}
use Rattle.world_text.proofs.write.put_object.Goals as goal

pub returns : goal.returns
returns c =
    ap object (
    put_next (codes "y") c.in_ok-put-13.ensures.ok c.from-11.ensures (
    put_next (codes "x") c.in_ok-put-12.ensures.ok c.from-10.ensures (
    put_next (codes "timer") c.in_ok-put-11.ensures.ok c.from-9.ensures (
    put_next (codes "progress") c.in_ok-put-10.ensures.ok c.from-8.ensures (
    put_next (codes "owner") c.in_ok-put-9.ensures.ok c.from-7.ensures (
    put_next (codes "other_ticks") c.in_ok-put-8.ensures.ok c.from-6.ensures (
    put_next (codes "other") c.in_ok-put-7.ensures.ok c.from-5.ensures (
    put_next (codes "kind") c.in_ok-put-6.ensures.ok (c.in_ok-kind.ensures ∙ ap string c.text.ensures) (
    put_next (codes "id") c.in_ok-put-5.ensures.ok c.from-4.ensures (
    put_next (codes "hits") c.in_ok-put-4.ensures.ok c.from-3.ensures (
    put_next (codes "extra") c.in_ok-put-3.ensures.ok c.from-2.ensures (
    put_next (codes "energy") c.in_ok-put-2.ensures.ok c.from.ensures (
    put_next (codes "body") c.in_ok-put.ensures.ok c.in_ok-body.ensures (ap members_view c.requires))))))))))))))
    ∙ object_whole c.args.object.now
