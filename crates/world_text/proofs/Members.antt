-- The members of an object, put in one after the other.
use Rattle.std.proofs.Common.{◌≡◌, List, ℕ, codes, refl, ap₂, ◌∙◌}
use Rattle.serde_json.specs.Data.{Data, Members, no_members, object, put, string}
use Rattle.game_tables.specs.Texts.{kind_text, part_text}
use Rattle.room_table.specs.declared.object.Object.{Object}
use Rattle.world_form.specs.Written.{list_data, object_data, whole_data}

-- one member more
pub put_next : (key : List ℕ) {one other : Data} {new old before : Members}
    → new ≡ put key one old → one ≡ other → old ≡ before → new ≡ put key other before
put_next key e f g = e ∙ ap₂ (put key) f g

pub object_whole : (o : Object)
    → object (
    put (codes "y") (whole_data o.y) (
    put (codes "x") (whole_data o.x) (
    put (codes "timer") (whole_data o.timer) (
    put (codes "progress") (whole_data o.progress) (
    put (codes "owner") (whole_data o.owner) (
    put (codes "other_ticks") (whole_data o.other_ticks) (
    put (codes "other") (whole_data o.other) (
    put (codes "kind") (string (kind_text o.kind)) (
    put (codes "id") (whole_data o.id) (
    put (codes "hits") (whole_data o.hits) (
    put (codes "extra") (whole_data o.extra) (
    put (codes "energy") (whole_data o.energy) (
    put (codes "body") (list_data (λ part. string (part_text part)) o.body) no_members)))))))))))))
    ≡ object_data o
unfolding object_data
object_whole o = refl
