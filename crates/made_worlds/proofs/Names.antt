-- The names of generated rooms: each is one of the world's, and none is there twice.
use Rattle.std.proofs.Common.{◌≡◌, ℕ, ◌+◌, ◌/◌, ◌%◌, ◌<◌, pos, ap, ◌∙◌, arith}
use Rattle.room_terrain.specs.Names.{IsInRange}
use Rattle.room_terrain.specs.declared.name.RoomName.{RoomName}
use Rattle.rule_check.specs.declared.view.RoomView.{RoomView}
use Rattle.rule_check.specs.inner.Checks.{HasNameBefore, RoomAt}
use Rattle.made_worlds.proofs.Places.{at_place}
use Rattle.made_worlds.proofs.Views.{no_room, view_at, views}

one_place : (i j : ℕ) → pos (i % 20) ≡ pos (j % 20) → pos (i / 20) ≡ pos (j / 20) → i ≡ j
one_place i j column row =
    let columns : i % 20 ≡ j % 20 = cc in
    let rows : i / 20 ≡ j / 20 = cc in
    omega arith

pub no_name_twice : (seed players count n : ℕ)
    → RoomAt (λ index room. HasNameBefore (views seed players count) index room.name) (views seed players count) n → ⊥
no_name_twice seed players count n =
    no_room (λ index room. HasNameBefore (views seed players count) index room.name) seed players count n
    (λ index less named.
    let here = at_place (view_at seed players) 0 count named.earlier named.room named.place in
    let same : (view_at seed players (0 + named.earlier)).name ≡ (view_at seed players index).name =
    ap (λ (room : RoomView). room.name) here.1 ∙ named.named in
    let place : 0 + named.earlier ≡ index =
    one_place (0 + named.earlier) index (ap (λ (name : RoomName). name.column) same) (ap (λ (name : RoomName). name.row) same) in
    let before : named.earlier < index = named.before in
    absurd (omega arith))

pub in_range : (index : ℕ) → index < 400
    → IsInRange (record { column = pos (index % 20); row = pos (index / 20) })
in_range index less = record { column = omega arith; row = omega arith }
