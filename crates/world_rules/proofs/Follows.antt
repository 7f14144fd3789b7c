-- Changes that stay in their room, and what is made of them.
use Rattle.std.proofs.Common.{◌≡◌, ◌⊎◌, inl, inr, ℕ, ◌+◌, ◌*◌, ◌^◌, ◌<◌, ◌≤◌, ◌==◌, if◌then◌else◌, Bool, true, false, cond, List, [], ◌∷◌, Option, Some, None, refl, sym, ap, ◌∙◌, arith}
use Rattle.std.specs.Prelude.{nat_lt}
use Rattle.std.specs.Ordering.{nat_cmp, eq_by_cmp}
use Rattle.std.specs.Cmp.{nat_cmp_total, unsigned_tied}
use Rattle.std.specs.FinMap.{FinMap, get, insert, keys, get-insert, get-remove}
use Rattle.std.proofs.lemmas.Bool.{eqb-true, ltb-true}
use Rattle.room_table.specs.declared.object.Object.{Object}
use Rattle.world_rules.specs.RoomParts.{RoomPart}
use Rattle.world_rules.specs.RuleBook.{Follows, StaysInRoom}
use Rattle.world_rules.specs.Changes.{put, with_object, without, next_id, with_new}
use Rattle.world_rules.specs.Steps.{by_object, over_ids, over_objects, with_left, each}

pub follows_self : (part : RoomPart) → Follows part part
follows_self part = record { rules = refl; index = refl; grounds = refl; serial = omega arith; own = λ id stands. inl stands }

-- one change after another
pub follows_trans : (part middle after : RoomPart) → Follows part middle → Follows middle after → Follows part after
follows_trans part middle after one other = record {
  rules = other.rules ∙ one.rules;
  index = other.index ∙ one.index;
  grounds = other.grounds ∙ one.grounds;
  serial = let first : part.next ≤ middle.next = one.serial in let second : middle.next ≤ after.next = other.serial in omega arith;
  own = λ id stands. elim (other.own id stands) [
    | inl there ↦ elim (one.own id there) [
      | inl before ↦ inl before
      | inr new ↦ let less : new.0 < middle.next = new.3 in let most : middle.next ≤ after.next = other.serial in inr (new.0, new.1, new.2, omega arith, new.4)
    ]
    | inr new ↦
        let first : part.next ≤ middle.next = one.serial in
        let least : middle.next ≤ new.0 = new.2 in
        inr (new.0, new.1 ∙ ap (λ (k : ℕ). k * 2 ^ 32 + new.0) one.index, omega arith, new.3, new.4)
  ];
}

pub follows_if : (b : Bool) (part one two : RoomPart) → Follows part one → Follows part two → Follows part (if b then one else two)
follows_if true part one two first second = first
follows_if false part one two first second = second

found_put : (m : FinMap nat_cmp Object) (k id : ℕ) (object found : Object) → get (insert m k object) id ≡ Some found → (id ≡ k) ⊎ (get m id ≡ Some found)
found_put m k id object found is =
    elim (id == k) as (λ b. (id == k) ≡ b → cond b (Some object) (get m id) ≡ Some found → (id ≡ k) ⊎ (get m id ≡ Some found)) [
      | true ↦ λ at got. inl (eqb-true id k at)
      | false ↦ λ at got. inr got
    ] refl (sym (ap (λ (b : Bool). cond b (Some object) (get m id)) (unsigned_tied id k)) ∙ sym (get-insert nat_cmp_total m k object id) ∙ is)

put_follows : (object : Object) (part : RoomPart) (old : Option Object) → get part.objects object.id ≡ old → Follows part (put object part old)
put_follows object part None is = follows_self part
put_follows object part (Some old) is = record {
  rules = refl;
  index = refl;
  grounds = refl;
  serial = omega arith;
  own = λ id stands. elim (found_put part.objects object.id id object stands.0 stands.1) [
    | inl same ↦ inl (old, ap (get part.objects) same ∙ is)
    | inr there ↦ inl (stands.0, there)
  ];
}

pub follows_object : (object : Object) (part : RoomPart) → Follows part (with_object object part)
follows_object object part = put_follows object part (get part.objects object.id) refl

found_left : (b : Bool) (found : Option Object) (object : Object) → cond b None found ≡ Some object → found ≡ Some object
found_left true found object is = absurd (cc)
found_left false found object is = is

pub follows_without : (id : ℕ) (part : RoomPart) → Follows part (without id part)
follows_without id part = record {
  rules = refl;
  index = refl;
  grounds = refl;
  serial = omega arith;
  own = λ other stands. inl (stands.0, found_left (eq_by_cmp nat_cmp other id) (get part.objects other) stands.0 (sym (get-remove nat_cmp_total part.objects id other) ∙ stands.1));
}

pub follows_new : (make : ℕ → Object) (part : RoomPart) → Follows part (with_new make part)
follows_new make part =
    let more : RoomPart = record part { next = part.next + 1; objects = insert part.objects (next_id part) (make (next_id part)) } in
    elim (nat_lt part.next (2 ^ 32)) as (λ b. nat_lt part.next (2 ^ 32) ≡ b → Follows part (if b then more else part)) [
      | true ↦ λ is. record {
        rules = refl;
        index = refl;
        grounds = refl;
        serial = omega arith;
        own = λ id stands. elim (found_put part.objects (next_id part) id (make (next_id part)) stands.0 stands.1) [
          | inl same ↦ inr (part.next, same, omega arith, omega arith, ltb-true part.next (2 ^ 32) is)
          | inr there ↦ inl (stands.0, there)
        ];
      }
      | false ↦ λ is. follows_self part
    ] refl

-- ---- steps

module _ (change : Object → RoomPart → RoomPart) (own : (object : Object) → StaysInRoom (change object)) where
  by_follows : (part : RoomPart) (found : Option Object) → Follows part (by_object change part found)
  by_follows part None = follows_self part
  by_follows part (Some object) = own object part

  over_follows : (ids : List ℕ) → StaysInRoom (over_ids change ids)
  over_follows [] part = follows_self part
  over_follows (id ∷ later) part =
      follows_trans part (by_object change part (get part.objects id)) (over_ids change later (by_object change part (get part.objects id))) (by_follows part (get part.objects id)) (over_follows later (by_object change part (get part.objects id)))

  -- A step whose changes stay in the room stays there.
  pub follows_over : StaysInRoom (over_objects change)
  follows_over part = over_follows (keys part.objects) part

left_follows : (id : ℕ) (part : RoomPart) (left : Option Object) → Follows part (with_left id part left)
left_follows id part None = follows_without id part
left_follows id part (Some object) = follows_object object part

-- So does each step in which objects change by themselves.
pub follows_each : (change : Object → Option Object) → StaysInRoom (each change)
follows_each change = follows_over (λ object part. with_left object.id part (change object)) (λ object part. left_follows object.id part (change object))
