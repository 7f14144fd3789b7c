use Rattle.std.proofs.Common.{◌≡◌, ◌∙◌, ◌==◌, ◌+◌, ◌++◌, ◌∷◌, [], ℕ, Bool, true, false, not, cond, List, ap, sym, refl, subst, take, rules}
use Rattle.std.specs.List.{IsDistinct}
use Rattle.std.specs.BTreeSet.{contains}
use Rattle.std.specs.Ordering.{nat_cmp}
use Rattle.std.specs.Cmp.{unsigned_tied}
use Rattle.room_table.specs.Tables.{Table}
use Rattle.changed_rules.specs.Census.{indices}
use Rattle.changed_rules.proofs.Lists.{AreNoted, mapped_more, note_new, note_old}
use Rattle.changed_rules.proofs.places.places_of.Goals as goal
use Rattle.changed_rules.proofs.places.places_of.Goals.{then-branch+in_ok-push, else-branch}

was_new : (stands added : Bool) → added ≡ not stands → added ≡ true → stands ≡ false
was_new true added e f = absurd cc
was_new false added e f = refl

was_old : (stands added : Bool) → added ≡ not stands → added ≡ false → stands ≡ true
was_old true added e f = refl
was_old false added e f = absurd cc

pub loop-table-init : goal.loop-table-init
unfolding IsDistinct
loop-table-init c = record {
  seen = λ n. rw c.new-places.ensures.items (search (rules, c.new-seen.ensures.empty));
  same = λ n. rw c.new-places.ensures.items refl;
  once = rw c.new-places.ensures.items tt;
}

pub loop-table-preserved : goal.loop-table-preserved
loop-table-preserved c =
    let i = c.loop-table.table-index in
    let tables = c.args.tables.now in
    let noted : AreNoted (contains nat_cmp c.loop-table.seen) (indices (take i tables)) c.loop-table.places.items = record { seen = c.loop-table.invariant.seen; same = c.loop-table.invariant.same; once = c.loop-table.invariant.once } in
    let more : (q : ℕ) → contains nat_cmp c.insert.new.self q ≡ cond (c.index-index.result == q) true (contains nat_cmp c.loop-table.seen q) =
    λ q. c.in_ok-insert.ensures.updates.0 q ∙ ap (λ (b : Bool). cond b true (contains nat_cmp c.loop-table.seen q)) (unsigned_tied c.index-index.result q) in
    let listed : indices (take i tables) ++ c.index-index.result ∷ [] ≡ indices (take (i + 1) tables) =
    ap (λ (n : ℕ). indices (take i tables) ++ n ∷ []) c.index-index.ensures ∙ sym (mapped_more (λ (table : Table). table.index) tables i c.table-item.result c.loop-table-test.true c.table-item.is) in
    elim c.if-branch.branch [
      | then-branch+in_ok-push w ↦ (
          let new = note_new (contains nat_cmp c.loop-table.seen) (contains nat_cmp c.insert.new.self) (indices (take i tables)) c.loop-table.places.items c.index-index.result more (was_new (contains nat_cmp c.loop-table.seen c.index-index.result) c.in_ok-insert.field-0 c.in_ok-insert.ensures.added w.if-branch.true) noted in
          let items : c.loop-table.places.items ++ c.index-index.result ∷ [] ≡ c.if-branch.places.items = sym w.in_ok-push.ensures.items ∙ ap (λ v. v.items) (sym w.places-is) in
          let all : AreNoted (contains nat_cmp c.insert.new.self) (indices (take (i + 1) tables)) c.if-branch.places.items =
          subst (λ (xs : List ℕ). AreNoted (contains nat_cmp c.insert.new.self) xs c.if-branch.places.items) listed (subst (AreNoted (contains nat_cmp c.insert.new.self) (indices (take i tables) ++ c.index-index.result ∷ [])) items new) in
          record { seen = all.seen; same = all.same; once = all.once }
          )
      | else-branch w ↦ (
          let old = note_old (contains nat_cmp c.loop-table.seen) (contains nat_cmp c.insert.new.self) (indices (take i tables)) c.loop-table.places.items c.index-index.result more (was_old (contains nat_cmp c.loop-table.seen c.index-index.result) c.in_ok-insert.field-0 c.in_ok-insert.ensures.added w.if-branch.false) noted in
          let items : c.loop-table.places.items ≡ c.if-branch.places.items = ap (λ v. v.items) (sym w.places-is) in
          let all : AreNoted (contains nat_cmp c.insert.new.self) (indices (take (i + 1) tables)) c.if-branch.places.items =
          subst (λ (xs : List ℕ). AreNoted (contains nat_cmp c.insert.new.self) xs c.if-branch.places.items) listed (subst (AreNoted (contains nat_cmp c.insert.new.self) (indices (take i tables) ++ c.index-index.result ∷ [])) items old) in
          record { seen = all.seen; same = all.same; once = all.once }
          )
    ]
