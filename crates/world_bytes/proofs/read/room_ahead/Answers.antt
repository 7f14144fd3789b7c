use Rattle.std.proofs.Common.{◌≡◌, ◌++◌, ◌∙◌, ℕ, List, length, refl, sym, ap, arith, rules}
use Rattle.std.proofs.lemmas.Result.{err_from_is_err_and}
use Rattle.byteorder.specs.Endian.{little_bytes}
use Rattle.world_bytes.specs.inner.Rows.{objects_row}
use Rattle.world_bytes.proofs.Rooms.{room_short, room_begins, leads_room, behind_next, behind_count, room_objects}
use Rattle.world_bytes.proofs.read.room_ahead.Goals as goal

pub returns-in_err-index-clause-malformed : goal.returns-in_err-index-clause-malformed
returns-in_err-index-clause-malformed c =
    let p = err_from_is_err_and c.from_residual.result c.from_residual.ensures.1 in
    rw p.1 (λ _. room_short c.args.from.now.0 (search rules))

pub returns-in_err-next-clause-malformed : goal.returns-in_err-next-clause-malformed
returns-in_err-next-clause-malformed c =
    let p = err_from_is_err_and c.from_residual-in_err-next.result c.from_residual-in_err-next.ensures.1 in
    rw p.1 (λ _. room_short c.args.from.now.0 (search rules))

pub returns-then-next-eq0-clause-malformed : goal.returns-then-next-eq0-clause-malformed
returns-then-next-eq0-clause-malformed c = λ _ table rest begins.
    let leads = leads_room c.args.from.now.0 table rest begins in
    let form = leads.form in
    let same = behind_next table c.in_ok-index.index c.in_ok-next.next c.args.from.now.0 c.u32.new.self.0 c.u32-2.new.self.0 rest (search rules) (search rules) c.in_ok-index.ensures.found c.in_ok-next.ensures.found leads in
    omega (arith, form.some, same)

pub returns-in_err-count-clause-malformed : goal.returns-in_err-count-clause-malformed
returns-in_err-count-clause-malformed c =
    let p = err_from_is_err_and c.from_residual-in_err-count.result c.from_residual-in_err-count.ensures.1 in
    rw p.1 (λ _. room_short c.args.from.now.0 (search rules))

pub returns-in_err-objects-clause-malformed : goal.returns-in_err-objects-clause-malformed
returns-in_err-objects-clause-malformed c =
    let p = err_from_is_err_and c.from_residual-in_err-objects.result c.from_residual-in_err-objects.ensures.1 in
    rw (p.1, p.2) (λ is table rest begins.
    let leads = leads_room c.args.from.now.0 table rest begins in
    let same = behind_count table c.in_ok-index.index c.in_ok-next.next c.in_ok-count.count c.args.from.now.0 c.u32.new.self.0 c.u32-2.new.self.0 c.u32-3.new.self.0 rest (search rules) (search rules) (search rules) c.in_ok-index.ensures.found c.in_ok-next.ensures.found c.in_ok-count.ensures.found leads in
    c.in_err-objects.ensures.malformed is table.objects rest (room_objects table c.in_ok-count.count leads.form same.count_same) same.behind)

pub returns-clause-found : goal.returns-clause-found
returns-clause-found c =
    let are = c.in_ok-objects.ensures.found.0 in
    let count : length c.in_ok-objects.objects.items ≡ c.in_ok-count.count = are.counted in
    rw c.in_ok-table.ensures (room_begins _ c.args.from.now.0 c.u32.new.self.0 c.u32-2.new.self.0 c.read_objects.new.from.0
    (record { some = omega arith; rising = are.rising; objects = are.forms; index = search rules; next = search rules; count = rw count (search rules) })
    refl c.in_ok-index.ensures.found c.in_ok-next.ensures.found
    (c.in_ok-count.ensures.found ∙ ap (λ (z : List ℕ). little_bytes 4 c.in_ok-count.count ++ z) c.in_ok-objects.ensures.found.1 ∙ ap (λ (n : ℕ). little_bytes 4 n ++ objects_row c.in_ok-objects.objects.items c.read_objects.new.from.0) (sym count)))
