use Rattle.std.proofs.Common.{◌≡◌, ℕ, true, false, [], ◌∷◌, length-append, refl, subst, arith, rules}
use Rattle.std.proofs.lemmas.Result.{err_from_is_err_and}
use Rattle.room_table.specs.Tables.{Table}
use Rattle.world_bytes.specs.Forms.{room_bytes}
use Rattle.tick_journal.specs.TickForms.{IsRisingBy}
use Rattle.tick_journal.specs.inner.Reading.{IsReadTable}
use Rattle.tick_journal.proofs.Listed.{listed_short, under_start, under_more, under_none, under_value, under_whole}
use Rattle.tick_journal.proofs.Rising.{rising_before, rising_push}
use Rattle.tick_journal.proofs.Ticks.{no_table_read, table_one, table_read}
use Rattle.tick_journal.proofs.entry_reader.read_tables.Goals as goal

abbrev index_of : Table → ℕ
index_of table = table.index

pub returns-in_err-count-clause-malformed : goal.returns-in_err-count-clause-malformed
returns-in_err-count-clause-malformed c =
    let p = err_from_is_err_and c.from_residual.result c.from_residual.ensures.1 in
    rw p.1 (λ _ list rest form e. listed_short room_bytes list c.args.from.now.0 rest c.in_err-count.ensures.short e)

pub each-init : goal.each-init
each-init c =
    rw c.new-list.ensures.items (record {
      counted = refl;
      rising = tt;
      under = under_start IsReadTable room_bytes c.in_ok-count.count c.args.from.now.0 c.u32.new.self.0 c.in_ok-count.ensures.found;
    })

pub returns-in_err-index-clause-malformed : goal.returns-in_err-index-clause-malformed
returns-in_err-index-clause-malformed c =
    let p = err_from_is_err_and c.from_residual-in_err-index.result c.from_residual-in_err-index.ensures.1 in
    let i = c.each.invariant in
    rw (p.1, p.2) (λ is list rest form e.
    under_none IsReadTable room_bytes table_one c.in_ok-count.count c.args.from.now.0 c.each.list.items list c.each.from.0 rest (search rules) (omega (arith, i.counted)) i.under (no_table_read c.each.from.0 (c.in_err-index.ensures.malformed is)) form.forms form.count e)

pub is_index_behind-requires : goal.is_index_behind-requires
is_index_behind-requires c =
    let i = c.each.invariant in
    rw c.deref.ensures.value i.rising

pub returns-then-not-is_index_behind-clause-malformed : goal.returns-then-not-is_index_behind-clause-malformed
returns-then-not-is_index_behind-clause-malformed c = λ _ list rest form e.
    let i = c.each.invariant in
    let found = table_read c.in_ok-index.table c.each.from.0 c.read_room.new.from.0 c.in_ok-index.ensures.found in
    let goes = under_value IsReadTable room_bytes table_one c.in_ok-count.count c.args.from.now.0 c.each.list.items list c.in_ok-index.table c.each.from.0 c.read_room.new.from.0 rest (search rules) (omega (arith, i.counted)) i.under found.0 found.1 form.forms form.count e in
    let before = rising_before index_of c.each.list.items c.in_ok-index.table goes.0 (subst (IsRisingBy index_of) goes.1 form.rising) in
    let no : false ≡ true = c.if-not-is_index_behind.ensures.1 (rw (c.deref.ensures.value, c.in_ok-index.ensures.index) before) in
    cc

pub each-preserved : goal.each-preserved
each-preserved c =
    let i = c.each.invariant in
    let found = table_read c.in_ok-index.table c.each.from.0 c.read_room.new.from.0 c.in_ok-index.ensures.found in
    let behind = rw (c.deref.ensures.value, c.in_ok-index.ensures.index) at (c.if-not-is_index_behind.ensures.0 refl) in
    record {
      counted = rw c.in_ok-push.ensures.items (omega (arith, length-append c.each.list.items (c.in_ok-index.table ∷ []), i.counted));
      rising = rw c.in_ok-push.ensures.items (rising_push index_of c.each.list.items c.in_ok-index.table i.rising behind);
      under = rw c.in_ok-push.ensures.items (under_more IsReadTable room_bytes c.in_ok-count.count c.args.from.now.0 c.each.list.items c.in_ok-index.table c.each.from.0 c.read_room.new.from.0 i.under found.0 found.1);
    }

pub returns-clause-found : goal.returns-clause-found
returns-clause-found c =
    let i = c.each.invariant in
    let under = i.under in (
      record { forms = under.forms; rising = i.rising; count = omega (arith, i.counted) },
      under_whole IsReadTable room_bytes c.in_ok-count.count c.args.from.now.0 c.each.list.items c.each.from.0 under (omega (arith, i.counted)),
    )
