use Rattle.std.proofs.Common.{◌≡◌, ℕ, true, false, [], ◌∷◌, length-append, refl, subst, arith, rules}
use Rattle.std.proofs.lemmas.Result.{err_from_is_err_and}
use Rattle.tick_journal.specs.Contents.{run_bytes}
use Rattle.tick_journal.specs.TickForms.{HasRunForm, IsRisingBy}
use Rattle.tick_journal.specs.declared.entries.RunEntry.{RunEntry}
use Rattle.tick_journal.proofs.Listed.{listed_short, under_start, under_more, under_none, under_value, under_whole}
use Rattle.tick_journal.proofs.Recorded.{run_one}
use Rattle.tick_journal.proofs.Rising.{rising_before, rising_push}
use Rattle.tick_journal.proofs.entry_reader.read_runs.Goals as goal

abbrev player_of : RunEntry → ℕ
player_of run = run.player

pub returns-in_err-count-clause-malformed : goal.returns-in_err-count-clause-malformed
returns-in_err-count-clause-malformed c =
    let p = err_from_is_err_and c.from_residual.result c.from_residual.ensures.1 in
    rw p.1 (λ _ list rest form e. listed_short run_bytes list c.args.from.now.0 rest c.in_err-count.ensures.short e)

pub each-init : goal.each-init
each-init c =
    rw c.new-list.ensures.items (record {
      counted = refl;
      rising = tt;
      under = under_start HasRunForm run_bytes c.in_ok-count.count c.args.from.now.0 c.u32.new.self.0 c.in_ok-count.ensures.found;
    })

pub returns-in_err-entry-clause-malformed : goal.returns-in_err-entry-clause-malformed
returns-in_err-entry-clause-malformed c =
    let p = err_from_is_err_and c.from_residual-in_err-entry.result c.from_residual-in_err-entry.ensures.1 in
    let i = c.each.invariant in
    rw (p.1, p.2) (λ is list rest form e.
    under_none HasRunForm run_bytes run_one c.in_ok-count.count c.args.from.now.0 c.each.list.items list c.each.from.0 rest (search rules) (omega (arith, i.counted)) i.under (c.in_err-entry.ensures.malformed is) form.forms form.count e)

pub is_player_behind-requires : goal.is_player_behind-requires
is_player_behind-requires c =
    let i = c.each.invariant in
    rw c.deref.ensures.value i.rising

pub returns-then-not-is_player_behind-clause-malformed : goal.returns-then-not-is_player_behind-clause-malformed
returns-then-not-is_player_behind-clause-malformed c = λ _ list rest form e.
    let i = c.each.invariant in
    let found = c.in_ok-entry.ensures.found in
    let goes = under_value HasRunForm run_bytes run_one c.in_ok-count.count c.args.from.now.0 c.each.list.items list c.in_ok-entry.entry c.each.from.0 c.read_run.new.from.0 rest (search rules) (omega (arith, i.counted)) i.under found.0 found.1 form.forms form.count e in
    let before = rising_before player_of c.each.list.items c.in_ok-entry.entry goes.0 (subst (IsRisingBy player_of) goes.1 form.rising) in
    let no : false ≡ true = c.if-not-is_player_behind.ensures.1 (rw c.deref.ensures.value before) in
    cc

pub each-preserved : goal.each-preserved
each-preserved c =
    let i = c.each.invariant in
    let found = c.in_ok-entry.ensures.found in
    record {
      counted = rw c.in_ok-push.ensures.items (omega (arith, length-append c.each.list.items (c.in_ok-entry.entry ∷ []), i.counted));
      rising = rw c.in_ok-push.ensures.items (rising_push player_of c.each.list.items c.in_ok-entry.entry i.rising (rw c.deref.ensures.value at (c.if-not-is_player_behind.ensures.0 refl)));
      under = rw c.in_ok-push.ensures.items (under_more HasRunForm run_bytes c.in_ok-count.count c.args.from.now.0 c.each.list.items c.in_ok-entry.entry c.each.from.0 c.read_run.new.from.0 i.under found.0 found.1);
    }

pub returns-clause-found : goal.returns-clause-found
returns-clause-found c =
    let i = c.each.invariant in
    let under = i.under in (
      record { forms = under.forms; rising = i.rising; count = omega (arith, i.counted) },
      under_whole HasRunForm run_bytes c.in_ok-count.count c.args.from.now.0 c.each.list.items c.each.from.0 under (omega (arith, i.counted)),
    )
