use Rattle.std.proofs.Common.{◌≡◌, true, false, [], ◌∷◌, length-append, refl, subst, arith, rules}
use Rattle.std.proofs.lemmas.Result.{err_from_is_err_and}
use Rattle.world_bytes.specs.Forms.{intent_bytes}
use Rattle.tick_journal.specs.TickForms.{IsRisingBy}
use Rattle.tick_journal.specs.inner.Reading.{IsIntentOf, rank}
use Rattle.tick_journal.proofs.Canonical.{canonical_count, canonical_intents, canonical_rising, rising_canonical}
use Rattle.tick_journal.proofs.Listed.{behind_number, listed_short, under_start, under_more, under_none, under_value, under_whole}
use Rattle.tick_journal.proofs.Recorded.{intent_is_one, intent_read, no_intent_read}
use Rattle.tick_journal.proofs.Rising.{rising_before, rising_push}
use Rattle.tick_journal.proofs.entry_reader.read_intents.Goals as goal

pub returns-in_err-count-clause-malformed : goal.returns-in_err-count-clause-malformed
returns-in_err-count-clause-malformed c =
    let p = err_from_is_err_and c.from_residual.result c.from_residual.ensures.1 in
    rw p.1 (λ _ list rest form e. listed_short intent_bytes list c.args.from.now.0 rest c.in_err-count.ensures.short e)

pub returns-then-count-most_entries-clause-malformed : goal.returns-then-count-most_entries-clause-malformed
returns-then-count-most_entries-clause-malformed c = λ _ list rest form e.
    let one = behind_number intent_bytes list c.in_ok-count.count c.args.from.now.0 c.u32.new.self.0 rest (search rules) (canonical_count c.args.player list form) c.in_ok-count.ensures.found e in
    let most = form.most in
    omega (arith, one.0)

pub each-init : goal.each-init
each-init c =
    rw c.new-list.ensures (record {
      counted = refl;
      rising = tt;
      under = under_start (IsIntentOf c.args.player) intent_bytes c.in_ok-count.count c.args.from.now.0 c.u32.new.self.0 c.in_ok-count.ensures.found;
    })

pub returns-in_err-intent-clause-malformed : goal.returns-in_err-intent-clause-malformed
returns-in_err-intent-clause-malformed c =
    let p = err_from_is_err_and c.from_residual-in_err-intent.result c.from_residual-in_err-intent.ensures.1 in
    let i = c.each.invariant in
    let player = c.args.player in
    rw (p.1, p.2) (λ is list rest form e.
    under_none (IsIntentOf player) intent_bytes (intent_is_one player) c.in_ok-count.count c.args.from.now.0 c.each.list list c.each.from.0 rest (search rules) (omega (arith, i.counted)) i.under (no_intent_read player c.each.from.0 (c.in_err-intent.ensures.malformed is)) (canonical_intents player list form) (canonical_count player list form) e)

pub returns-then-not-is_intent_behind-clause-malformed : goal.returns-then-not-is_intent_behind-clause-malformed
returns-then-not-is_intent_behind-clause-malformed c = λ _ list rest form e.
    let i = c.each.invariant in
    let player = c.args.player in
    let read = intent_read player c.in_ok-intent.intent c.each.from.0 c.read_intent.new.from.0 c.in_ok-intent.ensures.found in
    let goes = under_value (IsIntentOf player) intent_bytes (intent_is_one player) c.in_ok-count.count c.args.from.now.0 c.each.list list c.in_ok-intent.intent c.each.from.0 c.read_intent.new.from.0 rest (search rules) (omega (arith, i.counted)) i.under read.0 read.1 (canonical_intents player list form) (canonical_count player list form) e in
    let before = rising_before rank c.each.list c.in_ok-intent.intent goes.0 (subst (IsRisingBy rank) goes.1 (canonical_rising player list form)) in
    let no : false ≡ true = c.if-not-is_intent_behind.ensures.1 (rw c.as_slice.ensures before) in
    cc

pub each-preserved : goal.each-preserved
each-preserved c =
    let i = c.each.invariant in
    let player = c.args.player in
    let read = intent_read player c.in_ok-intent.intent c.each.from.0 c.read_intent.new.from.0 c.in_ok-intent.ensures.found in
    record {
      counted = rw c.in_ok-push.ensures.ok (omega (arith, length-append c.each.list (c.in_ok-intent.intent ∷ []), i.counted));
      rising = rw c.in_ok-push.ensures.ok (rising_push rank c.each.list c.in_ok-intent.intent i.rising (rw c.as_slice.ensures at (c.if-not-is_intent_behind.ensures.0 refl)));
      under = rw c.in_ok-push.ensures.ok (under_more (IsIntentOf player) intent_bytes c.in_ok-count.count c.args.from.now.0 c.each.list c.in_ok-intent.intent c.each.from.0 c.read_intent.new.from.0 i.under read.0 read.1);
    }

pub returns-clause-found : goal.returns-clause-found
returns-clause-found c =
    let i = c.each.invariant in
    let under = i.under in
    let player = c.args.player in (
      rising_canonical player c.each.list under.forms i.rising (omega (arith, i.counted)),
      under_whole (IsIntentOf player) intent_bytes c.in_ok-count.count c.args.from.now.0 c.each.list c.each.from.0 under (omega (arith, i.counted)),
    )
