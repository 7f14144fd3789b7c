use Rattle.std.proofs.Common.{length}
use Rattle.byteorder.specs.Endian.{little_bytes}
use Rattle.world_bytes.specs.Forms.{intent_bytes}
use Rattle.world_bytes.specs.Numbers.{IntentFits}
use Rattle.tick_journal.proofs.Written.{fits_next, list_next, list_none, list_whole}
use Rattle.tick_journal.proofs.parts.put_intents.Goals as goal

pub each-init : goal.each-init
each-init c = record {
  written =
      list_none c.args.out.now.items c.put_length.new.out.items (little_bytes 4 (length c.args.intents.now))
      c.in_ok-put_length.ensures.written;
  count = c.in_ok-put_length.ensures.fits;
  fits = tt;
}

pub each-preserved : goal.each-preserved
each-preserved c = record {
  written =
      list_next intent_bytes c.args.intents.now c.each.intent-index c.intent-item.result c.intent-item.result c.args.out.now.items
      c.each.out.items c.write_intent.new.out.items c.each-test.true c.intent-item.is c.each.invariant.written
      c.in_ok-write_intent.ensures.written;
  count = c.each.invariant.count;
  fits =
      fits_next IntentFits c.args.intents.now c.each.intent-index c.intent-item.result c.intent-item.result c.each-test.true
      c.intent-item.is c.each.invariant.fits c.in_ok-write_intent.ensures.fits;
}

pub returns-clause-written : goal.returns-clause-written
returns-clause-written c =
    list_whole intent_bytes c.args.intents.now c.each.intent-index c.args.out.now.items c.each.out.items c.each-test.false
    c.each.invariant.written
