use Rattle.std.proofs.Common.{◌≡◌, List, length, ap, sym, subst, arith}
use Rattle.intent_book.specs.declared.intent.Intent.{Intent}
use Rattle.kept_entries.specs.Turns.{AreKept}
use Rattle.std.proofs.lemmas.Result.{IfOk-weaker}
use Rattle.object_store.specs.Stored.{Stored}
use Rattle.world_rules.specs.World.{world_of}
use Rattle.world_rules.specs.Tick.{plain_world}
use Rattle.ruled_tick.proofs.Few.{kept_few}
use Rattle.ruled_tick.proofs.Next.{copy_ticks, TicksWith}
use Rattle.ruled_tick.proofs.tick.tick_plain.Goals as goal

pub tick_taken-requires-clause-few : goal.tick_taken-requires-clause-few
tick_taken-requires-clause-few c =
    omega (arith, c.requires.few, ap length c.deref.ensures.value, kept_few (world_of c.args.world.now) c.args.intents.now c.in_ok-entries.entries.items c.in_ok-entries.ensures)

pub returns-clause-ruled : goal.returns-clause-ruled
returns-clause-ruled c =
    let world = c.args.world.now in
    let intents = c.args.intents.now in
    IfOk-weaker c.tick_taken.result (TicksWith c.deref.result.now c.in_ok-copy.field-0) (λ (next : Stored). world_of next ≡ plain_world (world_of world) intents)
    (λ next is. copy_ticks c.in_ok-copy.field-0 world next c.deref.result.now c.in_ok-entries.entries.items intents c.in_ok-copy.ensures c.deref.ensures.value c.in_ok-entries.ensures is)
    c.tick_taken.ensures.ruled

pub tick_taken-requires-clause-kept : goal.tick_taken-requires-clause-kept
tick_taken-requires-clause-kept c =
    let intents : List Intent = c.args.intents.now in
    (intents, subst (λ (w : Stored). AreKept (world_of w) intents c.deref.result.now) (sym c.in_ok-copy.ensures) (subst (AreKept (world_of c.args.world.now) intents) (sym c.deref.ensures.value) c.in_ok-entries.ensures))
