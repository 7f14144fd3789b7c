use Rattle.std.proofs.Common.{ℕ, map, string_bytes, subst, sym}
use Rattle.command_words.specs.Commands.{a_check, a_demo, a_gen, a_replay, a_show}
use Rattle.command_words.specs.Words.{IsDemo, IsGen, IsShow}
use Rattle.command_words.proofs.Tools.{none_of_tool}
use Rattle.record_follows.specs.Courses.{IsWorldAt}
use Rattle.world_tools.proofs.Asked.{asked_once, demo_once, one_tick}
use Rattle.world_tools.proofs.tool.tool_main.Goals as goal

pub returns-in-Ok-Gen-clause-made : goal.returns-in-Ok-Gen-clause-made
returns-in-Ok-Gen-clause-made g c = λ seed rooms part are.
    let words = map string_bytes c.args.words.now in
    let made = c.in-Ok-Gen in
    let asks : IsGen words made.seed made.rooms made.part = rw made.field-0-is at made.ensures.ok in
    asked_once words made.seed made.rooms made.part seed rooms part _ _ _ asks are c.make_part.ensures.ends

pub returns-in-Err-Usage-clause-made : goal.returns-in-Err-Usage-clause-made
returns-in-Err-Usage-clause-made g c = λ seed rooms part are.
    absurd (c.in-Err-Usage.ensures.usage c.in-Err-Usage.field-0-is a_gen (seed, rooms, part, are))

pub returns-in-Err-Usage-clause-usage : goal.returns-in-Err-Usage-clause-usage
returns-in-Err-Usage-clause-usage g c is are =
    none_of_tool (map string_bytes c.args.words.now) (c.in-Err-Usage.ensures.usage c.in-Err-Usage.field-0-is) are

pub returns-in-Err-Usage-clause-complete : goal.returns-in-Err-Usage-clause-complete
returns-in-Err-Usage-clause-complete g c bytes are =
    absurd (c.in-Err-Usage.ensures.usage c.in-Err-Usage.field-0-is a_check are)

pub returns-in-Err-Usage-clause-made_complete : goal.returns-in-Err-Usage-clause-made_complete
returns-in-Err-Usage-clause-made_complete g c are =
    absurd (c.in-Err-Usage.ensures.usage c.in-Err-Usage.field-0-is a_gen are)

pub returns-in-Err-Usage-clause-shown : goal.returns-in-Err-Usage-clause-shown
returns-in-Err-Usage-clause-shown g c = λ tick asks.
    absurd (c.in-Err-Usage.ensures.usage c.in-Err-Usage.field-0-is a_show (asks.0, tick, asks.1))

pub returns-in-Ok-Show-clause-shown_complete : goal.returns-in-Ok-Show-clause-shown_complete
returns-in-Ok-Show-clause-shown_complete g c = λ tick bytes base world entries asked told is found fine wrote.
    let words = map string_bytes c.args.words.now in
    let show = c.in-Ok-Show in
    let asks : IsShow words _ show.tick = rw show.field-0-is at show.ensures.ok in
    let same = one_tick words _ show.tick tick asks asked in
    c.show_tick.ensures.complete bytes base world entries told is
    (subst (λ (t : ℕ). IsWorldAt base entries t world) (sym same) found) fine wrote

pub returns-in-Err-Usage-clause-shown_complete : goal.returns-in-Err-Usage-clause-shown_complete
returns-in-Err-Usage-clause-shown_complete g c = λ tick bytes base world entries asks.
    absurd (c.in-Err-Usage.ensures.usage c.in-Err-Usage.field-0-is a_show (asks.0, tick, asks.1))

pub returns-in-Err-Usage-clause-replayed : goal.returns-in-Err-Usage-clause-replayed
returns-in-Err-Usage-clause-replayed g c are =
    absurd (c.in-Err-Usage.ensures.usage c.in-Err-Usage.field-0-is a_replay are)

pub returns-in-Err-Usage-clause-replayed_complete : goal.returns-in-Err-Usage-clause-replayed_complete
returns-in-Err-Usage-clause-replayed_complete g c bytes base entries are =
    absurd (c.in-Err-Usage.ensures.usage c.in-Err-Usage.field-0-is a_replay are)

pub returns-in-Ok-Replay-clause-replayed_complete : goal.returns-in-Ok-Replay-clause-replayed_complete
returns-in-Ok-Replay-clause-replayed_complete g c = λ bytes base entries are told is all fine wrote.
    c.replay_journal.ensures.complete bytes base entries told is all fine wrote

pub returns-in-Ok-Demo-clause-demonstrated : goal.returns-in-Ok-Demo-clause-demonstrated
returns-in-Ok-Demo-clause-demonstrated g c = λ seed rooms ticks are.
    let words = map string_bytes c.args.words.now in
    let demo = c.in-Ok-Demo in
    let asks : IsDemo words demo.seed demo.rooms demo.ticks = rw demo.field-0-is at demo.ensures.ok in
    demo_once words demo.seed demo.rooms demo.ticks seed rooms ticks _ _ _ asks are c.run_in_memory.ensures.ends

pub returns-in-Err-Usage-clause-demonstrated : goal.returns-in-Err-Usage-clause-demonstrated
returns-in-Err-Usage-clause-demonstrated g c = λ seed rooms ticks are.
    absurd (c.in-Err-Usage.ensures.usage c.in-Err-Usage.field-0-is a_demo (seed, rooms, ticks, are))

pub returns-in-Err-Usage-clause-demonstrated_complete : goal.returns-in-Err-Usage-clause-demonstrated_complete
returns-in-Err-Usage-clause-demonstrated_complete g c are =
    absurd (c.in-Err-Usage.ensures.usage c.in-Err-Usage.field-0-is a_demo are)
