use Rattle.std.proofs.Common.{map, string_bytes}
use Rattle.clap.specs.Simple.{app_of}
use Rattle.command_words.proofs.Parsed.{taken_faultless, taken_rows, refused_faulty}
use Rattle.command_words.proofs.simple.matches.Goals as goal

pub returns-in-Ok-clause-taken : goal.returns-in-Ok-clause-taken
returns-in-Ok-clause-taken c =
    taken_faultless c.args.choice.now (app_of c.in_ok-command.command) (map string_bytes c.args.words.now)
    c.in_ok-command.ensures c.requires c.in-Ok.ensures.kinds

pub returns-in-Ok-clause-rows : goal.returns-in-Ok-clause-rows
returns-in-Ok-clause-rows c =
    taken_rows c.args.choice.now (app_of c.in_ok-command.command) (map string_bytes c.args.words.now)
    c.in-Ok.matches c.in_ok-command.ensures c.requires c.in-Ok.ensures.matches

pub returns-in-Err-clause-usage : goal.returns-in-Err-clause-usage
returns-in-Err-clause-usage c =
    λ is_usage. refused_faulty c.args.choice.now (app_of c.in_ok-command.command)
    (map string_bytes c.args.words.now) c.in-Err.error c.in_ok-command.ensures c.requires c.in-Err.ensures.kinds
    (c.refusal.ensures is_usage)
