use Rattle.std.proofs.Common.{◌≡◌, take}
use Rattle.std.specs.Prelude.{fold}
use Rattle.clap.specs.Simple.{app_of, new_app}
use Rattle.command_words.specs.Choices.{with_positional, with_option, with_optional}
use Rattle.command_words.proofs.Built.{after_name}
use Rattle.command_words.proofs.simple.command.Given as goal

abbrev pub invariant-loop-name : goal.invariant-loop-name
invariant-loop-name l =
    app_of l.command
    ≡ fold (after_name with_positional) (new_app l.choice.word) (take l.name-index l.name-items)

abbrev pub invariant-loop-option : goal.invariant-loop-option
invariant-loop-option l =
    let start = fold with_positional (new_app l.choice.word) l.choice.positionals in
    app_of l.command ≡ fold (after_name with_option) start (take l.option-index l.option-items)

abbrev pub invariant-loop-optional : goal.invariant-loop-optional
invariant-loop-optional l =
    let start = fold with_positional (new_app l.choice.word) l.choice.positionals in
    let given = fold with_option start l.choice.options in
    app_of l.command ≡ fold (after_name with_optional) given (take l.optional-index l.optional-items)
