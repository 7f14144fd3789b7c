use Rattle.std.proofs.Common.{◌∙◌, ap, ap₂}
use Rattle.std.specs.Prelude.{fold}
use Rattle.clap.specs.Simple.{new_app, with_rule}
use Rattle.command_words.specs.Choices.{Choice, with_positional, with_option, with_optional}
use Rattle.command_words.proofs.Built.{all_added, one_more}
use Rattle.command_words.proofs.simple.command.Goals as goal

pub loop-name-init : goal.loop-name-init
loop-name-init c = c.new-command.ensures.app ∙ ap (λ (v : Choice). new_app v.word) c.choice.view_is

pub loop-name-preserved : goal.loop-name-preserved
loop-name-preserved c =
    c.in_ok-command.ensures.shape c.positional_named.ensures.local
    ∙ (ap₂ with_rule c.loop-name.invariant c.positional_named.ensures.rule
    ∙ one_more with_positional (new_app c.args.choice.now.word) c.choice.inside.positionals.now
    c.loop-name.name-index c.loop-name-test.true)

pub loop-option-init : goal.loop-option-init
loop-option-init c =
    let choice = c.args.choice.now in
    c.loop-name.invariant
    ∙ all_added with_positional (new_app choice.word) c.choice.inside.positionals.now choice.positionals
    c.loop-name.name-index (ap (λ (v : Choice). v.positionals) c.choice.view_is) c.loop-name-test.false

pub loop-option-preserved : goal.loop-option-preserved
loop-option-preserved c =
    let choice = c.args.choice.now in
    let start = fold with_positional (new_app choice.word) choice.positionals in
    c.in_ok-command-2.ensures.shape c.option_named.ensures.local
    ∙ (ap₂ with_rule c.loop-option.invariant c.option_named.ensures.rule
    ∙ one_more with_option start c.choice.inside.options.now c.loop-option.option-index c.loop-option-test.true)

pub loop-optional-init : goal.loop-optional-init
loop-optional-init c =
    let choice = c.args.choice.now in
    let start = fold with_positional (new_app choice.word) choice.positionals in
    c.loop-option.invariant
    ∙ all_added with_option start c.choice.inside.options.now choice.options
    c.loop-option.option-index (ap (λ (v : Choice). v.options) c.choice.view_is) c.loop-option-test.false

pub loop-optional-preserved : goal.loop-optional-preserved
loop-optional-preserved c =
    let choice = c.args.choice.now in
    let start = fold with_positional (new_app choice.word) choice.positionals in
    let given = fold with_option start choice.options in
    c.in_ok-command-3.ensures.shape c.optional_named.ensures.local
    ∙ (ap₂ with_rule c.loop-optional.invariant c.optional_named.ensures.rule
    ∙ one_more with_optional given c.choice.inside.optional.now c.loop-optional.optional-index c.loop-optional-test.true)

pub returns : goal.returns
returns c =
    let choice = c.args.choice.now in
    let start = fold with_positional (new_app choice.word) choice.positionals in
    let given = fold with_option start choice.options in
    c.loop-optional.invariant
    ∙ all_added with_optional given c.choice.inside.optional.now choice.optional
    c.loop-optional.optional-index (ap (λ (v : Choice). v.optional) c.choice.view_is) c.loop-optional-test.false
