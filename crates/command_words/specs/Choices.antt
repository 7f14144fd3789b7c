-- The choices of the program, and the command of `clap` that reads the words of each.
use Rattle.std.specs.Prelude.{List, [], ◌∷◌, Some, true, false, fold, codes}
use Rattle.clap.specs.Walk.{Rule, Text}
use Rattle.clap.specs.Simple.{App, new_app, new_rule, with_rule}
use Rattle.clap.specs.declared.builder.action.ArgAction.TheVariants.{Set}

-- the word of a choice, the positionals that it takes, in this order, the options `--NAME`, and those of them
-- that may be left out
pub record Choice : Type 0 where
  pub word : Text
  pub positionals : List Text
  pub options : List Text
  pub optional : List Text

-- an argument with one value, as text: one in its place, one behind `--NAME`, which have to be given, and one
-- behind `--NAME` that may be left out
abbrev pub positional : Text → Rule
positional name = record (new_rule name) { required = true; action = Some Set }

abbrev pub option : Text → Rule
option name = record (positional name) { long = Some name }

abbrev pub optional_option : Text → Rule
optional_option name = record (option name) { required = false }

-- the command with one argument more
abbrev pub with_positional : App → Text → App
with_positional app name = with_rule app (positional name)

abbrev pub with_option : App → Text → App
with_option app name = with_rule app (option name)

abbrev pub with_optional : App → Text → App
with_optional app name = with_rule app (optional_option name)

-- the command that takes these arguments, and has no other setting
abbrev pub command_of : Choice → App
command_of choice =
    let placed = fold with_positional (new_app choice.word) choice.positionals in
    fold with_optional (fold with_option placed choice.options) choice.optional

-- `run WORLD UPLOADS JOURNAL --ticks N`, and `--workers K`, which may be left out
abbrev pub run : Choice
run = record {
  word = codes "run";
  positionals = codes "WORLD" ∷ codes "UPLOADS" ∷ codes "JOURNAL" ∷ [];
  options = codes "ticks" ∷ [];
  optional = codes "workers" ∷ [];
}

-- `check MODULE`
abbrev pub check : Choice
check = record { word = codes "check"; positionals = codes "MODULE" ∷ []; options = []; optional = [] }

-- `replay JOURNAL`
abbrev pub replay : Choice
replay = record { word = codes "replay"; positionals = codes "JOURNAL" ∷ []; options = []; optional = [] }

-- `show JOURNAL TICK`
abbrev pub show : Choice
show = record {
  word = codes "show";
  positionals = codes "JOURNAL" ∷ codes "TICK" ∷ [];
  options = [];
  optional = [];
}

-- `gen SEED ROOMS PART`
abbrev pub gen : Choice
gen = record {
  word = codes "gen";
  positionals = codes "SEED" ∷ codes "ROOMS" ∷ codes "PART" ∷ [];
  options = [];
  optional = [];
}

-- `demo SEED ROOMS TICKS`
abbrev pub demo : Choice
demo = record {
  word = codes "demo";
  positionals = codes "SEED" ∷ codes "ROOMS" ∷ codes "TICKS" ∷ [];
  options = [];
  optional = [];
}

-- `serve WORLD JOURNAL --ticks N --links M --port P`, and `--workers K` and `--pace MS`, which may be left
-- out
abbrev pub serve : Choice
serve = record {
  word = codes "serve";
  positionals = codes "WORLD" ∷ codes "JOURNAL" ∷ [];
  options = codes "ticks" ∷ codes "links" ∷ codes "port" ∷ [];
  optional = codes "workers" ∷ codes "pace" ∷ [];
}
