-- How a plain word is walked by a command of `clap`.
use Rattle.std.proofs.Common.{◌≡◌, ◌∙◌, ◌<◌, ◌==◌, ℕ, Bool, false, List, [], ◌∷◌, Option, Some, None, ap, ap₂}
use Rattle.std.proofs.Common.{subst, refl, arith}
use Rattle.std.specs.Prelude.{fold, is_some, option_and_then, if◌then◌else◌}
use Rattle.std.specs.Option.{option_map_or}
use Rattle.std.specs.Str.{bytes_eq}
use Rattle.std.specs.Char.{digit_value}
use Rattle.std.specs.Str.Parse.{IsNumeral}
use Rattle.std.proofs.lemmas.Bool.{false_from_ne_true}
use Rattle.std.proofs.lemmas.Bool.Decides.{Decides-eqb}
use Rattle.clap.specs.Lexer.{long_of, long_of_rest, short_of, short_of_rest, strip_byte}
use Rattle.clap.specs.Kinds.{Kinds, or_else}
use Rattle.clap.specs.Walk.{Held, Row, Rule, Step, Text, Waiting, Walk, after_step, arg_by_id, arg_by_index}
use Rattle.clap.specs.Walk.{finished, idle, long_or_other, option, option_word}
use Rattle.clap.specs.Walk.{plain_word, settled, short_or_plain, subcommand_or_other, to_positional, trailing}
use Rattle.clap.specs.Walk.{value, walked}
use Rattle.clap.specs.Simple.{Shape, built, entered}
use Rattle.clap.specs.Faults.{bundle_fault, check_fault, defaults_fault, entered_fault, flag_word_fault}
use Rattle.clap.specs.Faults.{other_fault, settle_fault, step_fault, turn_fault, walk_fault}
use Rattle.clap.specs.declared.builder.value_parser.Reading.TheVariants.{AsWritten}
use Rattle.clap.specs.declared.parser.matches.ValueSource.TheVariants.{CommandLine}
use Rattle.command_words.specs.Choices.{Choice, command_of}
use Rattle.command_words.specs.Shown.{IsPlain}

-- ---- plain words

other_first : (first : ℕ) → (first ≡ 45 → ⊥) → (first == 45) ≡ false
other_first first other = false_from_ne_true (first == 45) (λ same. other ((Decides-eqb first 45).0 same))

no_dash : (word : Text) → IsPlain word → strip_byte 45 word ≡ None
no_dash [] plain = refl
no_dash (first ∷ rest) plain = rw (other_first first plain) refl

no_dashes : (word : Text) → IsPlain word → bytes_eq word (45 ∷ 45 ∷ []) ≡ false
no_dashes [] plain = refl
no_dashes (first ∷ rest) plain = rw (other_first first plain) refl

no_long : (word : Text) → IsPlain word → long_of word ≡ None
no_long word plain =
    ap (λ (s : Option Text). option_and_then long_of_rest (option_and_then (strip_byte 45) s))
    (no_dash word plain)

no_short : (word : Text) → IsPlain word → short_of word ≡ None
no_short word plain = ap (λ (s : Option Text). option_and_then short_of_rest s) (no_dash word plain)

pub number_plain : (number : Text) → IsNumeral 10 number → IsPlain number
number_plain [] numeral = tt
number_plain (first ∷ rest) numeral = λ same.
    let bad : 36 < 10 = subst (λ (c : ℕ). digit_value c < 10) same numeral.1.0 in
    absurd (omega arith)

-- ---- one word

-- where the walk stands between two words, none of which is `--`
abbrev pub between : Held → Waiting → ℕ → Walk
between h waiting position =
    record { held = h; waiting = waiting; position = position; is_trailing = false; stopped = None }

abbrev dashes_or : List Rule → Waiting → ℕ → Text → Held → Bool → Held × Step
dashes_or c waiting position word h dashes =
    if dashes then (h, trailing position) else long_or_other c waiting word (long_of word) h

plain_other : (c : List Rule) (waiting : Waiting) (position : ℕ) (word : Text) (h : Held) → IsPlain word
    → subcommand_or_other c None waiting position word h ≡ plain_word c waiting word h
plain_other c waiting position word h plain =
    ap (dashes_or c waiting position word h) (no_dashes word plain)
    ∙ (ap (λ (o : Option (Text × Option Text)). long_or_other c waiting word o h) (no_long word plain)
    ∙ ap (λ (o : Option Text). short_or_plain c waiting word o h) (no_short word plain))

abbrev dashes_fault : Shape → Text → Held → Bool → Kinds
dashes_fault s word h dashes =
    if dashes then [] else flag_word_fault s.rules s.args_override_self (long_of word) word h

abbrev short_fault : Shape → Held → Option Text → Kinds
short_fault s h short = option_map_or (λ flags. bundle_fault s.rules s.args_override_self flags h) short []

plain_fault : (s : Shape) (word : Text) (h : Held) → IsPlain word → other_fault s None word h ≡ []
plain_fault s word h plain =
    ap (dashes_fault s word h) (no_dashes word plain)
    ∙ (ap (λ (o : Option (Text × Option Text)). flag_word_fault s.rules s.args_override_self o word h)
    (no_long word plain)
    ∙ ap (short_fault s h) (no_short word plain))

-- a plain word goes to the positional in its place
pub idle_walked : (c : List Rule) (h : Held) (position : ℕ) (word : Text) → IsPlain word
    → walked c [] (between h idle position) word
    ≡ to_positional c (arg_by_index c position) word (between h idle position) h
unfolding walked
idle_walked c h position word plain =
    ap (λ (met : Held × Step). after_step c word (between h idle position) met.0 met.1)
    (plain_other c idle position word h plain)

pub idle_fault : (s : Shape) (h : Held) (position : ℕ) (word : Text) → IsPlain word
    → turn_fault s [] (between h idle position) word ≡ step_fault s position h value
idle_fault s h position word plain =
    ap₂ (λ (faults : Kinds) (met : Held × Step). or_else faults (step_fault s position met.0 met.1))
    (plain_fault s word h plain) (plain_other s.rules idle position word h plain)

-- and to the option that waits
pub option_walked : (c : List Rule) (h : Held) (id : Text) (position : ℕ) (word : Text) → IsPlain word
    → walked c [] (between h (option id) position) word
    ≡ between (option_word (arg_by_id c id) id word h).0 (option_word (arg_by_id c id) id word h).1 position
unfolding walked
option_walked c h id position word plain =
    ap (λ (met : Held × Step). after_step c word (between h (option id) position) met.0 met.1)
    (plain_other c (option id) position word h plain)

pub option_fault : (s : Shape) (h : Held) (id : Text) (position : ℕ) (word : Text) → IsPlain word
    → turn_fault s [] (between h (option id) position) word ≡ []
option_fault s h id position word plain =
    ap₂ (λ (faults : Kinds) (met : Held × Step). or_else faults (step_fault s position met.0 met.1))
    (plain_fault s word h plain) (plain_other s.rules (option id) position word h plain)

-- ---- all words

pub more_walked : (c : List Rule) (w after : Walk) (word : Text) (rest : List Text) → walked c [] w word ≡ after
    → fold (walked c []) w (word ∷ rest) ≡ fold (walked c []) after rest
more_walked c w after word rest step = ap (λ (v : Walk). fold (walked c []) v rest) step

pub more_fault : (s : Shape) (w after : Walk) (word : Text) (rest : List Text) → turn_fault s [] w word ≡ []
    → walked s.rules [] w word ≡ after → walk_fault s [] after rest ≡ [] → walk_fault s [] w (word ∷ rest) ≡ []
unfolding walk_fault
more_fault s w after word rest none step later =
    ap₂ (λ (faults : Kinds) (v : Walk). or_else faults (walk_fault s [] v rest)) none step ∙ later

pub no_more : (s : Shape) (w : Walk) → walk_fault s [] w [] ≡ []
unfolding walk_fault
no_more s w = refl

-- the faults in the words of a choice, from those of the walk and from its end
abbrev pub level : Choice → Kinds → Walk → Kinds
level choice faults end =
    let app = built (command_of choice) in
    or_else faults (or_else (entered_fault app end.stopped)
    (or_else (settle_fault app.top.rules app.top.args_override_self end.held)
    (or_else (defaults_fault (settled app.top.rules end.held).rows app.top.rules)
    (check_fault app.top (finished app.top.rules end.held) (is_some (entered app end.stopped))))))

-- what was found for an argument
abbrev pub given : Text → Text → Row
given id text =
    record { id = id; values = text ∷ []; count = None; source = Some CommandLine; reading = AsWritten }

abbrev pub holding : List Row → Text → List Text → Held
holding rows id values = record { rows = rows; pending = Some (id, values); skip = 0 }
