-- The words read one by one: the form in which a parse is followed.
use Rattle.std.specs.Prelude.{Bool, true, false, List, [], ◌∷◌, ◌++◌, Option, None, Some, option_map, option_and_then, if◌then◌else◌}
use Rattle.std.specs.Str.{bytes_eq}
use lib.Chars.{codes}
use Rattle.run_rules.specs.declared.words.Flag.{Flag}
use Rattle.run_rules.specs.Words.{GivenWord, Given, Settings, no_settings, has_flag, with_value, is_option, begins_with_dash, flag_of, has_equals, joined_flag, joined_value}

-- where the reader stands: at a name or an option, at the value of an option, or behind `--`
pub data WordPlace : Type 0 where
  Anywhere : WordPlace
  AtValue : Flag → WordPlace
  Behind : WordPlace

-- what was read so far
pub record Reading : Type 0 where
  pub stand : WordPlace
  pub names : List GivenWord
  pub settings : Settings

-- before the first word behind the command
abbrev pub nothing_read : Reading
nothing_read = record { stand = Anywhere; names = []; settings = no_settings }

-- a name more
abbrev pub with_name : GivenWord → Reading → Reading
with_name word r = record { stand = r.stand; names = r.names ++ word ∷ []; settings = r.settings }

-- an option more, with its value: it stands once
abbrev pub with_setting : GivenWord → Reading → Flag → Option Reading
with_setting value r flag =
    if has_flag flag r.settings then None else Some (record { stand = Anywhere; names = r.names; settings = with_value flag value r.settings })

-- an option whose value is the next word
abbrev pub wanting : Reading → Flag → Reading
wanting r flag = record { stand = AtValue flag; names = r.names; settings = r.settings }

-- behind `--`
abbrev pub behind : Reading → Reading
behind r = record { stand = Behind; names = r.names; settings = r.settings }

-- an option is `--x=V`, or `--x`, and the next word is its value
abbrev pub with_option : GivenWord → Reading → Option Reading
with_option word r =
    if has_equals word then option_and_then (with_setting (joined_value word) r) (joined_flag word)
    else option_map (wanting r) (flag_of word)

-- one word more, by where the reader stands
abbrev pub with_word_at : WordPlace → GivenWord → Reading → Option Reading
with_word_at Anywhere word r =
    if bytes_eq word (codes "--") then Some (behind r) else (if is_option word then with_option word r else Some (with_name word r))
with_word_at (AtValue flag) word r = if begins_with_dash word then None else with_setting word r flag
with_word_at Behind word r = Some (with_name word r)

-- one word more, where it may stand
unfoldable pub with_word : Reading → GivenWord → Option Reading
with_word r word = with_word_at r.stand word r

-- all words, if each may stand where it stands
unfoldable pub with_words : Reading → List GivenWord → Option Reading
with_words r [] = Some r
with_words r (word ∷ words) = option_and_then (λ next. with_words next words) (with_word r word)

-- no value is wanted any more
abbrev pub is_whole_stand : WordPlace → Bool
is_whole_stand Anywhere = true
is_whole_stand (AtValue flag) = false
is_whole_stand Behind = true

-- what was read gives this, where no value is wanted any more
abbrev pub given_in : Reading → Option Given
given_in r = if is_whole_stand r.stand then Some (record { names = r.names; settings = r.settings }) else None
