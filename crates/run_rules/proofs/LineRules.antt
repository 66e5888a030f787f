-- What the library makes of the command line.
use Rattle.std.proofs.Common.{◌≡◌, refl, true, List, [], ◌∷◌, Some}
use lib.Chars.{codes}
use Rattle.clap.specs.Walk.{Rule}
use Rattle.clap.specs.Simple.{built, names_of, is_simple, new_rule}
use Rattle.clap.specs.Faults.{is_simple_and_free}
use Rattle.clap.specs.declared.builder.action.ArgAction.TheVariants.{Append, Set}
use Rattle.clap.specs.declared.builder.value_parser.ValueParser.TheVariants as vp
use Rattle.run_rules.specs.declared.words.Flag.{Flag}
use Rattle.run_rules.specs.declared.words.Flag.TheVariants.{Threads, Clearance, EdgeClearance}
use Rattle.run_rules.specs.Inner.Line.{line, long_name}

abbrev pub one_name : Rule
one_name = record (new_rule (codes "names")) {
  action = Some Append;
  index = Some 1;
  parser = Some vp.String;
  range = Some (record { start_inclusive = 1; end_inclusive = 1 });
}

abbrev pub one_value : Flag → Rule
one_value flag = record (new_rule (long_name flag)) {
  long = Some (long_name flag);
  action = Some Set;
  parser = Some vp.String;
  range = Some (record { start_inclusive = 1; end_inclusive = 1 });
}

abbrev pub rules : List Rule
rules = one_name ∷ one_value Threads ∷ one_value Clearance ∷ one_value EdgeClearance ∷ []

pub built_rules : (built line).top.rules ≡ rules
built_rules = refl

pub no_names : names_of (built line) ≡ []
no_names = refl

pub is_free : is_simple_and_free line ≡ true
is_free = refl

pub is_plain_line : is_simple line ≡ true
is_plain_line = refl
