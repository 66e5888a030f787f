use Rattle.std.proofs.Common.{refl}
use Rattle.std.specs.Fmt.{digits}
use Rattle.board_text.specs.Numbers.{length_fault, length_of}
use Rattle.run_rules.specs.Words.{given_by, wanted}
use Rattle.run_rules.specs.Items.{items_after}
use Rattle.run_rules.proofs.rows.Goals as goal

pub returns-clause-commands : goal.returns-clause-commands
unfolding length_fault length_of given_by wanted
returns-clause-commands c = record { fill = refl; threads = refl; anywhere = refl; names = refl; second_dashes = refl; refill = refl; report = refl; generate = refl }

pub returns-clause-faults : goal.returns-clause-faults
unfolding length_fault length_of given_by wanted
returns-clause-faults c = record {
  nothing = refl;
  unknown = refl;
  one_name = refl;
  help = refl;
  twice = refl;
  no_value = refl;
  value_as_option = refl;
  dash_as_value = refl;
  joined_dash = refl;
  shortened = refl;
  report_threads = refl;
  generate_names = refl;
  threads = refl;
  empty_threads = refl;
  length = refl;
  edge_length = refl;
  seed = refl;
  size = refl;
  same_name = refl;
  same_output = refl;
}

pub returns-clause-order : goal.returns-clause-order
unfolding length_fault length_of given_by wanted
returns-clause-order c = record { words = refl; threads = refl; length = refl; seed = refl }

pub returns-clause-complaints : goal.returns-clause-complaints
unfolding digits items_after
returns-clause-complaints c = record { too_long = refl; breaks = refl; unsaid = refl; items = refl }
