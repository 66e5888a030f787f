-- The headline, from the laws of what it speaks of.
use Rattle.std.proofs.Common.{sym, subst, ℕ, List}
use Rattle.board_language.specs.declared.board.Rules.{Rules}
use Rattle.board_language.specs.Clearances.{AreSoundRules}
use Rattle.board_language.specs.Facts.{IsSoundBoard}
use Rattle.board_facts.specs.Laws.{AcceptedLaw}
use Rattle.board_gen.specs.Generated.{generated}
use Rattle.desk.specs.Seen.{Seen, content}
use Rattle.fills.specs.Laws.{FillPointsLaw}
use Rattle.fill_rules.specs.ClusterLaws.{ClusterLaw, LabelLaw}
use Rattle.outlines.specs.Laws.{AllCoveredLaw}
use Rattle.output_rules.specs.Laws.{NetsLaw}
use Rattle.ratsnest.specs.Ratsnest.{TreeLaw}
use Rattle.run_rules.specs.declared.words.Command.{Command}
use Rattle.run_rules.specs.declared.words.Command.TheVariants as commands
use Rattle.run_rules.specs.Words.{IsCommandInRange, default_rules}
use Rattle.run_rules.specs.Laws.{RangeLaw}
use Rattle.run_rules.specs.Filled.{Filled, IsFilled}
use Rattle.headline.specs.Headline.{IsAsPromised, IsFilledBy, HeadlineLaw}
use Rattle.headline.proofs.Copper.{ClearanceLaws, fill_covered, clearances}
use Rattle.headline.proofs.Nets.{clusters}
use Rattle.headline.proofs.Trees.{trees}

-- the laws that it stands on
pub record Laws : Type 0 where
  pub accepted : AcceptedLaw
  pub covered : AllCoveredLaw
  pub points : FillPointsLaw
  pub clear : ClearanceLaws
  pub classes : ClusterLaw
  pub labels : LabelLaw
  pub nets : NetsLaw
  pub trees : TreeLaw
  pub ranges : RangeLaw

promised : Laws → (text : List ℕ) (rules : Rules) (f : Filled) → AreSoundRules rules → IsFilled text rules f → IsAsPromised f
promised laws text rules f sound h =
    let b : IsSoundBoard f.board = subst IsSoundBoard (sym h.is_board.board_is) (laws.accepted text h.is_board.root rules sound h.is_board.accepted) in
    let cover = fill_covered laws.points f.board f.fills f.traced b h.are_fills h.are_traced (laws.covered f.board b f.fills f.traced h.are_fills h.are_traced) in
    record {
      cover = cover;
      clear = clearances f.board f.traced b laws.clear cover;
      clusters = λ i j l m. clusters laws.labels laws.classes laws.nets f.board f.fills h.is_report.labels f.report i j h.is_report.are_clusters h.is_report.nets l m;
      trees = λ net o. trees laws.trees laws.labels laws.classes laws.nets f.board f.fills h.is_report.labels f.report net h.are_fills h.is_report.are_clusters h.is_report.nets o;
    }

by_command : Laws → (command : Command) (s : Seen) (f : Filled) → IsCommandInRange command → IsFilledBy command s f → IsAsPromised f
by_command laws (commands.Fill input output threads rules) s f r h = promised laws (content input s) rules f r.1 h
by_command laws (commands.Refill input edits output threads rules) s f r h = absurd h
by_command laws (commands.Report input rules) s f r h = promised laws (content input s) rules f r h
by_command laws (commands.Generate seed size output) s f r h = promised laws (generated seed size) default_rules f laws.ranges.usual h

pub headline : Laws → HeadlineLaw
headline laws words command s f asked h = by_command laws command s f (laws.ranges.command words command asked) h
