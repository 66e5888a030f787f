use Rattle.fill_rules.specs.Fill.{fill_of}
use Rattle.fill_rules.proofs.Fills.{fills_meet}
use Rattle.fill_rules.proofs.Sound.{fillable}
use Rattle.fill_rules.proofs.Reach.{fill_in_frame, live_in_frame, no_fill}
use Rattle.fill_rules.proofs.fill_law.Goals as goal

pub returns-clause-rules : goal.returns-clause-rules
returns-clause-rules c = fills_meet

pub returns-clause-none : goal.returns-clause-none
returns-clause-none c = λ b s i p l h. no_fill b (fillable b s) (fill_of b) i p l ((fills_meet b i p).0 h)

pub returns-clause-frame : goal.returns-clause-frame
returns-clause-frame c = λ b s i p h. fill_in_frame b (fillable b s) (fill_of b) i p ((fills_meet b i p).0 h)

pub returns-clause-spokes : goal.returns-clause-spokes
returns-clause-spokes c = λ b s i o p l h. live_in_frame b (fillable b s) (fill_of b) i o p l h
