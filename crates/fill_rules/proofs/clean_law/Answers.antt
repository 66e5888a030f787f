use Rattle.std.proofs.Common.{◌≡◌, ℕ}
use Rattle.std.specs.Prelude.{true}
use Rattle.fill_rules.proofs.Sound.{fillable}
use Rattle.fill_rules.proofs.Dirty.{clean_made, made_same}
use Rattle.fill_rules.proofs.clean_law.Goals as goal

pub returns-clause-made : goal.returns-clause-made
returns-clause-made c = λ b d s t old direct changed u tell sure k clean. clean_made b d (fillable b s) (fillable d t) old (λ (x : ℕ). direct x ≡ true) (λ (x : ℕ). changed x ≡ true) u tell sure k clean

pub returns-clause-fill : goal.returns-clause-fill
returns-clause-fill c = λ b d old k u m. made_same b d (old k) k u.like m
