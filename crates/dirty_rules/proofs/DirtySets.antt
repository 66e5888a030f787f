-- The dirty set is the least set with its two rules.
use Rattle.std.proofs.Common.{◌≡◌, ℕ, true}
use Rattle.classes.proofs.Reaching.{reaches_self, reaches_link, reaches_then, reaches_keeps}
use Rattle.fill_rules.specs.Dirty.{Spreads}
use Rattle.dirty_rules.specs.Dirty.{IsInDirtySet}
use Rattle.dirty_rules.specs.Laws.{FirstRuleLaw, SecondRuleLaw, LeastSetLaw}

pub first_rule : FirstRuleLaw
unfolding IsInDirtySet
first_rule text list rules last changed k h = (k, h, reaches_self (Spreads last (λ (m : ℕ). changed m ≡ true)) k)

pub second_rule : SecondRuleLaw
unfolding IsInDirtySet
second_rule text list rules last changed m k h c r =
    (h.0, h.1, reaches_then (Spreads last (λ (j : ℕ). changed j ≡ true)) h.0 m k h.2 (reaches_link (Spreads last (λ (j : ℕ). changed j ≡ true)) m k (r, c)))

pub least_set : LeastSetLaw
unfolding IsInDirtySet
least_set text list rules last changed member first second k h =
    reaches_keeps (Spreads last (λ (j : ℕ). changed j ≡ true)) (λ (j : ℕ). member j ≡ true) (λ x y s m. second x y m s.1 s.0) h.0 k h.2 (first h.0 h.1)
