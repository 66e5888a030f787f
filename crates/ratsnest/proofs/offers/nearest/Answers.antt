use Rattle.std.proofs.Common.{add-one, sym, ◌∙◌, arith}
use Rattle.std.proofs.lemmas.Bool.{true≢false}
use Rattle.ratsnest.proofs.Ring.{sound_seen, sound_best, nearest_none, nearest_yes, nearest_no, nearest_all}
use Rattle.ratsnest.proofs.offers.nearest.Goals as goal
use Rattle.ratsnest.proofs.offers.nearest.Goals.{then-is_less, else-is_less}

pub each-init : goal.each-init
each-init c = λ xs s. nearest_none _ _ _ c.requires.some

pub each-preserved : goal.each-preserved
each-preserved c = λ xs s. rw (add-one c.each.o-index) (elim c.if-is_less.branch [
  | then-is_less w ↦ rw w.best-is (nearest_yes _ _ _ _ _ c.each-test.true
      ((c.is_less.ensures xs (sound_seen _ _ _ _ s c.each-test.true) (sound_best _ _ _ _ s (c.each.invariant xs s))).0 w.if-is_less.true) (c.each.invariant xs s))
  | else-is_less w ↦ rw w.best-is (nearest_no _ _ _ _ _ c.each-test.true
      (λ l. true≢false (sym ((c.is_less.ensures xs (sound_seen _ _ _ _ s c.each-test.true) (sound_best _ _ _ _ s (c.each.invariant xs s))).1 l) ∙ w.if-is_less.false))
      (c.each.invariant xs s))
])

pub returns : goal.returns
returns c = λ xs s. nearest_all _ _ c.each.o-index _ (omega arith) (c.each.invariant xs s)
