use Rattle.std.proofs.Common.{◌≡◌, ◌∙◌, refl, arith, sym, ap}
use Rattle.std.proofs.lemmas.Int.{ints}
use Rattle.board_language.specs.Pads.{double}
use Rattle.board_pads.proofs.Ovals.{is_straight}
use Rattle.board_pads.proofs.shape.oval.Goals as goal

pub returns-clause-value : goal.returns-clause-value
returns-clause-value c =
    rw (
      c.capsule.ensures.value,
      c.before-from.ensures.x,
      c.before-from.ensures.y,
      c.behind-to.ensures.x,
      c.behind-to.ensures.y,
      c.doubled-center.ensures.x,
      c.doubled-center.ensures.y,
      c.saturating_sub-long.ensures,
      c.saturating_sub-tall.ensures,
      c.min.ensures,
    ) refl

pub returns-clause-pad : goal.returns-clause-pad
returns-clause-pad c =
    c.capsule.ensures.pad
    (is_straight c.doubled-center.result.x c.doubled-center.result.y c.before-from.result.x c.before-from.result.y c.behind-to.result.x c.behind-to.result.y c.args.width c.args.height
    c.saturating_sub-long.result c.saturating_sub-tall.result c.saturating_sub-long.ensures c.saturating_sub-tall.ensures c.before-from.ensures.x c.behind-to.ensures.x c.before-from.ensures.y c.behind-to.ensures.y)

pub returns-clause-centre : goal.returns-clause-centre
returns-clause-centre c =
    c.capsule.ensures.centre (double c.args.at.x) (double c.args.at.y)
    (omega (arith, ints, c.before-from.ensures.x, c.behind-to.ensures.x, c.doubled-center.ensures.x))
    (omega (arith, ints, c.before-from.ensures.y, c.behind-to.ensures.y, c.doubled-center.ensures.y))
