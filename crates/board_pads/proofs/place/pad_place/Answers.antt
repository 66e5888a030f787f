use Rattle.board_pads.proofs.Places.{place_is}
use Rattle.board_pads.proofs.place.pad_place.Goals as goal

pub returns-clause-value : goal.returns-clause-value
returns-clause-value c =
    place_is c.args.pad.now.bytes c.args.footprint.now.bytes c.args.footprint.now.item c.args.pad.now.item c.at-base.result c.in_ok-at.at c.turned_by-own.result c.moved-place.result c.turns-turns.result
    c.requires.same c.at-base.ensures.value c.turns-turns.ensures c.in_ok-at.ensures.value c.turned_by-own.ensures.value c.moved-place.ensures.x c.moved-place.ensures.y
