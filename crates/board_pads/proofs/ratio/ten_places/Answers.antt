use Rattle.std.proofs.Common.{◌≡◌}
use Rattle.board_pads.proofs.Ratios.{ten}
use Rattle.board_pads.proofs.ratio.ten_places.Goals as goal

pub returns : goal.returns
returns c =
    rw (c.place.ensures, c.place-2.ensures, c.place-3.ensures, c.place-4.ensures, c.place-5.ensures, c.place-6.ensures, c.place-7.ensures, c.place-8.ensures, c.place-9.ensures, c.place-10.ensures)
    (ten c.args.fraction.now)
